use Rattle.std.proofs.Common.{◌≡◌, ◌∙◌, sym, ap, subst, List, ℕ, Some, if◌then◌else◌, length, take, drop, ◌-◌}
use Rattle.std.specs.Option.{option_or}
use Rattle.std.specs.List.{position_from}
use Rattle.std.specs.Str.{bytes_eq}
use Rattle.sol_tree.specs.declared.types.Identifier.{Identifier}
use Rattle.sol_names.specs.Names.{number_of}
use Rattle.sol_names.specs.Units.{unit_name}
use Rattle.sol_names.specs.Orders.{is_contract_of, contract_named}
use Rattle.sol_names.proofs.Naming.{contracts-set, contracts-kept}
use Rattle.sol_names.proofs.contracts.contracts.Goals as goal
use Rattle.sol_names.proofs.contracts.contracts.Goals.{then-is_first+in_ok-set_number, else-is_first}

pub loop-rest-preserved : goal.loop-rest-preserved
loop-rest-preserved c q =
    let u = c.unit-item.result in
    let rest = c.loop-rest.rest.now in
    let old = c.loop-rest.numbers in
    let k = c.loop-rest.place in
    let later = position_from (is_contract_of q) c.in_ok-place.place (take (length rest - 1) (drop 1 rest)) in
    let whole = contract_named q c.args.units.now in
    elim c.if-is_first.branch [
      | then-is_first+in_ok-set_number w ↦
          let new = w.set_number.new.numbers in
          let name : w.unit_name.result.text.now ≡ (unit_name u).name = ap (λ (i : Identifier). i.name) w.unit_name.ensures in
          let set : number_of new q ≡ (if bytes_eq (unit_name u).name q then Some k else number_of old q) = w.in_ok-set_number.ensures q ∙ ap (λ (n : List ℕ). if bytes_eq n q then Some k else number_of old q) name in
          subst (λ m. option_or (number_of m q) later ≡ whole) (sym w.numbers-is)
          (contracts-set q u rest old new k c.in_ok-place.place whole c.in-len1-up.len_at_least c.unit-item.is c.in_ok-place.ensures (sym c.is_first.ensures ∙ w.if-is_first.true) set (c.loop-rest.invariant q))
      | else-is_first w ↦
          subst (λ m. option_or (number_of m q) later ≡ whole) (sym w.numbers-is)
          (contracts-kept q u rest old k c.in_ok-place.place whole c.in-len1-up.len_at_least c.unit-item.is c.in_ok-place.ensures (sym c.is_first.ensures ∙ w.if-is_first.false) (c.loop-rest.invariant q))
    ]
