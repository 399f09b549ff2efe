-- What can't be read in a part can't be read in the whole.
use Rattle.std.proofs.Common.{◌≡◌, ◌∙◌, sym, ap, refl, ℕ, suc, ◌<◌, List, [], ◌∷◌, ◌++◌, drop, length, get_or, drop-cons}
use Rattle.sol_judged.specs.declared.fault.TypeFault.{TypeFault}
use Rattle.sol_judged.specs.declared.fault.TypeFault.TheVariants as fault
use Rattle.sol_judged.specs.declared.types.ValueType.{ValueType}
use Rattle.sol_unit.specs.Reads.{Read, Readable, Unreadable, then_read, Tells, read_types}

pub tells-then : {A B : Type 0} (r : Read A) (k : A → Read B) (e : TypeFault) → Tells r e → Tells (then_read r k) e
tells-then {A} {B} r k (fault.Broken rule at) h = rw h refl
tells-then {A} {B} r k fault.NoMemory h = tt

pub tells-among : {X : Type 0} (all : Read (List ValueType)) (read : X → Read ValueType) (ts : List ValueType) (i : ℕ) (xs : List X) (x : X) (e : TypeFault) → all ≡ read_types read ts (drop i xs) → i < length xs → x ≡ get_or xs i x → Tells (read x) e → Tells all e
tells-among {X} all read ts i xs x e h k q t =
    let d = drop-cons xs i x k ∙ ap (λ (y : X). y ∷ drop (suc i) xs) (sym q) in
    rw (h, d) (tells-then (read x) (λ (a : ValueType). read_types read (ts ++ a ∷ []) (drop (suc i) xs)) e t)

pub ruleset reads = (tells-then, tells-among)
