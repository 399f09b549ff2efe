-- Names that units give to those behind them.
use Rattle.std.proofs.Common.{◌≡◌, ◌∙◌, sym, ap, refl, ℕ, ◌-◌, ◌≤◌, List, [], ◌∷◌, ◌++◌, length, Bool, true, false, ◌||◌, Option, Some, None, is_some, slice_get, slice_index, take, drop, arith}
use Rattle.std.specs.List.{list_any}
use Rattle.std.specs.Option.{option_map_or}
use Rattle.std.proofs.lemmas.List.Folds.{list_any-append}
use Rattle.std.proofs.Math.Seq.{take-length}
use Rattle.sol_tree.specs.declared.file.Unit as units
use Rattle.sol_tree.specs.declared.file.Member.{Member}
use Rattle.sol_names.specs.Names.{number_of}
use Rattle.sol_names.specs.Units.{members, implemented, exposed}
use Rattle.sol_names.specs.Orders.{gives, given_at, misses, misses_after}
use Rattle.sol_names.specs.Supplied.{AreSupplied}
use Rattle.sol_names.proofs.Naming.{Numbers}

or-false : (a b c : Bool) → b ≡ c → (a || c) ≡ (a || (b || false))
or-false true b c e = refl
or-false false true c e = sym e
or-false false false c e = sym e

given-more : (us : List units.Unit) (f : Member → Option (List ℕ)) (q : List ℕ) (before : List ℕ) (v : ℕ) (u : units.Unit) (s t : Bool) → slice_get us v ≡ Some u → s ≡ list_any (given_at us f q) before → t ≡ (s || list_any (gives f q) (members u)) → t ≡ list_any (given_at us f q) (before ++ v ∷ [])
given-more us f q before v u s t e h i =
    let here : given_at us f q v ≡ list_any (gives f q) (members u) = ap (λ (o : Option units.Unit). option_map_or (λ w. list_any (gives f q) (members w)) o false) e in
    i
    ∙ ap (λ (b : Bool). b || list_any (gives f q) (members u)) h
    ∙ or-false (list_any (given_at us f q) before) (given_at us f q v) (list_any (gives f q) (members u)) here
    ∙ sym (list_any-append (given_at us f q) before (v ∷ []))

given-none : (us : List units.Unit) (f : Member → Option (List ℕ)) (q : List ℕ) (before : List ℕ) (v : ℕ) (s : Bool) → slice_get us v ≡ None → s ≡ list_any (given_at us f q) before → s ≡ list_any (given_at us f q) (before ++ v ∷ [])
given-none us f q before v s e h =
    let here : given_at us f q v ≡ false = ap (λ (o : Option units.Unit). option_map_or (λ w. list_any (gives f q) (members w)) o false) e in
    h
    ∙ or-nothing (list_any (given_at us f q) before) (given_at us f q v) here
    ∙ sym (list_any-append (given_at us f q) before (v ∷ []))
  where
    or-nothing : (a b : Bool) → b ≡ false → a ≡ (a || (b || false))
    or-nothing true b e = refl
    or-nothing false true e = absurd (cc)
    or-nothing false false e = refl

-- what the loop over an order keeps
abbrev pub Missing : {S : Type 0} → List units.Unit → Numbers S → Numbers S → List ℕ → Bool → Type 0
Missing us functions variables rest whole = (before : List ℕ) × AreSupplied us before functions variables × (misses_after us before rest ≡ whole)

abbrev pub after_first : List ℕ → List ℕ
after_first rest = take (length rest - 1) (drop 1 rest)

-- a unit that misses nothing
pub missing-more : {S : Type 0} (us : List units.Unit) (functions variables more_functions more_variables : Numbers S) (rest : List ℕ) (whole : Bool) (u : units.Unit) (b : Bool) → 1 ≤ length rest → Some u ≡ slice_get us (slice_index rest 0) → ((before : List ℕ) → AreSupplied us before functions variables → b ≡ misses us before u) → b ≡ false → ((q : List ℕ) → is_some (number_of more_functions q) ≡ (is_some (number_of functions q) || list_any (gives implemented q) (members u))) → ((q : List ℕ) → is_some (number_of more_variables q) ≡ (is_some (number_of variables q) || list_any (gives exposed q) (members u))) → Missing us functions variables rest whole → Missing us more_functions more_variables (after_first rest) whole
missing-more us functions variables more_functions more_variables [] whole u b one e m n f g h = absurd (omega arith)
missing-more us functions variables more_functions more_variables (v ∷ rest) whole u b one e m n f g (before, s, i) =
    let k : length (v ∷ rest) - 1 ≡ length rest = omega arith in
    let there : slice_get us v ≡ Some u = sym e in
    let here : option_map_or (misses us before) (slice_get us v) false ≡ false = ap (λ (o : Option units.Unit). option_map_or (misses us before) o false) there ∙ sym (m before s) ∙ n in
    rw (k, take-length rest) (
      before ++ v ∷ [],
      record {
        functions_are = λ q. given-more us implemented q before v u (is_some (number_of functions q)) (is_some (number_of more_functions q)) there (s.functions_are q) (f q);
        variables_are = λ q. given-more us exposed q before v u (is_some (number_of variables q)) (is_some (number_of more_variables q)) there (s.variables_are q) (g q);
      },
      ap (λ (c : Bool). c || misses_after us (before ++ v ∷ []) rest) (sym here) ∙ i,
    )

-- a place without a unit
pub missing-none : {S : Type 0} (us : List units.Unit) (functions variables : Numbers S) (rest : List ℕ) (whole : Bool) → 1 ≤ length rest → None ≡ slice_get us (slice_index rest 0) → Missing us functions variables rest whole → Missing us functions variables (after_first rest) whole
missing-none us functions variables [] whole one e h = absurd (omega arith)
missing-none us functions variables (v ∷ rest) whole one e (before, s, i) =
    let k : length (v ∷ rest) - 1 ≡ length rest = omega arith in
    let there : slice_get us v ≡ None = sym e in
    let here : option_map_or (misses us before) (slice_get us v) false ≡ false = ap (λ (o : Option units.Unit). option_map_or (misses us before) o false) there in
    rw (k, take-length rest) (
      before ++ v ∷ [],
      record {
        functions_are = λ q. given-none us implemented q before v (is_some (number_of functions q)) there (s.functions_are q);
        variables_are = λ q. given-none us exposed q before v (is_some (number_of variables q)) there (s.variables_are q);
      },
      ap (λ (c : Bool). c || misses_after us (before ++ v ∷ []) rest) (sym here) ∙ i,
    )
