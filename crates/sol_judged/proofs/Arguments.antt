-- Arguments that are too many, too few, or have a fault.
use Rattle.std.proofs.Common.{◌≡◌, ℕ, suc, ◌<◌, List, [], ◌∷◌, length, map, drop, inl, refl, arith, get_or, sym, ap, ◌∙◌, drop-cons}
use Rattle.sol_core.specs.declared.program.Expr.{Expr}
use Rattle.sol_judged.specs.declared.rules.Rule.{Rule}
use Rattle.sol_judged.specs.declared.types.ValueType.{ValueType}
use Rattle.sol_judged.specs.declared.fault.TypeFault.{TypeFault}
use Rattle.sol_judged.specs.Judged.{Judged, Among, IsFault}
use Rattle.sol_judged.specs.Found.{Seen}
use Rattle.sol_judged.specs.Calls.{arguments_onto, argument_of}
use Rattle.sol_judged.proofs.Faults.{IsFault-front}

pub too_many : (rule : Rule) (at : ℕ) (es : List Expr) (ps : List ValueType) (xs : List (ℕ × Judged Seen)) → length ps ≡ 0 → 0 < length xs → Among (rule, at) (arguments_onto rule at es ps xs).faults
too_many rule at es [] [] h k = absurd (omega arith)
too_many rule at es [] (x ∷ xs) h k = inl refl
too_many rule at es (p ∷ ps) xs h k = absurd (omega arith)

pub too_few : (rule : Rule) (at : ℕ) (es : List Expr) (ps : List ValueType) (xs : List (ℕ × Judged Seen)) → 0 < length ps → length xs ≡ 0 → Among (rule, at) (arguments_onto rule at es ps xs).faults
too_few rule at es [] xs h k = absurd (omega arith)
too_few rule at es (p ∷ ps) [] h k = inl refl
too_few rule at es (p ∷ ps) (x ∷ xs) h k = absurd (omega arith)

pub faulty : (rule : Rule) (at : ℕ) (es : List Expr) (p : ValueType) (ps qs : List ValueType) (x : ℕ × Judged Seen) (xs ys : List (ℕ × Judged Seen)) (e : TypeFault) → qs ≡ p ∷ ps → ys ≡ x ∷ xs → IsFault (argument_of rule at p x).faults e → IsFault (arguments_onto rule at es qs ys).faults e
faulty rule at es p ps qs x xs ys e h k f = rw (h, k) (IsFault-front e _ _ f)

-- the same at the argument that a loop has come to
pub faulty_at : {X : Type 0} (rule : Rule) (at : ℕ) (es : List Expr) (ps : List ValueType) (d : ValueType) (one : X → ℕ × Judged Seen) (i : ℕ) (xs : List X) (a : X) (e : TypeFault) → 0 < length ps → i < length xs → a ≡ get_or xs i a → IsFault (argument_of rule at (get_or ps 0 d) (one a)).faults e → IsFault (arguments_onto rule at es ps (map one (drop i xs))).faults e
faulty_at {X} rule at es ps d one i xs a e h k q f = faulty rule at es (get_or ps 0 d) (drop 1 ps) ps (one a) (map one (drop (suc i) xs)) (map one (drop i xs)) e (drop-cons ps 0 d h) (ap (map one) (drop-cons xs i a k) ∙ ap (λ (y : X). one y ∷ map one (drop (suc i) xs)) (sym q)) f
