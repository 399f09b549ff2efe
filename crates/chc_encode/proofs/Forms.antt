-- Rows and numbers that the code needs.
use Rattle.std.proofs.Common.{◌≡◌, ◌∙◌, sym, ap, subst, ℕ, zero, suc, ◌-◌, ◌*◌, ◌^◌, ◌≤◌, ◌<◌, List, [], ◌∷◌, ◌++◌, length, pos, arith, Result, Ok, Err, OnOk, append_assoc}
use lib.IntN.{ℤ}
use Rattle.std.specs.List.{All}
use Rattle.std.proofs.lemmas.Int.{ints, to_z-of_z}
use Rattle.std.proofs.lemmas.List.Elements.{All-head, All-tail}
use Rattle.std.proofs.Math.Pow.{pow_mono}
use Rattle.chc_nums.specs.declared.Ty.TheVariants as ty
use Rattle.chc_nums.specs.Types.{IsSize, greatest}
use Rattle.chc_form.specs.declared.Row.{Row}
use Rattle.sol_first.specs.declared.Variable.{Variable}
use Rattle.sol_first.specs.Typed.{size_at, IsValue}
use Rattle.chc_encode.specs.Sizes.{IsSmall}

-- ---- rows added in two parts

pub appended : {A E : Type 0} (r : Result A E) (rows middle new : List Row) (a b : Row) (more : List Row) → middle ≡ rows ++ a ∷ b ∷ [] → OnOk r (new ≡ middle ++ more) → OnOk r (new ≡ rows ++ a ∷ b ∷ more)
appended (Ok x) rows middle new a b more m e = e ∙ ap (λ (l : List Row). l ++ more) m ∙ append_assoc rows (a ∷ b ∷ []) more
appended (Err x) rows middle new a b more m e = tt

-- ---- small numbers

pub size-within : (vars : List Variable) (i : ℕ) → All (λ v. IsSize v.size) vars → i < length vars → IsSize (size_at vars i)
size-within [] i h l = absurd (omega arith)
size-within (v ∷ vars) zero h l = All-head (λ v. IsSize v.size) v vars h
size-within (v ∷ vars) (suc i) h l = size-within vars i (All-tail (λ v. IsSize v.size) v vars h) (omega arith)

pub greatest-small : (s : ℕ) → IsSize s → IsSmall (greatest (ty.Uint s))
greatest-small s h = let p : 2 ^ (8 * s) ≤ 2 ^ 96 = pow_mono {i = 8 * s} {j = 96} (omega arith) in (omega (arith, ints), omega (arith, ints))

pub value-small : (vars : List Variable) (i : ℕ) (n : ℤ) → All (λ v. IsSize v.size) vars → i < length vars → IsValue vars i n → IsSmall n
value-small vars i n h l v = let p : IsSmall (greatest (ty.Uint (size_at vars i))) = greatest-small (size_at vars i) (size-within vars i h l) in (omega (arith, ints, v), omega (arith, ints, v, p))

pub ruleset typed = (ints, size-within, value-small)

pub greatest-number : (s : ℕ) (z : ℤ) → IsSize s → z ≡ pos (2 ^ (8 * s) - 1) → IsSmall z
greatest-number s z h e = subst IsSmall (sym e) (greatest-small s h)

pub ruleset numbers = (ints, to_z-of_z)
