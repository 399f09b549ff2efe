-- How a run ends: a point over one denominator, or multipliers and their sums.
-- Of a point, only the values, the least common multiples and the numerators over them can leave 128 bits.
use Rattle.std.specs.Prelude.{ℕ, ◌+◌, ◌==◌, nat_lt, List, [], ◌∷◌, Option, Some, None, pos, ◌*ℤ◌, neg_ℤ, int_div, unsigned_abs, if◌then◌else◌}
use lib.IntN.{ℤ}
use Rattle.chc_nums.specs.Wide.{in_128}
use Rattle.chc_nums.specs.Values.{with_value}
use Rattle.chc_form.specs.declared.linear.Lin.{Lin}
use Rattle.chc_simplex.specs.declared.data.Line.{Line}
use Rattle.chc_simplex.specs.declared.data.Lp.{Lp}
use Rattle.chc_simplex.specs.declared.data.Lp.TheVariants as lp
use Rattle.chc_simplex.specs.Divisors.{gcd}
use Rattle.chc_simplex.specs.Terms.{Terms, coefficient, sums_from}
use Rattle.chc_simplex.specs.Lines.{Tableau, line_at, terms_of, denominator_of}
use Rattle.chc_form.specs.RowSums.{variable_sums, constant_sum, zeros}
use Rattle.chc_simplex.specs.Rounds.{rest_at}

-- ---- a point

-- v over d in lowest terms: numerator and denominator
abbrev pub lowest : ℤ → ℤ → Option (ℤ × ℤ)
lowest v d =
    with_value (in_128 (pos (gcd (unsigned_abs v) (unsigned_abs d)))) (λ g. with_value (in_128 (int_div v g)) (λ x. with_value (in_128 (int_div d g)) (λ q. Some (x, q))))

-- the value of a variable: 0 over 1 where it is nonbasic
abbrev pub fraction : ℕ → List ℤ → Option Line → Option (ℤ × ℤ)
fraction n bounds None = Some (pos 0, pos 1)
fraction n bounds (Some l) = with_value (sums_from (pos 0) l.terms (rest_at n bounds)) (λ v. lowest v l.denominator)

-- the values of the n first variables, from variable v on
abbrev pub fractions : ℕ → List ℤ → ℕ → Tableau → Option (List (ℤ × ℤ))
fractions n bounds v [] = Some []
fractions n bounds v (o ∷ os) =
    if nat_lt v n then with_value (fraction n bounds o) (λ f. with_value (fractions n bounds (v + 1) os) (λ fs. Some (f ∷ fs))) else Some []

-- the least common multiple
abbrev pub multiple : ℤ → ℤ → Option ℤ
multiple a b =
    with_value (in_128 (pos (gcd (unsigned_abs a) (unsigned_abs b)))) (λ g. with_value (in_128 (int_div a g)) (λ k. in_128 (k *ℤ b)))

-- the least common multiple of a number and all denominators
abbrev pub multiples : ℤ → List (ℤ × ℤ) → Option ℤ
multiples m [] = Some m
multiples m (f ∷ fs) = with_value (multiple m f.1) (λ k. multiples k fs)

-- the numerator over m
abbrev pub numerator : ℤ → (ℤ × ℤ) → Option ℤ
numerator m f = with_value (in_128 (int_div m f.1)) (λ k. in_128 (f.0 *ℤ k))

abbrev pub numerators : ℤ → List (ℤ × ℤ) → Option (List ℤ)
numerators m [] = Some []
numerators m (f ∷ fs) = with_value (numerator m f) (λ x. with_value (numerators m fs) (λ xs. Some (x ∷ xs)))

abbrev pub point_of : List (ℤ × ℤ) → Option Lp
point_of fs = with_value (multiples (pos 1) fs) (λ m. with_value (numerators m fs) (λ xs. Some (lp.Feasible xs m)))

unfoldable pub point : ℕ → List ℤ → Tableau → Option Lp
point n bounds tab = with_value (fractions n bounds 0 tab) point_of

-- ---- multipliers

-- the multiplier of slack v, where d s = ts has no variable to enter: d for s itself
abbrev pub multiplier : ℕ → ℤ → Terms → ℕ → Option ℤ
multiplier s d ts v = if v == s then Some d else in_128 (neg_ℤ (coefficient ts v))

-- one for each row, from slack v on
abbrev pub multipliers : ℕ → ℤ → Terms → ℕ → List Lin → Option (List ℤ)
multipliers s d ts v [] = Some []
multipliers s d ts v (r ∷ rs) = with_value (multiplier s d ts v) (λ m. with_value (multipliers s d ts (v + 1) rs) (λ ms. Some (m ∷ ms)))

-- multipliers, once their sums are taken
abbrev pub summed : ℕ → List Lin → List ℤ → Option Lp
summed n rows ms = with_value (variable_sums ms rows (zeros n)) (λ sums. with_value (constant_sum (pos 0) ms rows) (λ c. Some (lp.Infeasible ms)))

unfoldable pub refutation : ℕ → List Lin → Tableau → ℕ → Option Lp
refutation n rows tab s = with_value (multipliers s (denominator_of (line_at tab s)) (terms_of (line_at tab s)) n rows) (summed n rows)
