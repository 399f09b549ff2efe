-- What a round finds: the slack that leaves and the variable that enters.
use Rattle.std.specs.Prelude.{ℕ, ◌+◌, ◌-◌, nat_lt, Bool, false, not, ◌&&◌, ◌||◌, List, [], ◌∷◌, Option, Some, None, pos, ◌*ℤ◌, if◌then◌else◌}
use lib.IntN.{ℤ}
use lib.Signed.{lt_z}
use Rattle.std.specs.Ordering.{int_eq}
use Rattle.chc_nums.specs.Wide.{in_128}
use Rattle.chc_nums.specs.Values.{with_value}
use Rattle.chc_simplex.specs.declared.data.Line.{Line}
use Rattle.chc_simplex.specs.declared.data.Step.{Step}
use Rattle.chc_simplex.specs.declared.data.Step.TheVariants as step
pub use Rattle.chc_form.specs.RowSums.{number_at}
use Rattle.chc_simplex.specs.Terms.{Terms, sums_from}
use Rattle.chc_simplex.specs.Lines.{Tableau, line_at, terms_of}

-- the value at which a nonbasic variable rests: 0 for each of the n first, and a slack's bound for the others
abbrev pub rest_at : ℕ → List ℤ → ℕ → ℤ
rest_at n bounds v = if nat_lt v n then pos 0 else number_at bounds (v - n)

-- whether the value of a line's variable is above b
abbrev pub line_above : ℕ → List ℤ → ℤ → Line → Option Bool
line_above n bounds b l =
    with_value (sums_from (pos 0) l.terms (rest_at n bounds)) (λ v. with_value (in_128 (l.denominator *ℤ b)) (λ most. Some (lt_z most v)))

-- whether a variable is a basic slack above its bound
abbrev pub is_above : ℕ → List ℤ → ℕ → Option Line → Option Bool
is_above n bounds v None = Some false
is_above n bounds v (Some l) = if nat_lt v n then Some false else line_above n bounds (rest_at n bounds v) l

-- the first basic slack above its bound, from variable v on
abbrev pub first_above : ℕ → List ℤ → ℕ → Tableau → Option (Option ℕ)
first_above n bounds v [] = Some None
first_above n bounds v (o ∷ os) = with_value (is_above n bounds v o) (λ above. if above then Some (Some v) else first_above n bounds (v + 1) os)

-- one of the n first variables may go either way, and a slack only down
abbrev pub is_suitable : ℕ → (ℕ × ℤ) → Bool
is_suitable n t = (nat_lt t.0 n && not (int_eq t.1 (pos 0))) || lt_z (pos 0) t.1

-- the first suitable variable of a line
abbrev pub entering : ℕ → Terms → Option ℕ
entering n [] = None
entering n (t ∷ ts) = if is_suitable n t then Some t.0 else entering n ts

abbrev pub leaves_for : ℕ → Option ℕ → Step
leaves_for s None = step.Stuck s
leaves_for s (Some e) = step.Pivot s e

abbrev pub step_of : ℕ → Tableau → Option ℕ → Step
step_of n tab None = step.AllHold
step_of n tab (Some s) = leaves_for s (entering n (terms_of (line_at tab s)))

unfoldable pub next_step : ℕ → List ℤ → Tableau → Option Step
next_step n bounds tab = with_value (first_above n bounds 0 tab) (λ s. Some (step_of n tab s))
