-- The flags of lines, as lines are put.
use Rattle.std.proofs.Common.{◌≡◌, ◌∙◌, sym, ap, refl, ℕ, zero, suc, ◌+◌, List, [], ◌∷◌, Bool, Option, Some, arith, if◌then◌else◌}
use Rattle.std.specs.Prelude.{slice_set}
use lib.IntN.{ℤ}
use Rattle.chc_nums.specs.Values.{with_value}
use Rattle.chc_simplex.specs.declared.data.Line.{Line}
use Rattle.chc_simplex.specs.declared.data.Simplex.{Simplex}
use Rattle.chc_simplex.specs.Lines.{Tableau}
use Rattle.chc_simplex.specs.Rounds.{is_above, first_above}
use Rattle.chc_simplex.specs.Simplex.{above_flags_of, first_above as first_flag, IsKept}

flagged-then : (v : ℕ) (m : Option Bool) (a b : Option (Option ℕ)) → a ≡ b → with_value m (λ above. if above then Some (Some v) else a) ≡ with_value m (λ above. if above then Some (Some v) else b)
flagged-then v m a b e = rw e refl

flagged-above : (n : ℕ) (bounds : List ℤ) (v : ℕ) (tab : Tableau) → first_flag v (above_flags_of n bounds v tab) ≡ first_above n bounds v tab
flagged-above n bounds v [] = refl
flagged-above n bounds v (o ∷ os) = flagged-then v (is_above n bounds v o) (first_flag (v + 1) (above_flags_of n bounds (v + 1) os)) (first_above n bounds (v + 1) os) (flagged-above n bounds (v + 1) os)

pub first-is : (b : Simplex) → IsKept b → first_flag 0 b.above_flags ≡ first_above b.variables b.bounds 0 b.tableau
first-is b h = ap (first_flag 0) h.above_flags ∙ flagged-above b.variables b.bounds 0 b.tableau

above_flags-put : (n : ℕ) (bounds : List ℤ) (v i : ℕ) (tab : Tableau) (o : Option Line) → above_flags_of n bounds v (slice_set tab i o) ≡ slice_set (above_flags_of n bounds v tab) i (is_above n bounds (v + i) o)
above_flags-put n bounds v i [] o = refl
above_flags-put n bounds v zero (p ∷ ps) o = let e : v + 0 ≡ v = omega arith in rw e refl
above_flags-put n bounds v (suc i) (p ∷ ps) o =
    let e : v + suc i ≡ (v + 1) + i = omega arith in
    rw e (ap (λ (ms : List (Option Bool)). is_above n bounds v p ∷ ms) (above_flags-put n bounds (v + 1) i ps o))

pub put-flagged : (n : ℕ) (bounds : List ℤ) (tab : Tableau) (i : ℕ) (o : Option Line) → slice_set (above_flags_of n bounds 0 tab) i (is_above n bounds i o) ≡ above_flags_of n bounds 0 (slice_set tab i o)
put-flagged n bounds tab i o = let e : 0 + i ≡ i = omega arith in sym (above_flags-put n bounds 0 i tab o ∙ ap (λ (k : ℕ). slice_set (above_flags_of n bounds 0 tab) i (is_above n bounds k o)) e)

pub ruleset above_flags = (first-is, put-flagged)
