-- Turns of the loop that puts a variable into each line, in place.
use Rattle.std.proofs.Common.{◌≡◌, ◌∙◌, sym, ap, subst, refl, ℕ, suc, ◌+◌, ◌<◌, ◌≤◌, [], ◌∷◌, ◌++◌, Option, Some, None, true, pos, slice_get, take, drop, length, arith, add-one}
use lib.IntN.{ℤ}
use Rattle.std.specs.Ordering.{int_eq}
use Rattle.std.specs.Prelude.{slice_set}
use Rattle.std.specs.Option.{unwrap_or}
use Rattle.std.proofs.lemmas.List.{set-get_or, take_more_set, length-set, drop-set-lt, take_all}
use Rattle.std.proofs.lemmas.Option.{unwrap_or-slice_get}
use Rattle.std.proofs.Math.Seq.{drop-cons}
use Rattle.std.proofs.Math.ListN.{drop_of_length-le}
use Rattle.chc_nums.specs.Values.{with_value}
use Rattle.chc_simplex.specs.declared.data.Line.{Line}
use Rattle.chc_simplex.specs.Outcomes.{joined}
use Rattle.chc_simplex.specs.Terms.{coefficient}
use Rattle.chc_simplex.specs.Lines.{Tableau, line_at, terms_of, rewritten_line, rewritten, rewritten_at}
use Rattle.chc_simplex.proofs.Steps.{joined-nil, joined-more, joined-all}

-- ---- a line that stays

pub line_at-kept : (tab : Tableau) (v : ℕ) → slice_set tab v (line_at tab v) ≡ tab
line_at-kept tab v = rw (unwrap_or-slice_get tab v None) (set-get_or tab v None)

pub kept-as : (tab : Tableau) (v : ℕ) (o : Option Line) → line_at tab v ≡ o → slice_set tab v o ≡ tab
kept-as tab v o e = subst (λ (x : Option Line). slice_set tab v x ≡ tab) e (line_at-kept tab v)

pub line_at-got : (tab : Tableau) (v : ℕ) (o : Option Line) → slice_get tab v ≡ Some o → line_at tab v ≡ o
line_at-got tab v o e = ap (λ (x : Option (Option Line)). unwrap_or x None) e

pub line_at-past : (tab : Tableau) (v : ℕ) → slice_get tab v ≡ None → line_at tab v ≡ None
line_at-past tab v e = ap (λ (x : Option (Option Line)). unwrap_or x None) e

pub ruleset kept = (kept-as, line_at-got, line_at-past)

-- ---- turns

-- the first lines as they are, and e put into the others
unfoldable pub rewritten_from : ℕ → Line → Tableau → ℕ → Option Tableau
rewritten_from e entered tab v = joined (take v tab) (rewritten e entered (drop v tab))

pub from-start : (e : ℕ) (entered : Line) (tab : Tableau) → rewritten_from e entered tab 0 ≡ rewritten e entered tab
unfolding rewritten_from
from-start e entered tab = joined-nil (rewritten e entered tab)

pub from-end : (e : ℕ) (entered : Line) (tab : Tableau) (v : ℕ) (whole : Option Tableau) → length tab ≤ v → rewritten_from e entered tab v ≡ whole → whole ≡ Some tab
unfolding rewritten_from
from-end e entered tab v whole h i = sym i ∙ rw (take_all v tab h, drop_of_length-le tab {i = v} h) (joined-all tab)

next-by : (made : Tableau) (r : Option (Option Line)) (rest : Option Tableau) → joined made (with_value r (λ p. with_value rest (λ ps. Some (p ∷ ps)))) ≡ with_value r (λ p. joined (made ++ p ∷ []) rest)
next-by made None rest = refl
next-by made (Some p) rest = sym (joined-more made p rest)

rewritten-at : (e : ℕ) (entered : Line) (tab : Tableau) (v : ℕ) → v < length tab → rewritten e entered (drop v tab) ≡ with_value (rewritten_line e entered (line_at tab v)) (λ p. with_value (rewritten e entered (drop (suc v) tab)) (λ ps. Some (p ∷ ps)))
rewritten-at e entered tab v h = rw (drop-cons tab v None h, unwrap_or-slice_get tab v None) refl

from-next : (e : ℕ) (entered : Line) (tab : Tableau) (v : ℕ) → v < length tab → rewritten_from e entered tab v ≡ with_value (rewritten_line e entered (line_at tab v)) (λ p. joined (take v tab ++ p ∷ []) (rewritten e entered (drop (suc v) tab)))
unfolding rewritten_from
from-next e entered tab v h =
    ap (joined (take v tab)) (rewritten-at e entered tab v h)
    ∙ next-by (take v tab) (rewritten_line e entered (line_at tab v)) (rewritten e entered (drop (suc v) tab))

from-set : (e : ℕ) (entered : Line) (tab : Tableau) (v : ℕ) (p : Option Line) → v < length tab → rewritten_from e entered (slice_set tab v p) (v + 1) ≡ joined (take v tab ++ p ∷ []) (rewritten e entered (drop (suc v) tab))
unfolding rewritten_from
from-set e entered tab v p h =
    let n : v < suc v = omega arith in
    rw (take_more_set tab v p h, add-one, drop-set-lt (suc v) tab v p n) refl

-- what is put at a place, where there is something
after : (e : ℕ) (entered : Line) (tab new : Tableau) (v : ℕ) (r : Option (Option Line)) → v < length tab → with_value r (λ p. Some (slice_set tab v p)) ≡ Some new → rewritten_from e entered new (v + 1) ≡ with_value r (λ p. joined (take v tab ++ p ∷ []) (rewritten e entered (drop (suc v) tab)))
after e entered tab new v None h q = absurd (cc)
after e entered tab new v (Some p) h q =
    let s : slice_set tab v p ≡ new = cc in
    subst (λ (t : Tableau). rewritten_from e entered t (v + 1) ≡ joined (take v tab ++ p ∷ []) (rewritten e entered (drop (suc v) tab))) s (from-set e entered tab v p h)

pub turn-next : (e : ℕ) (entered : Line) (tab new : Tableau) (v : ℕ) (whole : Option Tableau) → rewritten_at e entered tab v ≡ Some new → v < length tab → rewritten_from e entered tab v ≡ whole → rewritten_from e entered new (v + 1) ≡ whole
unfolding rewritten_at
turn-next e entered tab new v whole q h i =
    after e entered tab new v (rewritten_line e entered (line_at tab v)) h q ∙ sym (from-next e entered tab v h) ∙ i

zero-is : (s : ℤ) → s ≡ pos 0 → int_eq s (pos 0) ≡ true
zero-is s h = rw h refl

-- a line without e stays as it is
stays : (e : ℕ) (entered : Line) (tab : Tableau) (v : ℕ) → coefficient (terms_of (line_at tab v)) e ≡ pos 0 → rewritten_at e entered tab v ≡ Some tab
unfolding rewritten_at
stays e entered tab v h =
    elim (line_at tab v) as (λ o. line_at tab v ≡ o → coefficient (terms_of o) e ≡ pos 0 → with_value (rewritten_line e entered o) (λ p. Some (slice_set tab v p)) ≡ Some tab) [
      | None ↦ λ q z. ap Some (kept-as tab v None q)
      | Some l ↦ λ q z. let c : int_eq (coefficient l.terms e) (pos 0) ≡ true = zero-is (coefficient l.terms e) z in rw c (ap Some (kept-as tab v (Some l) q))
    ] refl h

pub turn-kept : (e : ℕ) (entered : Line) (tab : Tableau) (v : ℕ) (whole : Option Tableau) → coefficient (terms_of (line_at tab v)) e ≡ pos 0 → v < length tab → rewritten_from e entered tab v ≡ whole → rewritten_from e entered tab (v + 1) ≡ whole
turn-kept e entered tab v whole z h i = turn-next e entered tab tab v whole (stays e entered tab v z) h i

none-by : (made : Tableau) (rest : Option Tableau) (put : Option Line → Tableau) (r : Option (Option Line)) → with_value r (λ p. Some (put p)) ≡ None → with_value r (λ p. joined (made ++ p ∷ []) rest) ≡ None
none-by made rest put None q = refl
none-by made rest put (Some p) q = absurd (cc)

pub turn-none : (e : ℕ) (entered : Line) (tab : Tableau) (v : ℕ) (whole : Option Tableau) → rewritten_at e entered tab v ≡ None → v < length tab → rewritten_from e entered tab v ≡ whole → whole ≡ None
unfolding rewritten_at
turn-none e entered tab v whole q h i =
    sym i ∙ from-next e entered tab v h
    ∙ none-by (take v tab) (rewritten e entered (drop (suc v) tab)) (λ p. slice_set tab v p) (rewritten_line e entered (line_at tab v)) q

length-by : (tab new : Tableau) (v : ℕ) (r : Option (Option Line)) → with_value r (λ p. Some (slice_set tab v p)) ≡ Some new → length new ≡ length tab
length-by tab new v None q = absurd (cc)
length-by tab new v (Some p) q = let s : slice_set tab v p ≡ new = cc in subst (λ (t : Tableau). length t ≡ length tab) s (length-set tab v p)

pub turn-length : (e : ℕ) (entered : Line) (tab new : Tableau) (v : ℕ) → rewritten_at e entered tab v ≡ Some new → length new ≡ length tab
unfolding rewritten_at
turn-length e entered tab new v q = length-by tab new v (rewritten_line e entered (line_at tab v)) q

pub ruleset turns = (from-start, turn-next, turn-kept, turn-none, turn-length)
