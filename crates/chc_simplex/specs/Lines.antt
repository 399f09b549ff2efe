-- Lines of the tableau, and a pivot. A line `d y = sum` is whole numbers in lowest terms, with d at least 1.
-- Divisors and exact quotients are no larger than numbers that the line has already, so they never end a run.
use Rattle.std.specs.Prelude.{ℕ, List, [], ◌∷◌, Option, Some, None, pos, negsuc, ◌*ℤ◌, neg_ℤ, int_div, unsigned_abs, if◌then◌else◌, slice_get, slice_set, unwrap_or}
use lib.IntN.{ℤ}
use lib.Signed.{lt_z}
use Rattle.std.specs.Ordering.{int_eq}
use Rattle.chc_nums.specs.Wide.{in_128}
use Rattle.chc_nums.specs.Values.{with_value}
use Rattle.chc_simplex.specs.declared.data.Line.{Line}
use Rattle.chc_simplex.specs.Divisors.{gcd}
use Rattle.chc_simplex.specs.Terms.{Terms, coefficient, others, merged}

-- the lines of the basic variables, at the variables' numbers; a nonbasic variable has none
abbrev pub Tableau : Type 0
Tableau = List (Option Line)

abbrev pub line_at : Tableau → ℕ → Option Line
line_at tab v = unwrap_or (slice_get tab v) None

abbrev pub terms_of : Option Line → Terms
terms_of None = []
terms_of (Some l) = l.terms

abbrev pub denominator_of : Option Line → ℤ
denominator_of None = pos 1
denominator_of (Some l) = l.denominator

abbrev pub line : ℤ → Terms → Line
line d ts = record { denominator = d; terms = ts }

-- the greatest common divisor of a number and all coefficients
abbrev pub common : ℕ → Terms → ℕ
common g [] = g
common g (t ∷ ts) = common (gcd g (unsigned_abs t.1)) ts

-- each coefficient divided by g
abbrev pub divided_terms : ℤ → Terms → Option Terms
divided_terms g [] = Some []
divided_terms g (t ∷ ts) = with_value (in_128 (int_div t.1 g)) (λ a. with_value (divided_terms g ts) (λ us. Some ((t.0, a) ∷ us)))

-- the line d y = ts, divided by g
abbrev pub divided_line : ℤ → Terms → ℤ → Option Line
divided_line d ts g = with_value (in_128 (int_div d g)) (λ a. with_value (divided_terms g ts) (λ us. Some (line a us)))

-- the line d y = ts in lowest terms
abbrev pub reduced : ℤ → Terms → Option Line
reduced d ts = with_value (in_128 (pos (common (unsigned_abs d) ts))) (divided_line d ts)

-- the line d s = a e + rest for e, where a is above 0: a e = d s - rest
abbrev pub turned_up : ℤ → ℕ → ℤ → Terms → Option Line
turned_up d s a rest = with_value (merged (negsuc 0) d rest ((s, pos 1) ∷ [])) (λ ts. Some (line a ts))

-- the line d s = a e + rest for e, where a is below 0: - a e = - d s + rest
abbrev pub turned_down : ℤ → ℕ → ℤ → Terms → Option Line
turned_down d s a rest =
    with_value (in_128 (neg_ℤ a)) (λ p. with_value (in_128 (neg_ℤ d)) (λ n. with_value (merged (pos 1) n rest ((s, pos 1) ∷ [])) (λ ts. Some (line p ts))))

-- the line d s = ts for one of its variables
abbrev pub turned : ℤ → Terms → ℕ → ℕ → Option Line
turned d ts s e =
    let a = coefficient ts e in
    if lt_z (pos 0) a then turned_up d s a (others e ts) else turned_down d s a (others e ts)

-- the line l with p e = ns put in for e, whose coefficient in l is a
abbrev pub with_entered : ℕ → Line → ℤ → Line → Option Line
with_entered e entered a l =
    with_value (in_128 (entered.denominator *ℤ l.denominator)) (λ d. with_value (merged entered.denominator a (others e l.terms) entered.terms) (λ ts. reduced d ts))

-- a line without e stays as it is
abbrev pub substituted : ℕ → Line → Line → Option Line
substituted e entered l = let a = coefficient l.terms e in if int_eq a (pos 0) then Some l else with_entered e entered a l

abbrev pub rewritten_line : ℕ → Line → Option Line → Option (Option Line)
rewritten_line e entered None = Some None
rewritten_line e entered (Some l) = with_value (substituted e entered l) (λ k. Some (Some k))

-- each line with e put in
abbrev pub rewritten : ℕ → Line → Tableau → Option Tableau
rewritten e entered [] = Some []
rewritten e entered (o ∷ os) = with_value (rewritten_line e entered o) (λ p. with_value (rewritten e entered os) (λ ps. Some (p ∷ ps)))

-- the tableau with e put into the line at a place
unfoldable pub rewritten_at : ℕ → Line → Tableau → ℕ → Option Tableau
rewritten_at e entered tab v = with_value (rewritten_line e entered (line_at tab v)) (λ p. Some (slice_set tab v p))

-- the tableau after s left and e entered with this line
abbrev pub exchanged : Tableau → ℕ → ℕ → Line → Option Tableau
exchanged tab s e entered = with_value (rewritten e entered (slice_set tab s None)) (λ ps. Some (slice_set ps e (Some entered)))

-- s leaves the basis, and e enters
unfoldable pub pivot : Tableau → ℕ → ℕ → Option Tableau
pivot tab s e = with_value (turned (denominator_of (line_at tab s)) (terms_of (line_at tab s)) s e) (exchanged tab s e)
