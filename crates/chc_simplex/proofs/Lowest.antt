-- A line whose numbers have no common divisor but 1 is in lowest terms as it stands.
use Rattle.std.proofs.Common.{◌≡◌, refl, [], ◌∷◌, Some, pos}
use lib.IntN.{ℤ}
use Rattle.std.specs.Prelude.{FitsSigned, unsigned_abs}
use Rattle.std.specs.Int.{w128}
use Rattle.chc_nums.specs.Wide.{in_128, fits_128}
use Rattle.chc_nums.proofs.Fits.{in_128-yes}
use Rattle.chc_simplex.specs.Terms.{Terms, AllFit}
use Rattle.chc_simplex.specs.Lines.{line, common, divided_terms, reduced}
use Rattle.chc_simplex.proofs.Steps.{quotient-one}

divided-one : (ts : Terms) → AllFit ts → divided_terms (pos 1) ts ≡ Some ts
divided-one [] f = refl
divided-one (t ∷ ts) f = rw (quotient-one t.1, in_128-yes t.1 f.0, divided-one ts f.1) refl

one : in_128 (pos 1) ≡ Some (pos 1)
unfolding in_128 fits_128
one = refl

pub reduced-one : (d : ℤ) (ts : Terms) → common (unsigned_abs d) ts ≡ 1 → FitsSigned w128 d → AllFit ts → reduced d ts ≡ Some (line d ts)
reduced-one d ts e h f = rw (e, one, quotient-one d, in_128-yes d h, divided-one ts f) refl

pub ruleset lowest = (reduced-one)
