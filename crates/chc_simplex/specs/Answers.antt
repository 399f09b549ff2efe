-- What an answer says of the rows.
use Rattle.std.specs.Prelude.{◌≡◌, List, length, pos, ◌≤ℤ◌}
use lib.IntN.{ℤ}
use Rattle.chc_form.specs.declared.linear.Lin.{Lin}
use Rattle.chc_form.specs.Linear.{FracSatisfies}
use Rattle.chc_form.specs.Multipliers.{Refutes}
use Rattle.chc_simplex.specs.declared.data.Lp.{Lp}
use Rattle.chc_simplex.specs.declared.data.Lp.TheVariants as lp
use Rattle.chc_form.specs.RowSums.{number_at, width}

-- numerators x over d, one for each variable, that satisfy the rows
pub record IsPoint (rows : List Lin) (x : List ℤ) (d : ℤ) : Type 0 where
  pub above : pos 1 ≤ℤ d
  pub all : length x ≡ width rows
  pub satisfies : FracSatisfies rows (number_at x) d

-- multipliers refute the rows and a point satisfies them; the other two answers say nothing of them
abbrev pub Answers : List Lin → Lp → Type 0
Answers rows (lp.Infeasible ms) = Refutes ms rows
Answers rows (lp.Feasible x d) = IsPoint rows x d
Answers rows lp.Wide = Unit {0}
Answers rows lp.Pivots = Unit {0}
