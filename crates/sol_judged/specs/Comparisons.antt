-- `< > <= >=` of integers, and `== !=` of values of a common type. Rule 5.
use Rattle.std.specs.Prelude.{ℕ, Option, Some, None, Bool, true, false}
use Rattle.sol_core.specs.declared.program.Expr as expr
use Rattle.sol_core.specs.declared.program.Cmp.{Cmp}
use Rattle.sol_core.specs.declared.program.Cmp.TheVariants as cmp
use Rattle.sol_judged.specs.declared.rules.Rule.TheVariants as rule
use Rattle.sol_judged.specs.declared.findings.Pair.{Pair}
use Rattle.sol_judged.specs.Judged.{Judged, ◌>>=◌}
use Rattle.sol_judged.specs.Found.{Seen, blank}
use Rattle.sol_judged.specs.Operands.{pair}
use Rattle.sol_judged.specs.Conditions.{boolean, truth_of}

-- a comparison that needs integers
abbrev pub is_order : Cmp → Bool
is_order cmp.Lt = true
is_order cmp.Le = true
is_order cmp.Gt = true
is_order cmp.Ge = true
is_order cmp.Eq = false
is_order cmp.Ne = false

abbrev pub compared : Cmp → Option Pair → Judged Seen
compared c None = truth_of (blank boolean)
compared c (Some p) = truth_of (expr.Compare c p.left p.right)

unfoldable pub comparison : Cmp → ℕ → ℕ → ℕ → Seen → Seen → Judged Seen
comparison c at left_first right_first a b = pair rule.Comparison at (is_order c) left_first right_first a b >>= compared c
