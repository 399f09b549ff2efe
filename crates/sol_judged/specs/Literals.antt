-- Numbers, literal expressions, `true` and `false` (Solidity's documentation, "Rational and Integer Literals"). Rule 12.
use Rattle.std.specs.Prelude.{ℕ, Option, Some, None}
use lib.IntN.{ℤ}
use Rattle.chc_nums.specs.declared.typed.Ty.TheVariants as ty
use Rattle.sol_core.specs.declared.program.Expr.{Num}
use Rattle.sol_judged.specs.declared.rules.Rule.TheVariants as rule
use Rattle.sol_judged.specs.declared.types.ValueType.TheVariants as type
use Rattle.sol_judged.specs.declared.findings.Found.TheVariants as is
use Rattle.sol_judged.specs.Judged.{Judged, sound, broken}
use Rattle.sol_judged.specs.Found.{Seen, Known, Spoilt, Unknown, value}

-- a literal expression, which without a number breaks rule 12 at its first token
abbrev pub literal : ℕ → Option ℤ → Judged Seen
literal first None = broken rule.LiteralExpression first Spoilt
literal first (Some z) = sound (Known (is.Literal z))

-- the numbers of two literal expressions, where both are: none where one has no number
abbrev pub literals : Seen → Seen → Option (Option (ℤ × ℤ))
literals (Known (is.Literal x)) (Known (is.Literal y)) = Some (Some (x, y))
literals (Known (is.Literal x)) Spoilt = Some None
literals Spoilt (Known (is.Literal y)) = Some None
literals Spoilt Spoilt = Some None
literals _ _ = None

-- parentheses change nothing, but a literal expression without a number begins at them too
abbrev pub parenthesised : ℕ → Seen → Judged Seen
parenthesised at Spoilt = literal at None
parenthesised at (Known f) = sound (Known f)
parenthesised at Unknown = sound Unknown

abbrev pub truth_value : ℤ → Judged Seen
truth_value z = sound (value (type.Elementary ty.Bool) (Num z ty.Bool))
