-- The number by which each rule is told.
use Rattle.std.specs.Prelude.{ℕ}
use Rattle.sol_judged.specs.declared.rules.Rule.{Rule}
use Rattle.sol_judged.specs.declared.rules.Rule.TheVariants as rule

abbrev pub number_of : Rule → ℕ
number_of rule.Naming = 1
number_of rule.DeclaredType = 2
number_of rule.Operands = 3
number_of rule.Condition = 4
number_of rule.Comparison = 5
number_of rule.AssignedValue = 6
number_of rule.AssignedPlace = 7
number_of rule.Arguments = 8
number_of rule.CalledFunction = 9
number_of rule.CallPlace = 10
number_of rule.Conversion = 11
number_of rule.LiteralExpression = 12
number_of rule.LiteralType = 13
number_of rule.Negation = 14
number_of rule.Index = 15
number_of rule.Member = 16
number_of rule.Return = 17
number_of rule.Jump = 18
number_of rule.Placeholder = 19
number_of rule.ModifierUse = 20
number_of rule.BaseArguments = 21
number_of rule.Initialiser = 22
number_of rule.Override = 23
number_of rule.LocalTwice = 24
number_of rule.ViewCall = 25
number_of rule.MemberKind = 26
number_of rule.Specifiers = 27
number_of rule.Statement = 28
