-- What members of a unit keep: what may stand there, marks, types and initial values, and bodies as statements keep them. Names in
-- all but bodies mean no locals.
use Rattle.std.specs.Prelude.{List, map}
use Rattle.sol_tree.specs.declared.file.Error.{Error}
use Rattle.sol_tree.specs.declared.file.Event.{Event}
use Rattle.sol_tree.specs.declared.file.EventParam.{EventParam}
use Rattle.sol_tree.specs.declared.file.Fun.{Fun}
use Rattle.sol_tree.specs.declared.file.Member.{Member}
use Rattle.sol_tree.specs.declared.file.Member.TheVariants as member
use Rattle.sol_tree.specs.declared.file.Modifier as modifiers
use Rattle.sol_tree.specs.declared.file.Param.{Param}
use Rattle.sol_tree.specs.declared.file.Var.{Var}
use Rattle.sol_judged.specs.Settings.{Setting}
use Rattle.sol_judged.specs.Judged.{◌>>=◌}
use Rattle.sol_stated.specs.Bodies.{judge_function, judge_constructor, judge_modifier}
use Rattle.sol_stated.specs.Checks.{Check, pass, all_checks}
use Rattle.sol_stated.specs.Contexts.{Context, bare}
use Rattle.sol_stated.specs.ValueTypes.{value_type}
use Rattle.sol_declared.specs.declared.kinds.UnitKind.{UnitKind}
use Rattle.sol_declared.specs.Initialisers.{initialised}
use Rattle.sol_declared.specs.MemberKinds.{member_kind}
use Rattle.sol_declared.specs.Specifiers.{function_specifiers, variable_specifiers, function_override, variable_override, modifier_override}
use Rattle.sol_declared.specs.StateTypes.{state_type}

abbrev pub typed_variable : Setting → Var → Check
typed_variable w v = state_type w v.ty >>= λ t. initialised w t v v.initial

unfoldable pub variable : Setting → Var → Check
variable w v = do
  u ← variable_specifiers v
  o ← all_checks (map (variable_override w) v.specifiers)
  typed_variable w v

unfoldable pub function : Context → Fun → Check
function c f = do
  u ← function_specifiers f
  o ← all_checks (map (function_override (bare c)) f.specifiers)
  judge_function c f

unfoldable pub modifier : Context → modifiers.Modifier → Check
modifier c m = all_checks (map (modifier_override (bare c)) m.specifiers) >>= λ o. judge_modifier c m

-- a parameter of an event or an error is a value; it is no local
abbrev pub event_param : Setting → EventParam → Check
event_param w p = value_type w p.ty >>= λ t. pass

abbrev pub error_param : Setting → Param → Check
error_param w p = value_type w p.ty >>= λ t. pass

abbrev pub event : Setting → Event → Check
event w e = all_checks (map (event_param w) e.params)

abbrev pub error : Setting → Error → Check
error w e = all_checks (map (error_param w) e.params)

abbrev pub declared_member : Context → Member → Check
declared_member c (member.Var at v) = variable (bare c) v
declared_member c (member.Fun at f) = function c f
declared_member c (member.Constructor at f) = judge_constructor c f
declared_member c (member.Modifier at m) = modifier c m
declared_member c (member.Event at e) = event (bare c) e
declared_member c (member.Error at e) = error (bare c) e

unfoldable pub judge_member : Context → UnitKind → Member → Check
judge_member c k m = member_kind k m >>= λ u. declared_member c m

abbrev pub judge_members : Context → UnitKind → List Member → Check
judge_members c k ms = all_checks (map (judge_member c k) ms)
