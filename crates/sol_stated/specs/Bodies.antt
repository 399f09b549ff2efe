-- Functions, constructors and modifiers: parameters and what is returned are one scope, and the body is a block inside it. Names
-- in the types of parameters mean no locals. Rules 1, 2 and 24, and those of marks and statements.
use Rattle.std.specs.Prelude.{List, [], ◌∷◌, map, Option, Some, None}
use Rattle.sol_tree.specs.declared.file.Param.{Param}
use Rattle.sol_tree.specs.declared.file.Fun.{Fun}
use Rattle.sol_tree.specs.declared.file.Constructor.{Constructor}
use Rattle.sol_tree.specs.declared.file.Modifier as modifiers
use Rattle.sol_tree.specs.declared.stmt.Block.{Block}
use Rattle.sol_tree.specs.declared.types.Identifier.{Identifier}
use Rattle.sol_judged.specs.Judged.{Judged, sound, ◌>>=◌}
use Rattle.sol_stated.specs.declared.scope.Scope.{Scope}
use Rattle.sol_stated.specs.Checks.{Check, pass, all_checks}
use Rattle.sol_stated.specs.Contexts.{Context, Kind, Function, Modifier, Typed, with_kind, setting_in, bare}
use Rattle.sol_stated.specs.Scopes.{start, unnamed}
use Rattle.sol_stated.specs.ValueTypes.{value_type}
use Rattle.sol_stated.specs.Declarations.{named_local}
use Rattle.sol_stated.specs.Statements.{judge_block}
use Rattle.sol_stated.specs.Marks.{function_mark, constructor_mark}

-- ---- parameters

-- a parameter without a name is a local too
abbrev pub named_or_not : Typed → Option Identifier → Scope → Judged Scope
named_or_not t None w = sound (unnamed w)
named_or_not t (Some name) w = named_local t name w

unfoldable pub param : Context → Param → Scope → Judged Scope
param c p w = value_type (bare c) p.ty >>= λ t. named_or_not t p.name w

abbrev pub params : Context → List Param → Scope → Judged Scope
params c [] w = sound w
params c (p ∷ ps) w = param c p w >>= λ v. params c ps v

-- ---- bodies

unfoldable pub block_body : Kind → Block → Context → Scope → Check
block_body k b c w = judge_block b.statements (with_kind k c) w >>= λ v. pass

-- a body of a kind, if there is one
abbrev pub body : Kind → Option Block → Context → Scope → Check
body k None c w = pass
body k (Some b) c w = block_body k b c w

-- a function that returns what is declared, if anything
abbrev pub function_in : Context → Fun → Option Typed → Scope → Check
function_in c f t w = all_checks (map (function_mark c (setting_in c w)) f.specifiers) >>= λ u. body (Function t) f.body c w

abbrev pub function_returning : Context → Fun → Option Param → Scope → Check
function_returning c f None w = function_in c f None w
function_returning c f (Some p) w = do
  t ← value_type (bare c) p.ty
  v ← named_or_not t p.name w
  function_in c f (Some t) v

unfoldable pub judge_function : Context → Fun → Check
judge_function c f = params c f.params start >>= function_returning c f f.returns

abbrev pub constructor_in : Context → Constructor → Scope → Check
constructor_in c f w = all_checks (map (constructor_mark c (setting_in c w)) f.specifiers) >>= λ u. block_body (Function None) f.body c w

unfoldable pub judge_constructor : Context → Constructor → Check
judge_constructor c f = params c f.params start >>= constructor_in c f

unfoldable pub judge_modifier : Context → modifiers.Modifier → Check
judge_modifier c m = params c m.params start >>= body Modifier m.body c
