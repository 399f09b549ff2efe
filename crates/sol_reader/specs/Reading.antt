-- Reading the tree of a file, as functions.
use Rattle.std.specs.Prelude.{◌≡◌, ℕ, suc, ◌+◌, Bool, true, false, ◌&&◌, ◌==◌, is_none, List, [], ◌∷◌, ◌++◌, length, take, drop, leb, Option, Some, None, Result, Ok, Err, if◌then◌else◌}
use lib.IntN.{ℤ}
use Rattle.std.specs.List.{All}
use Rattle.std.specs.Str.{bytes_eq}
use Rattle.chc_nums.specs.declared.limits.TheConstants.{MAX_VARIABLES}
use Rattle.chc_nums.specs.declared.typed.Ty.TheVariants as ty
use Rattle.chc_nums.specs.Values.{with_value}
use Rattle.sol_tree.specs.declared.expr.BinaryOp.{BinaryOp}
use Rattle.sol_tree.specs.declared.expr.BinaryOp.TheVariants as operator
use Rattle.sol_tree.specs.declared.expr.ExprTree.{ExprTree, out-ExprTree}
use Rattle.sol_tree.specs.declared.expr.ExprTree.TheOpen.{ExprTree-F}
use Rattle.sol_tree.specs.declared.stmt.AssignOp.TheVariants as assign
use Rattle.sol_tree.specs.declared.stmt.Simple.{Simple}
use Rattle.sol_tree.specs.declared.stmt.Simple.TheVariants as simple
use Rattle.sol_tree.specs.declared.stmt.Stmt.{Stmt, out-Stmt}
use Rattle.sol_tree.specs.declared.stmt.Stmt.TheOpen.{Stmt-F}
use Rattle.sol_tree.specs.declared.stmt.Block.{Block}
use Rattle.sol_tree.specs.declared.types.Type as types
use Rattle.sol_tree.specs.declared.types.Type.TheOpen.{Type-F}
use Rattle.sol_tree.specs.declared.file.Var.{Var}
use Rattle.sol_tree.specs.declared.file.FunSpecifier.{FunSpecifier}
use Rattle.sol_tree.specs.declared.file.FunSpecifier.TheVariants as specifier
use Rattle.sol_tree.specs.declared.file.Fun.{Fun}
use Rattle.sol_tree.specs.declared.file.Member.{Member}
use Rattle.sol_tree.specs.declared.file.Member.TheVariants as member
use Rattle.sol_tree.specs.declared.file.Unit as units
use Rattle.sol_tree.specs.declared.file.Unit.TheVariants as unit
use Rattle.sol_first.specs.declared.contract.Variable.{Variable}
use Rattle.sol_first.specs.declared.contract.Function.{Function}
use Rattle.sol_first.specs.declared.contract.Contract.{Contract}
use Rattle.sol_first.specs.declared.contract.Order.{Order}
use Rattle.sol_first.specs.declared.contract.Order.TheVariants as order
use Rattle.sol_first.specs.declared.contract.Step.{Step}
use Rattle.sol_first.specs.declared.contract.Step.TheVariants as step
use Rattle.sol_first.specs.Typed.{StepTyped}
use Rattle.sol_reader.specs.Places.{line_of, column_of}
use Rattle.sol_reader.specs.declared.fault.ReadFault.{ReadFault}
use Rattle.sol_reader.specs.declared.fault.ReadFault.TheVariants as fault
use Rattle.sol_reader.specs.declared.step.Test.{Test}

abbrev pub if_value : {A B : Type 0} → Option A → (A → B) → B → B
if_value None go other = other
if_value (Some x) go other = go x

-- the first place of a name among variables, counted from n on
abbrev pub place_from : ℕ → List ℕ → List Variable → Option ℕ
place_from n w [] = None
place_from n w (v ∷ vs) = if bytes_eq v.name w then Some n else place_from (n + 1) w vs

abbrev pub named_in : List Variable → ExprTree-F ExprTree → Option ℕ
named_in vs (ExprTree-F.Named at w) = place_from 0 w vs
named_in vs e = None

-- `ID`
unfoldable pub variable_of : List Variable → ExprTree → Option ℕ
variable_of vs e = named_in vs (out-ExprTree e)

abbrev pub number_in : ExprTree-F ExprTree → Option ℤ
number_in (ExprTree-F.Number at n hex None) = Some n
number_in e = None

-- `NUM`
unfoldable pub number_of : ExprTree → Option ℤ
number_of e = number_in (out-ExprTree e)

abbrev pub order_of : BinaryOp → Option Order
order_of operator.Less = Some order.Less
order_of operator.LessEqual = Some order.LessEqual
order_of operator.Greater = Some order.Greater
order_of operator.GreaterEqual = Some order.GreaterEqual
order_of o = None

abbrev pub test_in : List Variable → ExprTree-F ExprTree → Option Test
test_in vs (ExprTree-F.Binary at x sign o e) = with_value (order_of o) (λ o. with_value (variable_of vs x) (λ v. with_value (number_of e) (λ n. Some (record { variable = v; order = o; number = n }))))
test_in vs e = None

-- `ID c NUM`
unfoldable pub test_of : List Variable → ExprTree → Option Test
test_of vs e = test_in vs (out-ExprTree e)

abbrev pub changed : List ℕ → BinaryOp → ℕ → ℕ → ℕ → ℤ → Option Step
changed text operator.Add at to from n = Some (step.Add (line_of text at) (column_of text at) to from n)
changed text operator.Subtract at to from n = Some (step.Subtract (line_of text at) (column_of text at) to from n)
changed text o at to from n = None

abbrev pub change_in : List ℕ → List Variable → ℕ → ExprTree-F ExprTree → Option Step
change_in text vs to (ExprTree-F.Binary at x sign o e) = with_value (variable_of vs x) (λ from. with_value (number_of e) (λ n. changed text o sign to from n))
change_in text vs to e = None

-- `ID + NUM` or `ID - NUM`
unfoldable pub change_of : List ℕ → List Variable → ℕ → ExprTree → Option Step
change_of text vs to e = change_in text vs to (out-ExprTree e)

-- what is assigned
unfoldable pub value_of : List ℕ → List Variable → ℕ → ExprTree → Option Step
value_of text vs to e = if_value (number_of e) (λ n. Some (step.Put to n)) (if_value (variable_of vs e) (λ from. Some (step.Move to from)) (change_of text vs to e))

abbrev pub assignment_of : List ℕ → List Variable → Simple → Option Step
assignment_of text vs (simple.Assignment at x sign assign.Assign e) = with_value (variable_of vs x) (λ to. value_of text vs to e)
assignment_of text vs s = None

abbrev pub required : Option Test → Option Step
required test = with_value test (λ t. Some (step.Require t.variable t.order t.number))

abbrev pub asserted : List ℕ → ℕ → Option Test → Option Step
asserted text at test = with_value test (λ t. Some (step.Assert (line_of text at) (column_of text at) t.variable t.order t.number))

abbrev pub step_in : List ℕ → List Variable → Stmt-F Stmt → Option Step
step_in text vs (Stmt-F.Require at e None) = required (test_of vs e)
step_in text vs (Stmt-F.Assert at e) = asserted text at (test_of vs e)
step_in text vs (Stmt-F.Simple at s) = assignment_of text vs s
step_in text vs s = None

-- a statement
unfoldable pub step_of : List ℕ → List Variable → Stmt → Option Step
step_of text vs s = step_in text vs (out-Stmt s)

-- ---- members

-- what one gives of each entry, after those made; none where it gives none of some entry
abbrev pub all_onto : {A B : Type 0} → (A → Option B) → List B → List A → Option (List B)
all_onto one made [] = Some made
all_onto one made (x ∷ xs) = with_value (one x) (λ y. all_onto one (made ++ y ∷ []) xs)

abbrev pub size_in : Type-F types.Type → Option ℕ
size_in (Type-F.Elementary at (ty.Uint n)) = Some n
size_in t = None

-- `uintN`
unfoldable pub size_of : types.Type → Option ℕ
size_of t = size_in (types.out-Type t)

abbrev pub is_bare : Var → Bool
is_bare v = (length v.specifiers == 0) && is_none v.initial

abbrev pub var_of : Var → Option Variable
var_of v = if is_bare v then with_value (size_of v.ty) (λ n. Some (record { size = n; name = v.name.name })) else None

-- `uintN ID ;`
abbrev pub variable_in : Member → Option Variable
variable_in (member.Var at v) = var_of v
variable_in m = None

abbrev pub is_public : List FunSpecifier → Bool
is_public (specifier.Public at ∷ []) = true
is_public specifiers = false

abbrev pub is_open : Fun → Bool
is_open f = (length f.params == 0) && (is_public f.specifiers && is_none f.returns)

abbrev pub body_in : List ℕ → List Variable → List ℕ → Option Block → Option Function
body_in text vs name None = None
body_in text vs name (Some b) = with_value (all_onto (step_of text vs) [] b.statements) (λ ss. Some (record { name = name; steps = ss }))

abbrev pub fun_of : List ℕ → List Variable → Fun → Option Function
fun_of text vs f = if is_open f then body_in text vs f.name.name f.body else None

-- `function ID ( ) public { .. }`
unfoldable pub function_in : List ℕ → List Variable → Member → Option Function
function_in text vs (member.Fun at f) = fun_of text vs f
function_in text vs m = None

-- how many members are variables before the first that is none
abbrev pub leading : List Member → ℕ
leading [] = 0
leading (member.Var at v ∷ ms) = suc (leading ms)
leading (m ∷ ms) = 0

abbrev pub with_functions : List ℕ → List ℕ → List Variable → List Member → Option Contract
with_functions text name vs ms = with_value (all_onto (function_in text vs) [] ms) (λ fs. Some (record { name = name; variables = vs; functions = fs }))

unfoldable pub members_of : List ℕ → List ℕ → List Member → Option Contract
members_of text name ms = with_value (all_onto variable_in [] (take (leading ms) ms)) (λ vs. if leb (length vs) MAX_VARIABLES then with_functions text name vs (drop (leading ms) ms) else None)

-- `contract ID { .. }`
abbrev pub unit_of : List ℕ → units.Unit → Option Contract
unit_of text (unit.Contract at abstracted name bases ms) = if abstracted then None else (if length bases == 0 then members_of text name.name ms else None)
unit_of text u = None

abbrev pub units_of : List ℕ → List units.Unit → Option Contract
units_of text [] = None
units_of text (u ∷ []) = unit_of text u
units_of text (u ∷ w ∷ us) = None

-- the steps of a function are well typed
unfoldable pub FunctionTyped : List Variable → Function → Type 0
FunctionTyped vs f = All (StepTyped vs) f.steps

-- what a function gives that may want memory: what reading gives, or that memory was wanting
abbrev pub Gives : {A : Type 0} → Result A ReadFault → Option A → Type 0
Gives (Ok x) read = read ≡ Some x
Gives (Err fault.NoMemory) read = Unit {0}
Gives (Err fault.NotBuilt) read = read ≡ None
