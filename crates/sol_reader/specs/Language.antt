-- The first language: the tree of a file and its contract.
use Rattle.std.specs.Prelude.{◌≡◌, ◌≢◌, ℕ, ◌+◌, ◌≤◌, Bool, false, List, [], ◌∷◌, ◌++◌, length, map, Some, None, Result, Ok, Err, slice_get}
use lib.IntN.{ℤ}
use Rattle.chc_nums.specs.declared.limits.TheConstants.{MAX_FUNCTIONS, MAX_STATEMENTS, MAX_VARIABLES}
use Rattle.chc_nums.specs.declared.typed.Ty.TheVariants as ty
use Rattle.sol_tree.specs.declared.expr.BinaryOp.{BinaryOp}
use Rattle.sol_tree.specs.declared.expr.BinaryOp.TheVariants as operator
use Rattle.sol_tree.specs.declared.expr.ExprTree.{ExprTree}
use Rattle.sol_tree.specs.declared.expr.ExprTree.TheVariants as expr
use Rattle.sol_tree.specs.declared.types.Type.TheVariants as type_tree
use Rattle.sol_tree.specs.declared.stmt.AssignOp.TheVariants as assign
use Rattle.sol_tree.specs.declared.stmt.Simple.TheVariants as simple
use Rattle.sol_tree.specs.declared.stmt.Stmt.{Stmt}
use Rattle.sol_tree.specs.declared.stmt.Stmt.TheVariants as stmt
use Rattle.sol_tree.specs.declared.file.FunSpecifier.TheVariants as specifier
use Rattle.sol_tree.specs.declared.file.Member.{Member}
use Rattle.sol_tree.specs.declared.file.Member.TheVariants as member
use Rattle.sol_tree.specs.declared.file.Unit.TheVariants as unit
use Rattle.sol_tree.specs.declared.file.File.{File}
use Rattle.sol_first.specs.declared.contract.Variable.{Variable}
use Rattle.sol_first.specs.declared.contract.Function.{Function}
use Rattle.sol_first.specs.declared.contract.Contract.{Contract}
use Rattle.sol_first.specs.declared.contract.Order.{Order}
use Rattle.sol_first.specs.declared.contract.Order.TheVariants as order
use Rattle.sol_first.specs.declared.contract.Step.{Step}
use Rattle.sol_first.specs.declared.contract.Step.TheVariants as step
use Rattle.sol_first.specs.Typed.{IsTyped}
use Rattle.sol_reader.specs.Places.{line_of, column_of}
use Rattle.sol_reader.specs.declared.fault.ReadFault.{ReadFault}
use Rattle.sol_reader.specs.declared.fault.ReadFault.TheVariants as fault

-- ---- the trees of its forms; the places of their tokens are free, but for those of a step's line and column

-- `ID`, the name of the variable at a place
pub data IsNamed (vs : List Variable) : ExprTree → ℕ → Type 0 where
  named : {at v : ℕ} {x : Variable} → slice_get vs v ≡ Some x → IsNamed vs (expr.Named at x.name) v

-- `NUM`, in any spelling and with no unit
pub data IsNumber : ExprTree → ℤ → Type 0 where
  number : {at : ℕ} {n : ℤ} {hex : Bool} → IsNumber (expr.Number at n hex None) n

abbrev pub operator_of : Order → BinaryOp
operator_of order.Less = operator.Less
operator_of order.LessEqual = operator.LessEqual
operator_of order.Greater = operator.Greater
operator_of order.GreaterEqual = operator.GreaterEqual

-- `ID c NUM`, with `<`, `<=`, `>` or `>=` for c
pub data IsTest (vs : List Variable) : ExprTree → ℕ → Order → ℤ → Type 0 where
  compared : {at v sign : ℕ} {o : Order} {n : ℤ} {x e : ExprTree} → IsNamed vs x v → IsNumber e n → IsTest vs (expr.Binary at x sign (operator_of o) e) v o n

-- a statement and its step
pub data IsStep (text : List ℕ) (vs : List Variable) : Stmt → Step → Type 0 where
  -- `require ( ID c NUM ) ;`
  required : {at v : ℕ} {o : Order} {n : ℤ} {e : ExprTree} → IsTest vs e v o n → IsStep text vs (stmt.Require at e None) (step.Require v o n)
  -- `assert ( ID c NUM ) ;`, which stands where its word stands
  asserted : {at v : ℕ} {o : Order} {n : ℤ} {e : ExprTree} → IsTest vs e v o n → IsStep text vs (stmt.Assert at e) (step.Assert (line_of text at) (column_of text at) v o n)
  -- `ID = NUM ;`
  put : {at first sign to : ℕ} {n : ℤ} {x e : ExprTree} → IsNamed vs x to → IsNumber e n → IsStep text vs (stmt.Simple at (simple.Assignment first x sign assign.Assign e)) (step.Put to n)
  -- `ID = ID ;`
  moved : {at first sign to from : ℕ} {x y : ExprTree} → IsNamed vs x to → IsNamed vs y from → IsStep text vs (stmt.Simple at (simple.Assignment first x sign assign.Assign y)) (step.Move to from)
  -- `ID = ID + NUM ;`, which stands where its `+` stands
  added : {at first sign begin plus to from : ℕ} {n : ℤ} {x y e : ExprTree} → IsNamed vs x to → IsNamed vs y from → IsNumber e n → IsStep text vs (stmt.Simple at (simple.Assignment first x sign assign.Assign (expr.Binary begin y plus operator.Add e))) (step.Add (line_of text plus) (column_of text plus) to from n)
  -- `ID = ID - NUM ;`, which stands where its `-` stands
  subtracted : {at first sign begin minus to from : ℕ} {n : ℤ} {x y e : ExprTree} → IsNamed vs x to → IsNamed vs y from → IsNumber e n → IsStep text vs (stmt.Simple at (simple.Assignment first x sign assign.Assign (expr.Binary begin y minus operator.Subtract e))) (step.Subtract (line_of text minus) (column_of text minus) to from n)

-- two lists whose entries go together, one by one
pub data Pairs {A B : Type 0} (R : A → B → Type 0) : List A → List B → Type 0 where
  none : Pairs R [] []
  more : {x : A} {y : B} {xs : List A} {ys : List B} → R x y → Pairs R xs ys → Pairs R (x ∷ xs) (y ∷ ys)

-- `uintN ID ;`
pub data IsVariable : Member → Variable → Type 0 where
  declared : {at first type_at name_at size : ℕ} {name : List ℕ} → IsVariable (member.Var at (record { at = first; ty = type_tree.Elementary type_at (ty.Uint size); specifiers = []; name = record { at = name_at; name = name }; initial = None })) (record { size = size; name = name })

-- `function ID ( ) public { .. }`
pub data IsFunction (text : List ℕ) (vs : List Variable) : Member → Function → Type 0 where
  defined : {at first name_at specifier_at block_at : ℕ} {name : List ℕ} {body : List Stmt} {steps : List Step} → Pairs (IsStep text vs) body steps → IsFunction text vs (member.Fun at (record { at = first; name = record { at = name_at; name = name }; params = []; specifiers = specifier.Public specifier_at ∷ []; returns = None; body = Some (record { at = block_at; statements = body }) })) (record { name = name; steps = steps })

-- `contract ID { .. }`, the variables before the functions
pub data IsFileOf (text : List ℕ) : Contract → File → Type 0 where
  contract : {at first name_at : ℕ} {name : List ℕ} {variables : List Variable} {functions : List Function} {declarations definitions : List Member} → Pairs IsVariable declarations variables → Pairs (IsFunction text variables) definitions functions → IsFileOf text (record { name = name; variables = variables; functions = functions }) (record { at = at; units = unit.Contract first false (record { at = name_at; name = name }) [] (declarations ++ definitions) ∷ [] })

-- ---- its contracts

-- the name is none of these
abbrev pub Absent : List ℕ → List (List ℕ) → Type 0
Absent w [] = Unit {0}
Absent w (n ∷ ns) = (w ≢ n) × Absent w ns

-- no name stands twice
abbrev pub Differ : List (List ℕ) → Type 0
Differ [] = Unit {0}
Differ (n ∷ ns) = Absent n ns × Differ ns

abbrev pub variable_names : List Variable → List (List ℕ)
variable_names vs = map (λ v. v.name) vs

abbrev pub function_names : List Function → List (List ℕ)
function_names fs = map (λ f. f.name) fs

abbrev pub step_count : List Function → ℕ
step_count [] = 0
step_count (f ∷ fs) = length f.steps + step_count fs

pub record IsGood (c : Contract) : Type 0 where
  pub typed : IsTyped c
  pub distinct : Differ (variable_names c.variables ++ function_names c.functions)
  pub few_variables : length c.variables ≤ MAX_VARIABLES
  pub few_functions : length c.functions ≤ MAX_FUNCTIONS
  pub few_steps : step_count c.functions ≤ MAX_STATEMENTS

-- the tree of a text is that of a contract of the language
pub record IsFirst (text : List ℕ) (f : File) (c : Contract) : Type 0 where
  pub tree : IsFileOf text c f
  pub good : IsGood c

-- what reading says: that the tree is the contract's, or that it is no contract's
abbrev pub Reads : List ℕ → File → Result Contract ReadFault → Type 0
Reads text f (Ok c) = IsFirst text f c
Reads text f (Err fault.NoMemory) = Unit {0}
Reads text f (Err fault.NotBuilt) = (c : Contract) → IsFirst text f c → ⊥
