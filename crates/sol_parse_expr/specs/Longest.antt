-- The longest expression that begins at a token and stays within the most levels that a tree may have.
use Rattle.std.specs.Prelude.{ℕ, ◌+◌, ◌-◌, ◌≤◌, List, take, drop, length, Result, Ok, Err}
use Rattle.chc_nums.specs.declared.limits.TheConstants.{MAX_LEVELS}
use Rattle.sol_tree.specs.declared.token.Token.{Token}
use Rattle.sol_tree.specs.declared.expr.ExprTree as tree
use Rattle.sol_parse_expr.specs.declared.fault.ParseFault.{ParseFault}
use Rattle.sol_parse_expr.specs.declared.fault.ParseFault.TheVariants as fault
use Rattle.sol_parse_expr.specs.Grammar.{Spells}
use Rattle.sol_parse_expr.specs.Heights.{height}
use Rattle.sol_parse_expr.specs.Place.{IsPlace}

-- the tokens from one place up to another spell the tree, and it fits under the most levels where its outermost node has this one
pub record Stands (ts : List Token) (from level : ℕ) (e : tree.ExprTree) (to : ℕ) : Type 0 where
  pub forward : from ≤ to
  pub inside : to ≤ length ts
  pub spells : Spells 10 e (take (to - from) (drop from ts))
  pub low : height e + level ≤ MAX_LEVELS + 1

-- no expression that begins there reaches further
abbrev pub Longest : List Token → ℕ → ℕ → ℕ → Type 0
Longest ts from level to = (e : tree.ExprTree) (further : ℕ) → Stands ts from level e further → further ≤ to

-- what parsing gives
abbrev pub Finds : Result (tree.ExprTree × ℕ) ParseFault → List Token → ℕ → ℕ → Type 0
Finds (Ok x) ts from level = Stands ts from level x.0 x.1 × Longest ts from level x.1
Finds (Err fault.NoMemory) ts from level = Unit {0}
Finds (Err (fault.NoTree at)) ts from level = ((e : tree.ExprTree) (to : ℕ) → Stands ts from level e to → ⊥) × IsPlace at ts
