-- The program of a contract of the first language.
use Rattle.std.specs.Prelude.{ℕ, ◌+◌, List, [], ◌∷◌, ◌++◌, length, map, Some, None, true, false, ◌==◌, if◌then◌else◌}
use Rattle.std.specs.List.{range_with_len}
use lib.IntN.{ℤ}
use Rattle.chc_nums.specs.declared.Ty.{Ty}
use Rattle.chc_nums.specs.declared.Ty.TheVariants as ty
use Rattle.chc_nums.specs.declared.Op.{Op}
use Rattle.chc_nums.specs.declared.Op.TheVariants as op
use Rattle.sol_core.specs.declared.Kind.TheVariants as kind
use Rattle.sol_core.specs.declared.Cmp.{Cmp}
use Rattle.sol_core.specs.declared.Cmp.TheVariants as cmp
use Rattle.sol_core.specs.declared.Site.{Site}
use Rattle.sol_core.specs.declared.PanicSites.{PanicSites}
use Rattle.sol_core.specs.declared.Expr.{Expr, Num, Scalar, Arith, Compare, Cast}
use Rattle.sol_core.specs.declared.Place.TheVariants as place
use Rattle.sol_core.specs.declared.Stmt.{Stmt, Set, Require, Assert}
use Rattle.sol_core.specs.declared.Fun.{Fun}
use Rattle.sol_core.specs.declared.Program.{Program}
use Rattle.sol_first.specs.declared.contract.Variable.{Variable}
use Rattle.sol_first.specs.declared.contract.Order.{Order}
use Rattle.sol_first.specs.declared.contract.Order.TheVariants as order
use Rattle.sol_first.specs.declared.contract.Step.{Step}
use Rattle.sol_first.specs.declared.contract.Step.TheVariants as step
use Rattle.sol_first.specs.declared.contract.Function.{Function}
use Rattle.sol_first.specs.declared.contract.Contract.{Contract}
use Rattle.sol_first.specs.Typed.{size_at}

abbrev pub type_at : List Variable → ℕ → Ty
type_at vars i = ty.Uint (size_at vars i)

-- the targets of a step, at most one
abbrev pub sites_of_step : Step → List Site
sites_of_step (step.Require i o n) = []
sites_of_step (step.Assert l c i o n) = (record { kind = kind.Assert; line = l; col = c }) ∷ []
sites_of_step (step.Put to n) = []
sites_of_step (step.Move to from) = []
sites_of_step (step.Add l c to from n) = (record { kind = kind.Overflow; line = l; col = c }) ∷ []
sites_of_step (step.Subtract l c to from n) = (record { kind = kind.Underflow; line = l; col = c }) ∷ []

abbrev pub sites_of_steps : List Step → List Site
sites_of_steps [] = []
sites_of_steps (s ∷ ss) = sites_of_step s ++ sites_of_steps ss

abbrev pub sites_of : List Function → List Site
sites_of [] = []
sites_of (f ∷ fs) = sites_of_steps f.steps ++ sites_of fs

abbrev pub cmp_of : Order → Cmp
cmp_of order.Less = cmp.Lt
cmp_of order.LessEqual = cmp.Le
cmp_of order.Greater = cmp.Gt
cmp_of order.GreaterEqual = cmp.Ge

-- a variable compared with a number of its type
abbrev pub condition : List Variable → ℕ → Order → ℤ → Expr
condition vars i o n = Compare (cmp_of o) (Scalar i) (Num n (type_at vars i))

-- an expression of one variable's type where another's is wanted: each conversion to another type is a `Cast`
abbrev pub converted : List Variable → ℕ → ℕ → Expr → Expr
converted vars from to e = if size_at vars from == size_at vars to then e else Cast (type_at vars from) (type_at vars to) e

abbrev pub over_site : ℕ → PanicSites
over_site site = record { under = None; over = Some site; zero = None }

abbrev pub under_site : ℕ → PanicSites
under_site site = record { under = Some site; over = None; zero = None }

-- a variable and a number of its type, added or subtracted with a check
abbrev pub shifted : List Variable → Op → ℕ → ℤ → PanicSites → Expr
shifted vars o from n panics = Arith o (type_at vars from) true (Scalar from) (Num n (type_at vars from)) panics

-- the statement of a step; its target, if it has one, is the one of this number
abbrev pub stmt_of : List Variable → ℕ → Step → Stmt
stmt_of vars site (step.Require i o n) = Require (condition vars i o n)
stmt_of vars site (step.Assert l c i o n) = Assert (condition vars i o n) site
stmt_of vars site (step.Put to n) = Set (place.Scalar to) (Num n (type_at vars to))
stmt_of vars site (step.Move to from) = Set (place.Scalar to) (converted vars from to (Scalar from))
stmt_of vars site (step.Add l c to from n) = Set (place.Scalar to) (converted vars from to (shifted vars op.Add from n (over_site site)))
stmt_of vars site (step.Subtract l c to from n) = Set (place.Scalar to) (converted vars from to (shifted vars op.Sub from n (under_site site)))

-- the statements of steps, whose targets are numbered in order from a first one on
abbrev pub stmts_of : List Variable → ℕ → List Step → List Stmt
stmts_of vars first [] = []
stmts_of vars first (s ∷ ss) = stmt_of vars first s ∷ stmts_of vars (first + length (sites_of_step s)) ss

abbrev pub fun_of : List Variable → ℕ → Function → Fun
fun_of vars first f = record { name = f.name; params = 0; locals = []; ret = None; view = false; body = stmts_of vars first f.steps }

abbrev pub funs_of : List Variable → ℕ → List Function → List Fun
funs_of vars first [] = []
funs_of vars first (f ∷ fs) = fun_of vars first f ∷ funs_of vars (first + length (sites_of_steps f.steps)) fs

-- every function is public, and there is no initialiser and no constructor
abbrev pub program_of : Contract → Program
program_of c = record {
  name = c.name;
  scalars = map (λ v. ty.Uint v.size) c.variables;
  maps = [];
  arrays = [];
  funs = funs_of c.variables 0 c.functions;
  outs = [];
  params = [];
  builds = (record { inits = []; fun = None; args = [] }) ∷ [];
  doors = range_with_len 0 (length c.functions);
  sites = sites_of c.functions;
}
