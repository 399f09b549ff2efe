-- Which contracts of the first language are well typed.
use Rattle.std.specs.Prelude.{ℕ, ◌<◌, ◌≤◌, List, length, Option, Some, None, slice_get}
use Rattle.std.specs.List.{All}
use lib.IntN.{ℤ}
use Rattle.chc_nums.specs.declared.Ty.TheVariants as ty
use Rattle.chc_nums.specs.Types.{IsSize, InRange}
use Rattle.sol_first.specs.declared.contract.Variable.{Variable}
use Rattle.sol_first.specs.declared.contract.Step.{Step}
use Rattle.sol_first.specs.declared.contract.Step.TheVariants as step
use Rattle.sol_first.specs.declared.contract.Contract.{Contract}

abbrev pub size_of : Option Variable → ℕ
size_of None = 0
size_of (Some v) = v.size

-- a variable's size in bytes
abbrev pub size_at : List Variable → ℕ → ℕ
size_at vars i = size_of (slice_get vars i)

-- a number is a value of the variable's type
abbrev pub IsValue : List Variable → ℕ → ℤ → Type 0
IsValue vars i n = InRange (ty.Uint (size_at vars i)) n

abbrev pub IsDeclared : List Variable → ℕ → Type 0
IsDeclared vars i = i < length vars

-- the variables are there; a number is a value of the variable that it is compared with, added to or assigned to; and
-- the variable assigned is at least as wide as the one read
abbrev pub StepTyped : List Variable → Step → Type 0
StepTyped vars (step.Require i o n) = IsDeclared vars i × IsValue vars i n
StepTyped vars (step.Assert l c i o n) = IsDeclared vars i × IsValue vars i n
StepTyped vars (step.Put to n) = IsDeclared vars to × IsValue vars to n
StepTyped vars (step.Move to from) = IsDeclared vars to × IsDeclared vars from × (size_at vars from ≤ size_at vars to)
StepTyped vars (step.Add l c to from n) = IsDeclared vars to × IsDeclared vars from × (size_at vars from ≤ size_at vars to) × IsValue vars from n
StepTyped vars (step.Subtract l c to from n) = IsDeclared vars to × IsDeclared vars from × (size_at vars from ≤ size_at vars to) × IsValue vars from n

pub record IsTyped (c : Contract) : Type 0 where
  pub sizes : All (λ v. IsSize v.size) c.variables
  pub steps : All (λ f. All (StepTyped c.variables) f.steps) c.functions
