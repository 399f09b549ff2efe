-- The path through the statements of a function, as linear inequalities. The row variables are the state variables at
-- entry, and then one per assignment; a variable's range is its sort. The rows are what the statements say, in order.
use Rattle.std.specs.Prelude.{ℕ, List, [], ◌∷◌, ◌++◌, length, Option, Some, None, slice_get, slice_set, unwrap_or, map, pos, ◌+ℤ◌, ◌-ℤ◌, neg_ℤ}
use Rattle.std.specs.List.{range_with_len}
use lib.IntN.{ℤ, negsuc}
use Rattle.chc_nums.specs.declared.Ty.TheVariants as ty
use Rattle.chc_nums.specs.Types.{greatest}
use Rattle.chc_form.specs.declared.Row.{Row}
use Rattle.chc_form.specs.declared.Sort.{Sort}
use Rattle.chc_form.specs.declared.Sort.TheVariants as sort
use Rattle.sol_first.specs.declared.Variable.{Variable}
use Rattle.sol_first.specs.declared.Order.{Order}
use Rattle.sol_first.specs.declared.Order.TheVariants as order
use Rattle.sol_first.specs.declared.Step.{Step}
use Rattle.sol_first.specs.declared.Step.TheVariants as step
use Rattle.sol_first.specs.Typed.{size_at}
use Rattle.sol_first.specs.Elaborated.{type_at}
use Rattle.chc_encode.specs.declared.path.Path.{Path}

-- the greatest value of a state variable
abbrev pub most : List Variable → ℕ → ℤ
most vars i = greatest (ty.Uint (size_at vars i))

-- x + k <= 0, k - x <= 0, x - y + k <= 0: a sum's variables ascend, so the two of the last are given lesser first
abbrev pub plus : ℕ → ℤ → Row
plus x k = record { lin = record { terms = (x, pos 1) ∷ []; konst = k } }

abbrev pub minus : ℕ → ℤ → Row
minus x k = record { lin = record { terms = (x, negsuc 0) ∷ []; konst = k } }

abbrev pub plus_minus : ℕ → ℕ → ℤ → Row
plus_minus x y k = record { lin = record { terms = (x, pos 1) ∷ (y, negsuc 0) ∷ []; konst = k } }

abbrev pub minus_plus : ℕ → ℕ → ℤ → Row
minus_plus x y k = record { lin = record { terms = (x, negsuc 0) ∷ (y, pos 1) ∷ []; konst = k } }

-- a variable from 0 to a greatest value, the lower bound first
abbrev pub within : ℕ → ℤ → List Row
within x g = minus x (pos 0) ∷ plus x (neg_ℤ g) ∷ []

-- a variable that is less than a number, and so on
abbrev pub holds : Order → ℕ → ℤ → Row
holds order.Less x n = plus x (pos 1 -ℤ n)
holds order.LessEqual x n = plus x (neg_ℤ n)
holds order.Greater x n = minus x (n +ℤ pos 1)
holds order.GreaterEqual x n = minus x n

abbrev pub opposite : Order → Order
opposite order.Less = order.GreaterEqual
opposite order.LessEqual = order.Greater
opposite order.Greater = order.LessEqual
opposite order.GreaterEqual = order.Less

-- the row variable that holds a state variable now
abbrev pub now_at : Path → ℕ → ℕ
now_at p i = unwrap_or (slice_get p.current i) 0

-- the number of the next row variable
abbrev pub next_at : Path → ℕ
next_at p = length p.sorts

abbrev pub sorts_of : List Variable → List Sort
sorts_of vars = map (λ v. sort.Whole (ty.Uint v.size)) vars

-- at entry each state variable is held by the row variable of its own number, and nothing is said yet
abbrev pub entry : List Variable → Path
entry vars = record { rows = []; sorts = sorts_of vars; current = range_with_len 0 (length vars) }

-- a state variable gets a new row variable of its type, of which these rows speak
abbrev pub assigned : List Variable → Path → ℕ → List Row → Path
assigned vars p to more = record { rows = p.rows ++ more; sorts = p.sorts ++ sort.Whole (type_at vars to) ∷ []; current = slice_set p.current to (next_at p) }

-- the path after a statement. An assignment has two inequalities: the assigned value is at most the new variable, and
-- the new variable is at most the assigned value. A sum or a difference lies in the type of the variable read.
abbrev pub after : List Variable → Step → Path → Path
after vars (step.Require i o n) p = record p { rows = p.rows ++ holds o (now_at p i) n ∷ [] }
after vars (step.Assert l c i o n) p = record p { rows = p.rows ++ holds o (now_at p i) n ∷ [] }
after vars (step.Put to n) p = assigned vars p to (minus (next_at p) n ∷ plus (next_at p) (neg_ℤ n) ∷ [])
after vars (step.Move to from) p = assigned vars p to (plus_minus (now_at p from) (next_at p) (pos 0) ∷ minus_plus (now_at p from) (next_at p) (pos 0) ∷ [])
after vars (step.Add l c to from n) p = assigned vars p to (plus_minus (now_at p from) (next_at p) n ∷ minus_plus (now_at p from) (next_at p) (neg_ℤ n) ∷ within (next_at p) (most vars from))
after vars (step.Subtract l c to from n) p = assigned vars p to (plus_minus (now_at p from) (next_at p) (neg_ℤ n) ∷ minus_plus (now_at p from) (next_at p) n ∷ within (next_at p) (most vars from))

-- the path after statements
abbrev pub after_all : List Variable → List Step → Path → Path
after_all vars [] p = p
after_all vars (s ∷ ss) p = after_all vars ss (after vars s p)

-- the row of a statement's own target: the opposite comparison of an assertion; a sum above the greatest value of the
-- type of the variable read; a difference below 0
abbrev pub target : List Variable → Step → Path → Option Row
target vars (step.Require i o n) p = None
target vars (step.Assert l c i o n) p = Some (holds (opposite o) (now_at p i) n)
target vars (step.Put to n) p = None
target vars (step.Move to from) p = None
target vars (step.Add l c to from n) p = Some (minus (now_at p from) ((most vars from +ℤ pos 1) -ℤ n))
target vars (step.Subtract l c to from n) p = Some (plus (now_at p from) (pos 1 -ℤ n))
