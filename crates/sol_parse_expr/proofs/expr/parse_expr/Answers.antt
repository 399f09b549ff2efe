-- What is read at a place is found there, and nothing is found where nothing is read.
use Rattle.std.proofs.Common.{◌≡◌, ◌-◌, drop, Some, None}
use Rattle.std.proofs.lemmas.List.{take_rest}
use Rattle.sol_parse_expr.specs.Reading.{expr_at}
use Rattle.sol_parse_expr.proofs.Finding.{found-fewer, found-stands, found-longest, found-none}
use Rattle.sol_parse_expr.proofs.expr.parse_expr.Goals as goal
use Rattle.sol_parse_expr.proofs.expr.parse_expr.Goals.{In-Some}

read : (c : In-Some) → expr_at (129 - c.args.level) 10 (drop c.args.from c.args.tokens.now) ≡ Some (c.in-Some.tree, c.in-Some.field-0-1, c.in-Some.after.now)
read c = rw (take_rest c.args.tokens.now c.args.from, c.in-Some.is) at c.in_ok-tree.ensures.read

pub returns-in_default : goal.returns-in_default
returns-in_default c =
    let none : expr_at (129 - c.args.level) 10 (drop c.args.from c.args.tokens.now) ≡ None = rw (take_rest c.args.tokens.now c.args.from, c.in_default.is) at c.in_ok-tree.ensures.read in
    (found-none c.args.tokens.now c.args.from c.args.level c.requires.levels_left.1 none, c.place.ensures)

pub overflow_sub-result : goal.overflow_sub-result
overflow_sub-result c = found-fewer c.args.tokens.now c.args.from (129 - c.args.level) c.in-Some.tree c.in-Some.field-0-1 c.in-Some.after.now (read c)

pub returns : goal.returns
returns c = (found-stands c.args.tokens.now c.args.from c.args.level c.in-Some.tree c.in-Some.field-0-1 c.in-Some.after.now c.requires.within c.requires.levels_left.1 (read c), found-longest c.args.tokens.now c.args.from c.args.level c.in-Some.tree c.in-Some.field-0-1 c.in-Some.after.now c.requires.levels_left.1 (read c))
