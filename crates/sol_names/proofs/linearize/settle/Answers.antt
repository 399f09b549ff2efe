use Rattle.std.proofs.Common.{sym, refl}
use Rattle.std.proofs.lemmas.Option.{slice_get_within}
use Rattle.sol_names.proofs.Settling.{settles-none, bases-below}
use Rattle.sol_names.proofs.linearize.settle.Goals as goal

pub settle_with-requires-clause-bases_below : goal.settle_with-requires-clause-bases_below
settle_with-requires-clause-bases_below c = bases-below c.args.graph.now c.args.unit _ c.in-Some.bases.now refl c.requires.below (sym c.in-Some.ensures)

pub settle_with-requires-clause-unit : goal.settle_with-requires-clause-unit
settle_with-requires-clause-unit c = slice_get_within c.args.graph.now c.args.unit c.in-Some.bases.now (sym c.in-Some.ensures)

pub returns-in-None-clause-settles : goal.returns-in-None-clause-settles
returns-in-None-clause-settles c = settles-none c.args.graph.now c.args.used.now c.args.orders.now c.args.orders.now c.args.unit (sym c.in-None.ensures)
