use Rattle.std.proofs.Common.{sym, subst}
use Rattle.sol_names.specs.Schedule.{IsSchedule}
use Rattle.sol_names.proofs.linearize.linearized.Goals as goal

pub linearized_by-requires-clause-unit : goal.linearized_by-requires-clause-unit
linearized_by-requires-clause-unit c =
    let found : IsSchedule c.args.graph.now c.args.unit c.in-Some.schedule.items = rw c.in-Some.is at c.in_ok-schedule.ensures in
    found.within

pub linearized_by-requires-clause-schedule : goal.linearized_by-requires-clause-schedule
linearized_by-requires-clause-schedule c =
    let found : IsSchedule c.args.graph.now c.args.unit c.in-Some.schedule.items = rw c.in-Some.is at c.in_ok-schedule.ensures in
    subst (IsSchedule c.args.graph.now c.args.unit) (sym c.as_slice.ensures.value) found
