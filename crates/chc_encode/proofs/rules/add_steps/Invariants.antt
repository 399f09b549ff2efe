use Rattle.std.proofs.Common.{◌≡◌, ◌++◌, length, drop}
use Rattle.chc_encode.specs.PathRows.{after_all}
use Rattle.chc_encode.specs.Systems.{queries_of_steps}
use Rattle.chc_encode.proofs.rules.add_steps.Given as goal

abbrev pub invariant-loop-step : goal.invariant-loop-step
invariant-loop-step l = record {
  path : after_all l.variables (drop l.step-index l.steps) l.path ≡ after_all l.variables l.steps l.initial.path;
  queries : l.queries ++ queries_of_steps l.variables (length l.queries) (drop l.step-index l.steps) l.path ≡ l.initial.queries ++ queries_of_steps l.variables (length l.initial.queries) l.steps l.initial.path;
}
