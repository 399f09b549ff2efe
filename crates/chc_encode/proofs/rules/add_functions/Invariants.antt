use Rattle.std.proofs.Common.{◌≡◌, ◌++◌, length, map, drop}
use Rattle.chc_encode.specs.Systems.{rule_of, queries_of}
use Rattle.chc_encode.proofs.rules.add_functions.Given as goal

abbrev pub invariant-loop-function : goal.invariant-loop-function
invariant-loop-function l = record {
  rules : l.rules ++ map (rule_of l.variables) (drop l.function-index l.functions) ≡ l.initial.rules ++ map (rule_of l.variables) l.functions;
  queries : l.queries ++ queries_of l.variables (length l.queries) (drop l.function-index l.functions) ≡ l.initial.queries ++ queries_of l.variables (length l.initial.queries) l.functions;
}
