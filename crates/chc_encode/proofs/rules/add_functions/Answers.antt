use Rattle.std.proofs.Common.{◌≡◌, ◌++◌, ◌∷◌, ◌+◌, length, drop, map, arith}
use Rattle.chc_encode.specs.Systems.{rule_of, queries_of}
use Rattle.chc_encode.proofs.Queries.{drop-at, rules-go, queries-go}
use Rattle.chc_encode.proofs.rules.add_functions.Goals as goal

pub loop-function-preserved : goal.loop-function-preserved
loop-function-preserved c =
    let at : drop c.loop-function.function-index c.args.functions.now ≡ c.function-item.result ∷ drop (c.loop-function.function-index + 1) c.args.functions.now =
    drop-at c.args.functions.now c.loop-function.function-index c.function-item.result (omega arith) c.function-item.is in
    record {
      rules = rules-go c.args.variables.now c.args.functions.now c.loop-function.function-index c.function-item.result c.loop-function.rules c.add_function.new.rules (c.args.rules.now ++ map (rule_of c.args.variables.now) c.args.functions.now) at c.in_ok-add_function.ensures.rules c.loop-function.invariant.rules;
      queries = queries-go c.args.variables.now c.args.functions.now c.loop-function.function-index c.function-item.result c.loop-function.queries c.add_function.new.queries (c.args.queries.now ++ queries_of c.args.variables.now (length c.args.queries.now) c.args.functions.now) at c.in_ok-add_function.ensures.queries c.loop-function.invariant.queries;
    }
