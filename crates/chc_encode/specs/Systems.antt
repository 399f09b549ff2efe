-- The Horn rules of a contract. One predicate, number 0, says which values the state variables may have between calls:
-- zeros at first, and then what a function makes of values that they may have. A query for each target says that some
-- such values lead to its violation.
use Rattle.std.specs.Prelude.{ℕ, suc, ◌+◌, List, [], ◌∷◌, ◌++◌, length, map, option_map, option_to_list, pos}
use Rattle.std.specs.List.{range_with_len}
use Rattle.chc_form.specs.declared.Row.{Row}
use Rattle.chc_form.specs.declared.Con.{Con}
use Rattle.chc_form.specs.declared.Con.TheVariants as con
use Rattle.chc_form.specs.declared.App.{App}
use Rattle.chc_form.specs.declared.Rule.{Rule}
use Rattle.chc_form.specs.declared.Query.{Query}
use Rattle.chc_form.specs.declared.System.{System}
use Rattle.sol_first.specs.declared.Variable.{Variable}
use Rattle.sol_first.specs.declared.Step.{Step}
use Rattle.sol_first.specs.declared.Function.{Function}
use Rattle.sol_first.specs.declared.Contract.{Contract}
use Rattle.sol_first.specs.Elaborated.{sites_of_step, sites_of_steps}
use Rattle.chc_encode.specs.declared.path.Path.{Path}
use Rattle.chc_encode.specs.PathRows.{plus, minus, sorts_of, entry, after, after_all, target}

-- the predicate at the values at entry
abbrev pub at_entry : List Variable → App
at_entry vars = record { pred = 0; args = range_with_len 0 (length vars) }

abbrev pub cons_of : List Row → List Con
cons_of rows = map (λ r. con.Le r.lin) rows

-- each variable is at most 0, and at least 0
abbrev pub zeros_from : ℕ → List Variable → List Con
zeros_from i [] = []
zeros_from i (v ∷ vs) = con.Le (plus i (pos 0)).lin ∷ con.Le (minus i (pos 0)).lin ∷ zeros_from (suc i) vs

-- after deployment all are zeros
abbrev pub zero_rule : List Variable → Rule
zero_rule vars = record { vars = sorts_of vars; body = []; cons = zeros_from 0 vars; head = at_entry vars }

-- at the end of a path the variables have its current values
abbrev pub rule_at : List Variable → Path → Rule
rule_at vars p = record { vars = p.sorts; body = at_entry vars ∷ []; cons = cons_of p.rows; head = record { pred = 0; args = p.current } }

-- a call of a function that comes to its end
abbrev pub rule_of : List Variable → Function → Rule
rule_of vars f = rule_at vars (after_all vars f.steps (entry vars))

-- the target of this number is violated after a path, where its own row is true
abbrev pub query_at : List Variable → Path → ℕ → Row → Query
query_at vars p t r = record { vars = p.sorts; body = at_entry vars ∷ []; cons = cons_of (p.rows ++ r ∷ []); target = t }

-- the query of a statement's own target, if it has one
abbrev pub own_query : List Variable → ℕ → Step → Path → List Query
own_query vars t s p = option_to_list (option_map (query_at vars p t) (target vars s p))

-- the queries of statements, whose targets are numbered in order from a first one on
abbrev pub queries_of_steps : List Variable → ℕ → List Step → Path → List Query
queries_of_steps vars t [] p = []
queries_of_steps vars t (s ∷ ss) p = own_query vars t s p ++ queries_of_steps vars (t + length (sites_of_step s)) ss (after vars s p)

abbrev pub queries_of : List Variable → ℕ → List Function → List Query
queries_of vars t [] = []
queries_of vars t (f ∷ fs) = queries_of_steps vars t f.steps (entry vars) ++ queries_of vars (t + length (sites_of_steps f.steps)) fs

abbrev pub system_of : Contract → System
system_of c = record {
  preds = sorts_of c.variables ∷ [];
  rules = zero_rule c.variables ∷ map (rule_of c.variables) c.functions;
  queries = queries_of c.variables 0 c.functions;
}
