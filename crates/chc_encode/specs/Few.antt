-- Whether every list of a rule system has fewer than 2^31 entries.
use Rattle.std.specs.Prelude.{ℕ, ◌+◌, ◌≤◌, List, [], ◌∷◌, length, Bool, ◌&&◌}
use Rattle.std.specs.List.{list_all}
use Rattle.chc_nums.specs.declared.limits.TheConstants.{MAX_FUNCTIONS, MAX_STATEMENTS, MAX_VARIABLES}
use Rattle.chc_form.specs.declared.Rule.{Rule}
use Rattle.chc_form.specs.declared.Query.{Query}
use Rattle.chc_form.specs.declared.System.{System}
use Rattle.chc_form.specs.WellMade.{is_few}
use Rattle.sol_first.specs.declared.Function.{Function}
use Rattle.sol_first.specs.declared.Contract.{Contract}

abbrev pub rule_few : Rule → Bool
rule_few r = is_few r.vars && is_few r.cons

abbrev pub query_few : Query → Bool
query_few q = is_few q.vars && is_few q.cons

-- the rules, the queries, and the variables and constraints of each
unfoldable pub are_few : System → Bool
are_few s = (is_few s.rules && list_all rule_few s.rules) && (is_few s.queries && list_all query_few s.queries)

-- how many statements functions have
abbrev pub statement_count : List Function → ℕ
statement_count [] = 0
statement_count (f ∷ fs) = length f.steps + statement_count fs

-- a contract within the limits of the language
pub record IsWithinLimits (c : Contract) : Type 0 where
  pub variables : length c.variables ≤ MAX_VARIABLES
  pub functions : length c.functions ≤ MAX_FUNCTIONS
  pub statements : statement_count c.functions ≤ MAX_STATEMENTS
