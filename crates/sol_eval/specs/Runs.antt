-- What a computed run has of a run: its state, whether it was cut, and the targets that it hit, in ascending order, each once.
use Rattle.std.specs.Prelude.{◌≡◌, ◌↔◌, ℕ}
use Rattle.std.specs.List.{Contains}
use Rattle.std.specs.List.Sorted.{IsStrictlyIncreasing}
use Rattle.sol_meaning.specs.Run.{Outcome}
use Rattle.sol_eval.specs.declared.outcome.Run.{Run}

pub record IsRun (o : Outcome) (r : Run) : Type 0 where
  pub state : r.state ≡ o.state
  pub cut : r.cut ≡ o.cut
  pub ascending : IsStrictlyIncreasing r.hits
  pub sites : (t : ℕ) → Contains r.hits t ↔ Contains o.hits t
