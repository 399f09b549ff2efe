-- What the rules of a contract say of its program.
use Rattle.std.proofs.Common.{◌≡◌, ◌∙◌, ◌+◌, arith, true}
use Rattle.chc_form.specs.WellMade.{well_made}
use Rattle.chc_form.proofs.Deriving.{derived-not_refuted}
use Rattle.sol_first.specs.declared.Contract.{Contract}
use Rattle.sol_first.specs.Typed.{IsTyped}
use Rattle.sol_first.specs.Elaborated.{program_of}
use Rattle.chc_encode.specs.Systems.{queries_of, system_of}
use Rattle.chc_encode.specs.Sound.{Sound, Exact, Asks}
use Rattle.chc_encode.proofs.Runs.{violated-derivable}
use Rattle.chc_encode.proofs.Queries.{queries-count}
use Rattle.chc_encode.proofs.Made.{queries-made, made-at}
use Rattle.chc_encode.proofs.Reaches.{derivable-violated}

pub sound : (c : Contract) → IsTyped c → well_made (system_of c) ≡ true → Sound (system_of c) (program_of c)
sound c typed made lemmas all solves t refutes x fits n violates = derived-not_refuted (system_of c) t lemmas made all (violated-derivable c typed t x n violates) solves refutes

pub exact : (c : Contract) → IsTyped c → Exact (system_of c) (program_of c)
exact c typed = record { scripts = derivable-violated c typed; derivations = λ t x n fits violates. violated-derivable c typed t x n violates }

pub asks : (c : Contract) → Asks (system_of c) (program_of c)
asks c = record {
  count = queries-count c.variables 0 c.functions;
  targets = λ k q e. let n : 0 + k ≡ k = omega arith in (made-at c.variables 0 k (queries_of c.variables 0 c.functions) q (queries-made c.variables 0 c.functions) e).number ∙ n;
}
