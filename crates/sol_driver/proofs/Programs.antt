-- The program of a contract of the first language can be replayed.
use Rattle.std.proofs.Common.{◌≡◌, refl, ap, ◌∙◌, ℕ, ◌<◌, ◌^◌, List, [], ◌∷◌, length, true, ◌+◌}
use Rattle.std.specs.List.{list_all}
use Rattle.std.proofs.lemmas.List.FromFn.{length-range_with_len}
use Rattle.std.proofs.lemmas.Bool.{and_from}
use Rattle.sol_core.specs.Values.{is_type}
use Rattle.sol_core.specs.Doors.{params_of}
use Rattle.sol_core.specs.Formed.{are_params}
use Rattle.sol_eval.specs.Sized.{is_sized}
use Rattle.sol_first.specs.declared.Contract.{Contract}
use Rattle.sol_first.specs.declared.Function.{Function}
use Rattle.sol_first.specs.declared.Variable.{Variable}
use Rattle.sol_first.specs.Typed.{IsTyped}
use Rattle.sol_first.specs.Elaborated.{sites_of_steps, funs_of, program_of}
use Rattle.sol_check.proofs.Sizes.{program_sized}

-- no function has parameters
functions-params : (vs : List Variable) (first : ℕ) (fs : List Function) → list_all (λ f. list_all is_type (params_of f)) (funs_of vs first fs) ≡ true
functions-params vs first [] = refl
functions-params vs first (f ∷ fs) = functions-params vs (first + length (sites_of_steps f.steps)) fs

pub program_params : (c : Contract) → are_params (program_of c) ≡ true
program_params c = functions-params c.variables 0 c.functions

pub program_doors : (c : Contract) → length c.functions < 2 ^ 32 → length (program_of c).doors < 2 ^ 32
program_doors c h = rw (length-range_with_len 0 (length c.functions)) h

pub ruleset programs = (program_sized, program_params, program_doors)
