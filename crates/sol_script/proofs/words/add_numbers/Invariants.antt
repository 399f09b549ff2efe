use Rattle.std.proofs.Common.{◌≡◌, drop}
use Rattle.std.specs.Prelude.{string_bytes}
use Rattle.sol_script.specs.ScriptText.{with_numbers}
use Rattle.sol_script.proofs.words.add_numbers.Given as goal

abbrev pub invariant-loop-n : goal.invariant-loop-n
invariant-loop-n l = with_numbers (string_bytes l.text) (drop l.n-index l.numbers) ≡ with_numbers (string_bytes l.fn.text) l.fn.numbers
