-- The names of the kinds of targets, as the SMTChecker of the Solidity compiler names its targets.
use Rattle.std.specs.Prelude.{ℕ, List, codes}
use Rattle.sol_core.specs.declared.program.Kind.{Kind}
use Rattle.sol_core.specs.declared.program.Kind.TheVariants as kind

abbrev pub kind_word : Kind → List ℕ
kind_word kind.Assert = codes "assert"
kind_word kind.Underflow = codes "underflow"
kind_word kind.Overflow = codes "overflow"
kind_word kind.DivByZero = codes "divByZero"
kind_word kind.OutOfBounds = codes "outOfBounds"
kind_word kind.PopEmptyArray = codes "popEmptyArray"
