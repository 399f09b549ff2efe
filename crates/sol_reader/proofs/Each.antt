-- A fact of each entry, and the sizes of variables.
use Rattle.std.proofs.Common.{ℕ, zero, suc, ◌<◌, List, [], ◌∷◌, length, arith}
use Rattle.std.specs.List.{All}
use Rattle.std.proofs.lemmas.List.Elements.{All-nil, All-cons, All-head, All-tail}
use Rattle.chc_nums.specs.Types.{IsSize}
use Rattle.sol_first.specs.declared.contract.Variable.{Variable}
use Rattle.sol_first.specs.Typed.{size_at}

pub ruleset each = (All-nil, All-cons, All-head, All-tail)

pub size-is : (vs : List Variable) (i : ℕ) → All (λ v. IsSize v.size) vs → i < length vs → IsSize (size_at vs i)
size-is [] i a l = absurd (omega arith)
size-is (v ∷ vs) zero a l = All-head (λ v. IsSize v.size) v vs a
size-is (v ∷ vs) (suc i) a l = size-is vs i (All-tail (λ v. IsSize v.size) v vs a) (omega arith)

pub ruleset sizes = (size-is)
