-- A fault in one of two parts is a fault of both.
use Rattle.std.proofs.Common.{ℕ, List, [], ◌∷◌, ◌++◌, inl, inr}
use Rattle.sol_judged.specs.declared.rules.Rule.{Rule}
use Rattle.sol_judged.specs.declared.fault.TypeFault.{TypeFault}
use Rattle.sol_judged.specs.declared.fault.TypeFault.TheVariants as fault
use Rattle.sol_judged.specs.Judged.{Among, IsFault}

pub Among-front : (f : Rule × ℕ) (xs ys : List (Rule × ℕ)) → Among f xs → Among f (xs ++ ys)
Among-front f [] ys h = absurd h
Among-front f (x ∷ xs) ys h = elim h [ inl e ↦ inl e | inr m ↦ inr (Among-front f xs ys m) ]

pub IsFault-front : (e : TypeFault) (xs ys : List (Rule × ℕ)) → IsFault xs e → IsFault (xs ++ ys) e
IsFault-front (fault.Broken rule at) xs ys h = Among-front (rule, at) xs ys h
IsFault-front fault.NoMemory xs ys h = tt

pub ruleset faults = (IsFault-front)
