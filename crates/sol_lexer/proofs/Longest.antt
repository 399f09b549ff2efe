-- The longest punctuator that stands at the head of a text.
use Rattle.std.proofs.Common.{◌≡◌, ℕ, ◌≤◌, true, List, [], ◌∷◌, length, arith}
use Rattle.sol_lexer.specs.Bytes.{begins_with}
use Rattle.sol_lexer.specs.Reading.{longest}

pub begins_with-length : (m t : List ℕ) → begins_with m t ≡ true → length m ≤ length t
begins_with-length [] t h = omega arith
begins_with-length (c ∷ m) [] h = absurd (cc)
begins_with-length (c ∷ m) (b ∷ t) h = grind (arith, begins_with-length m t)

pub longest-length : (ms : List (List ℕ)) (t : List ℕ) → longest ms t ≤ length t
longest-length [] t = omega arith
longest-length (m ∷ ms) t = grind (arith, begins_with-length m t, longest-length ms t)

pub ruleset lengths = (longest-length)
