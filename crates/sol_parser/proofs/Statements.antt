-- What is known of reading blocks, arguments and initial values.
use Rattle.std.proofs.Common.{◌≡◌, refl, ℕ, ◌≤◌, List, ◌∷◌, ◌++◌, Option, Some, None, codes}
use Rattle.sol_tree.specs.declared.token.Token.{Token}
use Rattle.sol_tree.specs.declared.expr.Initial.{Initial}
use Rattle.sol_parse_expr.specs.Grammar.{IsMark}
use Rattle.sol_parse_expr.proofs.After.{Holds, Front, Read}
use Rattle.sol_parse_expr.proofs.Binding.{ends-mark, no_more-semicolon}
use Rattle.sol_parse_stmt.specs.Grammar.{MayInitial, SpellsArguments, SpellsBlock}
use Rattle.sol_parse_stmt.specs.Heights.{arguments_height, initial_height, block_height}
use Rattle.sol_parse_stmt.specs.Reading.{block_at, arguments_at, may_initial_at}
use Rattle.sol_parse_stmt.proofs.Laws.{block-read, arguments-read, initial-read, initial-all}
use Rattle.sol_parse_expr.proofs.First.{mark-mark}
use Rattle.sol_parser.proofs.SoundLists.{Sound}

from-read : {A : Type 0} (height_of : A → ℕ) (P : A → List Token → Type 0) (d : ℕ) (ts : List Token) (r : Option (A × ℕ × List Token)) → ((a : A) (h : ℕ) (rest : List Token) → ◌≡◌ {A = Option (A × ℕ × List Token)} r (Some (a, h, rest)) → (us : List Token) × P a us × (ts ≡ us ++ rest) × (height_of a ≡ h) × (h ≤ d)) → Holds (Front (Read height_of P d)) ts r
from-read height_of P d ts None f = tt
from-read height_of P d ts (Some x) f = let g = f x.0 x.1 x.2 refl in (g.0, record { spells = g.1; height = g.3; low = g.4 }, g.2)

pub sound-block : (d : ℕ) → Sound block_height SpellsBlock d (block_at d)
sound-block d ts = from-read block_height SpellsBlock d ts (block_at d ts) (block-read d ts)

pub sound-arguments : (d : ℕ) → Sound arguments_height SpellsArguments d (arguments_at d)
sound-arguments d ts = from-read arguments_height SpellsArguments d ts (arguments_at d ts) (arguments-read d ts)

pub sound-initial : (d : ℕ) → Sound initial_height MayInitial d (may_initial_at d)
sound-initial d ts = from-read initial_height MayInitial d ts (may_initial_at d ts) (initial-read d ts)

-- an initial value, or none, before a `;`
pub initial-closed : (i : Option Initial) (us : List Token) → MayInitial i us → (d : ℕ) → initial_height i ≤ d → (c : Token) (rest : List Token) → IsMark (codes ";") c → may_initial_at d (us ++ (c ∷ rest)) ≡ Some (i, initial_height i, c ∷ rest)
initial-closed i us p d low c rest ic = initial-all p d low (c ∷ rest) (ends-mark (codes ";") c rest no_more-semicolon ic) (mark-mark (codes "=") (codes ";") (c ∷ rest) refl (c, rest, ic, refl))
