-- Reading gives what the grammar says, and all of it.
use Rattle.std.proofs.Common.{◌≡◌, ℕ, ◌≤◌, List, ◌++◌, Option, Some, None, codes}
use Rattle.sol_tree.specs.declared.token.Token.{Token}
use Rattle.sol_tree.specs.declared.expr.Arguments.{Arguments}
use Rattle.sol_tree.specs.declared.expr.Initial.{Initial}
use Rattle.sol_tree.specs.declared.stmt.Block.{Block}
use Rattle.sol_parse_expr.specs.Ends.{Ends}
use Rattle.sol_parse_expr.specs.Reading.{mark_at}
use Rattle.sol_parse_expr.proofs.After.{Front}
use Rattle.sol_parse_expr.proofs.Read.{read}
use Rattle.sol_parse_stmt.specs.Grammar.{MayInitial, SpellsArguments, SpellsBlock}
use Rattle.sol_parse_stmt.specs.Heights.{initial_height, arguments_height, block_height}
use Rattle.sol_parse_stmt.specs.Reading.{may_initial_at, arguments_at, block_at}
use Rattle.sol_parse_stmt.proofs.Sound.{ReadInitial, ReadArguments, sound-may_initial, sound-arguments}
use Rattle.sol_parse_stmt.proofs.SoundStmts.{ReadBlock, sound-block}
use Rattle.sol_parse_stmt.proofs.WholeParts.{whole-initial, whole-arguments}
pub use Rattle.sol_parse_stmt.proofs.WholeStmts.{block-all}

pub initial-read : (d : ℕ) (ts : List Token) (i : Option Initial) (h : ℕ) (rest : List Token) → may_initial_at d ts ≡ Some (i, h, rest) → (us : List Token) × MayInitial i us × (ts ≡ us ++ rest) × (initial_height i ≡ h) × (h ≤ d)
initial-read d ts i h rest e = let f = read (Front (ReadInitial d)) ts (may_initial_at d ts) i h rest e (sound-may_initial d ts) in (f.0, f.1.spells, f.2, f.1.height, f.1.low)

pub arguments-read : (d : ℕ) (ts : List Token) (a : Arguments) (h : ℕ) (rest : List Token) → arguments_at d ts ≡ Some (a, h, rest) → (us : List Token) × SpellsArguments a us × (ts ≡ us ++ rest) × (arguments_height a ≡ h) × (h ≤ d)
arguments-read d ts a h rest e = let f = read (Front (ReadArguments d)) ts (arguments_at d ts) a h rest e (sound-arguments d ts) in (f.0, f.1.spells, f.2, f.1.height, f.1.low)

pub block-read : (d : ℕ) (ts : List Token) (b : Block) (h : ℕ) (rest : List Token) → block_at d ts ≡ Some (b, h, rest) → (us : List Token) × SpellsBlock b us × (ts ≡ us ++ rest) × (block_height b ≡ h) × (h ≤ d)
block-read d ts b h rest e = let f = read (Front (ReadBlock d)) ts (block_at d ts) b h rest e (sound-block d ts) in (f.0, f.1.spells, f.2, f.1.height, f.1.low)

pub initial-all : {i : Option Initial} {us : List Token} → MayInitial i us → (d : ℕ) → initial_height i ≤ d → (rest : List Token) → Ends rest → mark_at (codes "=") rest ≡ None → may_initial_at d (us ++ rest) ≡ Some (i, initial_height i, rest)
initial-all {i} {us} p d low rest s e = whole-initial d i us p low rest s e

pub arguments-all : {a : Arguments} {us : List Token} → SpellsArguments a us → (d : ℕ) → arguments_height a ≤ d → (rest : List Token) → arguments_at d (us ++ rest) ≡ Some (a, arguments_height a, rest)
arguments-all {a} {us} p d low rest = whole-arguments d a us p low rest
