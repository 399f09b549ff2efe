-- What is read is spelled by the tokens in front, and has the levels that are told.
use Rattle.std.proofs.Common.{◌≡◌, ℕ, ◌≤◌, List, ◌++◌, Option, Some, map}
use Rattle.sol_tree.specs.declared.token.Token.{Token}
use Rattle.sol_tree.specs.declared.types.Type as types
use Rattle.sol_tree.specs.declared.expr.ExprTree as tree
use Rattle.sol_parse_expr.specs.Grammar.{SpellsType, Spells, SpellsAll}
use Rattle.sol_parse_expr.specs.Heights.{type_height, height, greatest}
use Rattle.sol_parse_expr.specs.Reading.{type_at, expr_at, all_at}
use Rattle.sol_parse_expr.proofs.After.{Holds, Front, Read}
use Rattle.sol_parse_expr.proofs.SoundTypes.{sound-type}
use Rattle.sol_parse_expr.proofs.SoundExprs.{Reads, ReadAll, sound-expr, sound-all}

-- a fact of all that is read is a fact of what was read
pub read : {A : Type 0} (P : List Token → A → ℕ → List Token → Type 0) (ts : List Token) (r : Option (A × ℕ × List Token)) (a : A) (h : ℕ) (rest : List Token) → r ≡ Some (a, h, rest) → Holds P ts r → P ts a h rest
read P ts r a h rest e g = rw e at g

pub type-read : (d : ℕ) (ts : List Token) (t : types.Type) (h : ℕ) (rest : List Token) → type_at d ts ≡ Some (t, h, rest) → (us : List Token) × SpellsType t us × (ts ≡ us ++ rest) × (type_height t ≡ h) × (h ≤ d)
type-read d ts t h rest e = let f = read (Front (Read type_height SpellsType d)) ts (type_at d ts) t h rest e (sound-type d ts) in (f.0, f.1.spells, f.2, f.1.height, f.1.low)

pub expr-read : (d l : ℕ) → l ≤ 10 → (ts : List Token) (e : tree.ExprTree) (h : ℕ) (rest : List Token) → expr_at d l ts ≡ Some (e, h, rest) → (us : List Token) × Spells l e us × (ts ≡ us ++ rest) × (height e ≡ h) × (h ≤ d)
expr-read d l low ts x h rest e = let f = read (Front (Reads l d)) ts (expr_at d l ts) x h rest e (sound-expr d l low ts) in (f.0, f.1.spells, f.2, f.1.height, f.1.low)

pub args-read : (d : ℕ) (ts : List Token) (es : List tree.ExprTree) (h : ℕ) (rest : List Token) → all_at (expr_at d) ts ≡ Some (es, h, rest) → (us : List Token) × SpellsAll es us × (ts ≡ us ++ rest) × (greatest (map height es) ≡ h) × (h ≤ d)
args-read d ts es h rest e = let f = read (Front (ReadAll d)) ts (all_at (expr_at d) ts) es h rest e (sound-all d (expr_at d) (sound-expr d) ts) in (f.0, f.1.spells, f.2, f.1.height, f.1.low)
