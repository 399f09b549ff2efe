-- Reading gives what the grammar says, and all of it.
use Rattle.std.proofs.Common.{◌≡◌, ◌∙◌, sym, ap, refl, ℕ, ◌≤◌, max, List, [], ◌∷◌, ◌++◌, map, Option, Some, None, codes, arith}
use Rattle.sol_tree.specs.declared.token.Token.{Token}
use Rattle.sol_tree.specs.declared.types.Type as types
use Rattle.sol_tree.specs.declared.expr.ExprTree as tree
use Rattle.sol_parse_expr.specs.Grammar.{IsMark, SpellsType, Spells, SpellsAll}
use Rattle.sol_parse_expr.specs.Heights.{type_height, height, greatest}
use Rattle.sol_parse_expr.specs.Ends.{Ends}
use Rattle.sol_parse_expr.specs.Reading.{mark_at, brackets_at, expr_at, all_at}
use Rattle.sol_parse_expr.proofs.Binding.{ends-binds}
use Rattle.sol_parse_expr.proofs.Grown.{exact}
use Rattle.sol_parse_expr.proofs.AllExprs.{positive, done-expr, done-args}
pub use Rattle.sol_parse_expr.proofs.AllTypes.{type-all}
pub use Rattle.sol_parse_expr.proofs.Read.{type-read, expr-read, args-read}

pub expr-all : {e : tree.ExprTree} {us : List Token} → Spells 10 e us → (d : ℕ) → height e ≤ d → (rest : List Token) → Ends rest → expr_at d 10 (us ++ rest) ≡ Some (e, height e, rest)
expr-all {e} {us} s d low rest q = exact 10 e us (done-expr s) (positive s) d low rest (ends-binds rest q)

pub args-all : {es : List tree.ExprTree} {us : List Token} → SpellsAll es us → (d : ℕ) → greatest (map height es) ≤ d → (c : Token) (rest : List Token) → IsMark (codes ")") c → all_at (expr_at d) (us ++ (c ∷ rest)) ≡ Some (es, greatest (map height es), c ∷ rest)
args-all s d low c rest m = done-args s d low c rest m

-- ---- one tree

same-expr : (e f : tree.ExprTree) (h n : ℕ) (ts : List Token) → ◌≡◌ {A = Option (tree.ExprTree × ℕ × List Token)} (Some (e, h, ts)) (Some (f, n, ts)) → e ≡ f
same-expr e f h n ts q =
    let i : ◌≡◌ {A = tree.ExprTree × ℕ × List Token} (e, h, ts) (f, n, ts) = cc in
    ap (λ (p : tree.ExprTree × ℕ × List Token). p.0) i

pub one-expression : (e f : tree.ExprTree) (ts : List Token) → Spells 10 e ts → Spells 10 f ts → e ≡ f
one-expression e f ts s t =
    let d : ℕ = max (height e) (height f) in
    same-expr e f (height e) (height f) [] (sym (expr-all s d (omega arith) [] tt) ∙ expr-all t d (omega arith) [] tt)

same-type : (t u : types.Type) (h n : ℕ) (ts : List Token) → ◌≡◌ {A = Option (types.Type × ℕ × List Token)} (Some (t, h, ts)) (Some (u, n, ts)) → t ≡ u
same-type t u h n ts q =
    let i : ◌≡◌ {A = types.Type × ℕ × List Token} (t, h, ts) (u, n, ts) = cc in
    ap (λ (p : types.Type × ℕ × List Token). p.0) i

no-end : brackets_at [] ≡ None
unfolding brackets_at mark_at
no-end = refl

pub one-type : (t u : types.Type) (ts : List Token) → SpellsType t ts → SpellsType u ts → t ≡ u
one-type t u ts s r =
    let d : ℕ = max (type_height t) (type_height u) in
    same-type t u (type_height t) (type_height u) [] (sym (type-all s d (omega arith) [] no-end) ∙ type-all r d (omega arith) [] no-end)

pub ruleset uniqueness = (one-expression, one-type)
