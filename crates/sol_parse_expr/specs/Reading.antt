-- Reading types and expressions, as functions on lists of tokens: what stands in front, how many levels it has, and the tokens after it.
use Rattle.std.specs.Prelude.{◌≡◌, ◌≤◌, ℕ, zero, suc, ◌+◌, ◌-◌, max, List, [], ◌∷◌, ◌++◌, length, Bool, false, nat_eq, nat_lt, Option, Some, None, Result, Ok, Err, if◌then◌else◌, codes}
use lib.IntN.{ℤ}
use denote.Ref.{Bor}
use Rattle.std.specs.Str.{bytes_eq}
use Rattle.chc_nums.specs.declared.typed.Ty.{Ty}
use Rattle.lists.specs.declared.memory.NoMemory.{NoMemory}
use Rattle.sol_tree.specs.declared.token.Token.{Token}
use Rattle.sol_tree.specs.declared.token.TokenKind.{TokenKind}
use Rattle.sol_tree.specs.declared.token.TokenKind.TheVariants as kind
use Rattle.sol_tree.specs.declared.types.Identifier.{Identifier}
use Rattle.sol_tree.specs.declared.types.Type as types
use Rattle.sol_tree.specs.declared.expr.NumberUnit.{NumberUnit}
use Rattle.sol_tree.specs.declared.expr.BinaryOp.{BinaryOp}
use Rattle.sol_tree.specs.declared.expr.ExprTree as tree
use Rattle.sol_tree.specs.Words.{elementary_type, number_unit, operator_of, is_name}
use Rattle.sol_tree.specs.Places.{place_of, type_place_of}
use Rattle.sol_tree.specs.Precedence.{precedence}
use Rattle.sol_parse_expr.specs.declared.types.Entry.{Entry}
use Rattle.sol_parse_expr.specs.declared.nodes.Operand.{Operand}
use Rattle.sol_parse_expr.specs.declared.nodes.Branches.{Branches}
use Rattle.sol_parse_expr.specs.declared.nodes.Suffix.{Suffix}
use Rattle.sol_parse_expr.specs.declared.nodes.Suffix.TheVariants as suffix

-- ---- one token

abbrev pub Reader : Type 0 → Type 0
Reader A = List Token → Option (A × List Token)

abbrev pub if_value : {A B : Type 0} → Option (A × List Token) → (A → List Token → B) → B → B
if_value None go other = other
if_value (Some x) go other = go x.0 x.1

abbrev pub then_value : {A B : Type 0} → Option (A × List Token) → (A → List Token → Option B) → Option B
then_value None go = None
then_value (Some x) go = go x.0 x.1

abbrev pub is_mark : List ℕ → TokenKind → Bool
is_mark m (kind.Word w) = false
is_mark m (kind.Number z h) = false
is_mark m kind.Text = false
is_mark m (kind.Mark n) = bytes_eq n m

abbrev pub is_word : List ℕ → TokenKind → Bool
is_word w (kind.Word v) = bytes_eq v w
is_word w (kind.Number z h) = false
is_word w kind.Text = false
is_word w (kind.Mark n) = false

unfoldable pub mark_at : List ℕ → Reader ℕ
mark_at m [] = None
mark_at m (t ∷ ts) = if is_mark m t.kind then Some (t.at, ts) else None

unfoldable pub word_at : List ℕ → Reader ℕ
word_at w [] = None
word_at w (t ∷ ts) = if is_word w t.kind then Some (t.at, ts) else None

abbrev pub with_rest : {A : Type 0} → Option A → List Token → Option (A × List Token)
with_rest None ts = None
with_rest (Some x) ts = Some (x, ts)

abbrev pub placed : {A : Type 0} → ℕ → Option A → List Token → Option ((ℕ × A) × List Token)
placed at None ts = None
placed at (Some x) ts = Some ((at, x), ts)

abbrev pub type_of : TokenKind → Option Ty
type_of (kind.Word w) = elementary_type w
type_of (kind.Number z h) = None
type_of kind.Text = None
type_of (kind.Mark n) = None

unfoldable pub elementary_at : Reader (ℕ × Ty)
elementary_at [] = None
elementary_at (t ∷ ts) = placed t.at (type_of t.kind) ts

abbrev pub unit_of : TokenKind → Option NumberUnit
unit_of (kind.Word w) = number_unit w
unit_of (kind.Number z h) = None
unit_of kind.Text = None
unit_of (kind.Mark n) = None

unfoldable pub unit_at : Reader NumberUnit
unit_at [] = None
unit_at (t ∷ ts) = with_rest (unit_of t.kind) ts

abbrev pub binary_of : TokenKind → Option BinaryOp
binary_of (kind.Word w) = None
binary_of (kind.Number z h) = None
binary_of kind.Text = None
binary_of (kind.Mark n) = operator_of n

abbrev pub of_precedence : ℕ → Option BinaryOp → Option BinaryOp
of_precedence l None = None
of_precedence l (Some o) = if nat_eq (precedence o) l then Some o else None

unfoldable pub operator_at : ℕ → Reader (ℕ × BinaryOp)
operator_at l [] = None
operator_at l (t ∷ ts) = placed t.at (of_precedence l (binary_of t.kind)) ts

abbrev pub name_of : TokenKind → Option (List ℕ)
name_of (kind.Word w) = if is_name w then Some w else None
name_of (kind.Number z h) = None
name_of kind.Text = None
name_of (kind.Mark n) = None

abbrev pub identified : ℕ → Option (List ℕ) → List Token → Option (Identifier × List Token)
identified at None ts = None
identified at (Some n) ts = Some (record { at = at; name = n }, ts)

unfoldable pub name_at : Reader Identifier
name_at [] = None
name_at (t ∷ ts) = identified t.at (name_of t.kind) ts

-- `[ID]`
unfoldable pub may_name_at : Reader (Option Identifier)
may_name_at ts = if_value (name_at ts) (λ i us. Some (Some i, us)) (Some (None, ts))

-- `[unit]`
unfoldable pub may_unit_at : Reader (Option NumberUnit)
may_unit_at ts = if_value (unit_at ts) (λ u us. Some (Some u, us)) (Some (None, ts))

-- ---- trees

abbrev pub Measured : Type 0 → Type 0
Measured A = List Token → Option (A × ℕ × List Token)

abbrev pub if_tree : {A B : Type 0} → Option (A × ℕ × List Token) → (A → ℕ → List Token → B) → B → B
if_tree None go other = other
if_tree (Some x) go other = go x.0 x.1 x.2

abbrev pub then_tree : {A B : Type 0} → Option (A × ℕ × List Token) → (A → ℕ → List Token → Option B) → Option B
then_tree None go = None
then_tree (Some x) go = go x.0 x.1 x.2

abbrev pub or_tree : {A : Type 0} → Option (A × ℕ × List Token) → Option (A × ℕ × List Token) → Option (A × ℕ × List Token)
or_tree None other = other
or_tree (Some x) other = Some x

-- what is read, and as long as it may be a child of a node (of at most d levels) what goes on with it, k times at most
unfoldable pub grow : {A P : Type 0} → (A → P → A) → ℕ → Measured P → ℕ → A → ℕ → Measured A
grow join d step zero a h ts = Some (a, h, ts)
grow join d step (suc k) a h ts = if nat_lt d h then Some (a, h, ts) else if_tree (step ts) (λ p n rest. grow join d step k (join a p) (max h n + 1) rest) (Some (a, h, ts))

-- ---- types; what stands inside has at most d levels

-- `type [ID]`
unfoldable pub entry_at : Measured types.Type → Measured Entry
entry_at inner ts =
    then_tree (inner ts) (λ t h us.
    then_value (may_name_at us) (λ i rest.
    Some (record { ty = t; name = i }, h, rest)))

unfoldable pub mapping_at : Measured types.Type → Measured types.Type
mapping_at inner ts =
    then_value (word_at (codes "mapping") ts) (λ at t1.
    then_value (mark_at (codes "(") t1) (λ p1 t2.
    then_tree (entry_at inner t2) (λ k h t3.
    then_value (mark_at (codes "=>") t3) (λ p2 t4.
    then_tree (entry_at inner t4) (λ v n t5.
    then_value (mark_at (codes ")") t5) (λ p3 rest.
    Some (types.Mapping at k.ty k.name v.ty v.name, max h n + 1, rest)))))))

unfoldable pub first_type_at : Measured types.Type → Measured types.Type
first_type_at inner ts =
    if_value (elementary_at ts) (λ p us. Some (types.Elementary p.0 p.1, 1, us)) (
    if_value (name_at ts) (λ i us. Some (types.Named i.at i.name, 1, us)) (
    mapping_at inner ts))

-- `[ ]`
unfoldable pub brackets_at : Measured (Unit {0})
brackets_at ts =
    then_value (mark_at (codes "[") ts) (λ p us.
    then_value (mark_at (codes "]") us) (λ q rest.
    Some (tt, 0, rest)))

abbrev pub array_of : types.Type → Unit {0} → types.Type
array_of t u = types.Array (type_place_of t) t

-- a type of at most so many levels
unfoldable pub type_at : ℕ → Measured types.Type
type_at zero ts = None
type_at (suc d) ts = then_tree (first_type_at (type_at d) ts) (λ t h rest. grow array_of d brackets_at (length rest) t h rest)

-- ---- expressions

abbrev pub ByPrecedence : Type 0
ByPrecedence = ℕ → Measured tree.ExprTree

abbrev pub message_of : ℕ → Identifier → tree.ExprTree
message_of at i = tree.MessageMember at i

abbrev pub super_of : ℕ → Identifier → tree.ExprTree
super_of at i = tree.SuperMember at i

-- `. ID`
unfoldable pub member_at : Reader Identifier
member_at ts = then_value (mark_at (codes ".") ts) (λ p us. name_at us)

abbrev pub number_of : TokenKind → Option (ℤ × Bool)
number_of (kind.Word w) = None
number_of (kind.Number z h) = Some (z, h)
number_of kind.Text = None
number_of (kind.Mark n) = None

unfoldable pub number_at : Reader (ℕ × (ℤ × Bool))
number_at [] = None
number_at (t ∷ ts) = placed t.at (number_of t.kind) ts

-- `NUM [unit]`
unfoldable pub scaled_at : Measured tree.ExprTree
scaled_at ts =
    then_value (number_at ts) (λ n us.
    then_value (may_unit_at us) (λ u rest.
    Some (tree.Number n.0 n.1.0 n.1.1 u, 1, rest)))

-- `w . ID`
unfoldable pub member_of_word_at : List ℕ → (ℕ → Identifier → tree.ExprTree) → Measured tree.ExprTree
member_of_word_at w made ts =
    then_value (word_at w ts) (λ at us.
    then_value (member_at us) (λ i rest.
    Some (made at i, 1, rest)))

unfoldable pub word_tree_at : Measured tree.ExprTree
word_tree_at ts =
    if_value (word_at (codes "true") ts) (λ at us. Some (tree.True at, 1, us)) (
    if_value (word_at (codes "false") ts) (λ at us. Some (tree.False at, 1, us)) (
    if_value (name_at ts) (λ i us. Some (tree.Named i.at i.name, 1, us)) None))

-- what has no expression inside
unfoldable pub atom_at : Measured tree.ExprTree
atom_at ts =
    or_tree (scaled_at ts) (
    or_tree (word_tree_at ts) (
    or_tree (member_of_word_at (codes "msg") message_of ts) (
    member_of_word_at (codes "super") super_of ts)))

-- `expr )`
unfoldable pub closed_at : List ℕ → ByPrecedence → Measured tree.ExprTree
closed_at m inner ts =
    then_tree (inner 10 ts) (λ e h us.
    then_value (mark_at m us) (λ p rest.
    Some (e, h, rest)))

unfoldable pub parenthesised_at : ByPrecedence → Measured tree.ExprTree
parenthesised_at inner ts =
    then_value (mark_at (codes "(") ts) (λ at us.
    then_tree (closed_at (codes ")") inner us) (λ e h rest.
    Some (tree.Parenthesised at e, h + 1, rest)))

unfoldable pub conversion_at : ByPrecedence → Measured tree.ExprTree
conversion_at inner ts =
    then_value (elementary_at ts) (λ p us.
    then_value (mark_at (codes "(") us) (λ at vs.
    then_tree (closed_at (codes ")") inner vs) (λ e h rest.
    Some (tree.Conversion p.0 p.1 at e, h + 1, rest))))

unfoldable pub type_member_at : ℕ → Measured tree.ExprTree
type_member_at d ts =
    then_value (word_at (codes "type") ts) (λ at t1.
    then_value (mark_at (codes "(") t1) (λ p t2.
    then_tree (type_at d t2) (λ t h t3.
    then_value (mark_at (codes ")") t3) (λ q t4.
    then_value (member_at t4) (λ i rest.
    Some (tree.TypeMember at t i, h + 1, rest))))))

unfoldable pub primary_at : ℕ → ByPrecedence → Measured tree.ExprTree
primary_at d inner ts =
    or_tree (atom_at ts) (
    or_tree (parenthesised_at inner ts) (
    or_tree (conversion_at inner ts) (
    type_member_at d ts)))

-- `, expr`
unfoldable pub argument_at : ByPrecedence → Measured tree.ExprTree
argument_at inner ts = then_value (mark_at (codes ",") ts) (λ p us. inner 10 us)

-- `{ , expr }`, k at most, after those of es
unfoldable pub arguments_at : ByPrecedence → ℕ → List tree.ExprTree → ℕ → Measured (List tree.ExprTree)
arguments_at inner zero es h ts = Some (es, h, ts)
arguments_at inner (suc k) es h ts = if_tree (argument_at inner ts) (λ e n rest. arguments_at inner k (es ++ (e ∷ [])) (max h n) rest) (Some (es, h, ts))

-- `[args]`
unfoldable pub all_at : ByPrecedence → Measured (List tree.ExprTree)
all_at inner ts = if_tree (inner 10 ts) (λ e h us. arguments_at inner (length us) (e ∷ []) h us) (Some ([], 0, ts))

unfoldable pub index_at : ByPrecedence → Measured Suffix
index_at inner ts =
    then_value (mark_at (codes "[") ts) (λ at us.
    then_tree (closed_at (codes "]") inner us) (λ e h rest.
    Some (suffix.Index at e, h, rest)))

unfoldable pub member_suffix_at : Measured Suffix
member_suffix_at ts = then_value (member_at ts) (λ i rest. Some (suffix.Member i, 0, rest))

unfoldable pub call_at : ByPrecedence → Measured Suffix
call_at inner ts =
    then_value (mark_at (codes "(") ts) (λ at us.
    then_tree (all_at inner us) (λ es h vs.
    then_value (mark_at (codes ")") vs) (λ p rest.
    Some (suffix.Call at es, h, rest))))

-- `[expr]`, `.ID` or `([args])`
unfoldable pub suffix_at : ByPrecedence → Measured Suffix
suffix_at inner ts = or_tree (index_at inner ts) (or_tree (member_suffix_at ts) (call_at inner ts))

abbrev pub suffixed : tree.ExprTree → Suffix → tree.ExprTree
suffixed e (suffix.Index at i) = tree.Index (place_of e) e at i
suffixed e (suffix.Member i) = tree.Member (place_of e) e i
suffixed e (suffix.Call at es) = tree.Call (place_of e) e at es

-- precedence 1
unfoldable pub postfix_at : ℕ → ByPrecedence → Measured tree.ExprTree
postfix_at d inner ts = then_tree (primary_at d inner ts) (λ e h rest. grow suffixed d (suffix_at inner) (length rest) e h rest)

abbrev pub opposite_at : ByPrecedence → ℕ → Measured tree.ExprTree
opposite_at inner at ts = then_tree (inner 2 ts) (λ e h rest. Some (tree.Not at e, h + 1, rest))

abbrev pub negation_at : ByPrecedence → ℕ → Measured tree.ExprTree
negation_at inner at ts = then_tree (inner 2 ts) (λ e h rest. Some (tree.Negation at e, h + 1, rest))

-- precedence 2
unfoldable pub prefix_at : ByPrecedence → Measured tree.ExprTree → Measured tree.ExprTree
prefix_at inner below ts =
    if_value (mark_at (codes "!") ts) (λ at us. opposite_at inner at us) (
    if_value (mark_at (codes "-") ts) (λ at us. negation_at inner at us) (
    below ts))

-- an operator of precedence l, and an operand of precedence r
unfoldable pub operand_at : ℕ → ℕ → ByPrecedence → Measured Operand
operand_at l r inner ts =
    then_value (operator_at l ts) (λ o us.
    then_tree (inner r us) (λ e h rest.
    Some (record { at = o.0; operator = o.1; right = e }, h, rest)))

abbrev pub joined : tree.ExprTree → Operand → tree.ExprTree
joined e o = tree.Binary (place_of e) e o.at o.operator o.right

-- `? expr : expr`
unfoldable pub branches_at : ByPrecedence → Measured Branches
branches_at inner ts =
    then_value (mark_at (codes "?") ts) (λ at t1.
    then_tree (closed_at (codes ":") inner t1) (λ a h t2.
    then_tree (inner 10 t2) (λ b n rest.
    Some (record { at = at; chosen = a; otherwise = b }, max h n, rest))))

abbrev pub chosen : tree.ExprTree → Branches → tree.ExprTree
chosen e b = tree.Choice (place_of e) e b.at b.chosen b.otherwise

-- how an expression of the precedence below goes on at precedence l
unfoldable pub more_at : ℕ → ℕ → ByPrecedence → tree.ExprTree → ℕ → Measured tree.ExprTree
more_at l d inner e h ts =
    if nat_eq l 3 then grow joined d (operand_at 3 3 inner) 1 e h ts else (
    if nat_eq l 10 then grow chosen d (branches_at inner) 1 e h ts else
    grow joined d (operand_at l (l - 1) inner) (length ts) e h ts)

-- precedences 3 to 10
abbrev pub loose : ℕ → ℕ → ByPrecedence → Measured tree.ExprTree → Measured tree.ExprTree
loose l d inner below ts = then_tree (below ts) (λ e h rest. more_at l d inner e h rest)

abbrev pub rung : ℕ → ℕ → ByPrecedence → Measured tree.ExprTree → Measured tree.ExprTree
rung l d inner below ts = if nat_eq l 1 then postfix_at d inner ts else (if nat_eq l 2 then prefix_at inner (postfix_at d inner) ts else loose l d inner below ts)

-- an expression by its precedence
unfoldable pub ladder : ℕ → ByPrecedence → ByPrecedence
ladder d inner zero ts = None
ladder d inner (suc l) ts = rung (suc l) d inner (ladder d inner l) ts

-- an expression of at most so many levels, by its precedence
unfoldable pub expr_at : ℕ → ByPrecedence
expr_at zero l ts = None
expr_at (suc d) l ts = ladder d (expr_at d) l ts

-- ---- what functions give

abbrev pub Reads : {A : Type 0} → Option (A × Bor (List Token)) → Option (A × List Token) → Type 0
Reads None read = read ≡ None
Reads (Some x) read = read ≡ Some (x.0, x.1.now)

abbrev pub GivesValue : {A : Type 0} → Result (Option (A × Bor (List Token))) NoMemory → Option (A × List Token) → Type 0
GivesValue (Ok None) read = read ≡ None
GivesValue (Ok (Some x)) read = read ≡ Some (x.0, x.1.now)
GivesValue (Err e) read = Unit {0}

abbrev pub Gives : {A : Type 0} → Result (Option (A × ℕ × Bor (List Token))) NoMemory → Option (A × ℕ × List Token) → Type 0
Gives (Ok None) read = read ≡ None
Gives (Ok (Some x)) read = read ≡ Some (x.0, x.1, x.2.now)
Gives (Err e) read = Unit {0}

abbrev pub GivesOne : {A : Type 0} → Result (A × ℕ × Bor (List Token)) NoMemory → Option (A × ℕ × List Token) → Type 0
GivesOne (Ok x) read = read ≡ Some (x.0, x.1, x.2.now)
GivesOne (Err e) read = Unit {0}

abbrev pub GivesRest : {A : Type 0} → Result (A × Bor (List Token)) NoMemory → Option (A × List Token) → Type 0
GivesRest (Ok x) read = read ≡ Some (x.0, x.1.now)
GivesRest (Err e) read = Unit {0}

abbrev pub ReadsNothing : Option (Bor (List Token)) → Option (Unit {0} × ℕ × List Token) → Type 0
ReadsNothing None read = read ≡ None
ReadsNothing (Some rest) read = read ≡ Some (tt, 0, rest.now)

abbrev pub ReadsTree : {A : Type 0} → Option (A × ℕ × Bor (List Token)) → Option (A × ℕ × List Token) → Type 0
ReadsTree None read = read ≡ None
ReadsTree (Some x) read = read ≡ Some (x.0, x.1, x.2.now)

-- what was read has at most n levels
abbrev pub Within : {A : Type 0} → ℕ → Result (Option (A × ℕ × Bor (List Token))) NoMemory → Type 0
Within n (Ok None) = Unit {0}
Within n (Ok (Some x)) = x.1 ≤ n
Within n (Err e) = Unit {0}

abbrev pub WithinOne : {A : Type 0} → ℕ → Result (A × ℕ × Bor (List Token)) NoMemory → Type 0
WithinOne n (Ok x) = x.1 ≤ n
WithinOne n (Err e) = Unit {0}

abbrev pub WithinTree : {A : Type 0} → ℕ → Option (A × ℕ × Bor (List Token)) → Type 0
WithinTree n None = Unit {0}
WithinTree n (Some x) = x.1 ≤ n
