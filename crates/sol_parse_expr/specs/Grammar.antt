-- Which tokens spell which types and expressions.
use Rattle.std.specs.Prelude.{◌≡◌, ◌≤◌, ◌<◌, ℕ, suc, Bool, true, List, [], ◌∷◌, ◌++◌, Option, Some, None, codes}
use lib.IntN.{ℤ}
use Rattle.chc_nums.specs.declared.typed.Ty.{Ty}
use Rattle.sol_tree.specs.declared.token.Token.{Token}
use Rattle.sol_tree.specs.declared.token.TokenKind.TheVariants as kind
use Rattle.sol_tree.specs.declared.types.Identifier.{Identifier}
use Rattle.sol_tree.specs.declared.types.Type as types
use Rattle.sol_tree.specs.declared.expr.NumberUnit.{NumberUnit}
use Rattle.sol_tree.specs.declared.expr.BinaryOp.{BinaryOp}
use Rattle.sol_tree.specs.declared.expr.BinaryOp.TheVariants as operator
use Rattle.sol_tree.specs.declared.expr.ExprTree as tree
use Rattle.sol_tree.specs.Words.{elementary_type, number_unit, operator_of, is_name}
use Rattle.sol_tree.specs.Places.{place_of, type_place_of}
use Rattle.sol_tree.specs.Precedence.{precedence}

-- the token is this mark, this word, a name, an elementary type, a unit, or an operator between two operands
abbrev pub IsMark : List ℕ → Token → Type 0
IsMark m t = t.kind ≡ kind.Mark m

abbrev pub IsWord : List ℕ → Token → Type 0
IsWord w t = t.kind ≡ kind.Word w

pub record IsName (n : List ℕ) (t : Token) : Type 0 where
  pub word : IsWord n t
  pub free : is_name n ≡ true

pub record IsElementary (ty : Ty) (t : Token) : Type 0 where
  pub text : List ℕ
  pub word : IsWord text t
  pub named : elementary_type text ≡ Some ty

pub record IsUnit (u : NumberUnit) (t : Token) : Type 0 where
  pub text : List ℕ
  pub word : IsWord text t
  pub named : number_unit text ≡ Some u

pub record IsOperator (o : BinaryOp) (t : Token) : Type 0 where
  pub text : List ℕ
  pub mark : IsMark text t
  pub named : operator_of text ≡ Some o

abbrev pub named_by : List ℕ → Token → Identifier
named_by n t = record { at = t.at; name = n }

-- `[ID]`
pub data MayName : Option Identifier → List Token → Type 0 where
  unnamed : MayName None []
  named : {n : List ℕ} (t : Token) → IsName n t → MayName (Some (named_by n t)) (t ∷ [])

-- a type
pub data SpellsType : types.Type → List Token → Type 0 where
  elementary : {ty : Ty} (t : Token) → IsElementary ty t → SpellsType (types.Elementary t.at ty) (t ∷ [])
  named : {n : List ℕ} (t : Token) → IsName n t → SpellsType (types.Named t.at n) (t ∷ [])
  array : {e : types.Type} {ts : List Token} (o c : Token) → SpellsType e ts → IsMark (codes "[") o → IsMark (codes "]") c → SpellsType (types.Array (type_place_of e) e) (ts ++ (o ∷ (c ∷ [])))
  mapping : {k v : types.Type} {i j : Option Identifier} (w o a c : Token) {ks is vs js : List Token} → IsWord (codes "mapping") w → IsMark (codes "(") o → SpellsType k ks → MayName i is → IsMark (codes "=>") a → SpellsType v vs → MayName j js → IsMark (codes ")") c → SpellsType (types.Mapping w.at k i v j) (w ∷ (o ∷ (ks ++ (is ++ (a ∷ (vs ++ (js ++ (c ∷ []))))))))

-- `[unit]`
pub data MayUnit : Option NumberUnit → List Token → Type 0 where
  plain : MayUnit None []
  scaled : {u : NumberUnit} (t : Token) → IsUnit u t → MayUnit (Some u) (t ∷ [])

mutual
  -- an expression of one of the ten precedences, from what binds most tightly (1) to what binds most loosely (10)
  pub data Spells : ℕ → tree.ExprTree → List Token → Type 0 where
    tighter : {l : ℕ} {e : tree.ExprTree} {ts : List Token} → 1 ≤ l → l < 10 → Spells l e ts → Spells (suc l) e ts
    -- precedence 1
    number : {z : ℤ} {h : Bool} {u : Option NumberUnit} (t : Token) {us : List Token} → t.kind ≡ kind.Number z h → MayUnit u us → Spells 1 (tree.Number t.at z h u) (t ∷ us)
    truth : (t : Token) → IsWord (codes "true") t → Spells 1 (tree.True t.at) (t ∷ [])
    falsehood : (t : Token) → IsWord (codes "false") t → Spells 1 (tree.False t.at) (t ∷ [])
    named : {n : List ℕ} (t : Token) → IsName n t → Spells 1 (tree.Named t.at n) (t ∷ [])
    parenthesised : {e : tree.ExprTree} (o c : Token) {ts : List Token} → IsMark (codes "(") o → Spells 10 e ts → IsMark (codes ")") c → Spells 1 (tree.Parenthesised o.at e) (o ∷ (ts ++ (c ∷ [])))
    conversion : {e : tree.ExprTree} {ty : Ty} (t o c : Token) {ts : List Token} → IsElementary ty t → IsMark (codes "(") o → Spells 10 e ts → IsMark (codes ")") c → Spells 1 (tree.Conversion t.at ty o.at e) (t ∷ (o ∷ (ts ++ (c ∷ []))))
    of_type : {ty : types.Type} {n : List ℕ} (w o c d m : Token) {ts : List Token} → IsWord (codes "type") w → IsMark (codes "(") o → SpellsType ty ts → IsMark (codes ")") c → IsMark (codes ".") d → IsName n m → Spells 1 (tree.TypeMember w.at ty (named_by n m)) (w ∷ (o ∷ (ts ++ (c ∷ (d ∷ (m ∷ []))))))
    of_message : {n : List ℕ} (w d m : Token) → IsWord (codes "msg") w → IsMark (codes ".") d → IsName n m → Spells 1 (tree.MessageMember w.at (named_by n m)) (w ∷ (d ∷ (m ∷ [])))
    of_super : {n : List ℕ} (w d m : Token) → IsWord (codes "super") w → IsMark (codes ".") d → IsName n m → Spells 1 (tree.SuperMember w.at (named_by n m)) (w ∷ (d ∷ (m ∷ [])))
    index : {a i : tree.ExprTree} (o c : Token) {ts us : List Token} → Spells 1 a ts → IsMark (codes "[") o → Spells 10 i us → IsMark (codes "]") c → Spells 1 (tree.Index (place_of a) a o.at i) (ts ++ (o ∷ (us ++ (c ∷ []))))
    member : {a : tree.ExprTree} {n : List ℕ} (d m : Token) {ts : List Token} → Spells 1 a ts → IsMark (codes ".") d → IsName n m → Spells 1 (tree.Member (place_of a) a (named_by n m)) (ts ++ (d ∷ (m ∷ [])))
    call : {a : tree.ExprTree} {es : List tree.ExprTree} (o c : Token) {ts us : List Token} → Spells 1 a ts → IsMark (codes "(") o → SpellsAll es us → IsMark (codes ")") c → Spells 1 (tree.Call (place_of a) a o.at es) (ts ++ (o ∷ (us ++ (c ∷ []))))
    -- precedence 2
    opposite : {e : tree.ExprTree} (t : Token) {ts : List Token} → IsMark (codes "!") t → Spells 2 e ts → Spells 2 (tree.Not t.at e) (t ∷ ts)
    negation : {e : tree.ExprTree} (t : Token) {ts : List Token} → IsMark (codes "-") t → Spells 2 e ts → Spells 2 (tree.Negation t.at e) (t ∷ ts)
    -- precedence 3, to the right
    power : {a b : tree.ExprTree} (t : Token) {ts us : List Token} → Spells 2 a ts → IsOperator operator.Power t → Spells 3 b us → Spells 3 (tree.Binary (place_of a) a t.at operator.Power b) (ts ++ (t ∷ us))
    -- precedences 4 to 9, to the left
    grouped : {l : ℕ} {o : BinaryOp} {a b : tree.ExprTree} (t : Token) {ts us : List Token} → 3 ≤ l → precedence o ≡ suc l → Spells (suc l) a ts → IsOperator o t → Spells l b us → Spells (suc l) (tree.Binary (place_of a) a t.at o b) (ts ++ (t ∷ us))
    -- precedence 10, to the right
    choice : {a b c : tree.ExprTree} (q s : Token) {ts us vs : List Token} → Spells 9 c ts → IsMark (codes "?") q → Spells 10 a us → IsMark (codes ":") s → Spells 10 b vs → Spells 10 (tree.Choice (place_of c) c q.at a b) (ts ++ (q ∷ (us ++ (s ∷ vs))))

  -- `[args]`
  pub data SpellsAll : List tree.ExprTree → List Token → Type 0 where
    nothing : SpellsAll [] []
    some : {e : tree.ExprTree} {es : List tree.ExprTree} {ts us : List Token} → Spells 10 e ts → SpellsMore es us → SpellsAll (e ∷ es) (ts ++ us)

  -- `{ , expr }`
  pub data SpellsMore : List tree.ExprTree → List Token → Type 0 where
    ended : SpellsMore [] []
    another : {e : tree.ExprTree} {es : List tree.ExprTree} (t : Token) {ts us : List Token} → IsMark (codes ",") t → Spells 10 e ts → SpellsMore es us → SpellsMore (e ∷ es) (t ∷ (ts ++ us))
