-- What begins an expression is read from its tokens.
use Rattle.std.proofs.Common.{◌≡◌, refl, ℕ, ◌+◌, ◌≤◌, List, ◌∷◌, ◌++◌, Bool, false, Option, Some, None, codes}
use Rattle.std.specs.Str.{bytes_eq}
use lib.IntN.{ℤ}
use Rattle.chc_nums.specs.declared.typed.Ty.{Ty}
use Rattle.sol_tree.specs.declared.token.Token.{Token}
use Rattle.sol_tree.specs.declared.token.TokenKind.TheVariants as kind
use Rattle.sol_tree.specs.declared.types.Type as types
use Rattle.sol_tree.specs.declared.expr.NumberUnit.{NumberUnit}
use Rattle.sol_tree.specs.declared.expr.ExprTree as tree
use Rattle.sol_tree.specs.Words.{is_name}
use Rattle.sol_parse_expr.specs.Grammar.{IsMark, IsWord, IsName, IsElementary, named_by, MayUnit, SpellsType}
use Rattle.sol_parse_expr.specs.Heights.{type_height}
use Rattle.sol_parse_expr.specs.Reading.{ByPrecedence, name_of, may_unit_at, unit_at, member_at, scaled_at, member_of_word_at, word_tree_at, atom_at, closed_at, parenthesised_at, conversion_at, type_member_at, type_at, primary_at}
use Rattle.sol_parse_expr.proofs.Tokens.{mark-here, word-here, elementary-here, unit-here, name-here, number-here, mark-not, word-not, elementary-not, name-not, number-not}
use Rattle.sol_parse_expr.proofs.Binding.{name-differs, type-differs, type-no_name}
use Rattle.sol_parse_expr.proofs.Keywords.{keyword}
use Rattle.sol_parse_expr.proofs.AllTypes.{type-all, no-brackets}

-- `. ID`
pub member-stands : (n : List ℕ) (d m : Token) (rest : List Token) → IsMark (codes ".") d → IsName n m → member_at (d ∷ (m ∷ rest)) ≡ Some (named_by n m, rest)
unfolding member_at
member-stands n d m rest h s = rw (mark-here (codes ".") d (m ∷ rest) h, name-here n m rest s) refl

-- ---- what has no expression inside

unit-stands : {u : Option NumberUnit} {us : List Token} → MayUnit u us → (rest : List Token) → unit_at rest ≡ None → may_unit_at (us ++ rest) ≡ Some (u, rest)
unfolding may_unit_at
unit-stands MayUnit.plain rest q = rw q refl
unit-stands (MayUnit.scaled {u} t s) rest q = rw (unit-here u t rest s) refl

pub atom-number : (z : ℤ) (x : Bool) (u : Option NumberUnit) (t : Token) (us : List Token) → t.kind ≡ kind.Number z x → MayUnit u us → (rest : List Token) → unit_at rest ≡ None → atom_at (t ∷ (us ++ rest)) ≡ Some (tree.Number t.at z x u, 1, rest)
unfolding atom_at scaled_at
atom-number z x u t us h s rest q = rw (number-here z x t (us ++ rest) h, unit-stands s rest q) refl

pub atom-true : (t : Token) → IsWord (codes "true") t → (rest : List Token) → atom_at (t ∷ rest) ≡ Some (tree.True t.at, 1, rest)
unfolding atom_at scaled_at word_tree_at
atom-true t h rest = rw (number-not (kind.Word (codes "true")) t rest h refl, word-here (codes "true") t rest h) refl

pub atom-false : (t : Token) → IsWord (codes "false") t → (rest : List Token) → atom_at (t ∷ rest) ≡ Some (tree.False t.at, 1, rest)
unfolding atom_at scaled_at word_tree_at
atom-false t h rest = rw (number-not (kind.Word (codes "false")) t rest h refl, word-not (codes "true") (kind.Word (codes "false")) t rest h refl, word-here (codes "false") t rest h) refl

pub atom-named : (n : List ℕ) (t : Token) → IsName n t → (rest : List Token) → atom_at (t ∷ rest) ≡ Some (tree.Named t.at n, 1, rest)
unfolding atom_at scaled_at word_tree_at
atom-named n t s rest = rw (number-not (kind.Word n) t rest s.word refl, word-not (codes "true") (kind.Word n) t rest s.word (name-differs n (codes "true") s.free (keyword (codes "true") refl).no_name), word-not (codes "false") (kind.Word n) t rest s.word (name-differs n (codes "false") s.free (keyword (codes "false") refl).no_name), name-here n t rest s) refl

no-name : (w : List ℕ) → is_name w ≡ false → name_of (kind.Word w) ≡ None
no-name w h = rw h refl

-- a word that is neither a name nor a truth value is no tree
word-no_tree : (w : List ℕ) (t : Token) (ts : List Token) → IsWord w t → is_name w ≡ false → bytes_eq w (codes "true") ≡ false → bytes_eq w (codes "false") ≡ false → word_tree_at (t ∷ ts) ≡ None
unfolding word_tree_at
word-no_tree w t ts h n x y = rw (word-not (codes "true") (kind.Word w) t ts h x, word-not (codes "false") (kind.Word w) t ts h y, name-not (kind.Word w) t ts h (no-name w n)) refl

pub atom-message : (n : List ℕ) (w d m : Token) → IsWord (codes "msg") w → IsMark (codes ".") d → IsName n m → (rest : List Token) → atom_at (w ∷ (d ∷ (m ∷ rest))) ≡ Some (tree.MessageMember w.at (named_by n m), 1, rest)
unfolding atom_at scaled_at member_of_word_at
atom-message n w d m h i s rest = rw (number-not (kind.Word (codes "msg")) w (d ∷ (m ∷ rest)) h refl, word-no_tree (codes "msg") w (d ∷ (m ∷ rest)) h (keyword (codes "msg") refl).no_name refl refl, word-here (codes "msg") w (d ∷ (m ∷ rest)) h, member-stands n d m rest i s) refl

pub atom-super : (n : List ℕ) (w d m : Token) → IsWord (codes "super") w → IsMark (codes ".") d → IsName n m → (rest : List Token) → atom_at (w ∷ (d ∷ (m ∷ rest))) ≡ Some (tree.SuperMember w.at (named_by n m), 1, rest)
unfolding atom_at scaled_at member_of_word_at
atom-super n w d m h i s rest = rw (number-not (kind.Word (codes "super")) w (d ∷ (m ∷ rest)) h refl, word-no_tree (codes "super") w (d ∷ (m ∷ rest)) h (keyword (codes "super") refl).no_name refl refl, word-not (codes "msg") (kind.Word (codes "super")) w (d ∷ (m ∷ rest)) h refl, word-here (codes "super") w (d ∷ (m ∷ rest)) h, member-stands n d m rest i s) refl

-- ---- what begins with no such thing

pub no_atom-mark : (m : List ℕ) (t : Token) (ts : List Token) → IsMark m t → atom_at (t ∷ ts) ≡ None
unfolding atom_at scaled_at word_tree_at member_of_word_at
no_atom-mark m t ts h = rw (number-not (kind.Mark m) t ts h refl, word-not (codes "true") (kind.Mark m) t ts h refl, word-not (codes "false") (kind.Mark m) t ts h refl, name-not (kind.Mark m) t ts h refl, word-not (codes "msg") (kind.Mark m) t ts h refl, word-not (codes "super") (kind.Mark m) t ts h refl) refl

no_atom-word : (w : List ℕ) (t : Token) (ts : List Token) → IsWord w t → is_name w ≡ false → bytes_eq w (codes "true") ≡ false → bytes_eq w (codes "false") ≡ false → bytes_eq w (codes "msg") ≡ false → bytes_eq w (codes "super") ≡ false → atom_at (t ∷ ts) ≡ None
unfolding atom_at scaled_at member_of_word_at
no_atom-word w t ts h n x y z u = rw (number-not (kind.Word w) t ts h refl, word-no_tree w t ts h n x y, word-not (codes "msg") (kind.Word w) t ts h z, word-not (codes "super") (kind.Word w) t ts h u) refl

pub no_atom-elementary : (ty : Ty) (t : Token) (ts : List Token) → IsElementary ty t → atom_at (t ∷ ts) ≡ None
no_atom-elementary ty t ts s = no_atom-word s.text t ts s.word (type-no_name s.text ty s.named) (type-differs s.text (codes "true") ty s.named (keyword (codes "true") refl).no_type) (type-differs s.text (codes "false") ty s.named (keyword (codes "false") refl).no_type) (type-differs s.text (codes "msg") ty s.named (keyword (codes "msg") refl).no_type) (type-differs s.text (codes "super") ty s.named (keyword (codes "super") refl).no_type)

pub no_atom-type : (t : Token) (ts : List Token) → IsWord (codes "type") t → atom_at (t ∷ ts) ≡ None
no_atom-type t ts h = no_atom-word (codes "type") t ts h (keyword (codes "type") refl).no_name refl refl refl refl

-- ---- all that begins an expression

pub primary-atom : (d : ℕ) (inner : ByPrecedence) (ts : List Token) (e : tree.ExprTree) (h : ℕ) (rest : List Token) → atom_at ts ≡ Some (e, h, rest) → primary_at d inner ts ≡ Some (e, h, rest)
unfolding primary_at
primary-atom d inner ts e h rest q = rw q refl

pub closed-stands : (m : List ℕ) (inner : ByPrecedence) (e : tree.ExprTree) (h : ℕ) (ts : List Token) (c : Token) (rest : List Token) → inner 10 ts ≡ Some (e, h, c ∷ rest) → IsMark m c → closed_at m inner ts ≡ Some (e, h, rest)
unfolding closed_at
closed-stands m inner e h ts c rest q s = rw (q, mark-here m c rest s) refl

pub primary-parenthesised : (d : ℕ) (inner : ByPrecedence) (o : Token) (ts : List Token) (e : tree.ExprTree) (h : ℕ) (rest : List Token) → IsMark (codes "(") o → closed_at (codes ")") inner ts ≡ Some (e, h, rest) → primary_at d inner (o ∷ ts) ≡ Some (tree.Parenthesised o.at e, h + 1, rest)
unfolding primary_at parenthesised_at
primary-parenthesised d inner o ts e h rest s q = rw (no_atom-mark (codes "(") o ts s, mark-here (codes "(") o ts s, q) refl

pub primary-conversion : (d : ℕ) (inner : ByPrecedence) (ty : Ty) (t o : Token) (ts : List Token) (e : tree.ExprTree) (h : ℕ) (rest : List Token) → IsElementary ty t → IsMark (codes "(") o → closed_at (codes ")") inner ts ≡ Some (e, h, rest) → primary_at d inner (t ∷ (o ∷ ts)) ≡ Some (tree.Conversion t.at ty o.at e, h + 1, rest)
unfolding primary_at parenthesised_at conversion_at
primary-conversion d inner ty t o ts e h rest s m q = rw (no_atom-elementary ty t (o ∷ ts) s, mark-not (codes "(") (kind.Word s.text) t (o ∷ ts) s.word refl, elementary-here ty t (o ∷ ts) s, mark-here (codes "(") o ts m, q) refl

type-stands : (d : ℕ) (ty : types.Type) (n : List ℕ) (w o c p m : Token) (ts : List Token) → IsWord (codes "type") w → IsMark (codes "(") o → SpellsType ty ts → type_height ty ≤ d → IsMark (codes ")") c → IsMark (codes ".") p → IsName n m → (rest : List Token) → type_member_at d (w ∷ (o ∷ (ts ++ (c ∷ (p ∷ (m ∷ rest)))))) ≡ Some (tree.TypeMember w.at ty (named_by n m), type_height ty + 1, rest)
unfolding type_member_at
type-stands d ty n w o c p m ts hw ho s low hc hp hm rest =
    let after : List Token = c ∷ (p ∷ (m ∷ rest)) in
    let read : type_at d (ts ++ after) ≡ Some (ty, type_height ty, after) = type-all s d low after (no-brackets (codes ")") c (p ∷ (m ∷ rest)) hc refl) in
    rw (word-here (codes "type") w (o ∷ (ts ++ after)) hw, mark-here (codes "(") o (ts ++ after) ho, read, mark-here (codes ")") c (p ∷ (m ∷ rest)) hc, member-stands n p m rest hp hm) refl

pub primary-type : (d : ℕ) (inner : ByPrecedence) (ty : types.Type) (n : List ℕ) (w o c p m : Token) (ts : List Token) → IsWord (codes "type") w → IsMark (codes "(") o → SpellsType ty ts → type_height ty ≤ d → IsMark (codes ")") c → IsMark (codes ".") p → IsName n m → (rest : List Token) → primary_at d inner (w ∷ (o ∷ (ts ++ (c ∷ (p ∷ (m ∷ rest)))))) ≡ Some (tree.TypeMember w.at ty (named_by n m), type_height ty + 1, rest)
unfolding primary_at parenthesised_at conversion_at
primary-type d inner ty n w o c p m ts hw ho s low hc hp hm rest =
    let all : List Token = o ∷ (ts ++ (c ∷ (p ∷ (m ∷ rest)))) in
    rw (no_atom-type w all hw, mark-not (codes "(") (kind.Word (codes "type")) w all hw refl, elementary-not (kind.Word (codes "type")) w all hw (keyword (codes "type") refl).no_type, type-stands d ty n w o c p m ts hw ho s low hc hp hm rest) refl

-- a closing mark begins nothing
pub no_primary-end : (d : ℕ) (inner : ByPrecedence) (c : Token) (ts : List Token) → IsMark (codes ")") c → primary_at d inner (c ∷ ts) ≡ None
unfolding primary_at parenthesised_at conversion_at type_member_at
no_primary-end d inner c ts h = rw (no_atom-mark (codes ")") c ts h, mark-not (codes "(") (kind.Mark (codes ")")) c ts h refl, elementary-not (kind.Mark (codes ")")) c ts h refl, word-not (codes "type") (kind.Mark (codes ")")) c ts h refl) refl
