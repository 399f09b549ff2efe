-- A text spells at most one list of tokens, and one that spells some has no fault.
use Rattle.std.proofs.Common.{◌≡◌, ℕ, ◌+◌, ◌≤◌, Bool, true, List, [], ◌∷◌, ◌++◌, length, take, drop, Option, Some, None, refl, sym, subst, ap, ◌∙◌, arith, length-append}
use Rattle.std.proofs.Math.Seq.{take-append_seam, drop-append_seam}
use Rattle.sol_tree.specs.declared.token.Token.{Token}
use Rattle.sol_tree.specs.declared.token.TokenKind.{TokenKind}
use Rattle.sol_tree.specs.declared.token.TokenKind.TheVariants as kind
use Rattle.sol_lexer.specs.Bytes.{begins}
use Rattle.sol_lexer.specs.Reading.{cut_of}
use Rattle.sol_lexer.specs.Tokens.{FaultAt, FaultFrom, Piece, TokenizesFrom, token_of}
use Rattle.sol_lexer.specs.Tokens as rule
use Rattle.sol_lexer.specs.declared.lexer.LexFault.{LexFault}
use Rattle.sol_lexer.specs.declared.cut.Cut.{Cut}
use Rattle.sol_lexer.specs.declared.cut.Cut.TheVariants as cut
use Rattle.sol_lexer.proofs.Cuts.{fault-reads, fault_of, made, numeral-begins, piece-reads, unfinished-begins}
use Rattle.sol_lexer.proofs.Punctuators.{mark-some, refused_mark-some}

-- ---- what a piece and a fault tell of the cut

len_of : Cut → ℕ
len_of (cut.Dropped n) = n
len_of (cut.Word n) = n
len_of (cut.Number n z hex) = n
len_of (cut.Text n) = n
len_of (cut.Mark n) = n
len_of (cut.BadByte n) = 0
len_of cut.OpenComment = 0
len_of cut.OpenText = 0
len_of cut.WideNumber = 0
len_of (cut.Refused n) = 0

kind_by : List ℕ → Cut → Option TokenKind
kind_by p (cut.Dropped n) = None
kind_by p (cut.Word n) = Some (kind.Word p)
kind_by p (cut.Number n z hex) = Some (kind.Number z hex)
kind_by p (cut.Text n) = Some kind.Text
kind_by p (cut.Mark n) = Some (kind.Mark p)
kind_by p (cut.BadByte n) = None
kind_by p cut.OpenComment = None
kind_by p cut.OpenText = None
kind_by p cut.WideNumber = None
kind_by p (cut.Refused n) = None

made-len : (n : ℕ) (k : Option TokenKind) → len_of (made n k) ≡ n
unfolding len_of
made-len n None = refl
made-len n (Some (kind.Word w)) = refl
made-len n (Some (kind.Number z hex)) = refl
made-len n (Some kind.Text) = refl
made-len n (Some (kind.Mark m)) = refl

made-fault : (at n : ℕ) (k : Option TokenKind) → fault_of at (made n k) ≡ None
made-fault at n None = refl
made-fault at n (Some (kind.Word w)) = refl
made-fault at n (Some (kind.Number z hex)) = refl
made-fault at n (Some kind.Text) = refl
made-fault at n (Some (kind.Mark m)) = refl

made-kind : {p rest : List ℕ} {k : Option TokenKind} → Piece p rest k → (n : ℕ) → kind_by p (made n k) ≡ k
unfolding kind_by
made-kind (rule.blank h) n = refl
made-kind (rule.line_comment e h) n = refl
made-kind (rule.block_comment s h) n = refl
made-kind (rule.pragma s e h) n = refl
made-kind (rule.word i m h) n = refl
made-kind (rule.number i h l r) n = refl
made-kind (rule.quoted h i) n = refl
made-kind (rule.mark h i) n = refl

piece-len : {p rest : List ℕ} {k : Option TokenKind} → Piece p rest k → len_of (cut_of (p ++ rest)) ≡ length p
piece-len {p} {rest} {k} x = ap len_of (piece-reads x) ∙ made-len (length p) k

piece-kind : {p rest : List ℕ} {k : Option TokenKind} → Piece p rest k → kind_by p (cut_of (p ++ rest)) ≡ k
piece-kind {p} {rest} {k} x = ap (kind_by p) (piece-reads x) ∙ made-kind x (length p)

piece-no_fault : {p rest : List ℕ} {k : Option TokenKind} → Piece p rest k → (at : ℕ) → fault_of at (cut_of (p ++ rest)) ≡ None
piece-no_fault {p} {rest} {k} x at = ap (fault_of at) (piece-reads x) ∙ made-fault at (length p) k

-- a piece has a byte, and so has a text with a fault

begins-some : (class : ℕ → Bool) (s : List ℕ) → begins class s ≡ true → 1 ≤ length s
begins-some class [] h = absurd (cc)
begins-some class (b ∷ s) h = omega arith

pub piece-some : {p rest : List ℕ} {k : Option TokenKind} → Piece p rest k → 1 ≤ length p
piece-some (rule.blank h) = omega arith
piece-some (rule.line_comment e h) = omega arith
piece-some (rule.block_comment s h) = omega arith
piece-some (rule.pragma s e h) = omega arith
piece-some (rule.word {w} i n h) = begins-some _ w i.start
piece-some (rule.number {n} {s} i h l r) = begins-some _ s (numeral-begins i)
piece-some (rule.quoted h i) = omega arith
piece-some (rule.mark {m} h i) = mark-some m h

fault-some : {at : ℕ} {t : List ℕ} {f : LexFault} → FaultAt at t f → 1 ≤ length t
fault-some (rule.open_comment n) = omega arith
fault-some (rule.open_pragma e h) = omega arith
fault-some (rule.refused_word {at} {w} {rest} i h) = omega (arith, length-append w rest, begins-some _ w i.start)
fault-some (rule.missing_digit {at} {s} rest i h) = omega (arith, length-append s rest, begins-some _ s (unfinished-begins i))
fault-some (rule.wide_number {at} {n} {s} rest i h l) = omega (arith, length-append s rest, begins-some _ s (numeral-begins i))
fault-some (rule.number_runs_on {at} {n} {s} rest i h l r) = omega (arith, length-append s rest, begins-some _ s (numeral-begins i))
fault-some (rule.open_text h i r) = omega arith
fault-some (rule.refused_mark {at} {m} {rest} k h i) = omega (arith, length-append m rest, refused_mark-some m h)
fault-some (rule.bad_byte i) = omega arith

-- ---- two cuts of one text are the same

front-same : (p rest q r : List ℕ) → p ++ rest ≡ q ++ r → length p ≡ length q → p ≡ q
front-same p rest q r e l = sym (take-append_seam p rest) ∙ ap (λ (n : ℕ). take n (p ++ rest)) l ∙ ap (λ (x : List ℕ). take (length q) x) e ∙ take-append_seam q r

rest-same : (p rest q r : List ℕ) → p ++ rest ≡ q ++ r → length p ≡ length q → rest ≡ r
rest-same p rest q r e l = sym (drop-append_seam p rest) ∙ ap (λ (n : ℕ). drop n (p ++ rest)) l ∙ ap (λ (x : List ℕ). drop (length q) x) e ∙ drop-append_seam q r

len-same : {p rest q r : List ℕ} {k j : Option TokenKind} → Piece p rest k → Piece q r j → p ++ rest ≡ q ++ r → length p ≡ length q
len-same x y e = sym (piece-len x) ∙ ap (λ (t : List ℕ). len_of (cut_of t)) e ∙ piece-len y

kind-same : {p rest q r : List ℕ} {k j : Option TokenKind} → Piece p rest k → Piece q r j → p ++ rest ≡ q ++ r → k ≡ j
kind-same {p} {rest} {q} {r} x y e = sym (piece-kind x) ∙ ap (λ (s : List ℕ). kind_by s (cut_of (p ++ rest))) (front-same p rest q r e (len-same x y e)) ∙ ap (λ (t : List ℕ). kind_by q (cut_of t)) e ∙ piece-kind y

no_piece : {p rest : List ℕ} {k : Option TokenKind} → Piece p rest k → p ++ rest ≡ [] → ⊥
no_piece {p} {rest} x e = absurd (omega (arith, piece-some x, length-append p rest, ap length e))

no_both : {p rest : List ℕ} {k : Option TokenKind} {at : ℕ} {t : List ℕ} {f : LexFault} → Piece p rest k → FaultAt at t f → p ++ rest ≡ t → ⊥
no_both {p} {rest} {k} {at} {t} {f} x y e =
    let a : fault_of at (cut_of t) ≡ Some f = fault-reads y in
    let b : fault_of at (cut_of t) ≡ None = ap (λ (u : List ℕ). fault_of at (cut_of u)) (sym e) ∙ piece-no_fault x at in
    absurd (cc)

tokens-same : {at : ℕ} {t u : List ℕ} {ts us : List Token} → TokenizesFrom at t ts → TokenizesFrom at u us → t ≡ u → ts ≡ us
tokens-same rule.end rule.end e = refl
tokens-same rule.end (rule.piece y z) e = absurd (no_piece y (sym e))
tokens-same (rule.piece w x) rule.end e = absurd (no_piece w e)
tokens-same (rule.piece {at} {p} {rest} {k} {ts} w x) (rule.piece {p = q} {rest = r} {k = j} {ts = us} y z) e =
    let l : length p ≡ length q = len-same w y e in
    let s : k ≡ j = kind-same w y e in
    let i : ts ≡ us = tokens-same x (subst (λ (n : ℕ). TokenizesFrom (at + n) r us) (sym l) z) (rest-same p rest q r e l) in
    ap (λ (n : ℕ). token_of at n k ++ ts) l ∙ ap (λ (m : Option TokenKind). token_of at (length q) m ++ ts) s ∙ ap (λ (v : List Token). token_of at (length q) j ++ v) i

no_fault : {at : ℕ} {t u : List ℕ} {ts : List Token} {f : LexFault} → TokenizesFrom at t ts → FaultFrom at u f → t ≡ u → ⊥
no_fault rule.end (rule.here h) e = absurd (omega (arith, fault-some h, ap length e))
no_fault rule.end (rule.later y z) e = no_piece y (sym e)
no_fault (rule.piece w x) (rule.here h) e = no_both w h e
no_fault (rule.piece {at} {p} {rest} {k} {ts} w x) (rule.later {p = q} {rest = r} {k = j} {f} y z) e =
    let l : length p ≡ length q = len-same w y e in
    no_fault x (subst (λ (n : ℕ). FaultFrom (at + n) r f) (sym l) z) (rest-same p rest q r e l)

some-same : (f g : LexFault) → ◌≡◌ {A = Option LexFault} (Some f) (Some g) → f ≡ g
some-same f g h = cc

faults-same : {at : ℕ} {t u : List ℕ} {f g : LexFault} → FaultFrom at t f → FaultFrom at u g → t ≡ u → f ≡ g
faults-same (rule.here {at} {text = t} {f} h) (rule.here {text = u} {f = g} i) e = some-same f g (sym (fault-reads h) ∙ ap (λ (x : List ℕ). fault_of at (cut_of x)) e ∙ fault-reads i)
faults-same (rule.here h) (rule.later y z) e = absurd (no_both y h (sym e))
faults-same (rule.later w x) (rule.here i) e = absurd (no_both w i e)
faults-same (rule.later {at} {p} {rest} {k} {f} w x) (rule.later {p = q} {rest = r} {k = j} {f = g} y z) e =
    let l : length p ≡ length q = len-same w y e in
    faults-same x (subst (λ (n : ℕ). FaultFrom (at + n) r g) (sym l) z) (rest-same p rest q r e l)

pub one_list : (t : List ℕ) (ts us : List Token) → TokenizesFrom 0 t ts → TokenizesFrom 0 t us → ts ≡ us
one_list t ts us x y = tokens-same x y refl

pub one_fault : (t : List ℕ) (f g : LexFault) → FaultFrom 0 t f → FaultFrom 0 t g → f ≡ g
one_fault t f g x y = faults-same x y refl

pub not_both : (t : List ℕ) (ts : List Token) (f : LexFault) → TokenizesFrom 0 t ts → FaultFrom 0 t f → ⊥
not_both t ts f x y = no_fault x y refl

pub ruleset laws = (one_list, one_fault, not_both)
