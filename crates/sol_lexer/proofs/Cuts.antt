-- The cut at the head of a text says what the rules say, and each rule is read.
use Rattle.std.proofs.Common.{◌≡◌, ◌≢◌, ℕ, ◌+◌, ◌<◌, ◌≤◌, ◌^◌, pos, Bool, true, false, List, [], ◌∷◌, ◌++◌, length, Option, Some, None, refl, sym, subst, ap, ◌∙◌, arith, append_assoc, length-append}
use Rattle.std.specs.Prelude.{codes}
use Rattle.std.proofs.lemmas.Bool.{lt-ltb, le-ltb}
use Rattle.std.specs.Char.{is_ascii_digit}
use Rattle.sol_tree.specs.declared.token.TokenKind.{TokenKind}
use Rattle.sol_tree.specs.declared.token.TokenKind.TheVariants as kind
use Rattle.sol_lexer.specs.Bytes.{begins, is_blank, is_in_line, is_quote, is_word_byte, is_word_start}
use Rattle.sol_lexer.specs.Reading.{block_end, cut_of, is_comment, number_of, placed_number, pragma_of, text_end}
use Rattle.sol_lexer.specs.Tokens.{Digits, FaultAt, IsWord, Numeral, Piece, Unfinished, Whole, is_refused, runs_on}
use Rattle.sol_lexer.specs.Tokens as rule
use Rattle.sol_lexer.specs.declared.lexer.LexFault.{LexFault}
use Rattle.sol_lexer.specs.declared.lexer.LexFault.TheVariants as fault
use Rattle.sol_lexer.specs.declared.cut.Cut.{Cut}
use Rattle.sol_lexer.specs.declared.cut.Cut.TheVariants as cut
use Rattle.sol_lexer.proofs.Runs.{run-is}
use Rattle.sol_lexer.proofs.Comments.{closes, opens}
use Rattle.sol_lexer.proofs.Words.{cut-blank, cut-comment, cut-digit, cut-quote, judged-pragma, judged-refused, judged-word, pragma-closes, pragma-kept, pragma-opens, word-reads}
use Rattle.sol_lexer.proofs.Quotes.{text-breaks, text-closes}
use Rattle.sol_lexer.proofs.Punctuators.{bad-reads, mark-reads, refused_mark-reads}
use Rattle.sol_lexer.proofs.Numerals.{numeral-reads, unfinished-reads}
use Rattle.sol_lexer.proofs.Digits.{number-told}
use Rattle.sol_lexer.proofs.Told.{at-zero, begins-same, comment-told, mark-told, quote-told, word-told}
use Rattle.sol_lexer.specs.Steps.{Says}

-- ---- what is read is what the rules say

cut-with : (b : ℕ) (bs : List ℕ) (v w x y z : Bool) → is_blank b ≡ v → is_comment b bs ≡ w → is_word_start b ≡ x → is_ascii_digit b ≡ y → is_quote b ≡ z → Says (b ∷ bs) (cut_of (b ∷ bs))
cut-with b bs true w x y z h i j k l = subst (λ (c : Cut). Says (b ∷ bs) c) (sym (cut-blank b bs h)) (b ∷ [], bs, refl, refl, rule.blank h)
cut-with b bs false true x y z h i j k l = subst (λ (c : Cut). Says (b ∷ bs) c) (sym (cut-comment b bs h i)) (comment-told b bs i)
cut-with b bs false false true y z h i j k l = word-told b bs j
cut-with b bs false false false true z h i j k l = number-told b bs k
cut-with b bs false false false false true h i j k l = subst (λ (c : Cut). Says (b ∷ bs) c) (sym (cut-quote b bs l)) (quote-told b bs l)
cut-with b bs false false false false false h i j k l = mark-told b bs h i j k l

pub cut-told : (b : ℕ) (bs : List ℕ) → Says (b ∷ bs) (cut_of (b ∷ bs))
cut-told b bs = cut-with b bs (is_blank b) (is_comment b bs) (is_word_start b) (is_ascii_digit b) (is_quote b) refl refl refl refl refl

-- ---- each rule is read

-- the cut that a piece of so many bytes gives
abbrev pub made : ℕ → Option TokenKind → Cut
made n None = cut.Dropped n
made n (Some (kind.Word w)) = cut.Word n
made n (Some (kind.Number z hex)) = cut.Number n z hex
made n (Some kind.Text) = cut.Text n
made n (Some (kind.Mark m)) = cut.Mark n

pragma-word : (rest : List ℕ) → begins is_word_byte rest ≡ false → IsWord (codes "pragma") rest
pragma-word rest h = record { start = refl; bytes = (refl, (refl, (refl, (refl, (refl, (refl, tt)))))); longest = h }

pragma-reads : (rest : List ℕ) → begins is_word_byte rest ≡ false → cut_of (codes "pragma" ++ rest) ≡ pragma_of rest
pragma-reads rest h = word-reads (codes "pragma") rest (pragma-word rest h) ∙ judged-pragma rest

digits-begin : {s ds : List ℕ} → Digits false s ds → begins is_ascii_digit s ≡ true
digits-begin (rule.last h) = h
digits-begin (rule.next h i) = h
digits-begin (rule.spaced h i) = h

begins-front : (class : ℕ → Bool) (s t : List ℕ) → begins class s ≡ true → begins class (s ++ t) ≡ true
begins-front class [] t h = absurd (cc)
begins-front class (b ∷ s) t h = h

whole-begins : {s ds : List ℕ} {more : ℕ → Bool} → Whole s ds more → begins is_ascii_digit s ≡ true
whole-begins rule.zero_digit = refl
whole-begins (rule.positive n i) = digits-begin i

pub numeral-begins : {s : List ℕ} {n : ℕ} {hex : Bool} {more : ℕ → Bool} → Numeral s n hex more → begins is_ascii_digit s ≡ true
numeral-begins (rule.whole w) = whole-begins w
numeral-begins (rule.scaled e {s} {ds} {t} w k i) = begins-front is_ascii_digit s (e ∷ t) (whole-begins w)
numeral-begins (rule.hexadecimal i) = refl

pub unfinished-begins : {s : List ℕ} {hex : Bool} → Unfinished s hex → begins is_ascii_digit s ≡ true
unfinished-begins rule.after_x = refl
unfinished-begins (rule.after_letter e {s} w k) = begins-front is_ascii_digit s (e ∷ []) (whole-begins w)
unfinished-begins (rule.after_gap {n} {s} i m) = begins-front is_ascii_digit s (95 ∷ []) (numeral-begins i)

cut-number : (s rest : List ℕ) → begins is_ascii_digit s ≡ true → cut_of (s ++ rest) ≡ number_of (s ++ rest)
cut-number [] rest h = absurd (cc)
cut-number (b ∷ s) rest h = cut-digit b (s ++ rest) h

placed-number : (len n : ℕ) (hex : Bool) (rest : List ℕ) → n < 2 ^ 127 → runs_on rest ≡ false → placed_number len n hex rest ≡ cut.Number len (pos n) hex
placed-number len n hex rest h k = rw (lt-ltb n (2 ^ 127) h, k) refl

placed-runs_on : (len n : ℕ) (hex : Bool) (rest : List ℕ) → n < 2 ^ 127 → runs_on rest ≡ true → placed_number len n hex rest ≡ cut.BadByte len
placed-runs_on len n hex rest h k = rw (lt-ltb n (2 ^ 127) h, k) refl

placed-wide : (len n : ℕ) (hex : Bool) (rest : List ℕ) → 2 ^ 127 ≤ n → placed_number len n hex rest ≡ cut.WideNumber
placed-wide len n hex rest h = rw (le-ltb n (2 ^ 127) h) refl

pub piece-reads : {p rest : List ℕ} {k : Option TokenKind} → Piece p rest k → cut_of (p ++ rest) ≡ made (length p) k
piece-reads (rule.blank {b} {rest} h) = cut-blank b rest h
piece-reads (rule.line_comment {s} {rest} e h) =
    let l : length s + 2 ≡ length (codes "//" ++ s) = omega arith in
    ap (λ (n : ℕ). cut.Dropped (n + 2)) (run-is is_in_line s rest e h) ∙ ap cut.Dropped l
piece-reads (rule.block_comment s {rest} n) =
    let l : (length s + 2) + 2 ≡ length (codes "/*" ++ (s ++ codes "*/")) = omega (arith, length-append s (codes "*/")) in
    ap (λ (x : List ℕ). cut_of (codes "/*" ++ x)) (append_assoc s (codes "*/") rest) ∙ ap block_end (closes s rest n) ∙ ap cut.Dropped l
piece-reads (rule.pragma s {rest} e h) =
    let l : length s + 7 ≡ length (codes "pragma" ++ (s ++ codes ";")) = omega (arith, length-append s (codes ";")) in
    let stop : begins is_word_byte (s ++ (59 ∷ rest)) ≡ false = begins-same is_word_byte s 59 rest [] ∙ h in
    ap (λ (x : List ℕ). cut_of (codes "pragma" ++ x)) (append_assoc s (codes ";") rest) ∙ pragma-reads (s ++ (59 ∷ rest)) stop ∙ pragma-closes s rest e ∙ ap cut.Dropped l
piece-reads (rule.word {w} {rest} i n h) = word-reads w rest i ∙ judged-word w rest n h
piece-reads (rule.number {n} {s} {rest} {hex} i h l r) = cut-number s rest (numeral-begins i) ∙ numeral-reads i rest h ∙ placed-number (length s) n hex rest l r
piece-reads (rule.quoted {q} {s} {rest} h i) =
    let l : (length s + 1) + 1 ≡ length (q ∷ (s ++ (q ∷ []))) = omega (arith, length-append s (q ∷ [])) in
    ap (λ (x : List ℕ). cut_of (q ∷ x)) (append_assoc s (q ∷ []) rest) ∙ cut-quote q (s ++ (q ∷ rest)) h ∙ ap text_end (text-closes i h rest) ∙ ap cut.Text l
piece-reads (rule.mark {m} {rest} h i) = mark-reads m rest h i

-- the fault that a cut gives at a place
abbrev pub fault_of : ℕ → Cut → Option LexFault
fault_of at (cut.Dropped n) = None
fault_of at (cut.Word n) = None
fault_of at (cut.Number n z hex) = None
fault_of at (cut.Text n) = None
fault_of at (cut.Mark n) = None
fault_of at (cut.BadByte n) = Some (fault.BadByte (at + n))
fault_of at cut.OpenComment = Some (fault.OpenComment at)
fault_of at cut.OpenText = Some (fault.OpenText at)
fault_of at cut.WideNumber = Some (fault.WideNumber at)
fault_of at (cut.Refused n) = Some (fault.Refused at n)

not-pragma : (w rest : List ℕ) → is_refused w rest ≡ true → w ≢ codes "pragma"
not-pragma w rest h = λ e. let k : is_refused w rest ≡ false = ap (λ (x : List ℕ). is_refused x rest) e ∙ pragma-kept rest in absurd (cc)

pub fault-reads : {at : ℕ} {t : List ℕ} {f : LexFault} → FaultAt at t f → fault_of at (cut_of t) ≡ Some f
fault-reads (rule.open_comment {at} {s} n) = ap (λ (o : Option ℕ). fault_of at (block_end o)) (opens s n)
fault-reads (rule.open_pragma {at} {s} e h) = ap (fault_of at) (pragma-reads s h ∙ pragma-opens s e)
fault-reads (rule.refused_word {at} {w} {rest} i h) = ap (fault_of at) (word-reads w rest i ∙ judged-refused w rest (not-pragma w rest h) h)
fault-reads (rule.missing_digit {at} {s} rest {hex} i h) = ap (fault_of at) (cut-number s rest (unfinished-begins i) ∙ unfinished-reads i rest h)
fault-reads (rule.wide_number {at} {n} {s} rest {hex} i h l) = ap (fault_of at) (cut-number s rest (numeral-begins i) ∙ numeral-reads i rest h ∙ placed-wide (length s) n hex rest l)
fault-reads (rule.number_runs_on {at} {n} {s} rest {hex} i h l r) = ap (fault_of at) (cut-number s rest (numeral-begins i) ∙ numeral-reads i rest h ∙ placed-runs_on (length s) n hex rest l r)
fault-reads (rule.open_text {at} {q} {s} {rest} h i r) = ap (fault_of at) (cut-quote q (s ++ rest) h ∙ ap text_end (text-breaks i h r))
fault-reads (rule.refused_mark {at} {m} {rest} k h i) = ap (fault_of at) (refused_mark-reads m rest k h i)
fault-reads (rule.bad_byte {at} {b} {rest} i) = ap (fault_of at) (bad-reads b rest i) ∙ ap (λ (n : ℕ). Some (fault.BadByte n)) (at-zero at)
