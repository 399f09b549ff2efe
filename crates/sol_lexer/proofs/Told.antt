-- What is read at the head of a text is what the rules say: comments, words, texts and punctuators.
use Rattle.std.proofs.Common.{◌≡◌, ◌≢◌, ℕ, ◌+◌, ◌≤◌, ◌<◌, Bool, true, false, ◌||◌, ◌==◌, List, [], ◌∷◌, ◌++◌, length, Option, Some, None, refl, sym, subst, ap, ◌∙◌, arith, append_assoc, length-append, ◌⊎◌, inl, inr}
use Rattle.std.specs.Prelude.{codes}
use Rattle.std.proofs.lemmas.Bool.{and_parts, or_cases, eqb-true, cases_lt}
use Rattle.std.proofs.lemmas.Slice.Eq.{bytes_eq-Decides}
use Rattle.std.specs.Str.{bytes_eq}
use Rattle.std.specs.Char.{is_ascii_digit}
use Rattle.sol_tree.specs.Refused.{is_one_of}
use Rattle.sol_lexer.specs.Bytes.{begins, begins_with, is_blank, is_in_line, is_quote, is_word_byte, is_word_start}
use Rattle.sol_lexer.specs.Reading.{block_end, block_of, close_of, closing_on, comment_of, cut_of, is_comment, judged, longest, longest_mark, pragma_of, run, text_end, text_of}
use Rattle.sol_lexer.specs.Punctuators.{marks}
use Rattle.sol_lexer.specs.RefusedPunctuators.{refused_marks}
use Rattle.sol_lexer.specs.Tokens.{Holds, IsWord, IsLongest, IsBad, NoLonger, Piece, FaultAt, is_refused}
use Rattle.sol_lexer.specs.Tokens as rule
use Rattle.sol_lexer.specs.declared.lexer.LexFault.TheVariants as fault
use Rattle.sol_lexer.specs.declared.cut.Cut.{Cut}
use Rattle.sol_lexer.specs.declared.cut.Cut.TheVariants as cut
use Rattle.sol_lexer.proofs.Runs.{parts}
use Rattle.sol_lexer.proofs.Comments.{closed, none-holds}
use Rattle.sol_lexer.proofs.Words.{judged-pragma, judged-refused, judged-word, pragma-closes, pragma-opens, pragma-parts, word-parts, word-reads}
use Rattle.sol_lexer.proofs.Quotes.{TextCut, text-told}
use Rattle.sol_lexer.proofs.Punctuators.{begins-parts, longest-bound, longest-found, bad-reads, mark-reads, mark-some, refused_mark-reads, refused_mark-some, no_block-from, no_line-from}
use Rattle.sol_lexer.specs.Steps.{Says}
use Rattle.sol_lexer.proofs.Says.{said}

-- ---- pragmas and words

pub begins-same : (class : ℕ → Bool) (s : List ℕ) (b : ℕ) (r u : List ℕ) → begins class (s ++ (b ∷ r)) ≡ begins class (s ++ (b ∷ u))
begins-same class [] b r u = refl
begins-same class (c ∷ s) b r u = refl

pragma-told : (rest : List ℕ) → begins is_word_byte rest ≡ false → Says (codes "pragma" ++ rest) (pragma_of rest)
pragma-told rest h =
    let p = pragma-parts rest in
    elim p.2 [
      | inl e ↦ said (codes "pragma" ++ rest) (codes "pragma" ++ p.0) (pragma_of rest) cut.OpenText (ap (λ (x : List ℕ). codes "pragma" ++ x) e) (ap pragma_of e ∙ pragma-opens p.0 p.1) (λ at. rule.open_pragma p.1 (sym (ap (begins is_word_byte) e) ∙ h))
      | inr e ↦
          let stop : begins is_word_byte (p.0 ++ codes ";") ≡ false = begins-same is_word_byte p.0 59 [] e.0 ∙ sym (ap (begins is_word_byte) e.1) ∙ h in
          let long : length p.0 + 7 ≡ length (codes "pragma" ++ (p.0 ++ codes ";")) = omega (arith, length-append p.0 (codes ";")) in
          let joined : codes "pragma" ++ rest ≡ (codes "pragma" ++ (p.0 ++ codes ";")) ++ e.0 = ap (λ (x : List ℕ). codes "pragma" ++ x) (e.1 ∙ sym (append_assoc p.0 (codes ";") e.0)) in
          subst (λ (c : Cut). Says (codes "pragma" ++ rest) c) (sym (ap pragma_of e.1 ∙ pragma-closes p.0 e.0 p.1)) (codes "pragma" ++ (p.0 ++ codes ";"), e.0, joined, long, rule.pragma p.0 p.1 stop)
    ]

judged-told : (w rest : List ℕ) → IsWord w rest → (c d : Bool) → bytes_eq w (codes "pragma") ≡ c → is_refused w rest ≡ d → Says (w ++ rest) (judged w rest)
judged-told w rest i true d h k =
    let e : w ≡ codes "pragma" = (bytes_eq-Decides w (codes "pragma")).0 h in
    said (w ++ rest) (codes "pragma" ++ rest) (judged w rest) (pragma_of rest) (ap (λ (x : List ℕ). x ++ rest) e) (ap (λ (x : List ℕ). judged x rest) e ∙ judged-pragma rest) (pragma-told rest i.longest)
judged-told w rest i false true h k =
    let n : w ≢ codes "pragma" = λ e. absurd (cc ((bytes_eq-Decides w (codes "pragma")).1 e)) in
    subst (λ (c : Cut). Says (w ++ rest) c) (sym (judged-refused w rest n k)) (λ at. rule.refused_word i k)
judged-told w rest i false false h k =
    let n : w ≢ codes "pragma" = λ e. absurd (cc ((bytes_eq-Decides w (codes "pragma")).1 e)) in
    subst (λ (c : Cut). Says (w ++ rest) c) (sym (judged-word w rest n k)) (w, rest, refl, refl, rule.word i n k)

pub word-told : (b : ℕ) (bs : List ℕ) → is_word_start b ≡ true → Says (b ∷ bs) (cut_of (b ∷ bs))
word-told b bs h =
    let p = word-parts b bs h in
    said (b ∷ bs) (p.0 ++ p.1) (cut_of (b ∷ bs)) (judged p.0 p.1) p.2 (ap cut_of p.2 ∙ word-reads p.0 p.1 p.3) (judged-told p.0 p.1 p.3 (bytes_eq p.0 (codes "pragma")) (is_refused p.0 p.1) refl refl)

-- ---- comments

block-told : (t : List ℕ) (o : Option ℕ) → close_of t ≡ o → Says (codes "/*" ++ t) (block_end o)
block-told t None h = λ at. rule.open_comment (none-holds t h)
block-told t (Some n) h =
    let p = closed t n h in
    let long : n + 2 ≡ length (codes "/*" ++ (p.0 ++ codes "*/")) = omega (arith, p.3, length-append p.0 (codes "*/")) in
    let joined : codes "/*" ++ t ≡ (codes "/*" ++ (p.0 ++ codes "*/")) ++ p.1 = ap (λ (x : List ℕ). codes "/*" ++ x) (p.2 ∙ sym (append_assoc p.0 (codes "*/") p.1)) in
    (codes "/*" ++ (p.0 ++ codes "*/"), p.1, joined, long, rule.block_comment p.0 (none-holds p.0 p.4))

line-told : (t : List ℕ) → Says (codes "//" ++ t) (cut.Dropped (run is_in_line t + 2))
line-told t =
    let p = parts is_in_line t in
    let long : run is_in_line t + 2 ≡ length (codes "//" ++ p.0) = omega (arith, p.3) in
    (codes "//" ++ p.0, p.1, ap (λ (x : List ℕ). codes "//" ++ x) p.2, long, rule.line_comment p.4 p.5)

pub comment-told : (b : ℕ) (bs : List ℕ) → is_comment b bs ≡ true → Says (b ∷ bs) (comment_of bs)
comment-told b [] h = absurd (cc)
comment-told b (c ∷ cs) h =
    let p = and_parts (b == 47) (c == 47 || c == 42) h in
    let first = eqb-true b 47 p.0 in
    elim (or_cases (c == 47) (c == 42) p.1) [
      | inl e ↦ let second = eqb-true c 47 e in said (b ∷ c ∷ cs) (codes "//" ++ cs) (comment_of (c ∷ cs)) (cut.Dropped (run is_in_line cs + 2)) (rw (first, second) refl) (rw e refl) (line-told cs)
      | inr e ↦ let second = eqb-true c 42 e in said (b ∷ c ∷ cs) (codes "/*" ++ cs) (comment_of (c ∷ cs)) (block_of cs) (rw (first, second) refl) (ap (λ (x : ℕ). comment_of (x ∷ cs)) second) (block-told cs (close_of cs) refl)
    ]

-- ---- texts

quote-with : (q : ℕ) (t : List ℕ) → is_quote q ≡ true → (o : Option ℕ) → TextCut q t o → Says (q ∷ t) (text_end o)
quote-with q t h None i = λ at. subst (λ (x : List ℕ). FaultAt at (q ∷ x) (fault.OpenText at)) (sym i.2) (rule.open_text h i.3 i.4)
quote-with q t h (Some n) i =
    let long : n + 1 ≡ length (q ∷ (i.0 ++ (q ∷ []))) = omega (arith, i.4, length-append i.0 (q ∷ [])) in
    let joined : q ∷ t ≡ (q ∷ (i.0 ++ (q ∷ []))) ++ i.1 = ap (λ (x : List ℕ). q ∷ x) (i.2 ∙ sym (append_assoc i.0 (q ∷ []) i.1)) in
    (q ∷ (i.0 ++ (q ∷ [])), i.1, joined, long, rule.quoted h i.3)

pub quote-told : (q : ℕ) (t : List ℕ) → is_quote q ≡ true → Says (q ∷ t) (text_of q t)
quote-told q t h = quote-with q t h (closing_on q false t) (text-told q h t)

-- ---- punctuators

abbrev FoundAny : List ℕ → Type 0
FoundAny t = (m : List ℕ) × ((is_one_of m marks ≡ true) ⊎ (is_one_of m refused_marks ≡ true)) × (begins_with m t ≡ true) × (length m ≡ longest_mark t)

found-any : (t : List ℕ) → 0 < longest_mark t → FoundAny t
found-any t h = elim (cases_lt (longest marks t) (longest refused_marks t)) [
  | inl k ↦ let f = longest-found refused_marks t (omega (arith, k)) in let l : length f.0 ≡ longest_mark t = omega (arith, k, f.3) in (f.0, inr f.1, f.2, l)
  | inr k ↦ let f = longest-found marks t (omega (arith, k)) in let l : length f.0 ≡ longest_mark t = omega (arith, k, f.3) in (f.0, inl f.1, f.2, l)
]

is-longest : (b : ℕ) (bs m rest : List ℕ) → is_comment b bs ≡ false → b ∷ bs ≡ m ++ rest → length m ≡ longest_mark (b ∷ bs) → IsLongest m rest
is-longest b bs m rest h e l = record {
  kept = λ x i j. omega (arith, l, longest-bound marks (b ∷ bs) x i (subst (λ (y : List ℕ). begins_with x y ≡ true) (sym e) j));
  refused = λ x i j. omega (arith, l, longest-bound refused_marks (b ∷ bs) x i (subst (λ (y : List ℕ). begins_with x y ≡ true) (sym e) j));
  no_line = subst (λ (y : List ℕ). begins_with (codes "//") y ≡ false) e (no_line-from b bs h);
  no_block = subst (λ (y : List ℕ). begins_with (codes "/*") y ≡ false) e (no_block-from b bs h);
}

mark-with : (t m rest : List ℕ) → t ≡ m ++ rest → IsLongest m rest → (is_one_of m marks ≡ true) ⊎ (is_one_of m refused_marks ≡ true) → (c : Bool) → is_one_of m marks ≡ c → Says t (cut_of t)
mark-with t m rest e i h true k = said t (m ++ rest) (cut_of t) (cut.Mark (length m)) e (ap cut_of e ∙ mark-reads m rest k i) (m, rest, refl, refl, rule.mark k i)
mark-with t m rest e i h false k =
    let r : is_one_of m refused_marks ≡ true = elim h [ inl x ↦ absurd (cc) | inr x ↦ x ] in
    said t (m ++ rest) (cut_of t) (cut.Refused (length m)) e (ap cut_of e ∙ refused_mark-reads m rest k r i) (λ at. rule.refused_mark k r i)

none-stands : (table : List (List ℕ)) (t : List ℕ) → longest table t ≤ 0 → ((m : List ℕ) → is_one_of m table ≡ true → 1 ≤ length m) → (m : List ℕ) → is_one_of m table ≡ true → (c : Bool) → begins_with m t ≡ c → begins_with m t ≡ false
none-stands table t n k m h false e = e
none-stands table t n k m h true e = absurd (omega (arith, n, k m h, longest-bound table t m h e))

pub at-zero : (at : ℕ) → at + 0 ≡ at
at-zero at = omega arith

pub mark-told : (b : ℕ) (bs : List ℕ) → is_blank b ≡ false → is_comment b bs ≡ false → is_word_start b ≡ false → is_ascii_digit b ≡ false → is_quote b ≡ false → Says (b ∷ bs) (cut_of (b ∷ bs))
mark-told b bs h i j k l = elim (cases_lt 0 (longest_mark (b ∷ bs))) [
  | inl n ↦
      let f = found-any (b ∷ bs) n in
      let p = begins-parts f.0 (b ∷ bs) f.2 in
      mark-with (b ∷ bs) f.0 p.0 p.1 (is-longest b bs f.0 p.0 i p.1 f.3) f.1 (is_one_of f.0 marks) refl
  | inr n ↦
      let bad : IsBad b bs = record {
        no_blank = h;
        no_word = j;
        no_number = k;
        no_text = l;
        no_kept = λ m x. none-stands marks (b ∷ bs) (omega (arith, n)) mark-some m x (begins_with m (b ∷ bs)) refl;
        no_refused = λ m x. none-stands refused_marks (b ∷ bs) (omega (arith, n)) refused_mark-some m x (begins_with m (b ∷ bs)) refl;
      } in
      subst (λ (c : Cut). Says (b ∷ bs) c) (sym (bad-reads b bs bad)) (λ at. subst (λ (n : ℕ). FaultAt at (b ∷ bs) (fault.BadByte n)) (sym (at-zero at)) (rule.bad_byte bad))
]
