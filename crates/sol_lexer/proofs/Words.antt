-- Words, and what stands at the head of a text.
use Rattle.std.proofs.Common.{◌≡◌, ◌≢◌, ℕ, ◌+◌, true, false, ◌==◌, nat_lt, List, [], ◌∷◌, ◌++◌, length, take, drop, refl, sym, subst, ap, ◌∙◌, arith, length-append, append-nil, ◌⊎◌, inl, inr}
use Rattle.std.specs.Prelude.{codes}
use Rattle.std.proofs.Math.Seq.{take-append_seam, drop-append_seam}
use Rattle.std.proofs.lemmas.Bool.{eqb-true, lt-ltb, le-ltb, not-false, cases_Bool}
use Rattle.std.proofs.lemmas.Bool.Decides.{nat_tests}
use Rattle.std.proofs.lemmas.Slice.Eq.{bytes_eq-Decides}
use Rattle.std.specs.Str.{bytes_eq}
use Rattle.std.specs.Char.{is_ascii_digit}
use Rattle.sol_tree.specs.Refused.{is_refused_word, refused_words}
use Rattle.sol_lexer.specs.QuotedWords.{quoted_words}
use Rattle.sol_lexer.specs.Bytes.{Each, begins, is_before_semicolon, is_blank, is_quote, is_word_byte, is_word_start}
use Rattle.sol_lexer.specs.Reading.{comment_of, cut_of, is_comment, judged, mark_of, number_of, pragma_of, run, text_of, word_of}
use Rattle.sol_lexer.specs.Tokens.{IsWord, is_refused}
use Rattle.sol_lexer.specs.declared.cut.Cut.TheVariants as cut
use Rattle.sol_lexer.proofs.Runs.{parts, run-is}

-- ---- which rule a first byte leads to

start-no_blank : (b : ℕ) → is_word_start b ≡ true → is_blank b ≡ false
start-no_blank b h = grind (arith, nat_tests)

start-no_slash : (b : ℕ) → is_word_start b ≡ true → (b == 47) ≡ false
start-no_slash b h = grind (arith, nat_tests)

digit-no_blank : (b : ℕ) → is_ascii_digit b ≡ true → is_blank b ≡ false
digit-no_blank b h = grind (arith, nat_tests)

digit-no_slash : (b : ℕ) → is_ascii_digit b ≡ true → (b == 47) ≡ false
digit-no_slash b h = grind (arith, nat_tests)

digit-no_start : (b : ℕ) → is_ascii_digit b ≡ true → is_word_start b ≡ false
digit-no_start b h = grind (arith, nat_tests)

quote-no_blank : (b : ℕ) → is_quote b ≡ true → is_blank b ≡ false
quote-no_blank b h = grind (arith, nat_tests)

quote-no_slash : (b : ℕ) → is_quote b ≡ true → (b == 47) ≡ false
quote-no_slash b h = grind (arith, nat_tests)

quote-no_start : (b : ℕ) → is_quote b ≡ true → is_word_start b ≡ false
quote-no_start b h = grind (arith, nat_tests)

quote-no_digit : (b : ℕ) → is_quote b ≡ true → is_ascii_digit b ≡ false
quote-no_digit b h = grind (arith, nat_tests)

pub no_comment : (b : ℕ) (bs : List ℕ) → (b == 47) ≡ false → is_comment b bs ≡ false
no_comment b [] h = refl
no_comment b (c ∷ cs) h = rw h refl

pub cut-blank : (b : ℕ) (bs : List ℕ) → is_blank b ≡ true → cut_of (b ∷ bs) ≡ cut.Dropped 1
cut-blank b bs h = rw h refl

pub cut-comment : (b : ℕ) (bs : List ℕ) → is_blank b ≡ false → is_comment b bs ≡ true → cut_of (b ∷ bs) ≡ comment_of bs
cut-comment b bs h i = rw (h, i) refl

pub cut-start : (b : ℕ) (bs : List ℕ) → is_word_start b ≡ true → cut_of (b ∷ bs) ≡ word_of (b ∷ bs)
cut-start b bs h = rw (start-no_blank b h, no_comment b bs (start-no_slash b h), h) refl

pub cut-digit : (b : ℕ) (bs : List ℕ) → is_ascii_digit b ≡ true → cut_of (b ∷ bs) ≡ number_of (b ∷ bs)
cut-digit b bs h = rw (digit-no_blank b h, no_comment b bs (digit-no_slash b h), digit-no_start b h, h) refl

pub cut-quote : (b : ℕ) (bs : List ℕ) → is_quote b ≡ true → cut_of (b ∷ bs) ≡ text_of b bs
cut-quote b bs h = rw (quote-no_blank b h, no_comment b bs (quote-no_slash b h), quote-no_start b h, quote-no_digit b h, h) refl

pub cut-other : (b : ℕ) (bs : List ℕ) → is_blank b ≡ false → is_comment b bs ≡ false → is_word_start b ≡ false → is_ascii_digit b ≡ false → is_quote b ≡ false → cut_of (b ∷ bs) ≡ mark_of (b ∷ bs)
cut-other b bs h i j k l = rw (h, i, j, k, l) refl

-- ---- words

pub start-in_word : (b : ℕ) → is_word_start b ≡ true → is_word_byte b ≡ true
start-in_word b h = grind (arith, nat_tests)

pub word-reads : (w rest : List ℕ) → IsWord w rest → cut_of (w ++ rest) ≡ judged w rest
word-reads [] rest i = absurd (cc (i.start))
word-reads (b ∷ w) rest i =
    let n : run is_word_byte (b ∷ (w ++ rest)) ≡ length (b ∷ w) = run-is is_word_byte (b ∷ w) rest i.bytes i.longest in
    let t : take (length (b ∷ w)) ((b ∷ w) ++ rest) ≡ b ∷ w = take-append_seam (b ∷ w) rest in
    let d : drop (length (b ∷ w)) ((b ∷ w) ++ rest) ≡ rest = drop-append_seam (b ∷ w) rest in
    cut-start b (w ++ rest) i.start ∙ ap (λ (k : ℕ). judged (take k (b ∷ (w ++ rest))) (drop k (b ∷ (w ++ rest)))) n ∙ ap (λ (x : List ℕ). judged x (drop (length (b ∷ w)) (b ∷ (w ++ rest)))) t ∙ ap (λ (x : List ℕ). judged (b ∷ w) x) d

-- the word at the head of a text
abbrev pub WordParts : List ℕ → Type 0
WordParts t = (w : List ℕ) × (rest : List ℕ) × (t ≡ w ++ rest) × IsWord w rest

word-with : (b : ℕ) (bs w rest : List ℕ) → is_word_start b ≡ true → b ∷ bs ≡ w ++ rest → Each is_word_byte w → begins is_word_byte rest ≡ false → IsWord w rest
word-with b bs [] rest h e i j =
    let k : begins is_word_byte (b ∷ bs) ≡ false = ap (begins is_word_byte) e ∙ j in
    let l = start-in_word b h in
    absurd (cc)
word-with b bs (c ∷ w) rest h e i j =
    let same : b ≡ c = cc in
    record { start = subst (λ (x : ℕ). is_word_start x ≡ true) same h; bytes = i; longest = j }

pub word-parts : (b : ℕ) (bs : List ℕ) → is_word_start b ≡ true → WordParts (b ∷ bs)
word-parts b bs h =
    let p = parts is_word_byte (b ∷ bs) in
    (p.0, p.1, p.2, word-with b bs p.0 p.1 h p.2 p.4 p.5)

pub judged-pragma : (rest : List ℕ) → judged (codes "pragma") rest ≡ pragma_of rest
judged-pragma rest = refl

pub no_pragma : (w : List ℕ) → w ≢ codes "pragma" → bytes_eq w (codes "pragma") ≡ false
no_pragma w n = elim (cases_Bool (bytes_eq w (codes "pragma"))) [ inl e ↦ absurd (n ((bytes_eq-Decides w (codes "pragma")).0 e)) | inr e ↦ e ]

pub judged-refused : (w rest : List ℕ) → w ≢ codes "pragma" → is_refused w rest ≡ true → judged w rest ≡ cut.Refused (length w)
judged-refused w rest n h = rw (no_pragma w n, h) refl

pub judged-word : (w rest : List ℕ) → w ≢ codes "pragma" → is_refused w rest ≡ false → judged w rest ≡ cut.Word (length w)
judged-word w rest n h = rw (no_pragma w n, h) refl

-- ---- pragmas

pub pragma-closes : (s rest : List ℕ) → Each is_before_semicolon s → pragma_of (s ++ (59 ∷ rest)) ≡ cut.Dropped (length s + 7)
pragma-closes s rest e =
    let n = run-is is_before_semicolon s (59 ∷ rest) e refl in
    let l : nat_lt (length s) (length (s ++ (59 ∷ rest))) ≡ true = lt-ltb (length s) (length (s ++ (59 ∷ rest))) (omega (arith, length-append s (59 ∷ rest))) in
    rw n (rw l refl)

pub pragma-opens : (s : List ℕ) → Each is_before_semicolon s → pragma_of s ≡ cut.OpenText
pragma-opens s e =
    let n : run is_before_semicolon s ≡ length s = ap (run is_before_semicolon) (sym (append-nil s)) ∙ run-is is_before_semicolon s [] e refl in
    let l : nat_lt (length s) (length s) ≡ false = le-ltb (length s) (length s) (omega arith) in
    rw n (rw l refl)

semicolon : (t s rest : List ℕ) → t ≡ s ++ rest → begins is_before_semicolon rest ≡ false → (t ≡ s) ⊎ ((after : List ℕ) × (t ≡ s ++ (59 ∷ after)))
semicolon t s [] e h = inl (e ∙ append-nil s)
semicolon t s (b ∷ bs) e h =
    let k : b ≡ 59 = eqb-true b 59 (not-false (b == 59) h) in
    inr (bs, e ∙ ap (λ (x : ℕ). s ++ (x ∷ bs)) k)

-- a text is what stands before the semicolon, and then either nothing or the semicolon and the rest
pub pragma-parts : (t : List ℕ) → (s : List ℕ) × Each is_before_semicolon s × ((t ≡ s) ⊎ ((rest : List ℕ) × (t ≡ s ++ (59 ∷ rest))))
pragma-parts t = let p = parts is_before_semicolon t in (p.0, p.4, semicolon t p.0 p.1 p.2 p.5)

-- `pragma` itself is not refused
pub pragma-kept : (rest : List ℕ) → is_refused (codes "pragma") rest ≡ false
unfolding is_refused_word refused_words quoted_words
pragma-kept rest = refl
