-- The longest punctuator at the head of a text.
use Rattle.std.proofs.Common.{◌≡◌, ℕ, ◌≤◌, ◌<◌, max, Bool, true, false, not, ◌&&◌, ◌||◌, ◌==◌, if◌then◌else◌, List, [], ◌∷◌, ◌++◌, length, take, refl, sym, subst, ap, ◌∙◌, arith, ◌⊎◌, inl, inr}
use Rattle.std.specs.Prelude.{codes}
use Rattle.std.proofs.Math.Seq.{take-append_seam}
use Rattle.std.proofs.lemmas.Bool.{and_parts, and_right, eqb-true, eq-eqb, ne_eqb, cases_Bool, or_cases, or_left, or_right, cases_lt}
use Rattle.std.proofs.lemmas.Slice.Eq.{bytes_eq-Decides}
use Rattle.std.specs.Str.{bytes_eq}
use Rattle.std.specs.Char.{is_ascii_digit}
use Rattle.sol_tree.specs.Refused.{is_one_of}
use Rattle.sol_lexer.specs.Bytes.{begins, begins_with, is_blank, is_quote, is_word_start}
use Rattle.sol_lexer.specs.Reading.{cut_of, is_comment, longest, longest_mark, mark_of}
use Rattle.sol_lexer.specs.Punctuators.{marks}
use Rattle.sol_lexer.specs.RefusedPunctuators.{refused_marks}
use Rattle.sol_lexer.specs.Tokens.{NoLonger, NoneStands, IsLongest, IsBad}
use Rattle.sol_lexer.specs.declared.cut.Cut.{Cut}
use Rattle.sol_lexer.specs.declared.cut.Cut.TheVariants as cut
use Rattle.sol_lexer.proofs.Words.{cut-other}

-- ---- looking up

same-word : (m v : List ℕ) → bytes_eq m v ≡ true → m ≡ v
same-word m v h = (bytes_eq-Decides m v).0 h

word-same : (m v : List ℕ) → m ≡ v → bytes_eq m v ≡ true
word-same m v h = (bytes_eq-Decides m v).1 h

-- each of a table meets a test
abbrev pub every : (List ℕ → Bool) → List (List ℕ) → Bool
every test [] = true
every test (v ∷ vs) = test v && every test vs

pub every-one : (test : List ℕ → Bool) (vs : List (List ℕ)) (m : List ℕ) → every test vs ≡ true → is_one_of m vs ≡ true → test m ≡ true
every-one test [] m h i = absurd (cc)
every-one test (v ∷ vs) m h i =
    let p = and_parts (test v) (every test vs) h in
    elim (or_cases (bytes_eq m v) (is_one_of m vs) i) [ inl e ↦ subst (λ (x : List ℕ). test x ≡ true) (sym (same-word m v e)) p.0 | inr e ↦ every-one test vs m p.1 e ]

-- ---- what stands at the head

pub begins-append : (m rest : List ℕ) → begins_with m (m ++ rest) ≡ true
begins-append [] rest = refl
begins-append (b ∷ m) rest = rw (eq-eqb b b refl) (begins-append m rest)

pub begins-parts : (m t : List ℕ) → begins_with m t ≡ true → (rest : List ℕ) × (t ≡ m ++ rest)
begins-parts [] t h = (t, refl)
begins-parts (c ∷ m) [] h = absurd (cc)
begins-parts (c ∷ m) (b ∷ t) h =
    let p = and_parts (b == c) (begins_with m t) h in
    let i = begins-parts m t p.1 in
    (i.0, ap (λ (x : ℕ). x ∷ t) (eqb-true b c p.0) ∙ ap (λ (x : List ℕ). c ∷ x) i.1)

-- ---- the longest of a table

longest-with : (m : List ℕ) (ms : List (List ℕ)) (t : List ℕ) → begins_with m t ≡ true → longest (m ∷ ms) t ≡ max (length m) (longest ms t)
longest-with m ms t h = rw h refl

longest-without : (m : List ℕ) (ms : List (List ℕ)) (t : List ℕ) → begins_with m t ≡ false → longest (m ∷ ms) t ≡ longest ms t
longest-without m ms t h = rw h refl

longest-more : (m : List ℕ) (ms : List (List ℕ)) (t : List ℕ) → longest ms t ≤ longest (m ∷ ms) t
longest-more m ms t = elim (cases_Bool (begins_with m t)) [ inl e ↦ omega (arith, longest-with m ms t e) | inr e ↦ omega (arith, longest-without m ms t e) ]

-- none is longer
pub longest-bound : (ms : List (List ℕ)) (t m : List ℕ) → is_one_of m ms ≡ true → begins_with m t ≡ true → length m ≤ longest ms t
longest-bound [] t m h b = absurd (cc)
longest-bound (v ∷ vs) t m h b =
    elim (or_cases (bytes_eq m v) (is_one_of m vs) h) [
      | inl e ↦ let k : begins_with v t ≡ true = subst (λ (x : List ℕ). begins_with x t ≡ true) (same-word m v e) b in let l : length m ≡ length v = ap length (same-word m v e) in omega (arith, longest-with v vs t k, l)
      | inr e ↦ omega (arith, longest-more v vs t, longest-bound vs t m e b)
    ]

-- one has this length
abbrev pub Found : List (List ℕ) → List ℕ → ℕ → Type 0
Found ms t n = (m : List ℕ) × (is_one_of m ms ≡ true) × (begins_with m t ≡ true) × (length m ≡ n)

found-later : (v : List ℕ) (vs : List (List ℕ)) (t : List ℕ) (n : ℕ) → Found vs t n → Found (v ∷ vs) t n
found-later v vs t n f = (f.0, or_right (bytes_eq f.0 v) (is_one_of f.0 vs) f.1, f.2, f.3)

found-first : (v : List ℕ) (vs : List (List ℕ)) (t : List ℕ) (n : ℕ) → begins_with v t ≡ true → length v ≡ n → Found (v ∷ vs) t n
found-first v vs t n b l = (v, or_left (bytes_eq v v) (is_one_of v vs) (word-same v v refl), b, l)

found-at : (v : List ℕ) (vs : List (List ℕ)) (t : List ℕ) → (0 < longest vs t → Found vs t (longest vs t)) → (c : Bool) → begins_with v t ≡ c → 0 < longest (v ∷ vs) t → Found (v ∷ vs) t (longest (v ∷ vs) t)
found-at v vs t i false h l =
    let e = longest-without v vs t h in
    subst (λ (n : ℕ). Found (v ∷ vs) t n) (sym e) (found-later v vs t (longest vs t) (i (omega (arith, e))))
found-at v vs t i true h l =
    let e = longest-with v vs t h in
    elim (cases_lt (length v) (longest vs t)) [
      | inl k ↦ let same : longest vs t ≡ longest (v ∷ vs) t = omega (arith, e, k) in subst (λ (n : ℕ). Found (v ∷ vs) t n) same (found-later v vs t (longest vs t) (i (omega (arith, k))))
      | inr k ↦ let same : length v ≡ longest (v ∷ vs) t = omega (arith, e, k) in found-first v vs t (longest (v ∷ vs) t) h same
    ]

pub longest-found : (ms : List (List ℕ)) (t : List ℕ) → 0 < longest ms t → Found ms t (longest ms t)
longest-found [] t h = absurd (omega arith)
longest-found (v ∷ vs) t h = found-at v vs t (longest-found vs t) (begins_with v t) refl h

longest-most : (ms : List (List ℕ)) (t : List ℕ) (n : ℕ) → NoLonger ms n t → longest ms t ≤ n
longest-most ms t n h = elim (cases_lt n (longest ms t)) [ inl k ↦ let f = longest-found ms t (omega (arith, k)) in omega (arith, k, h f.0 f.1 f.2, f.3) | inr k ↦ k ]

-- ---- the tables

-- what a punctuator may begin with
abbrev is_mark_start : ℕ → Bool
is_mark_start b = not (is_blank b || is_word_start b || is_ascii_digit b || is_quote b)

marks-start : every (begins is_mark_start) marks ≡ true
unfolding marks
marks-start = refl

refused_marks-start : every (begins is_mark_start) refused_marks ≡ true
unfolding refused_marks
refused_marks-start = refl

slash-mark : is_one_of (codes "/") marks ≡ true
unfolding marks
slash-mark = refl

start-classes : (x y z w : Bool) → not (x || y || z || w) ≡ true → (x ≡ false) × (y ≡ false) × (z ≡ false) × (w ≡ false)
start-classes false false false false h = (refl, refl, refl, refl)
start-classes false false false true h = absurd (cc)
start-classes false false true w h = absurd (cc)
start-classes false true z w h = absurd (cc)
start-classes true y z w h = absurd (cc)

-- ---- no comment begins

comment-tests : (x y z : Bool) → (x && (y && true)) ≡ false → (x && (z && true)) ≡ false → (x && (y || z)) ≡ false
comment-tests false y z h i = refl
comment-tests true false false h i = refl
comment-tests true true z h i = absurd (cc)
comment-tests true false true h i = absurd (cc)

no_comment-from : (b : ℕ) (bs : List ℕ) → begins_with (codes "//") (b ∷ bs) ≡ false → begins_with (codes "/*") (b ∷ bs) ≡ false → is_comment b bs ≡ false
no_comment-from b [] h i = refl
no_comment-from b (c ∷ cs) h i = comment-tests (b == 47) (c == 47) (c == 42) h i

comment-line : (x y z : Bool) → (x && (y || z)) ≡ false → (x && (y && true)) ≡ false
comment-line false y z h = refl
comment-line true false z h = refl
comment-line true true z h = absurd (cc)

comment-block : (x y z : Bool) → (x && (y || z)) ≡ false → (x && (z && true)) ≡ false
comment-block false y z h = refl
comment-block true y false h = refl
comment-block true false true h = absurd (cc)
comment-block true true true h = absurd (cc)

pub no_line-from : (b : ℕ) (bs : List ℕ) → is_comment b bs ≡ false → begins_with (codes "//") (b ∷ bs) ≡ false
no_line-from b [] h = and_right (b == 47) false refl
no_line-from b (c ∷ cs) h = comment-line (b == 47) (c == 47) (c == 42) h

pub no_block-from : (b : ℕ) (bs : List ℕ) → is_comment b bs ≡ false → begins_with (codes "/*") (b ∷ bs) ≡ false
no_block-from b [] h = and_right (b == 47) false refl
no_block-from b (c ∷ cs) h = comment-block (b == 47) (c == 47) (c == 42) h

-- ---- what the rules say is read

mark-cut : (m rest : List ℕ) → begins is_mark_start m ≡ true → IsLongest m rest → cut_of (m ++ rest) ≡ mark_of (m ++ rest)
mark-cut [] rest h i = absurd (cc)
mark-cut (b ∷ m) rest h i =
    let c = start-classes (is_blank b) (is_word_start b) (is_ascii_digit b) (is_quote b) h in
    cut-other b (m ++ rest) c.0 (no_comment-from b (m ++ rest) i.no_line i.no_block) c.1 c.2 c.3

abbrev mark_by : List ℕ → ℕ → Cut
mark_by t n = if n == 0 then cut.BadByte 0 else (if is_one_of (take n t) marks then cut.Mark n else cut.Refused n)

mark_by-kept : (b : ℕ) (m rest : List ℕ) → is_one_of (b ∷ m) marks ≡ true → mark_by ((b ∷ m) ++ rest) (length (b ∷ m)) ≡ cut.Mark (length (b ∷ m))
mark_by-kept b m rest h =
    let t : take (length (b ∷ m)) ((b ∷ m) ++ rest) ≡ b ∷ m = take-append_seam (b ∷ m) rest in
    let z : (length (b ∷ m) == 0) ≡ false = ne_eqb (length (b ∷ m)) 0 (λ e. absurd (omega (arith, e))) in
    ap (λ (c : Bool). if c then cut.BadByte 0 else (if is_one_of (take (length (b ∷ m)) ((b ∷ m) ++ rest)) marks then cut.Mark (length (b ∷ m)) else cut.Refused (length (b ∷ m)))) z ∙ ap (λ (x : List ℕ). if is_one_of x marks then cut.Mark (length (b ∷ m)) else cut.Refused (length (b ∷ m))) t ∙ ap (λ (c : Bool). if c then cut.Mark (length (b ∷ m)) else cut.Refused (length (b ∷ m))) h

mark_by-refused : (b : ℕ) (m rest : List ℕ) → is_one_of (b ∷ m) marks ≡ false → mark_by ((b ∷ m) ++ rest) (length (b ∷ m)) ≡ cut.Refused (length (b ∷ m))
mark_by-refused b m rest h =
    let t : take (length (b ∷ m)) ((b ∷ m) ++ rest) ≡ b ∷ m = take-append_seam (b ∷ m) rest in
    let z : (length (b ∷ m) == 0) ≡ false = ne_eqb (length (b ∷ m)) 0 (λ e. absurd (omega (arith, e))) in
    ap (λ (c : Bool). if c then cut.BadByte 0 else (if is_one_of (take (length (b ∷ m)) ((b ∷ m) ++ rest)) marks then cut.Mark (length (b ∷ m)) else cut.Refused (length (b ∷ m)))) z ∙ ap (λ (x : List ℕ). if is_one_of x marks then cut.Mark (length (b ∷ m)) else cut.Refused (length (b ∷ m))) t ∙ ap (λ (c : Bool). if c then cut.Mark (length (b ∷ m)) else cut.Refused (length (b ∷ m))) h

longest_mark-is : (m rest : List ℕ) → IsLongest m rest → (is_one_of m marks ≡ true) ⊎ (is_one_of m refused_marks ≡ true) → longest_mark (m ++ rest) ≡ length m
longest_mark-is m rest i h =
    let k = longest-most marks (m ++ rest) (length m) i.kept in
    let r = longest-most refused_marks (m ++ rest) (length m) i.refused in
    elim h [
      | inl e ↦ omega (arith, k, r, longest-bound marks (m ++ rest) m e (begins-append m rest))
      | inr e ↦ omega (arith, k, r, longest-bound refused_marks (m ++ rest) m e (begins-append m rest))
    ]

kept-by : (m rest : List ℕ) → begins is_mark_start m ≡ true → is_one_of m marks ≡ true → mark_by (m ++ rest) (length m) ≡ cut.Mark (length m)
kept-by [] rest h i = absurd (cc)
kept-by (b ∷ m) rest h i = mark_by-kept b m rest i

refused-by : (m rest : List ℕ) → begins is_mark_start m ≡ true → is_one_of m marks ≡ false → mark_by (m ++ rest) (length m) ≡ cut.Refused (length m)
refused-by [] rest h i = absurd (cc)
refused-by (b ∷ m) rest h i = mark_by-refused b m rest i

pub mark-reads : (m rest : List ℕ) → is_one_of m marks ≡ true → IsLongest m rest → cut_of (m ++ rest) ≡ cut.Mark (length m)
mark-reads m rest h i =
    let s = every-one (begins is_mark_start) marks m marks-start h in
    mark-cut m rest s i ∙ ap (λ (n : ℕ). mark_by (m ++ rest) n) (longest_mark-is m rest i (inl h)) ∙ kept-by m rest s h

pub refused_mark-reads : (m rest : List ℕ) → is_one_of m marks ≡ false → is_one_of m refused_marks ≡ true → IsLongest m rest → cut_of (m ++ rest) ≡ cut.Refused (length m)
refused_mark-reads m rest k h i =
    let s = every-one (begins is_mark_start) refused_marks m refused_marks-start h in
    mark-cut m rest s i ∙ ap (λ (n : ℕ). mark_by (m ++ rest) n) (longest_mark-is m rest i (inr h)) ∙ refused-by m rest s k

bad-no_slash : (b : ℕ) (rest : List ℕ) → IsBad b rest → (c : Bool) → is_comment b rest ≡ c → is_comment b rest ≡ false
bad-no_slash b rest i false h = h
bad-no_slash b [] i true h = absurd (cc)
bad-no_slash b (c ∷ cs) i true h =
    let p = and_parts (b == 47) (c == 47 || c == 42) h in
    let s : begins_with (codes "/") (b ∷ c ∷ cs) ≡ true = rw p.0 refl in
    let n : begins_with (codes "/") (b ∷ c ∷ cs) ≡ false = i.no_kept (codes "/") slash-mark in
    absurd (cc)

none-longer : (table : List (List ℕ)) (t : List ℕ) → NoneStands table t → NoLonger table 0 t
none-longer table t h = λ m i j. let n : begins_with m t ≡ false = h m i in absurd (cc)

pub bad-reads : (b : ℕ) (rest : List ℕ) → IsBad b rest → cut_of (b ∷ rest) ≡ cut.BadByte 0
bad-reads b rest i =
    let n : longest_mark (b ∷ rest) ≡ 0 = omega (arith, longest-most marks (b ∷ rest) 0 (none-longer marks (b ∷ rest) i.no_kept), longest-most refused_marks (b ∷ rest) 0 (none-longer refused_marks (b ∷ rest) i.no_refused)) in
    cut-other b rest i.no_blank (bad-no_slash b rest i (is_comment b rest) refl) i.no_word i.no_number i.no_text ∙ ap (λ (k : ℕ). mark_by (b ∷ rest) k) n

starts-some : (m : List ℕ) → begins is_mark_start m ≡ true → 1 ≤ length m
starts-some [] h = absurd (cc)
starts-some (b ∷ m) h = omega arith

pub mark-some : (m : List ℕ) → is_one_of m marks ≡ true → 1 ≤ length m
mark-some m h = starts-some m (every-one (begins is_mark_start) marks m marks-start h)

pub refused_mark-some : (m : List ℕ) → is_one_of m refused_marks ≡ true → 1 ≤ length m
refused_mark-some m h = starts-some m (every-one (begins is_mark_start) refused_marks m refused_marks-start h)
