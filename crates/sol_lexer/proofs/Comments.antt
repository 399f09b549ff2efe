-- Where a comment closes.
use Rattle.std.proofs.Common.{◌≡◌, ℕ, ◌+◌, Bool, true, false, ◌&&◌, ◌==◌, List, [], ◌∷◌, ◌++◌, length, Option, Some, None, refl, subst, ap, ◌∙◌, arith}
use Rattle.std.specs.Prelude.{codes}
use Rattle.std.proofs.lemmas.Bool.{and_parts, and_right, eqb-true}
use Rattle.sol_lexer.specs.Bytes.{begins}
use Rattle.sol_lexer.specs.Reading.{close_of}
use Rattle.sol_lexer.specs.Tokens.{Holds}

abbrev is_slash : ℕ → Bool
is_slash c = c == 47

abbrev is_here : ℕ → List ℕ → Bool
is_here b bs = b == 42 && begins is_slash bs

here : (b : ℕ) (bs : List ℕ) → is_here b bs ≡ true → (rest : List ℕ) × (b ∷ bs ≡ 42 ∷ 47 ∷ rest)
here b [] h = absurd (cc ((and_parts (b == 42) false h).1))
here b (c ∷ cs) h =
    let p = and_parts (b == 42) (c == 47) h in
    let x : b ≡ 42 = eqb-true b 42 p.0 in
    let y : c ≡ 47 = eqb-true c 47 p.1 in
    (cs, rw (x, y) refl)

-- a text that holds the mark has a place where the first one ends
found-more : (b : ℕ) (bs : List ℕ) (c : Bool) → is_here b bs ≡ c → (n : ℕ) × (close_of bs ≡ Some n) → (n : ℕ) × (close_of (b ∷ bs) ≡ Some n)
found-more b bs true h i = (2, rw h refl)
found-more b bs false h i = (i.0 + 1, rw h (rw i.1 refl))

found : (before after : List ℕ) → (n : ℕ) × (close_of (before ++ (42 ∷ 47 ∷ after)) ≡ Some n)
found [] after = (2, refl)
found (b ∷ before) after =
    let bs = before ++ (42 ∷ 47 ∷ after) in
    found-more b bs (is_here b bs) refl (found before after)

pub none-holds : (t : List ℕ) → close_of t ≡ None → ¬ Holds (codes "*/") t
none-holds t h = λ x.
    let f = found x.0 x.1 in
    let e : close_of t ≡ Some f.0 = ap close_of x.2 ∙ f.1 in
    absurd (cc)

-- where the first one ends, nothing before it holds one
abbrev pub Closed : List ℕ → ℕ → Type 0
Closed t n = (s : List ℕ) × (rest : List ℕ) × (t ≡ s ++ (42 ∷ 47 ∷ rest)) × (n ≡ length s + 2) × (close_of s ≡ None)

not-here : (b : ℕ) (s after : List ℕ) → is_here b (s ++ after) ≡ false → is_here b s ≡ false
not-here b [] after h = and_right (b == 42) false refl
not-here b (c ∷ s) after h = h

some-same : (m n : ℕ) → ◌≡◌ {A = Option ℕ} (Some m) (Some n) → n ≡ m
some-same m n h = cc

closed-more : (b : ℕ) (bs : List ℕ) (c : Bool) → is_here b bs ≡ c → (o : Option ℕ) → close_of bs ≡ o → (n : ℕ) → close_of (b ∷ bs) ≡ Some n → ((m : ℕ) → close_of bs ≡ Some m → Closed bs m) → Closed (b ∷ bs) n
closed-more b bs true h o q n e i =
    let f : Some 2 ≡ Some n = rw h at e in
    let p = here b bs h in
    ([], p.0, p.1, some-same 2 n f, refl)
closed-more b bs false h None q n e i =
    let f : None ≡ Some n = rw (h, q) at e in
    absurd (cc)
closed-more b bs false h (Some m) q n e i =
    let f : Some (m + 1) ≡ Some n = rw (h, q) at e in
    let p = i m q in
    let long : n ≡ length (b ∷ p.0) + 2 = omega (arith, some-same (m + 1) n f, p.3) in
    let no : is_here b p.0 ≡ false = not-here b p.0 (42 ∷ 47 ∷ p.1) (subst (λ (xs : List ℕ). is_here b xs ≡ false) p.2 h) in
    (b ∷ p.0, p.1, ap (λ (xs : List ℕ). b ∷ xs) p.2, long, rw no (rw p.4 refl))

pub closed : (t : List ℕ) (n : ℕ) → close_of t ≡ Some n → Closed t n
closed [] n h = absurd (cc)
closed (b ∷ bs) n h = closed-more b bs (is_here b bs) refl (close_of bs) refl n h (closed bs)

holds-first : (b : ℕ) (s : List ℕ) → is_here b s ≡ true → Holds (codes "*/") (b ∷ s)
holds-first b s h = let p = here b s h in ([], p.0, p.1)

holds-later : (b : ℕ) (s : List ℕ) → Holds (codes "*/") s → Holds (codes "*/") (b ∷ s)
holds-later b s h = (b ∷ h.0, h.1, ap (λ (xs : List ℕ). b ∷ xs) h.2)

not-seam : (b : ℕ) (s after : List ℕ) → ¬ Holds (codes "*/") (b ∷ s) → is_here b (s ++ (42 ∷ after)) ≡ true → ⊥
not-seam b [] after n h = absurd (cc ((and_parts (b == 42) false h).1))
not-seam b (c ∷ s) after n h = n (holds-first b (c ∷ s) h)

closes-more : (b : ℕ) (s rest : List ℕ) (c : Bool) → is_here b (s ++ (42 ∷ 47 ∷ rest)) ≡ c → ¬ Holds (codes "*/") (b ∷ s) → close_of (s ++ (42 ∷ 47 ∷ rest)) ≡ Some (length s + 2) → close_of (b ∷ (s ++ (42 ∷ 47 ∷ rest))) ≡ Some (length (b ∷ s) + 2)
closes-more b s rest true h n i = absurd (not-seam b s (47 ∷ rest) n h)
closes-more b s rest false h n i =
    let long : (length s + 2) + 1 ≡ length (b ∷ s) + 2 = omega arith in
    rw h (rw i (ap Some long))

pub closes : (s rest : List ℕ) → ¬ Holds (codes "*/") s → close_of (s ++ (42 ∷ 47 ∷ rest)) ≡ Some (length s + 2)
closes [] rest n = refl
closes (b ∷ s) rest n = closes-more b s rest (is_here b (s ++ (42 ∷ 47 ∷ rest))) refl n (closes s rest (λ h. n (holds-later b s h)))

opens-with : (s : List ℕ) (o : Option ℕ) → close_of s ≡ o → ¬ Holds (codes "*/") s → close_of s ≡ None
opens-with s None h n = h
opens-with s (Some m) h n = let p = closed s m h in absurd (n (p.0, p.1, p.2))

pub opens : (s : List ℕ) → ¬ Holds (codes "*/") s → close_of s ≡ None
opens s n = opens-with s (close_of s) refl n
