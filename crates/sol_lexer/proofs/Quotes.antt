-- Where a text in quotes ends.
use Rattle.std.proofs.Common.{◌≡◌, ◌≢◌, ℕ, ◌+◌, Bool, true, false, ◌==◌, List, [], ◌∷◌, ◌++◌, length, Option, Some, None, refl, sym, subst, ap, ◌∙◌, arith, ◌⊎◌, inl}
use Rattle.std.proofs.lemmas.Bool.{eqb-true, eqb-false, eq-eqb, ne_eqb}
use Rattle.std.proofs.lemmas.Bool.Decides.{nat_tests}
use Rattle.sol_lexer.specs.Bytes.{is_quote, is_printable}
use Rattle.sol_lexer.specs.Reading.{closing_on, further}
use Rattle.sol_lexer.specs.Tokens.{InText, Breaks, nothing, plain, escaped, at_end, after_backslash, at_byte}

closing-quote : (q : ℕ) (t : List ℕ) → closing_on q false (q ∷ t) ≡ Some 1
closing-quote q t = rw (eq-eqb q q refl) refl

closing-plain : (q b : ℕ) (t : List ℕ) → (b == q) ≡ false → (b == 92) ≡ false → is_printable b ≡ true → closing_on q false (b ∷ t) ≡ further 1 (closing_on q false t)
closing-plain q b t x y z = rw x (rw y (rw z refl))

closing-bad : (q b : ℕ) (t : List ℕ) → (b == q) ≡ false → (b == 92) ≡ false → is_printable b ≡ false → closing_on q false (b ∷ t) ≡ None
closing-bad q b t x y z = rw x (rw y (rw z refl))

closing-escape : (q : ℕ) (t : List ℕ) → (92 == q) ≡ false → closing_on q false (92 ∷ t) ≡ further 1 (closing_on q true t)
closing-escape q t x = rw x refl

quote-no_escape : (q : ℕ) → is_quote q ≡ true → (92 == q) ≡ false
quote-no_escape q h = grind (arith, nat_tests)

quote-printable : (q : ℕ) → is_quote q ≡ true → is_printable q ≡ true
quote-printable q h = grind (arith, nat_tests)

-- ---- what stands before the quote is passed

pub text-closes : {q : ℕ} {s : List ℕ} → InText q s → is_quote q ≡ true → (rest : List ℕ) → closing_on q false (s ++ (q ∷ rest)) ≡ Some (length s + 1)
text-closes (nothing {q}) h rest = closing-quote q rest
text-closes (plain {q} {b} {s} p n m i) h rest =
    let long : (length s + 1) + 1 ≡ length (b ∷ s) + 1 = omega arith in
    closing-plain q b (s ++ (q ∷ rest)) (ne_eqb b q n) (ne_eqb b 92 m) p ∙ rw (text-closes i h rest) (ap Some long)
text-closes (escaped {q} {b} {s} i) h rest =
    let long : ((length s + 1) + 1) + 1 ≡ length (92 ∷ b ∷ s) + 1 = omega arith in
    closing-escape q (b ∷ (s ++ (q ∷ rest))) (quote-no_escape q h) ∙ rw (text-closes i h rest) (ap Some long)

break-none : {q : ℕ} {rest : List ℕ} → Breaks q rest → is_quote q ≡ true → closing_on q false rest ≡ None
break-none (at_end {q}) h = refl
break-none (after_backslash {q}) h = closing-escape q [] (quote-no_escape q h)
break-none (at_byte {q} {b} {s} p) h =
    let k = quote-printable q h in
    let x : (b == q) ≡ false = ne_eqb b q (λ e. absurd (cc)) in
    let y : (b == 92) ≡ false = grind (arith, nat_tests) in
    closing-bad q b s x y p

pub text-breaks : {q : ℕ} {s : List ℕ} → InText q s → is_quote q ≡ true → {rest : List ℕ} → Breaks q rest → closing_on q false (s ++ rest) ≡ None
text-breaks (nothing {q}) h {rest} r = break-none r h
text-breaks (plain {q} {b} {s} p n m i) h {rest} r = closing-plain q b (s ++ rest) (ne_eqb b q n) (ne_eqb b 92 m) p ∙ rw (text-breaks i h r) refl
text-breaks (escaped {q} {b} {s} i) h {rest} r = closing-escape q (b ∷ (s ++ rest)) (quote-no_escape q h) ∙ rw (text-breaks i h r) refl

-- ---- what is found is so

abbrev pub TextCut : ℕ → List ℕ → Option ℕ → Type 0
TextCut q t None = (s : List ℕ) × (rest : List ℕ) × (t ≡ s ++ rest) × InText q s × Breaks q rest
TextCut q t (Some n) = (s : List ℕ) × (rest : List ℕ) × (t ≡ s ++ (q ∷ rest)) × InText q s × (n ≡ length s + 1)

cut-plain : (q b : ℕ) (t : List ℕ) → is_printable b ≡ true → b ≢ q → b ≢ 92 → (o : Option ℕ) → TextCut q t o → TextCut q (b ∷ t) (further 1 o)
cut-plain q b t p n m None i = (b ∷ i.0, i.1, ap (λ (xs : List ℕ). b ∷ xs) i.2, plain p n m i.3, i.4)
cut-plain q b t p n m (Some k) i =
    let long : k + 1 ≡ length (b ∷ i.0) + 1 = omega (arith, i.4) in
    (b ∷ i.0, i.1, ap (λ (xs : List ℕ). b ∷ xs) i.2, plain p n m i.3, long)

cut-escaped : (q b : ℕ) (t : List ℕ) → (o : Option ℕ) → TextCut q t o → TextCut q (92 ∷ b ∷ t) (further 1 (further 1 o))
cut-escaped q b t None i = (92 ∷ b ∷ i.0, i.1, ap (λ (xs : List ℕ). 92 ∷ b ∷ xs) i.2, escaped i.3, i.4)
cut-escaped q b t (Some k) i =
    let long : (k + 1) + 1 ≡ length (92 ∷ b ∷ i.0) + 1 = omega (arith, i.4) in
    (92 ∷ b ∷ i.0, i.1, ap (λ (xs : List ℕ). 92 ∷ b ∷ xs) i.2, escaped i.3, long)

abbrev Told : ℕ → List ℕ → Type 0
Told q t = TextCut q t (closing_on q false t)

told : (q : ℕ) (t : List ℕ) (o : Option ℕ) → closing_on q false t ≡ o → TextCut q t o → Told q t
told q t o e i = subst (λ (x : Option ℕ). TextCut q t x) (sym e) i

-- a byte that is no backslash
told-byte : (q b : ℕ) (t : List ℕ) (x y z : Bool) → (b == q) ≡ x → (b == 92) ≡ y → is_printable b ≡ z → y ≡ false ⊎ (x ≡ true) → Told q t → Told q (b ∷ t)
told-byte q b t true y z hx hy hz n i =
    let e = eqb-true b q hx in
    told q (b ∷ t) (Some 1) (rw hx refl) ([], t, rw e refl, nothing, refl)
told-byte q b t false true z hx hy hz n i = absurd (grind arith)
told-byte q b t false false true hx hy hz n i = told q (b ∷ t) (further 1 (closing_on q false t)) (closing-plain q b t hx hy hz) (cut-plain q b t hz (eqb-false b q hx) (eqb-false b 92 hy) (closing_on q false t) i)
told-byte q b t false false false hx hy hz n i = told q (b ∷ t) None (closing-bad q b t hx hy hz) ([], b ∷ t, refl, nothing, at_byte hz)

told-backslash : (q : ℕ) (t : List ℕ) → (92 == q) ≡ false → ((c : ℕ) (cs : List ℕ) → t ≡ c ∷ cs → Told q cs) → Told q (92 ∷ t)
told-backslash q [] h i = told q (92 ∷ []) None (closing-escape q [] h) ([], 92 ∷ [], refl, nothing, after_backslash)
told-backslash q (c ∷ cs) h i = told q (92 ∷ c ∷ cs) (further 1 (further 1 (closing_on q false cs))) (closing-escape q (c ∷ cs) h) (cut-escaped q c cs (closing_on q false cs) (i c cs refl))

told-step : (q b : ℕ) (t : List ℕ) → is_quote q ≡ true → (y : Bool) → (b == 92) ≡ y → Told q t → ((c : ℕ) (cs : List ℕ) → t ≡ c ∷ cs → Told q cs) → Told q (b ∷ t)
told-step q b t h true e i j =
    let k = eqb-true b 92 e in
    subst (λ (x : ℕ). Told q (x ∷ t)) (sym k) (told-backslash q t (quote-no_escape q h) j)
told-step q b t h false e i j = told-byte q b t (b == q) (b == 92) (is_printable b) refl refl refl (inl e) i

same-tail : (c d : ℕ) (cs ds : List ℕ) → c ∷ cs ≡ d ∷ ds → cs ≡ ds
same-tail c d cs ds h = cc

pub text-told : (q : ℕ) → is_quote q ≡ true → (t : List ℕ) → Told q t
text-told q h [] = ([], [], refl, nothing, at_end)
text-told q h (b ∷ []) = told-step q b [] h (b == 92) refl (text-told q h []) (λ c cs e. absurd (cc))
text-told q h (b ∷ c ∷ cs) = told-step q b (c ∷ cs) h (b == 92) refl (text-told q h (c ∷ cs)) (λ d ds e. subst (λ (xs : List ℕ). Told q xs) (same-tail c d cs ds e) (text-told q h cs))
