-- What is read as a list is spelled so.
use Rattle.std.proofs.Common.{◌≡◌, sym, subst, refl, ℕ, zero, suc, ◌+◌, ◌≤◌, max, List, [], ◌∷◌, ◌++◌, length, append_assoc, append-nil, Option, codes, arith}
use Rattle.sol_tree.specs.declared.token.Token.{Token}
use Rattle.sol_parse_expr.specs.Grammar.{IsMark}
use Rattle.sol_parse_expr.specs.Heights.{greatest}
use Rattle.sol_parse_expr.specs.Reading.{Measured}
use Rattle.sol_parse_expr.proofs.After.{Holds, Front, Read, after-tree, if-tree, only, after-mark}
use Rattle.sol_parser.specs.Grammar.{Separated, MaySeparated, Repeated, Enclosed}
use Rattle.sol_parser.specs.Heights.{greatest_by}
use Rattle.sol_parser.specs.Reading.{repeated_at, many_at, next_at, separated_at, may_separated_at, enclosed_at}

-- what is read is spelled so, and has d levels at most
abbrev pub Sound : {A : Type 0} → (A → ℕ) → (A → List Token → Type 0) → ℕ → Measured A → Type 0
Sound height_of P d one = (ts : List Token) → Holds (Front (Read height_of P d)) ts (one ts)

-- `, x`
data Following {A : Type 0} (P : A → List Token → Type 0) : A → List Token → Type 0 where
  following : {x : A} (c : Token) {ts : List Token} → IsMark (codes ",") c → P x ts → Following P x (c ∷ ts)

repeated-longer : {A : Type 0} (P : A → List Token → Type 0) (x : A) (xs : List A) (us vs : List Token) → Repeated P xs us → P x vs → Repeated P (xs ++ (x ∷ [])) (us ++ vs)
repeated-longer P x xs us vs Repeated.ended p = subst (λ (w : List Token). Repeated P (x ∷ []) w) (append-nil vs) (Repeated.another p Repeated.ended)
repeated-longer P x xs us vs (Repeated.another {xs = ys} {us = ws} q r) p = rw append_assoc (Repeated.another q (repeated-longer P x ys ws vs r p))

separated-longer : {A : Type 0} (P : A → List Token → Type 0) (x : A) (xs : List A) (us vs : List Token) → Separated P xs us → Following P x vs → Separated P (xs ++ (x ∷ [])) (us ++ vs)
separated-longer P x xs us vs (Separated.last q) (Following.following c m p) = Separated.next c q m (Separated.last p)
separated-longer P x xs us vs (Separated.next {xs = ys} e {us = ws} q n r) f = rw append_assoc (Separated.next e q n (separated-longer P x ys ws vs r f))

greatest-longer : {A : Type 0} (height_of : A → ℕ) (xs : List A) (x : A) → greatest_by height_of (xs ++ (x ∷ [])) ≡ max (greatest_by height_of xs) (height_of x)
greatest-longer height_of [] x = omega arith
greatest-longer height_of (y ∷ ys) x = rw (greatest-longer height_of ys x) (omega arith)

-- the loop, over lists that grow at their end
sound-gathered : {A : Type 0} (height_of : A → ℕ) (Part : A → List Token → Type 0) (L : List A → List Token → Type 0) (d : ℕ) (one : Measured A) → Sound height_of Part d one → ((x : A) (xs : List A) (us vs : List Token) → L xs us → Part x vs → L (xs ++ (x ∷ [])) (us ++ vs)) → (k : ℕ) (xs : List A) (h : ℕ) (us ts : List Token) → Read (greatest_by height_of) L d xs us h → Holds (Front (Read (greatest_by height_of) L d)) (us ++ ts) (repeated_at one k xs h ts)
unfolding repeated_at
sound-gathered height_of Part L d one s longer zero xs h us ts r = (us, r, refl)
sound-gathered height_of Part L d one s longer (suc k) xs h us ts r =
    if-tree (one ts) _ _ (λ w. Front (Read (greatest_by height_of) L d) (us ++ w)) (Read height_of Part d) ts (s ts) (λ x n vs rest p.
    let together : Read (greatest_by height_of) L d (xs ++ (x ∷ [])) (us ++ vs) (max h n) = record {
      spells = longer x xs us vs r.spells p.spells;
      height = rw (greatest-longer height_of xs x) (rw (r.height, p.height) refl);
      low = omega (arith, r.low, p.low);
    } in
    subst (λ (w : List Token). Holds (Front (Read (greatest_by height_of) L d)) w (repeated_at one k (xs ++ (x ∷ [])) (max h n) rest)) (append_assoc us vs rest) (sound-gathered height_of Part L d one s longer k (xs ++ (x ∷ [])) (max h n) (us ++ vs) rest together))
    (us, r, refl)

pub sound-many : {A : Type 0} (height_of : A → ℕ) (P : A → List Token → Type 0) (d : ℕ) (one : Measured A) → Sound height_of P d one → Sound (greatest_by height_of) (Repeated P) d (many_at one)
unfolding many_at
sound-many height_of P d one s ts = sound-gathered height_of P (Repeated P) d one s (repeated-longer P) (length ts) [] 0 [] ts (record { spells = Repeated.ended; height = refl; low = omega arith })

sound-next : {A : Type 0} (height_of : A → ℕ) (P : A → List Token → Type 0) (d : ℕ) (one : Measured A) → Sound height_of P d one → Sound height_of (Following P) d (next_at one)
unfolding next_at
sound-next height_of P d one s ts =
    after-mark (codes ",") ts _ (Front (Read height_of (Following P) d)) (λ c us ic.
    only (one us) (λ w. Front (Read height_of (Following P) d) (c ∷ w)) (Read height_of P d) us (s us) (λ a h vs rest r.
    (c ∷ vs, record { spells = Following.following c ic r.spells; height = r.height; low = r.low }, refl)))

pub sound-separated : {A : Type 0} (height_of : A → ℕ) (P : A → List Token → Type 0) (d : ℕ) (one : Measured A) → Sound height_of P d one → Sound (greatest_by height_of) (Separated P) d (separated_at one)
unfolding separated_at
sound-separated height_of P d one s ts =
    after-tree (one ts) _ (Front (Read (greatest_by height_of) (Separated P) d)) (Read height_of P d) ts (s ts) (λ x h us rest r.
    sound-gathered height_of (Following P) (Separated P) d (next_at one) (sound-next height_of P d one s) (separated-longer P) (length rest) (x ∷ []) h us rest (record { spells = Separated.last r.spells; height = omega (arith, r.height); low = r.low }))

sound-may_separated : {A : Type 0} (height_of : A → ℕ) (P : A → List Token → Type 0) (d : ℕ) (one : Measured A) → Sound height_of P d one → Sound (greatest_by height_of) (MaySeparated P) d (may_separated_at one)
unfolding may_separated_at
sound-may_separated height_of P d one s ts =
    if-tree (separated_at one ts) _ _ (Front (Read (greatest_by height_of) (MaySeparated P) d)) (Read (greatest_by height_of) (Separated P) d) ts (sound-separated height_of P d one s ts) (λ xs h us rest r.
    (us, record { spells = MaySeparated.some r.spells; height = r.height; low = r.low }, refl))
    ([], record { spells = MaySeparated.none; height = refl; low = omega arith }, refl)

pub sound-enclosed : {A : Type 0} (height_of : A → ℕ) (P : A → List Token → Type 0) (d : ℕ) (one : Measured A) → Sound height_of P d one → Sound (greatest_by height_of) (Enclosed P) d (enclosed_at one)
unfolding enclosed_at
sound-enclosed height_of P d one s ts =
    after-mark (codes "(") ts _ (Front (Read (greatest_by height_of) (Enclosed P) d)) (λ o t1 io.
    after-tree (may_separated_at one t1) _ (λ x. Front (Read (greatest_by height_of) (Enclosed P) d) (o ∷ x)) (Read (greatest_by height_of) (MaySeparated P) d) t1 (sound-may_separated height_of P d one s t1) (λ xs h us t2 r.
    after-mark (codes ")") t2 _ (λ x. Front (Read (greatest_by height_of) (Enclosed P) d) (o ∷ (us ++ x))) (λ c rest ic.
    (o ∷ (us ++ (c ∷ [])), record { spells = Enclosed.between o c io r.spells ic; height = r.height; low = r.low }, simp append_assoc refl))))
