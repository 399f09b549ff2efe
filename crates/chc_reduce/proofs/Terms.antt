-- Turns of the loops over terms.
use Rattle.std.proofs.Common.{◌≡◌, ◌∙◌, sym, ap, refl, ℕ, ◌-◌, ◌≤◌, ◌<◌, ◌≢◌, ◌==◌, length, get_or, take, drop, Result, Ok, Err, IfOk, List, [], ◌∷◌, ◌++◌, Option, Some, None, arith, append_assoc, append-nil, true, false, neg_ℤ}
use lib.IntN.{ℤ}
use Rattle.std.specs.Prelude.{nat_lt, ◌+ℤ◌}
use Rattle.std.proofs.lemmas.Bool.Decides.{nat_tests}
use Rattle.std.proofs.Math.Seq.{take-length}
use Rattle.chc_nums.specs.Values.{with_value}
use Rattle.chc_nums.specs.Wide.{in_128}
use Rattle.chc_reduce.specs.Literals.{put_term, raised, narrowed_terms, opposite_terms}

-- the three places of a variable among terms
pub raised-less : (x : ℕ) (a : ℤ) (t : ℕ × ℤ) (ts : List (ℕ × ℤ)) → x < t.0 → raised x a (t ∷ ts) ≡ put_term x a (t ∷ ts)
raised-less x a t ts l = let e : nat_lt x t.0 ≡ true = grind (arith, nat_tests) in rw e refl

pub raised-same : (x : ℕ) (a : ℤ) (t : ℕ × ℤ) (ts : List (ℕ × ℤ)) → x ≡ t.0 → raised x a (t ∷ ts) ≡ put_term x (t.1 +ℤ a) ts
raised-same x a t ts l =
    let e : nat_lt x t.0 ≡ false = grind (arith, nat_tests) in
    let f : (x == t.0) ≡ true = grind (arith, nat_tests) in
    rw (e, f) refl

pub raised-more : (x : ℕ) (a : ℤ) (t : ℕ × ℤ) (ts : List (ℕ × ℤ)) → t.0 ≤ x → x ≢ t.0 → raised x a (t ∷ ts) ≡ t ∷ raised x a ts
raised-more x a t ts l k =
    let e : nat_lt x t.0 ≡ false = grind (arith, nat_tests) in
    let f : (x == t.0) ≡ false = grind (arith, nat_tests) in
    rw (e, f) refl

pub ruleset turns = (raised-less, raised-same, raised-more, append_assoc, append-nil)

same-in : (x : ℕ) (a b : ℤ) (made rest whole ts : List (ℕ × ℤ)) (t : ℕ × ℤ) → 1 ≤ length rest → t ≡ get_or rest 0 t → x ≡ t.0 → b ≡ t.1 +ℤ a → made ++ raised x a rest ≡ whole → ts ≡ made ++ put_term x b (take (length rest - 1) (drop 1 rest)) → ts ≡ whole
same-in x a b made [] whole ts t l e h k i p = absurd (omega arith)
same-in x a b made (u ∷ rest) whole ts t l e h k i p =
    let n : length (u ∷ rest) - 1 ≡ length rest = omega arith in
    let own : t ≡ u = e in
    let here : x ≡ u.0 = h ∙ ap (λ (q : ℕ × ℤ). q.0) own in
    let number : b ≡ u.1 +ℤ a = k ∙ ap (λ (q : ℕ × ℤ). q.1 +ℤ a) own in
    let all : take (length (u ∷ rest) - 1) (drop 1 (u ∷ rest)) ≡ rest = rw n (take-length rest) in
    p
    ∙ ap (λ (us : List (ℕ × ℤ)). made ++ put_term x b us) all
    ∙ ap (λ (z : ℤ). made ++ put_term x z rest) number
    ∙ ap (λ (us : List (ℕ × ℤ)). made ++ us) (sym (raised-same x a u rest here))
    ∙ i

-- the variable's own term is the first of the rest
pub same-ok : {E : Type 0} (r : Result (List (ℕ × ℤ)) E) (x : ℕ) (a b : ℤ) (made held rest whole : List (ℕ × ℤ)) (t : ℕ × ℤ) → held ≡ made → 1 ≤ length rest → t ≡ get_or rest 0 t → x ≡ t.0 → b ≡ t.1 +ℤ a → made ++ raised x a rest ≡ whole → IfOk r (λ ts. ts ≡ held ++ put_term x b (take (length rest - 1) (drop 1 rest))) → IfOk r (λ ts. ts ≡ whole)
same-ok (Ok ts) x a b made held rest whole t m l e h k i p =
    same-in x a b made rest whole ts t l e h k i (p ∙ ap (λ (us : List (ℕ × ℤ)). us ++ put_term x b (take (length rest - 1) (drop 1 rest))) m)
same-ok (Err o) x a b made held rest whole t m l e h k i p = tt

-- terms that were made, and then those of a rest
abbrev pub after : {A : Type 0} → List A → Option (List A) → Option (List A)
after made o = with_value o (λ ts. Some (made ++ ts))

pub after-nothing : {A : Type 0} → (o : Option (List A)) → after [] o ≡ o
after-nothing None = refl
after-nothing (Some ts) = refl

pub after-all : {A : Type 0} → (made : List A) → after made (Some []) ≡ Some made
after-all made = ap Some (append-nil made)

with-one : (made : List (ℕ × ℤ)) (t : ℕ × ℤ) (o : Option (List (ℕ × ℤ))) (b : ℤ) → after (made ++ (t.0, b) ∷ []) o ≡ after made (with_value o (λ more. Some ((t.0, b) ∷ more)))
with-one made t None b = refl
with-one made t (Some ts) b = ap Some (append_assoc made ((t.0, b) ∷ []) ts)

pub narrowed_turn : (made : List (ℕ × ℤ)) (t : ℕ × ℤ) (ts : List (ℕ × ℤ)) (b : ℤ) → Some b ≡ in_128 t.1 → after (made ++ (t.0, b) ∷ []) (narrowed_terms ts) ≡ after made (narrowed_terms (t ∷ ts))
narrowed_turn made t ts b e = rw (← e) (with-one made t (narrowed_terms ts) b)

pub narrowed_stop : (made : List (ℕ × ℤ)) (t : ℕ × ℤ) (ts : List (ℕ × ℤ)) → None ≡ in_128 t.1 → None ≡ after made (narrowed_terms (t ∷ ts))
narrowed_stop made t ts e = rw (← e) refl

pub opposite_turn : (made : List (ℕ × ℤ)) (t : ℕ × ℤ) (ts : List (ℕ × ℤ)) → (made ++ (t.0, neg_ℤ t.1) ∷ []) ++ opposite_terms ts ≡ made ++ opposite_terms (t ∷ ts)
opposite_turn made t ts = append_assoc made ((t.0, neg_ℤ t.1) ∷ []) (opposite_terms ts)

pub ruleset narrows = (narrowed_turn, narrowed_stop, opposite_turn, after-nothing, after-all, append-nil)
