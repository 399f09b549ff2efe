-- Merging step by step.
use Rattle.std.proofs.Common.{◌≡◌, ◌∙◌, sym, ap, refl, subst, ℕ, ◌+◌, ◌<◌, ◌≤◌, List, [], ◌∷◌, ◌++◌, ◌==◌, Bool, true, false, map, length, Option, Some, None, arith, append_assoc, append-nil, if◌then◌else◌}
use Rattle.std.specs.List.{list_all, list_any}
use Rattle.std.proofs.lemmas.Bool.Decides.{nat_tests}
use Rattle.sol_names.specs.Linearization.{is_behind, is_empty, next_among, next_of, without_head, Merges, ended, taken}
use Rattle.sol_names.specs.Tails.{Below, AllBelow}

-- what the first of a merged list tells
abbrev Step : List (List ℕ) → List ℕ → Type 0
Step ls [] = list_all is_empty ls ≡ true
Step ls (h ∷ rest) = (next_of ls ≡ Some h) × Merges (map (without_head h) ls) rest

step : {ls : List (List ℕ)} {o : List ℕ} → Merges ls o → Step ls o
step (ended e) = e
step (taken e m) = (e, m)

-- empty lists have no head
empty-next : (all ls : List (List ℕ)) → list_all is_empty ls ≡ true → next_among all ls ≡ None
empty-next all [] e = refl
empty-next all ([] ∷ ls) e = empty-next all ls e
empty-next all ((x ∷ xs) ∷ ls) e = absurd (cc)

-- ---- the numbers that were taken, and the lists that are left

-- what was taken is a beginning of what merging gives, and merging what is left gives the rest
pub record Taken (whole : List (List ℕ)) (order : List ℕ) (left : List (List ℕ)) : Type 0 where
  pub sound : (o : List ℕ) → Merges left o → Merges whole (order ++ o)
  pub complete : (o : List ℕ) → Merges whole o → (rest : List ℕ) × (o ≡ order ++ rest) × Merges left rest

pub taken-start : (ls : List (List ℕ)) → Taken ls [] ls
taken-start ls = record { sound = λ o m. m; complete = λ o m. (o, refl, m) }

one-more : (order rest : List ℕ) (h : ℕ) → (order ++ h ∷ []) ++ rest ≡ order ++ h ∷ rest
one-more order rest h = append_assoc order (h ∷ []) rest

rest-more : (whole left : List (List ℕ)) (order : List ℕ) (h : ℕ) (o rest : List ℕ) → next_of left ≡ Some h → o ≡ order ++ rest → Step left rest → (more : List ℕ) × (o ≡ (order ++ h ∷ []) ++ more) × Merges (map (without_head h) left) more
rest-more whole left order h o [] e f s = let n : next_of left ≡ None = empty-next left left s in absurd (cc)
rest-more whole left order h o (k ∷ rest) e f (g, m) =
    let same : k ≡ h = cc in
    (rest, f ∙ ap (λ (x : ℕ). order ++ x ∷ rest) same ∙ sym (one-more order rest h), subst (λ (x : ℕ). Merges (map (without_head x) left) rest) same m)

pub taken-more : (whole left : List (List ℕ)) (order : List ℕ) (h : ℕ) → next_of left ≡ Some h → Taken whole order left → Taken whole (order ++ h ∷ []) (map (without_head h) left)
taken-more whole left order h e t = record {
  sound = λ o m. subst (Merges whole) (sym (one-more order o h)) (t.sound (h ∷ o) (taken e m));
  complete = λ o m. let r = t.complete o m in rest-more whole left order h o r.0 e r.1 (step r.2);
}

pub merge-ended : (whole left : List (List ℕ)) (order : List ℕ) → Taken whole order left → list_all is_empty left ≡ true → Merges whole order
merge-ended whole left order t e = subst (Merges whole) (append-nil order) (t.sound [] (ended e))

stuck : (left : List (List ℕ)) (rest : List ℕ) → next_of left ≡ None → list_all is_empty left ≡ false → Step left rest → ⊥
stuck left [] e f s = absurd (cc)
stuck left (k ∷ rest) e f (g, m) = absurd (cc)

pub merge-stuck : (whole left : List (List ℕ)) (order : List ℕ) → Taken whole order left → next_of left ≡ None → list_all is_empty left ≡ false → (o : List ℕ) → Merges whole o → ⊥
merge-stuck whole left order t e f o m = let r = t.complete o m in stuck left r.0 e f (step r.2)

-- lists are merged into one list alone
unique-at : (ls : List (List ℕ)) (h : ℕ) (rest : List ℕ) → next_of ls ≡ Some h → ((p : List ℕ) → Merges (map (without_head h) ls) p → rest ≡ p) → (p : List ℕ) → Step ls p → h ∷ rest ≡ p
unique-at ls h rest e go [] s = let n : next_of ls ≡ None = empty-next ls ls s in absurd (cc)
unique-at ls h rest e go (k ∷ p) (f, m) =
    let same : k ≡ h = cc in
    let later : rest ≡ p = go p (subst (λ (x : ℕ). Merges (map (without_head x) ls) p) same m) in
    cc

none-at : (ls : List (List ℕ)) → list_all is_empty ls ≡ true → (p : List ℕ) → Step ls p → [] ≡ p
none-at ls e [] s = refl
none-at ls e (k ∷ p) (f, m) = let n : next_of ls ≡ None = empty-next ls ls e in absurd (cc)

pub merge-unique : {ls : List (List ℕ)} {o p : List ℕ} → Merges ls o → Merges ls p → o ≡ p
merge-unique {ls} {o} {p} (ended e) m = none-at ls e p (step m)
merge-unique {ls} {o} {p} (taken {h = h} {rest = rest} e n) m = unique-at ls h rest e (λ q k. merge-unique n k) p (step m)

-- ---- the lists get shorter

abbrev pub total : List (List ℕ) → ℕ
total [] = 0
total (l ∷ ls) = length l + total ls

without-shorter : (h x : ℕ) (xs : List ℕ) (b : Bool) → length (if b then xs else x ∷ xs) ≤ length (x ∷ xs)
without-shorter h x xs true = omega arith
without-shorter h x xs false = omega arith

head-shorter : (h : ℕ) (l : List ℕ) → length (without_head h l) ≤ length l
head-shorter h [] = omega arith
head-shorter h (x ∷ xs) = without-shorter h x xs (x == h)

total-shorter : (h : ℕ) (ls : List (List ℕ)) → total (map (without_head h) ls) ≤ total ls
total-shorter h [] = omega arith
total-shorter h (l ∷ ls) = omega (arith, head-shorter h l, total-shorter h ls)

own-head : (h : ℕ) (xs : List ℕ) → without_head h (h ∷ xs) ≡ xs
own-head h xs = let e : (h == h) ≡ true = grind (arith, nat_tests) in rw e refl

falls-at : (all ls : List (List ℕ)) (h x : ℕ) (xs : List ℕ) (b : Bool) → (next_among all ls ≡ Some h → total (map (without_head h) ls) < total ls) → (if b then next_among all ls else Some x) ≡ Some h → total (map (without_head h) ((x ∷ xs) ∷ ls)) < total ((x ∷ xs) ∷ ls)
falls-at all ls h x xs true i e = omega (arith, i e, head-shorter h (x ∷ xs))
falls-at all ls h x xs false i e =
    let same : x ≡ h = cc in
    let own : length (without_head h (x ∷ xs)) ≡ length xs = subst (λ (y : ℕ). length (without_head y (x ∷ xs)) ≡ length xs) same (ap length (own-head x xs)) in
    omega (arith, own, total-shorter h ls)

pub total-falls : (all ls : List (List ℕ)) (h : ℕ) → next_among all ls ≡ Some h → total (map (without_head h) ls) < total ls
total-falls all [] h e = absurd (cc)
total-falls all ([] ∷ ls) h e = omega (arith, total-falls all ls h e)
total-falls all ((x ∷ xs) ∷ ls) h e = falls-at all ls h x xs (list_any (is_behind x) all) (total-falls all ls h) e

-- ---- and their numbers stay below the size

without-below : (n x : ℕ) (xs : List ℕ) (b : Bool) → Below n (x ∷ xs) → Below n (if b then xs else x ∷ xs)
without-below n x xs true h = h.1
without-below n x xs false h = h

head-below : (n h : ℕ) (l : List ℕ) → Below n l → Below n (without_head h l)
head-below n h [] b = b
head-below n h (x ∷ xs) b = without-below n x xs (x == h) b

pub heads-below : (n h : ℕ) (ls : List (List ℕ)) → AllBelow n ls → AllBelow n (map (without_head h) ls)
heads-below n h [] b = b
heads-below n h (l ∷ ls) b = (head-below n h l b.0, heads-below n h ls b.1)

below-at : (n h x : ℕ) (b : Bool) (o : Option ℕ) → x < n → (o ≡ Some h → h < n) → (if b then o else Some x) ≡ Some h → h < n
below-at n h x true o l go e = go e
below-at n h x false o l go e = let same : x ≡ h = cc in subst (λ (y : ℕ). y < n) same l

next-below : (n h : ℕ) (all ls : List (List ℕ)) → AllBelow n ls → next_among all ls ≡ Some h → h < n
next-below n h all [] b e = absurd (cc)
next-below n h all ([] ∷ ls) b e = next-below n h all ls b.1 e
next-below n h all ((x ∷ xs) ∷ ls) b e = below-at n h x (list_any (is_behind x) all) (next_among all ls) b.0.0 (next-below n h all ls b.1) e

pub merge-below : (n : ℕ) {ls : List (List ℕ)} {o : List ℕ} → AllBelow n ls → Merges ls o → Below n o
merge-below n b (ended e) = tt
merge-below n {ls} b (taken {h = h} e m) = (next-below n h ls ls b e, merge-below n (heads-below n h ls b) m)

pub ruleset merging = (taken-start, taken-more, merge-ended, merge-stuck, total-falls, heads-below)
