-- Which candidates drops name, as drops of a further round are added.
use Rattle.std.proofs.Common.{◌≡◌, ◌∙◌, sym, ap, subst, refl, ℕ, zero, suc, ◌+◌, ◌<◌, ◌≤◌, List, [], ◌∷◌, ◌++◌, ◌==◌, nat_lt, Bool, true, false, ◌&&◌, ◌||◌, Some, slice_get, length, arith, if◌then◌else◌}
use Rattle.std.specs.List.{Contains, list_any}
use Rattle.std.proofs.lemmas.Bool.Decides.{nat_tests}
use Rattle.std.proofs.lemmas.List.Folds.{list_any_at}
use Rattle.std.proofs.lemmas.Bool.{and_from}
use Rattle.chc_form.specs.declared.lemma.Lemma.{Lemma}
use Rattle.chc_form.proofs.Entries.{contains-first, contains-later}
use Rattle.chc_houdini.specs.declared.greatest.RoundStop.{RoundStop}
use Rattle.chc_houdini.specs.Drops.{is_named, left_from, kept_from}
use Rattle.lists.proofs.Tests.{less-is, same-is, or-right}

-- all drops are of round i
abbrev pub AllOf : ℕ → List RoundStop → Type 0
AllOf i ds = (d : RoundStop) → Contains ds d → d.round ≡ i

-- all drops are of rounds below i
abbrev pub AllBelow : ℕ → List RoundStop → Type 0
AllBelow i ds = (d : RoundStop) → Contains ds d → d.round < i

neither : (a b c : Bool) → a ≡ false → c ≡ false → ((a && b) || c) ≡ false
neither false b false p q = refl
neither true b c p q = absurd (cc)
neither false b true p q = absurd (cc)

not-less : (m n i : ℕ) → m ≡ i → n ≤ i → nat_lt m n ≡ false
not-less m n i e h = grind (arith, nat_tests)

less-later : (m n : ℕ) → nat_lt m n ≡ true → nat_lt m (suc n) ≡ true
less-later m n h = grind (arith, nat_tests)

none-named : (i r k : ℕ) (es : List RoundStop) → AllOf i es → r ≤ i → is_named es r k ≡ false
none-named i r k [] h below = refl
none-named i r k (d ∷ es) h below =
    neither (nat_lt d.round r) (d.lemma == k) (is_named es r k) (not-less d.round r i (h d (contains-first d es)) below) (none-named i r k es (λ e there. h e (contains-later d e es there)) below)

pub named-more : (i r k : ℕ) (ds es : List RoundStop) → AllOf i es → r ≤ i → is_named (ds ++ es) r k ≡ is_named ds r k
named-more i r k [] es h below = none-named i r k es h below
named-more i r k (d ∷ ds) es h below = ap (λ (b : Bool). (nat_lt d.round r && (d.lemma == k)) || b) (named-more i r k ds es h below)

either-same : (a b : Bool) (c : Lemma) (xs ys : List Lemma) → a ≡ b → xs ≡ ys → (if a then xs else c ∷ xs) ≡ (if b then ys else c ∷ ys)
either-same a b c xs ys p q = cc

pub left-more : (i r k : ℕ) (ds es : List RoundStop) (cs : List Lemma) → AllOf i es → r ≤ i → left_from (ds ++ es) r k cs ≡ left_from ds r k cs
left-more i r k ds es [] h below = refl
left-more i r k ds es (c ∷ cs) h below =
    either-same (is_named (ds ++ es) r k) (is_named ds r k) c (left_from (ds ++ es) r (suc k) cs) (left_from ds r (suc k) cs) (named-more i r k ds es h below) (left-more i r (suc k) ds es cs h below)

both-same : (a b c d : Bool) → a ≡ true → c ≡ d → ((a && b) || c) ≡ (b || d)
both-same true b c d p q = ap (λ (x : Bool). b || x) q
both-same false b c d p q = absurd (cc)

named-all : (i k : ℕ) (ds : List RoundStop) → AllBelow i ds → is_named ds i k ≡ list_any (λ d. d.lemma == k) ds
named-all i k [] h = refl
named-all i k (d ∷ ds) h =
    both-same (nat_lt d.round i) (d.lemma == k) (is_named ds i k) (list_any (λ e. e.lemma == k) ds) (less-is d.round i (h d (contains-first d ds))) (named-all i k ds (λ e there. h e (contains-later d e ds there)))

pub left-kept : (i k : ℕ) (ds : List RoundStop) (cs : List Lemma) → AllBelow i ds → left_from ds i k cs ≡ kept_from ds k cs
left-kept i k ds [] h = refl
left-kept i k ds (c ∷ cs) h =
    either-same (is_named ds i k) (list_any (λ d. d.lemma == k) ds) c (left_from ds i (suc k) cs) (kept_from ds (suc k) cs) (named-all i k ds h) (left-kept i (suc k) ds cs h)

pub named-there : (ds : List RoundStop) (i k : ℕ) (d : RoundStop) → Contains ds d → d.round < i → d.lemma ≡ k → is_named ds i k ≡ true
named-there ds i k d h below same =
    let test : RoundStop → Bool = λ e. nat_lt e.round i && (e.lemma == k) in
    let P : RoundStop → Type 0 = λ e. test e ≡ true in
    list_any_at test ds h.0 d h.1 (subst P (sym h.2) (and_from (nat_lt d.round i) (d.lemma == k) (less-is d.round i below) (same-is d.lemma k same)))

either-later : (a b c d e : Bool) → (a ≡ true → d ≡ true) → (c ≡ true → e ≡ true) → ((a && b) || c) ≡ true → ((d && b) || e) ≡ true
either-later true true c d e f g h = let p = f refl in rw p refl
either-later true false c d e f g h = let p = g h in or-right (d && false) e p
either-later false b c d e f g h = let p = g h in or-right (d && b) e p

-- what is named stays named in the next round
pub named-later : (ds es : List RoundStop) (i k : ℕ) → is_named ds i k ≡ true → is_named (ds ++ es) (suc i) k ≡ true
named-later [] es i k h = absurd (cc)
named-later (d ∷ ds) es i k h =
    either-later (nat_lt d.round i) (d.lemma == k) (is_named ds i k) (nat_lt d.round (suc i)) (is_named (ds ++ es) (suc i) k) (less-later d.round i) (named-later ds es i k) h

-- where nothing is dropped all are left
pub left-all : (i k : ℕ) (cs : List Lemma) → left_from [] i k cs ≡ cs
left-all i k [] = refl
left-all i k (c ∷ cs) = ap (λ (ds : List Lemma). c ∷ ds) (left-all i (suc k) cs)

-- ---- how many are left

-- what drops name in round i, others name in the round after it
abbrev pub Grows : ℕ → List RoundStop → List RoundStop → Type 0
Grows i ds es = (k : ℕ) → is_named ds i k ≡ true → is_named es (suc i) k ≡ true

fewer-turn : (a b : Bool) (c : Lemma) (xs ys : List Lemma) → (a ≡ true → b ≡ true) → length ys ≤ length xs → length (if b then ys else c ∷ ys) ≤ length (if a then xs else c ∷ xs)
fewer-turn true true c xs ys f h = h
fewer-turn true false c xs ys f h = let p = f refl in absurd (cc)
fewer-turn false true c xs ys f h = omega arith
fewer-turn false false c xs ys f h = omega arith

not-more : (i k : ℕ) (ds es : List RoundStop) (cs : List Lemma) → Grows i ds es → length (left_from es (suc i) k cs) ≤ length (left_from ds i k cs)
not-more i k ds es [] g = omega arith
not-more i k ds es (c ∷ cs) g =
    fewer-turn (is_named ds i k) (is_named es (suc i) k) c (left_from ds i (suc k) cs) (left_from es (suc i) (suc k) cs) (g k) (not-more i (suc k) ds es cs g)

less-turn : (a b : Bool) (c : Lemma) (xs ys : List Lemma) → (a ≡ true → b ≡ true) → length ys < length xs → length (if b then ys else c ∷ ys) < length (if a then xs else c ∷ xs)
less-turn true true c xs ys f h = h
less-turn true false c xs ys f h = let p = f refl in absurd (cc)
less-turn false true c xs ys f h = omega arith
less-turn false false c xs ys f h = omega arith

less-here : (a b : Bool) (c : Lemma) (xs ys : List Lemma) → a ≡ false → b ≡ true → length ys ≤ length xs → length (if b then ys else c ∷ ys) < length (if a then xs else c ∷ xs)
less-here false true c xs ys p q h = omega arith
less-here true b c xs ys p q h = absurd (cc)
less-here false false c xs ys p q h = absurd (cc)

pub fewer : (i k m : ℕ) (ds es : List RoundStop) (cs : List Lemma) (c : Lemma) → Grows i ds es → slice_get cs m ≡ Some c → is_named ds i (k + m) ≡ false → is_named es (suc i) (k + m) ≡ true → length (left_from es (suc i) k cs) < length (left_from ds i k cs)
fewer i k m ds es [] c g e p q = absurd (cc)
fewer i k zero ds es (b ∷ cs) c g e p q =
    let n : k + 0 ≡ k = omega arith in
    less-here (is_named ds i k) (is_named es (suc i) k) b (left_from ds i (suc k) cs) (left_from es (suc i) (suc k) cs) (ap (is_named ds i) (sym n) ∙ p) (ap (is_named es (suc i)) (sym n) ∙ q) (not-more i (suc k) ds es cs g)
fewer i k (suc m) ds es (b ∷ cs) c g e p q =
    let n : suc k + m ≡ k + suc m = omega arith in
    less-turn (is_named ds i k) (is_named es (suc i) k) b (left_from ds i (suc k) cs) (left_from es (suc i) (suc k) cs) (g k)
    (fewer i (suc k) m ds es cs c g e (ap (is_named ds i) n ∙ p) (ap (is_named es (suc i)) n ∙ q))
