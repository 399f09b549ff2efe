-- What rows say at a valuation, and which rows a change of the valuation leaves as they are.
use Rattle.std.proofs.Common.{◌≡◌, ◌≢◌, ◌∙◌, ap, refl, ℕ, ◌<◌, ◌≤◌, ◌==◌, if◌then◌else◌, List, [], ◌∷◌, ◌++◌, pos, ◌+ℤ◌, ◌-ℤ◌, ◌*ℤ◌, ◌≤ℤ◌, neg_ℤ, true, false, arith}
use lib.IntN.{ℤ, negsuc}
use Rattle.std.proofs.lemmas.Int.{ints}
use Rattle.std.proofs.lemmas.Bool.Decides.{nat_tests}
use Rattle.chc_form.specs.declared.Row.{Row}
use Rattle.chc_form.specs.Linear.{sum_of, value_of, Satisfies, lins}
use Rattle.sol_first.specs.declared.Order.{Order}
use Rattle.sol_first.specs.declared.Order.TheVariants as order
use Rattle.sol_first.specs.Elaborated.{cmp_of}
use Rattle.sol_meaning.specs.Eval.{compared}
use Rattle.chc_encode.specs.PathRows.{plus, minus, plus_minus, minus_plus, within, holds, opposite}
use Rattle.chc_nums.proofs.Ring.{minus-mul}

-- a row holds at a valuation
abbrev pub Holds : Row → (ℕ → ℤ) → Type 0
Holds r x = value_of r.lin x ≤ℤ pos 0

abbrev pub AllHold : List Row → (ℕ → ℤ) → Type 0
AllHold rows x = Satisfies (lins rows) x

pub hold-append : (ps qs : List Row) (x : ℕ → ℤ) → AllHold ps x → AllHold qs x → AllHold (ps ++ qs) x
hold-append [] qs x h k = k
hold-append (p ∷ ps) qs x h k = (h.0, hold-append ps qs x h.1 k)

-- ---- the rows of a path

one-times : (z : ℤ) → pos 1 *ℤ z ≡ z
one-times z = omega (arith, ints)

pub plus-value : (i : ℕ) (k : ℤ) (x : ℕ → ℤ) → value_of (plus i k).lin x ≡ x i +ℤ k
plus-value i k x = omega (arith, ints, one-times (x i))

pub minus-value : (i : ℕ) (k : ℤ) (x : ℕ → ℤ) → value_of (minus i k).lin x ≡ k -ℤ x i
minus-value i k x = omega (arith, ints, minus-mul (x i))

pub plus_minus-value : (i j : ℕ) (k : ℤ) (x : ℕ → ℤ) → value_of (plus_minus i j k).lin x ≡ (x i -ℤ x j) +ℤ k
plus_minus-value i j k x = omega (arith, ints, one-times (x i), minus-mul (x j))

pub minus_plus-value : (i j : ℕ) (k : ℤ) (x : ℕ → ℤ) → value_of (minus_plus i j k).lin x ≡ (x j -ℤ x i) +ℤ k
minus_plus-value i j k x = omega (arith, ints, minus-mul (x i), one-times (x j))

pub within-hold : (i : ℕ) (g : ℤ) (x : ℕ → ℤ) → pos 0 ≤ℤ x i → x i ≤ℤ g → AllHold (within i g) x
within-hold i g x h k = (omega (arith, ints, minus-value i (pos 0) x), (omega (arith, ints, plus-value i (neg_ℤ g) x), tt))

-- a comparison that is true, and one that is false
pub holds-true : (o : Order) (i : ℕ) (n : ℤ) (x : ℕ → ℤ) → compared (cmp_of o) (x i) n ≡ true → Holds (holds o i n) x
holds-true order.Less i n x h = let e = plus-value i (pos 1 -ℤ n) x in grind (arith, ints)
holds-true order.LessEqual i n x h = let e = plus-value i (neg_ℤ n) x in grind (arith, ints)
holds-true order.Greater i n x h = let e = minus-value i (n +ℤ pos 1) x in grind (arith, ints)
holds-true order.GreaterEqual i n x h = let e = minus-value i n x in grind (arith, ints)

pub holds-false : (o : Order) (i : ℕ) (n : ℤ) (x : ℕ → ℤ) → compared (cmp_of o) (x i) n ≡ false → Holds (holds (opposite o) i n) x
holds-false order.Less i n x h = let e = minus-value i n x in grind (arith, ints)
holds-false order.LessEqual i n x h = let e = minus-value i (n +ℤ pos 1) x in grind (arith, ints)
holds-false order.Greater i n x h = let e = plus-value i (neg_ℤ n) x in grind (arith, ints)
holds-false order.GreaterEqual i n x h = let e = plus-value i (pos 1 -ℤ n) x in grind (arith, ints)

-- ---- rows that speak only of variables below a number

abbrev pub Below : ℕ → List (ℕ × ℤ) → Type 0
Below n [] = Unit {0}
Below n (t ∷ ts) = (t.0 < n) × Below n ts

abbrev pub AllBelow : ℕ → List Row → Type 0
AllBelow n [] = Unit {0}
AllBelow n (r ∷ rs) = Below n r.lin.terms × AllBelow n rs

below-more : (m n : ℕ) (ts : List (ℕ × ℤ)) → m ≤ n → Below m ts → Below n ts
below-more m n [] l h = tt
below-more m n (t ∷ ts) l h = (omega arith, below-more m n ts l h.1)

pub all_below-more : (m n : ℕ) (rs : List Row) → m ≤ n → AllBelow m rs → AllBelow n rs
all_below-more m n [] l h = tt
all_below-more m n (r ∷ rs) l h = (below-more m n r.lin.terms l h.0, all_below-more m n rs l h.1)

pub all_below-append : (n : ℕ) (ps qs : List Row) → AllBelow n ps → AllBelow n qs → AllBelow n (ps ++ qs)
all_below-append n [] qs h k = k
all_below-append n (p ∷ ps) qs h k = (h.0, all_below-append n ps qs h.1 k)

pub holds-below : (o : Order) (i : ℕ) (z : ℤ) (n : ℕ) → i < n → Below n (holds o i z).lin.terms
holds-below order.Less i z n h = (h, tt)
holds-below order.LessEqual i z n h = (h, tt)
holds-below order.Greater i z n h = (h, tt)
holds-below order.GreaterEqual i z n h = (h, tt)

-- a valuation with another value of one variable
abbrev pub put : (ℕ → ℤ) → ℕ → ℤ → ℕ → ℤ
put x i z v = if v == i then z else x v

pub put-same : (x : ℕ → ℤ) (i : ℕ) (z : ℤ) → put x i z i ≡ z
put-same x i z = grind (arith, nat_tests)

pub put-other : (x : ℕ → ℤ) (i : ℕ) (z : ℤ) (v : ℕ) → v ≢ i → put x i z v ≡ x v
put-other x i z v h = grind (arith, nat_tests)

sum_of-put : (x : ℕ → ℤ) (i : ℕ) (z : ℤ) (ts : List (ℕ × ℤ)) → Below i ts → sum_of ts (put x i z) ≡ sum_of ts x
sum_of-put x i z [] h = refl
sum_of-put x i z (t ∷ ts) h =
    ap (λ (y : ℤ). (t.1 *ℤ y) +ℤ sum_of ts (put x i z)) (put-other x i z t.0 (omega arith)) ∙ ap (λ (y : ℤ). (t.1 *ℤ x t.0) +ℤ y) (sum_of-put x i z ts h.1)

pub hold-put : (x : ℕ → ℤ) (i : ℕ) (z : ℤ) (rs : List Row) → AllBelow i rs → AllHold rs x → AllHold rs (put x i z)
hold-put x i z [] b h = tt
hold-put x i z (r ∷ rs) b h =
    let e : sum_of r.lin.terms (put x i z) ≡ sum_of r.lin.terms x = sum_of-put x i z r.lin.terms b.0 in
    (omega (arith, ints, e, h.0), hold-put x i z rs b.1 h.1)
