-- Numbers put in order are in order, and are the same numbers.
use Rattle.std.proofs.Common.{◌≡◌, ◌∙◌, sym, ap, refl, List, [], ◌∷◌, Bool, true, false, cond, ◌||◌, arith}
use lib.IntN.{ℤ}
use Rattle.std.specs.List.{list_any}
use Rattle.std.specs.Ordering.{int_eq}
use Rattle.std.proofs.lemmas.Int.{ints}
use Rattle.std.proofs.lemmas.Bool.Decides.{nat_tests}
use Rattle.chc_templates.specs.Constants.{is_before, placed, placed_all, ordered, BeforeAll, InOrder}

-- ---- in order

before-then : (x y z : ℤ) → is_before x y ≡ true → is_before y z ≡ true → is_before x z ≡ true
before-then x y z h k = grind (arith, nat_tests, ints)

before-other : (x y : ℤ) → is_before x y ≡ false → int_eq x y ≡ false → is_before y x ≡ true
before-other x y h k = grind (arith, nat_tests, ints)

before-through : (x y : ℤ) (ys : List ℤ) → is_before x y ≡ true → BeforeAll y ys → BeforeAll x ys
before-through x y [] h b = tt
before-through x y (z ∷ ys) h b = (before-then x y z h b.0, before-through x y ys h b.1)

before-step : (a b : Bool) (z x y : ℤ) (ys : List ℤ) → is_before z x ≡ true → is_before z y ≡ true → BeforeAll z ys → BeforeAll z (placed x ys) → BeforeAll z (cond a (x ∷ y ∷ ys) (cond b (y ∷ ys) (y ∷ placed x ys)))
before-step true b z x y ys h k f g = (h, (k, f))
before-step false true z x y ys h k f g = (k, f)
before-step false false z x y ys h k f g = (k, g)

before-placed : (z x : ℤ) (ys : List ℤ) → is_before z x ≡ true → BeforeAll z ys → BeforeAll z (placed x ys)
before-placed z x [] h b = (h, tt)
before-placed z x (y ∷ ys) h b = before-step (is_before x y) (int_eq x y) z x y ys h b.0 b.1 (before-placed z x ys h b.1)

order-step : (a b : Bool) (x y : ℤ) (ys : List ℤ) → is_before x y ≡ a → int_eq x y ≡ b → BeforeAll y ys → InOrder ys → InOrder (placed x ys) → InOrder (cond a (x ∷ y ∷ ys) (cond b (y ∷ ys) (y ∷ placed x ys)))
order-step true b x y ys e f h o p = ((e, before-through x y ys e h), (h, o))
order-step false true x y ys e f h o p = (h, o)
order-step false false x y ys e f h o p = (before-placed y x ys (before-other x y e f) h, p)

placed-in_order : (x : ℤ) (ys : List ℤ) → InOrder ys → InOrder (placed x ys)
placed-in_order x [] o = (tt, tt)
placed-in_order x (y ∷ ys) o = order-step (is_before x y) (int_eq x y) x y ys refl refl o.0 o.1 (placed-in_order x ys o.1)

placed_all-in_order : (ys xs : List ℤ) → InOrder ys → InOrder (placed_all ys xs)
unfolding placed_all
placed_all-in_order ys [] o = o
placed_all-in_order ys (x ∷ xs) o = placed_all-in_order (placed x ys) xs (placed-in_order x ys o)

pub ordered-in_order : (xs : List ℤ) → InOrder (ordered xs)
ordered-in_order xs = placed_all-in_order [] xs tt

-- ---- the same numbers

or-swap : (a b c : Bool) → (a || (b || c)) ≡ (b || (a || c))
or-swap true true c = refl
or-swap true false c = refl
or-swap false b c = refl

or-twice : (a c : Bool) → (a || c) ≡ (a || (a || c))
or-twice true c = refl
or-twice false c = refl

or-assoc : (a b c : Bool) → ((a || b) || c) ≡ (a || (b || c))
or-assoc true b c = refl
or-assoc false b c = refl

same-number : (x y : ℤ) → int_eq x y ≡ true → x ≡ y
same-number x y h = grind (arith, ints)

member-step : (a b : Bool) (z x y : ℤ) (ys : List ℤ) → int_eq x y ≡ b → list_any (int_eq z) (placed x ys) ≡ (int_eq z x || list_any (int_eq z) ys) → list_any (int_eq z) (cond a (x ∷ y ∷ ys) (cond b (y ∷ ys) (y ∷ placed x ys))) ≡ (int_eq z x || (int_eq z y || list_any (int_eq z) ys))
member-step true b z x y ys e h = refl
member-step false true z x y ys e h =
    or-twice (int_eq z y) (list_any (int_eq z) ys) ∙ ap (λ (u : ℤ). int_eq z u || (int_eq z y || list_any (int_eq z) ys)) (sym (same-number x y e))
member-step false false z x y ys e h =
    ap (λ (c : Bool). int_eq z y || c) h ∙ or-swap (int_eq z y) (int_eq z x) (list_any (int_eq z) ys)

placed-members : (z x : ℤ) (ys : List ℤ) → list_any (int_eq z) (placed x ys) ≡ (int_eq z x || list_any (int_eq z) ys)
placed-members z x [] = refl
placed-members z x (y ∷ ys) = member-step (is_before x y) (int_eq x y) z x y ys refl (placed-members z x ys)

or-back : (a b c : Bool) → ((a || b) || c) ≡ (b || (a || c))
or-back a b c = or-assoc a b c ∙ or-swap a b c

or-nothing : (a : Bool) → a ≡ (a || false)
or-nothing true = refl
or-nothing false = refl

placed_all-members : (z : ℤ) (ys xs : List ℤ) → list_any (int_eq z) (placed_all ys xs) ≡ (list_any (int_eq z) ys || list_any (int_eq z) xs)
unfolding placed_all
placed_all-members z ys [] = or-nothing (list_any (int_eq z) ys)
placed_all-members z ys (x ∷ xs) =
    placed_all-members z (placed x ys) xs ∙ ap (λ (c : Bool). c || list_any (int_eq z) xs) (placed-members z x ys) ∙ or-back (int_eq z x) (list_any (int_eq z) ys) (list_any (int_eq z) xs)

pub ordered-members : (xs : List ℤ) (z : ℤ) → list_any (int_eq z) (ordered xs) ≡ list_any (int_eq z) xs
ordered-members xs z = placed_all-members z [] xs
