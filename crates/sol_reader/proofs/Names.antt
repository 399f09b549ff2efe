-- Names that differ, and variables by their names.
use Rattle.std.proofs.Common.{◌≡◌, ◌≢◌, ◌∙◌, sym, ap, subst, refl, ℕ, zero, suc, ◌+◌, List, [], ◌∷◌, ◌++◌, Bool, true, false, cond, Some, arith, slice_get}
use Rattle.std.specs.Str.{bytes_eq}
use Rattle.std.proofs.lemmas.Slice.Eq.{bytes_eq-Decides}
use Rattle.sol_first.specs.declared.contract.Variable.{Variable}
use Rattle.sol_reader.specs.Language.{Absent, Differ, variable_names}
use Rattle.sol_reader.specs.Reading.{place_from}

pub same-name : (a b : List ℕ) → bytes_eq a b ≡ true → a ≡ b
same-name a b h = (bytes_eq-Decides a b).0 h

pub same-name-true : (a b : List ℕ) → a ≡ b → bytes_eq a b ≡ true
same-name-true a b h = (bytes_eq-Decides a b).1 h

pub absent-left : (w : List ℕ) (xs ys : List (List ℕ)) → Absent w (xs ++ ys) → Absent w xs
absent-left w [] ys h = tt
absent-left w (x ∷ xs) ys h = (h.0, absent-left w xs ys h.1)

pub absent-right : (w : List ℕ) (xs ys : List (List ℕ)) → Absent w (xs ++ ys) → Absent w ys
absent-right w [] ys h = h
absent-right w (x ∷ xs) ys h = absent-right w xs ys h.1

pub absent-both : (w : List ℕ) (xs ys : List (List ℕ)) → Absent w xs → Absent w ys → Absent w (xs ++ ys)
absent-both w [] ys h k = k
absent-both w (x ∷ xs) ys h k = (h.0, absent-both w xs ys h.1 k)

pub differ-left : (xs ys : List (List ℕ)) → Differ (xs ++ ys) → Differ xs
differ-left [] ys h = tt
differ-left (x ∷ xs) ys h = (absent-left x xs ys h.0, differ-left xs ys h.1)

pub ruleset names = (same-name, same-name-true)

pub ruleset absences = (absent-left, absent-right, absent-both)

-- ---- variables by their names

-- the variable at a place, and its name
pub record IsPlaced (vs : List Variable) (w : List ℕ) (place : ℕ) : Type 0 where
  pub variable : Variable
  pub there : slice_get vs place ≡ Some variable
  pub name : variable.name ≡ w

pub some-is : {A : Type 0} (x y : A) → Some x ≡ Some y → x ≡ y
some-is x y h = cc

placed-later : (v : Variable) (vs : List Variable) (w : List ℕ) (p q n : ℕ) → (j : ℕ) × (p ≡ (n + 1) + j) × IsPlaced vs w j → (j : ℕ) × (p ≡ n + j) × IsPlaced (v ∷ vs) w j
placed-later v vs w p q n h = (suc h.0, omega (arith, h.1), record { variable = h.2.variable; there = h.2.there; name = h.2.name })

place-test : (t : Bool) (n p : ℕ) (w : List ℕ) (v : Variable) (vs : List Variable) → bytes_eq v.name w ≡ t → cond t (Some n) (place_from (n + 1) w vs) ≡ Some p → (place_from (n + 1) w vs ≡ Some p → (j : ℕ) × (p ≡ (n + 1) + j) × IsPlaced vs w j) → (j : ℕ) × (p ≡ n + j) × IsPlaced (v ∷ vs) w j
place-test true n p w v vs e h f =
    let q : n ≡ p = some-is n p h in
    (0, omega arith, record { variable = v; there = refl; name = same-name v.name w e })
place-test false n p w v vs e h f = placed-later v vs w p 0 n (f h)

place-from-sound : (n p : ℕ) (w : List ℕ) (vs : List Variable) → place_from n w vs ≡ Some p → (j : ℕ) × (p ≡ n + j) × IsPlaced vs w j
place-from-sound n p w [] h = absurd (cc)
place-from-sound n p w (v ∷ vs) h = place-test (bytes_eq v.name w) n p w v vs refl h (λ e. place-from-sound (n + 1) p w vs e)

pub place-sound : (w : List ℕ) (vs : List Variable) (p : ℕ) → place_from 0 w vs ≡ Some p → IsPlaced vs w p
place-sound w vs p h =
    let f = place-from-sound 0 p w vs h in
    let e : f.0 ≡ p = omega (arith, f.1) in
    subst (λ (j : ℕ). IsPlaced vs w j) e f.2

absent-at : (w : List ℕ) (vs : List Variable) (j : ℕ) (x : Variable) → Absent w (variable_names vs) → slice_get vs j ≡ Some x → w ≢ x.name
absent-at w [] j x a h = absurd (cc)
absent-at w (v ∷ vs) zero x a h = λ e. a.0 (e ∙ ap (λ (y : Variable). y.name) (sym (some-is v x h)))
absent-at w (v ∷ vs) (suc j) x a h = absent-at w vs j x a.1 h

different : (t : Bool) (a b : List ℕ) → bytes_eq a b ≡ t → a ≢ b → t ≡ false
different true a b h n = absurd (n (same-name a b h))
different false a b h n = refl

place-from-complete : (n : ℕ) (vs : List Variable) (j : ℕ) (x : Variable) → Differ (variable_names vs) → slice_get vs j ≡ Some x → place_from n x.name vs ≡ Some (n + j)
place-from-complete n [] j x d h = absurd (cc)
place-from-complete n (v ∷ vs) zero x d h =
    let e : n ≡ n + 0 = omega arith in
    let same : v.name ≡ x.name = ap (λ (y : Variable). y.name) (some-is v x h) in
    ap (λ t. cond t (Some n) (place_from (n + 1) x.name vs)) (same-name-true v.name x.name same) ∙ ap (λ (k : ℕ). Some k) e
place-from-complete n (v ∷ vs) (suc j) x d h =
    let e : (n + 1) + j ≡ n + suc j = omega arith in
    let no : bytes_eq v.name x.name ≡ false = different (bytes_eq v.name x.name) v.name x.name refl (absent-at v.name vs j x d.0 h) in
    ap (λ t. cond t (Some n) (place_from (n + 1) x.name vs)) no ∙ place-from-complete (n + 1) vs j x d.1 h ∙ ap (λ (k : ℕ). Some k) e

pub place-complete : (vs : List Variable) (j : ℕ) (x : Variable) → Differ (variable_names vs) → slice_get vs j ≡ Some x → place_from 0 x.name vs ≡ Some j
place-complete vs j x d h =
    let e : 0 + j ≡ j = omega arith in
    place-from-complete 0 vs j x d h ∙ ap (λ (k : ℕ). Some k) e
