-- Sums of rows: those that are there are the exact ones.
use Rattle.std.proofs.Common.{◌≡◌, ◌≢◌, ◌∙◌, sym, ap, subst, refl, ℕ, zero, suc, ◌+◌, ◌<◌, ◌≤◌, List, [], ◌∷◌, ◌++◌, length, get_or, slice_set, Some, arith, pos, ◌+ℤ◌, ◌*ℤ◌, inl, inr}
use lib.IntN.{ℤ}
use Rattle.std.proofs.lemmas.Int.{ints}
use Rattle.std.proofs.lemmas.Bool.{cases_eq}
use Rattle.std.proofs.lemmas.List.{length-set, get_or-set_same, get_or-set_other}
use Rattle.std.proofs.lemmas.Option.{unwrap_or-slice_get}
use Rattle.chc_nums.specs.Wide.{add_product}
use Rattle.chc_nums.proofs.Values.{value-some, add_product-value}
use Rattle.chc_nums.proofs.Ring.{mul-add, mul-comm, zero-mul}
use Rattle.chc_form.specs.declared.linear.Lin.{Lin}
use Rattle.chc_form.specs.Multipliers.{coef, weighted}
use Rattle.chc_form.specs.RowSums.{number_at, terms_width, width, with_term, with_row, variable_sums, constant_sum, zeros}
use Rattle.chc_form.proofs.Ranges.{only, only-same, only-other}

-- ---- a place after a write

at-set_same : (xs : List ℤ) (i v : ℕ) (a : ℤ) → i ≡ v → v < length xs → number_at (slice_set xs i a) v ≡ a
at-set_same xs i v a e l =
    unwrap_or-slice_get (slice_set xs i a) v (pos 0) ∙ subst (λ (j : ℕ). get_or (slice_set xs j a) v (pos 0) ≡ a) (sym e) (get_or-set_same xs v a (pos 0) l)

at-set_other : (xs : List ℤ) (i v : ℕ) (a : ℤ) → v ≢ i → number_at (slice_set xs i a) v ≡ number_at xs v
at-set_other xs i v a n =
    unwrap_or-slice_get (slice_set xs i a) v (pos 0) ∙ get_or-set_other xs i v a (pos 0) n ∙ sym (unwrap_or-slice_get xs v (pos 0))

-- ---- the variables

-- the new sums are as many, and have f of each variable added
abbrev Added : List ℤ → List ℤ → (ℕ → ℤ) → Type 0
Added sums out f = (length out ≡ length sums) × ((v : ℕ) → v < length sums → number_at out v ≡ number_at sums v +ℤ f v)

added-then : (sums mid out : List ℤ) (f g : ℕ → ℤ) → Added sums mid f → Added mid out g → Added sums out (λ v. f v +ℤ g v)
added-then sums mid out f g a b = (b.0 ∙ a.0, λ v l. omega (arith, ints, a.1 v l, b.1 v (omega (arith, a.0))))

added-as : (sums out : List ℤ) (f g : ℕ → ℤ) → ((v : ℕ) → f v ≡ g v) → Added sums out f → Added sums out g
added-as sums out f g h a = (a.0, λ v l. omega (arith, ints, a.1 v l, h v))

added-none : (sums : List ℤ) (f : ℕ → ℤ) → ((v : ℕ) → f v ≡ pos 0) → Added sums sums f
added-none sums f h = (refl, λ v l. omega (arith, ints, h v))

mul-zero : (m : ℤ) → m *ℤ pos 0 ≡ pos 0
mul-zero m = mul-comm m (pos 0) ∙ zero-mul m

write-added : (m : ℤ) (t : ℕ × ℤ) (sums : List ℤ) (s : ℤ) → s ≡ number_at sums t.0 +ℤ (m *ℤ t.1) → Added sums (slice_set sums t.0 s) (λ v. m *ℤ only t.0 t.1 v)
write-added m t sums s e = (
  length-set sums t.0 s,
  λ v l. elim (cases_eq t.0 v) [
    | inl q ↦
        let here : only t.0 t.1 v ≡ t.1 = sym (ap (only t.0 t.1) q) ∙ only-same t.0 t.1 in
        omega (arith, ints, at-set_same sums t.0 v s q l, e, ap (number_at sums) q, ap (λ (y : ℤ). m *ℤ y) here)
    | inr n ↦
        let none : only t.0 t.1 v ≡ pos 0 = only-other t.0 v t.1 n in
        omega (arith, ints, at-set_other sums t.0 v s (λ q. n (sym q)), ap (λ (y : ℤ). m *ℤ y) none, mul-zero m)
  ],
)

term-added : (m : ℤ) (t : ℕ × ℤ) (sums out : List ℤ) → with_term m t sums ≡ Some out → Added sums out (λ v. m *ℤ only t.0 t.1 v)
term-added m t sums out h =
    let s = value-some (add_product (number_at sums t.0) m t.1) (λ s. Some (slice_set sums t.0 s)) out h in
    let q : slice_set sums t.0 s.0 ≡ out = cc (s.2) in
    subst (λ (o : List ℤ). Added sums o (λ v. m *ℤ only t.0 t.1 v)) q (write-added m t sums s.0 (add_product-value (number_at sums t.0) m t.1 s.0 s.1))

row-added : (m : ℤ) (ts : List (ℕ × ℤ)) (sums out : List ℤ) → with_row m ts sums ≡ Some out → Added sums out (λ v. m *ℤ coef ts v)
row-added m [] sums out h =
    let q : sums ≡ out = cc (h) in
    subst (λ (o : List ℤ). Added sums o (λ v. m *ℤ pos 0)) q (added-none sums (λ v. m *ℤ pos 0) (λ v. mul-zero m))
row-added m (t ∷ ts) sums out h =
    let mid = value-some (with_term m t sums) (with_row m ts) out h in
    added-as sums out (λ v. (m *ℤ only t.0 t.1 v) +ℤ (m *ℤ coef ts v)) (λ v. m *ℤ coef (t ∷ ts) v) (λ v. sym (mul-add m (only t.0 t.1 v) (coef ts v)))
    (added-then sums mid.0 out (λ v. m *ℤ only t.0 t.1 v) (λ v. m *ℤ coef ts v) (term-added m t sums mid.0 mid.1) (row-added m ts mid.0 out mid.2))

rows-added : (ms : List ℤ) (rs : List Lin) (sums out : List ℤ) → variable_sums ms rs sums ≡ Some out → Added sums out (λ v. weighted (λ l. coef l.terms v) ms rs)
rows-added [] rs sums out h =
    let q : sums ≡ out = cc (h) in
    subst (λ (o : List ℤ). Added sums o (λ v. pos 0)) q (added-none sums (λ v. pos 0) (λ v. refl))
rows-added (m ∷ ms) [] sums out h =
    let q : sums ≡ out = cc (h) in
    subst (λ (o : List ℤ). Added sums o (λ v. pos 0)) q (added-none sums (λ v. pos 0) (λ v. refl))
rows-added (m ∷ ms) (r ∷ rs) sums out h =
    let mid = value-some (with_row m r.terms sums) (variable_sums ms rs) out h in
    added-then sums mid.0 out (λ v. m *ℤ coef r.terms v) (λ v. weighted (λ l. coef l.terms v) ms rs) (row-added m r.terms sums mid.0 mid.1) (rows-added ms rs mid.0 out mid.2)

-- the sum of each variable below the end
pub sums-exact : (ms : List ℤ) (rs : List Lin) (sums out : List ℤ) → variable_sums ms rs sums ≡ Some out → (length out ≡ length sums) × ((v : ℕ) → v < length sums → number_at out v ≡ number_at sums v +ℤ weighted (λ l. coef l.terms v) ms rs)
sums-exact ms rs sums out h = rows-added ms rs sums out h

-- ---- the constants

pub constant-exact : (s : ℤ) (ms : List ℤ) (rs : List Lin) (c : ℤ) → constant_sum s ms rs ≡ Some c → c ≡ s +ℤ weighted (λ l. l.konst) ms rs
constant-exact s [] rs c h = let q : s ≡ c = cc (h) in omega (arith, ints, q)
constant-exact s (m ∷ ms) [] c h = let q : s ≡ c = cc (h) in omega (arith, ints, q)
constant-exact s (m ∷ ms) (r ∷ rs) c h =
    let t = value-some (add_product s m r.konst) (λ t. constant_sum t ms rs) c h in
    omega (arith, ints, add_product-value s m r.konst t.0 t.1, constant-exact t.0 ms rs c t.2)

-- ---- variables past the end

coef-past : (v : ℕ) (ts : List (ℕ × ℤ)) → terms_width ts ≤ v → coef ts v ≡ pos 0
coef-past v [] h = refl
coef-past v (t ∷ ts) h =
    let none : only t.0 t.1 v ≡ pos 0 = only-other t.0 v t.1 (omega arith) in
    omega (arith, ints, none, coef-past v ts (omega arith))

pub weighted-past : (v : ℕ) (ms : List ℤ) (rs : List Lin) → width rs ≤ v → weighted (λ l. coef l.terms v) ms rs ≡ pos 0
weighted-past v [] rs h = refl
weighted-past v (m ∷ ms) [] h = refl
weighted-past v (m ∷ ms) (r ∷ rs) h =
    omega (arith, ints, ap (λ (y : ℤ). m *ℤ y) (coef-past v r.terms (omega arith)), mul-zero m, weighted-past v ms rs (omega arith))

-- ---- zeros

pub length-zeros : (n : ℕ) → length (zeros n) ≡ n
length-zeros zero = refl
length-zeros (suc n) = ap suc (length-zeros n)

pub zeros-at : (n v : ℕ) → number_at (zeros n) v ≡ pos 0
zeros-at zero v = refl
zeros-at (suc n) zero = refl
zeros-at (suc n) (suc v) = zeros-at n v

pub zeros-more : (n : ℕ) → zeros n ++ pos 0 ∷ [] ≡ zeros (n + 1)
zeros-more zero = refl
zeros-more (suc n) = let e : suc n + 1 ≡ suc (n + 1) = omega arith in rw e (ap (λ (xs : List ℤ). pos 0 ∷ xs) (zeros-more n))

pub ruleset repeats = (zeros-more)
