-- What a list has from a place on, as a loop goes along it.
use Rattle.std.proofs.Common.{◌≡◌, ℕ, suc, ◌+◌, ◌-◌, ◌<◌, ◌≤◌, List, [], ◌∷◌, Some, None, refl, sym, ap, ◌∙◌, ◌⊎◌, inl, inr, arith}
use Rattle.std.specs.List.{slice_get}
use Rattle.std.proofs.lemmas.Bool.{cases_lt}

-- the second list is what the first has from place k on
abbrev pub FromPlace : {A : Type 0} → List A → ℕ → List A → Type 0
FromPlace xs k ys = (m : ℕ) → slice_get ys m ≡ slice_get xs (k + m)

pub from-start : {A : Type 0} (xs : List A) → FromPlace xs 0 xs
from-start {A} xs m = let e : 0 + m ≡ m = omega arith in rw e refl

pub from-head : {A : Type 0} (xs : List A) (k : ℕ) (y : A) (ys : List A) → FromPlace xs k (y ∷ ys) → slice_get xs k ≡ Some y
from-head {A} xs k y ys h = let e : k + 0 ≡ k = omega arith in ap (slice_get xs) (sym e) ∙ sym (h 0)

pub from-tail : {A : Type 0} (xs : List A) (k : ℕ) (y : A) (ys : List A) → FromPlace xs k (y ∷ ys) → FromPlace xs (suc k) ys
from-tail {A} xs k y ys h m = let e : k + suc m ≡ suc k + m = omega arith in h (suc m) ∙ ap (slice_get xs) e

-- where nothing is left, nothing stands there
pub from-end : {A : Type 0} (xs : List A) (k n : ℕ) (x : A) → FromPlace xs k [] → k ≤ n → slice_get xs n ≡ Some x → ⊥
from-end {A} xs k n x h above e =
    let p : k + (n - k) ≡ n = omega arith in
    let none : None ≡ slice_get xs n = h (n - k) ∙ ap (slice_get xs) p in
    absurd (cc)

pub less-or-same : (m n : ℕ) → m ≤ n → (m < n) ⊎ (m ≡ n)
less-or-same m n h =
    elim (cases_lt m n) [
      | inl less ↦ inl less
      | inr past ↦ inr (omega arith)
    ]
