-- Marks of units: none at first, and then one more.
use Rattle.std.proofs.Common.{◌≡◌, ◌≢◌, ◌∙◌, sym, ap, refl, ℕ, ◌<◌, ◌≤◌, ◌==◌, List, length, Bool, true, false, ◌||◌, get_or, arith}
use Rattle.std.specs.Prelude.{slice_get, unwrap_or}
use Rattle.std.proofs.Math.ListN.{set, replicate}
use Rattle.std.proofs.lemmas.List.{get_or-set_same, get_or-set_other, get_or-replicate}
use Rattle.std.proofs.lemmas.Option.{unwrap_or-slice_get}
use Rattle.lists.proofs.Tests.{same-is, same-not, same-true, same-false}
use Rattle.sol_unit.specs.Marks.{is_marked}

cases : {A : Type 0} (b : Bool) → (b ≡ true → A) → (b ≡ false → A) → A
cases {A} true t f = t refl
cases {A} false t f = f refl

pub unmarked : (n u : ℕ) → u < n → is_marked (replicate n false) u ≡ false
unmarked n u h = unwrap_or-slice_get (replicate n false) u false ∙ get_or-replicate n u false false h

set-same : (ms : List Bool) (p u : ℕ) → p < length ms → p ≡ u → is_marked (set ms p true) u ≡ true
set-same ms p u h e = unwrap_or-slice_get (set ms p true) u false ∙ (let q : u ≡ p = sym e in rw q (get_or-set_same ms p true false h))

set-other : (ms : List Bool) (p u : ℕ) → u ≢ p → is_marked (set ms p true) u ≡ is_marked ms u
set-other ms p u n = unwrap_or-slice_get (set ms p true) u false ∙ get_or-set_other ms p u true false n ∙ sym (unwrap_or-slice_get ms u false)

pub marked-set : (ms : List Bool) (p u : ℕ) → p < length ms → is_marked (set ms p true) u ≡ ((p == u) || is_marked ms u)
marked-set ms p u h = cases (p == u)
    (λ t. set-same ms p u h (same-true p u t) ∙ (rw t refl))
    (λ f. set-other ms p u (λ e. same-false p u f (sym e)) ∙ (rw f refl))

pub marked-past : (ms : List Bool) (p u : ℕ) → length ms ≤ p → u < length ms → is_marked ms u ≡ ((p == u) || is_marked ms u)
marked-past ms p u h k = let e : (p == u) ≡ false = same-not p u (λ (q : p ≡ u). absurd (omega arith)) in rw e refl

pub more-marked : (m b r n all : Bool) → (m || (b || r)) ≡ all → n ≡ (b || m) → (n || r) ≡ all
more-marked true true r n all h e = rw e h
more-marked true false r n all h e = rw e h
more-marked false true r n all h e = rw e h
more-marked false false r n all h e = rw e h

pub ruleset marking = (unmarked, marked-set, marked-past)
