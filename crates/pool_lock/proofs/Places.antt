-- What is known of each seat, where one changes.
use Rattle.std.proofs.Common.{◌≡◌, ◌≢◌, ℕ, zero, suc, ◌+◌, ◌%◌, ◌<◌, ◌≤◌, List, [], ◌∷◌, map, length, set, sym, refl, ap, ◌∙◌, inl, inr, ◌⊎◌, ⊎_elim, arith, Option, Some, None}
use mathlib.Core.Logic.{dite}
use mathlib.Core.Option.{some, some-injective, some-ne-none}
use native.Mathlib.Decide.{ℕ_discrete}
use lib.ListN.{get_elem?}
use Rattle.atomic_table.specs.Table.{State}
use Rattle.atomic_table.proofs.Lists.{at_set, set_else}
use Rattle.pool_lock.specs.declared.view.Known.{Known}
use Rattle.pool_lock.specs.declared.view.Opened.{Opened}
use Rattle.pool_lock.specs.declared.view.Phase.{Phase}
use Rattle.pool_lock.specs.declared.view.Phase.TheVariants.{Empty, Filling, Idle, Waiting, Served}
use Rattle.pool_lock.specs.declared.view.View.{View}
use Rattle.pool_lock.specs.Weights.{weigh, upto}
use Rattle.pool_lock.specs.Views.{ticket_of, one_if, held, number_of, numbers_in}
use Rattle.pool_lock.specs.Rule.{FitsPhase, AtRest, AtHome, IsOut, Held}
use Rattle.pool_lock.proofs.Sums.{weigh-le, weigh-length, length-upto, weigh-set}

-- one more, modulo 2^64
pub mod-next : (a x : ℕ) → x ≡ a % 18446744073709551616 → (x + 1) % 18446744073709551616 ≡ (a + 1) % 18446744073709551616
mod-next a x e = omega arith

pub mod-same : (a x : ℕ) → x ≡ a % 18446744073709551616 → (x + 0) % 18446744073709551616 ≡ a % 18446744073709551616
mod-same a x e = omega arith

pub one-most : (o : Option ℕ) → one_if o ≤ 1
one-most None = omega arith
one-most (Some t) = omega arith

module _ {X : Type 0} where
  pub range : (out : Type 0) (serving next : ℕ) (current : List (ℕ × X)) (p : Phase X) (t : ℕ) → FitsPhase out serving next current p → ticket_of p ≡ Some t → (serving ≤ t) × (t < next)
  range out serving next current Empty t f e = absurd f
  range out serving next current Filling t f e = absurd f
  range out serving next current Idle t f e = absurd (cc)
  range out serving next current (Waiting u) t f e = let h : u ≡ t = cc in (omega arith, omega arith)
  range out serving next current (Served u c) t f e = let h : u ≡ t = cc in (omega arith, omega arith)

  -- more tickets were drawn
  pub fits-later : (out : Type 0) (serving next : ℕ) (current : List (ℕ × X)) (p : Phase X) → FitsPhase out serving next current p → FitsPhase out serving (next + 1) current p
  fits-later out serving next current Empty f = f
  fits-later out serving next current Filling f = f
  fits-later out serving next current Idle f = tt
  fits-later out serving next current (Waiting t) f = (f.0, omega arith)
  fits-later out serving next current (Served t c) f = (f.0, omega arith, f.2, f.3)

  pub fits-out : (out out' : Type 0) (serving next : ℕ) (current : List (ℕ × X)) (p : Phase X) → (out → out') → FitsPhase out serving next current p → FitsPhase out' serving next current p
  fits-out out out' serving next current Empty h f = f
  fits-out out out' serving next current Filling h f = f
  fits-out out out' serving next current Idle h f = tt
  fits-out out out' serving next current (Waiting t) h f = f
  fits-out out out' serving next current (Served t c) h f = (f.0, f.1, f.2, h f.3)

  -- the list changes while another seat is served
  pub fits-other : (out : Type 0) (serving next : ℕ) (current all : List (ℕ × X)) (p : Phase X) → (ticket_of p ≡ Some serving → ⊥) → FitsPhase out serving next current p → FitsPhase out serving next all p
  fits-other out serving next current all Empty bar f = f
  fits-other out serving next current all Filling bar f = f
  fits-other out serving next current all Idle bar f = tt
  fits-other out serving next current all (Waiting t) bar f = f
  fits-other out serving next current all (Served t c) bar f = absurd (bar (ap Some f.0))

  -- a seat that waits is served later than one that is served
  pub fits-next : (out out' : Type 0) (serving next : ℕ) (current : List (ℕ × X)) (p : Phase X) → (ticket_of p ≡ Some serving → ⊥) → FitsPhase out serving next current p → FitsPhase out' (serving + 1) next current p
  fits-next out out' serving next current Empty bar f = f
  fits-next out out' serving next current Filling bar f = f
  fits-next out out' serving next current Idle bar f = tt
  fits-next out out' serving next current (Waiting t) bar f = dite (ℕ_discrete t serving) (λ e. absurd (bar (ap Some e))) (λ n. (omega arith, f.1))
  fits-next out out' serving next current (Served t c) bar f = absurd (bar (ap Some f.0))

  pub idle-no_ticket : (p : Phase X) (q : ℕ) → p ≡ Idle → ticket_of p ≡ Some q → ⊥
  idle-no_ticket p q e f = let h : ticket_of p ≡ None = ap ticket_of e in cc

  pub idle-not_served : (p : Phase X) (t : ℕ) (c : List (ℕ × X)) → p ≡ Idle → p ≡ Served t c → ⊥
  idle-not_served p t c e f = cc

  pub waiting-not_idle : (p : Phase X) (t : ℕ) → p ≡ Waiting t → p ≡ Idle → ⊥
  waiting-not_idle p t e f = cc

  pub waiting-same : (t n : ℕ) → let p : Phase X = Waiting t in p ≡ Waiting n → t ≡ n
  waiting-same t n e = cc

  pub waiting-not_served : (t n : ℕ) (c : List (ℕ × X)) → Waiting t ≡ Served n c → ⊥
  waiting-not_served t n c e = cc

module _ {X R : Type 0} where
  pub single-set : (vs : List (View X R)) (id : ℕ) (w : View X R) → ((i j : ℕ) (v w : View X R) (t : ℕ) → get_elem? vs i ≡ some v → get_elem? vs j ≡ some w → ticket_of v.phase ≡ Some t → ticket_of w.phase ≡ Some t → i ≡ j)
      → ((j : ℕ) (u : View X R) (t : ℕ) → j ≢ id → get_elem? vs j ≡ some u → ticket_of w.phase ≡ Some t → ticket_of u.phase ≡ Some t → ⊥)
      → (i j : ℕ) (v u : View X R) (t : ℕ) → get_elem? (set vs id w) i ≡ some v → get_elem? (set vs id w) j ≡ some u → ticket_of v.phase ≡ Some t → ticket_of u.phase ≡ Some t → i ≡ j
  single-set vs id w old clash i j v u t ei ej ti tj =
      ⊎_elim
      (λ (a : (i ≡ id) × (w ≡ v)).
      ⊎_elim
      (λ (b : (j ≡ id) × (w ≡ u)). a.0 ∙ sym b.0)
      (λ (b : (j ≢ id) × (get_elem? vs j ≡ some u)). absurd (clash j u t b.0 b.1 (ap (λ (z : View X R). ticket_of z.phase) a.1 ∙ ti) tj))
      (at_set vs id j w u ej))
      (λ (a : (i ≢ id) × (get_elem? vs i ≡ some v)).
      ⊎_elim
      (λ (b : (j ≡ id) × (w ≡ u)). absurd (clash i v t a.0 a.1 (ap (λ (z : View X R). ticket_of z.phase) b.1 ∙ tj) ti))
      (λ (b : (j ≢ id) × (get_elem? vs j ≡ some u)). old i j v u t a.1 b.1 ti tj)
      (at_set vs id j w u ej))
      (at_set vs id i w v ei)

  pub same-view : (vs : List (View X R)) (i j : ℕ) (v w : View X R) → get_elem? vs i ≡ some v → get_elem? vs j ≡ some w → i ≡ j → v ≡ w
  same-view vs i j v w ei ej e = some-injective v w (sym ei ∙ ap (get_elem? vs) e ∙ ej)

  pub inside : (vs : List (View X R)) (i : ℕ) (v : View X R) → get_elem? vs i ≡ some v → i < length vs
  inside [] i v e = absurd (some-ne-none v (sym e))
  inside (x ∷ vs) zero v e = omega arith
  inside (x ∷ vs) (suc i) v e = let h = inside vs i v e in omega arith

  held-idle : (v : View X R) → v.phase ≡ Idle → held v ≡ 0
  held-idle v e = ap (λ (p : Phase X). one_if (ticket_of p)) e

  held-of : (v : View X R) (ps : List (Known X R)) → AtRest v.phase ps → held v ≤ length ps
  held-of v [] b = let h = held-idle v b in omega arith
  held-of v (p ∷ ps) b = let m = one-most (ticket_of v.phase) in omega arith

  count-of : (ps : List (Known X R)) → weigh (λ _. 1) (map number_of ps) ≡ length ps
  count-of [] = refl
  count-of (p ∷ ps) = let r = count-of ps in omega arith

  -- a seat has at most as many tickets as it stands for passes
  pub held-le : (v : View X R) → AtRest v.phase v.passes → held v ≤ weigh (λ _. 1) (numbers_in v)
  held-le v b = let h = held-of v v.passes b in let c = count-of v.passes in omega arith

  pub passes-count : (v : View X R) → weigh (λ _. 1) (numbers_in v) ≡ length v.passes
  passes-count v = count-of v.passes

  -- the numbers of all seats stay, where those of one do
  pub numbers-same : (n : ℕ) (vs : List (View X R)) (id : ℕ) (v w : View X R) → get_elem? vs id ≡ some v → numbers_in w ≡ numbers_in v → ((h : ℕ → ℕ) → weigh (λ v. weigh h (numbers_in v)) vs ≡ weigh h (upto 0 n)) → (h : ℕ → ℕ) → weigh (λ v. weigh h (numbers_in v)) (set vs id w) ≡ weigh h (upto 0 n)
  numbers-same n vs id v w at e old h =
      let sum = weigh-set (λ (u : View X R). weigh h (numbers_in u)) vs id v w at in
      let same : weigh h (numbers_in w) ≡ weigh h (numbers_in v) = ap (weigh h) e in
      let was = old h in
      omega arith

  module _ {T : Type 0} (list : T → List (ℕ × X)) (root : T → R) (n : ℕ) where
    -- few tickets are out
    pub few-out : (s : State (Option T) (View X R)) → (r : Held list root n s) → r.next ≤ r.serving + 64
    few-out s r =
        let a = weigh-le held (λ (v : View X R). weigh (λ _. 1) (numbers_in v)) s.views (λ i v e. held-le v (r.fits i v e).1) in
        let b = r.numbers (λ _. 1) in
        let c = weigh-length (upto 0 n) in
        let d = length-upto 0 n in
        let f = r.few in
        let g = r.drawn in
        omega arith

    pub still-out : (s : State (Option T) (View X R)) (words : List ℕ) (id : ℕ) (w : View X R) (serving : ℕ) (current : List (ℕ × X)) (o : Opened X R)
        → ((j : ℕ) (u : View X R) → get_elem? s.views j ≡ some u → u.phase ≡ Served serving current → j ≢ id)
        → AtHome list root n current o s ⊎ IsOut list root n serving current s → AtHome list root n current o (record { words = words; homes = s.homes; views = set s.views id w }) ⊎ IsOut list root n serving current (record { words = words; homes = s.homes; views = set s.views id w })
    still-out s words id w serving current o other (inl h) = inl h
    still-out s words id w serving current o other (inr h) = inr (h.0, h.1, set_else s.views id h.0 w (other h.0 h.1 h.2 h.3) ∙ h.2, h.3, h.4)
