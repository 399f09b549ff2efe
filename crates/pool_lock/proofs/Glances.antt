-- A load of the count of items keeps the rule, and tells whether the pass has seen the whole list.
use Rattle.std.proofs.Common.{◌≡◌, ℕ, List, [], ◌∷◌, length, sym, refl, subst, inr, arith, Option}
use mathlib.Core.Option.{none}
use Rattle.atomic_table.specs.Table.{Me, step, keeps, Allows}
use Rattle.pool_lock.specs.declared.view.Known.{Known}
use Rattle.pool_lock.specs.declared.view.Phase.TheVariants.{Idle}
use Rattle.pool_lock.specs.declared.view.View.{View}
use Rattle.pool_lock.specs.Entries.{StartsWith}
use Rattle.pool_lock.specs.Views.{passing}
use Rattle.pool_lock.specs.Told.{KnowsEach, glanced}
use Rattle.pool_lock.specs.Rule.{Kept}
use Rattle.pool_lock.specs.Calls.{Looked}
use Rattle.pool_lock.proofs.Entries.{starts-whole}
use Rattle.pool_lock.proofs.Settled.{settled}
use Rattle.pool_lock.proofs.Sections.{looks-whole}
use Rattle.pool_lock.proofs.Turns.{unmoved}

module _ {X R T : Type 0} where
  glances : (list : T → List (ℕ × X)) (root : T → R) (n slots id : ℕ) (p : Known X R) → Allows (Kept list root n) slots id (passing p Idle, []) 2 (λ x. x) (glanced (step slots 2 0 0 none) (passing p Idle, []))
  glances list root n slots id p s kept _ at _ =
      let v : View X R = passing p Idle in
      let r = settled list root n s id v kept at tt in
      let mine = r.fits id v at in (
        v,
        keeps,
        tt,
        inr (unmoved list root n s 2 id (v, []) at r),
        (
          refl,
          λ e.
              let long : length r.current ≡ length p.seen = omega (arith, e, r.count_word, r.short) in
              let same : r.current ≡ p.seen = starts-whole r.current p.seen mine.2.0.1 long in
              (r.opened, subst (λ (xs : List (ℕ × X)). StartsWith xs r.opened.start) same r.begun, subst (λ (xs : List (ℕ × X)). KnowsEach r.opened xs (p ∷ [])) same mine.2),
        ),
      )

  pub glances-at : (list : T → List (ℕ × X)) (root : T → R) (n slots id : ℕ) (me : Me (Option T) (View X R)) (p : Known X R) → me ≡ (passing p Idle, []) → Allows (Kept list root n) slots id me 2 (λ x. x) (glanced (step slots 2 0 0 none) me)
  glances-at list root n slots id me p e = subst (λ (m : Me (Option T) (View X R)). Allows (Kept list root n) slots id m 2 (λ x. x) (glanced (step slots 2 0 0 none) m)) (sym e) (glances list root n slots id p)

  -- a pass that has seen the whole list has looked
  pub glanced-looked : (m m' : Me (Option T) (View X R)) (p : Known X R) (found : ℕ) → m ≡ (passing p Idle, []) → glanced (step 1 2 0 0 none) m found m' → found ≡ length p.seen → Looked m.0 m'.0
  glanced-looked m m' p found e told hit =
      let k = subst (λ (a : Me (Option T) (View X R)). glanced (step 1 2 0 0 none) a found m') e told in
      let h = k.1 hit in
      subst (λ (a : Me (Option T) (View X R)). Looked a.0 m'.0) (sym e) (subst (λ (b : Me (Option T) (View X R)). Looked (passing p Idle) b.0) (sym k.0) (looks-whole h.0 p.seen p h.1 h.2.0))
