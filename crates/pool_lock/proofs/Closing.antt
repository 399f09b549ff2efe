-- Seats that are joined keep the rule, and the seat that stands for all passes knows the value.
use Rattle.std.proofs.Common.{◌≡◌, ◌≢◌, ℕ, List, [], ◌∷◌, map, length, drop, set, sym, refl, ap, ◌∙◌, subst, inr, ⊎_elim, arith, Option, Some}
use mathlib.Core.Logic.{dite}
use mathlib.Core.Option.{none, some}
use native.Mathlib.Decide.{ℕ_discrete}
use lib.ListN.{get_elem?}
use Rattle.atomic_table.specs.Table.{State, Me, Joins, Final, Seen}
use Rattle.atomic_table.proofs.Lists.{set_else}
use Rattle.pool_lock.specs.declared.view.Known.{Known}
use Rattle.pool_lock.specs.declared.view.Opened.{Opened}
use Rattle.pool_lock.specs.declared.view.Phase.TheVariants.{Idle}
use Rattle.pool_lock.specs.declared.view.View.{View}
use Rattle.pool_lock.specs.Entries.{StartsWith, AllBelow}
use Rattle.pool_lock.specs.Weights.{weigh, upto, AreBelow}
use Rattle.pool_lock.specs.Views.{view_of, held, number_of, numbers_in}
use Rattle.pool_lock.specs.Told.{KnowsEach, both_of, spent}
use Rattle.pool_lock.specs.Rule.{AtRest, Fits, AtHome, IsOut, Kept}
use Rattle.pool_lock.proofs.Sums.{weigh-set, weigh-two, weigh-alone, weigh-length, length-upto, fits-set}
use Rattle.pool_lock.proofs.Places.{idle-no_ticket, idle-not_served, single-set, same-view, passes-count, still-out}
use Rattle.pool_lock.proofs.Settled.{settled}

module _ {X R : Type 0} where
  module _ {T : Type 0} (list : T → List (ℕ × X)) (root : T → R) (n : ℕ) where
    abbrev St : Type 0
    St = State (Option T) (View X R)

    joins : (id : ℕ) (p : Known X R) (ps : List (Known X R)) (other : ℕ) (q : Known X R) → Joins (Kept list root n) id (view_of (p ∷ ps) Idle) other (view_of (q ∷ []) Idle) (view_of (q ∷ p ∷ ps) Idle) spent
    joins id p ps other q s kept at ne aw =
        let v : View X R = view_of (p ∷ ps) Idle in
        let w : View X R = view_of (q ∷ []) Idle in
        let both : View X R = view_of (q ∷ p ∷ ps) Idle in
        let r = settled list root n s id v kept at tt in
        let vs = set s.views id both in
        let aw' : get_elem? s.views other ≡ some w = sym (set_else s.views id other both ne) ∙ aw in
        let f = r.fits id v at in
        let g = r.fits other w aw' in
        let sum = weigh-set held s.views id v both at in
        let sum2 = weigh-set held vs other w spent aw in
        let drawn = r.drawn in
        let F = Fits (s.homes ≡ none ∷ []) r.serving r.next r.current r.opened in
        let fits = fits-set F s.views id both (tt, tt, (g.2.0, f.2)) (λ j u _ e. r.fits j u e) in
        let single = single-set s.views id both r.single (λ j u t _ e tw tu. idle-no_ticket both.phase t refl tw) in
        let s1 : St = record { words = s.words; homes = s.homes; views = vs } in
        let home = still-out list root n s s.words id both r.serving r.current r.opened (λ j u e served same. idle-not_served u.phase r.serving r.current (ap (λ (z : View X R). z.phase) (same-view s.views j id u v e at same)) served) r.home in
        inr (record {
          opened = r.opened;
          current = r.current;
          serving = r.serving;
          next = r.next;
          wide = r.wide;
          next_word = r.next_word;
          serving_word = r.serving_word;
          count_word = r.count_word;
          few = r.few;
          numbers = λ h.
              let a = weigh-set (λ (u : View X R). weigh h (numbers_in u)) s.views id v both at in
              let b = weigh-set (λ (u : View X R). weigh h (numbers_in u)) vs other w spent aw in
              let was = r.numbers h in
              omega arith;
          drawn = omega arith;
          fits = fits-set F vs other spent (tt, refl, tt) (λ j u _ e. fits j u e);
          single = single-set vs other spent single (λ j u t _ e tw tu. idle-no_ticket {X = X} Idle t refl tw);
          short = r.short;
          begun = r.begun;
          ours = r.ours;
          home = still-out list root n s1 s.words other spent r.serving r.current r.opened (λ j u e served same. idle-not_served u.phase r.serving r.current (ap (λ (z : View X R). z.phase) (same-view vs j other u w e aw same)) served) home;
        })

    pub joins-at : (id : ℕ) (me : Me (Option T) (View X R)) (p : Known X R) (ps : List (Known X R)) (other : ℕ) (them : Me (Option T) (View X R)) (q : Known X R) → me ≡ (view_of (p ∷ ps) Idle, []) → them ≡ (view_of (q ∷ []) Idle, []) → Joins (Kept list root n) id me.0 other them.0 (both_of me.0 them.0) spent
    joins-at id me p ps other them q e d =
        subst (λ (a : Me (Option T) (View X R)). Joins (Kept list root n) id a.0 other them.0 (both_of a.0 them.0) spent) (sym e)
        (subst (λ (b : Me (Option T) (View X R)). Joins (Kept list root n) id (view_of (p ∷ ps) Idle) other b.0 (both_of (view_of (p ∷ ps) Idle) b.0) spent) (sym d) (joins id p ps other q))

    -- what the seat that stands for all passes knows of the value
    pub record All (x : T) (o : Opened X R) (ps : List (Known X R)) : Type 0 where
      pub root_same : root x ≡ o.root
      pub begun : StartsWith (list x) o.start
      pub each : KnowsEach o (list x) ps
      pub ours : AllBelow n (drop (length o.start) (list x))
      pub numbers : AreBelow n (map number_of ps)

    no-passes : (ps : List (Known X R)) → length ps ≡ 0 → ps ≡ []
    no-passes [] e = refl
    no-passes (p ∷ ps) e = absurd (omega arith)

    closes : (s : St) (id : ℕ) (p : Known X R) (ps : List (Known X R)) → Kept list root n s → get_elem? s.views id ≡ some (view_of (p ∷ ps) Idle) → length (p ∷ ps) ≡ n → (x : T) × (get_elem? s.homes 0 ≡ some (some (Some x))) × ((o : Opened X R) × All x o (p ∷ ps))
    closes s id p ps kept at whole =
        let v : View X R = view_of (p ∷ ps) Idle in
        let r = settled list root n s id v kept at tt in
        let mine = r.fits id v at in
        let sums = r.numbers (λ _. 1) in
        let ones = weigh-length (upto 0 n) in
        let count = length-upto 0 n in
        let own = passes-count v in
        let none : (j : ℕ) (u : View X R) → j ≢ id → get_elem? s.views j ≡ some u → u.passes ≡ [] = λ j u ne e. no-passes u.passes (let two = weigh-two (λ (z : View X R). weigh (λ _. 1) (numbers_in z)) s.views j id u v ne e at in let its = passes-count u in omega arith) in
        let numbers : AreBelow n (map number_of (p ∷ ps)) = λ h. sym (weigh-alone (λ (u : View X R). weigh h (numbers_in u)) s.views id v at (λ j u ne e. ap (λ (l : List (Known X R)). weigh h (map number_of l)) (none j u ne e))) ∙ r.numbers h in
        ⊎_elim
        (λ (h : AtHome list root n r.current r.opened s). (
          h.0,
          ap (λ hs. get_elem? hs 0) h.1,
          (
            r.opened,
            record {
              root_same = h.3;
              begun = subst (λ (xs : List (ℕ × X)). StartsWith xs r.opened.start) (sym h.2) r.begun;
              each = subst (λ (xs : List (ℕ × X)). KnowsEach r.opened xs (p ∷ ps)) (sym h.2) mine.2;
              ours = subst (λ (xs : List (ℕ × X)). AllBelow n (drop (length r.opened.start) xs)) (sym h.2) r.ours;
              numbers = numbers;
            },
          ),
        ))
        (λ (q : IsOut list root n r.serving r.current s).
        dite (ℕ_discrete q.0 id)
        (λ e. absurd (idle-not_served v.phase r.serving r.current refl (ap (λ (z : View X R). z.phase) (sym (same-view s.views q.0 id q.1 v q.2 at e)) ∙ q.3)))
        (λ ne. absurd (idle-not_served q.1.phase r.serving r.current (subst (AtRest q.1.phase) (none q.0 q.1 ne q.2) (r.fits q.0 q.1 q.2).1) q.3)))
        r.home

    pub closed-with : (id : ℕ) (me : Me (Option T) (View X R)) (p : Known X R) (ps : List (Known X R)) (words : List ℕ) (slots : List (Option T)) → me ≡ (view_of (p ∷ ps) Idle, []) → Final (Seen (Kept list root n) id me.0) words slots → length (p ∷ ps) ≡ n → (x : T) × (get_elem? slots 0 ≡ some (Some x)) × ((o : Opened X R) × All x o (p ∷ ps))
    closed-with id me p ps words slots e f whole =
        let k = closes f.0 id p ps f.1.0 (f.1.1 ∙ ap (λ (m : Me (Option T) (View X R)). some m.0) e) whole in (k.0, f.4 0 (Some k.0) k.1, k.2)
