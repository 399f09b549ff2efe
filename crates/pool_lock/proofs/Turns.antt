-- Drawing a ticket, waiting for it and passing the turn on keep the rule.
use Rattle.std.proofs.Common.{◌≡◌, ◌≢◌, ℕ, ◌+◌, ◌%◌, ◌^◌, ◌<◌, List, [], ◌∷◌, length, get_or, set, sym, refl, ap, ◌∙◌, subst, inl, inr, ⊎_elim, arith, length-set, get_or-set_same, get_or-set_other, Option, Some}
use mathlib.Core.Logic.{dite}
use mathlib.Core.Option as raw
use mathlib.Core.Option.{none, some}
use native.Mathlib.Decide.{ℕ_discrete}
use lib.ListN.{get_elem?}
use lib.Seq.{set-get_or}
use Rattle.atomic_table.specs.Table.{State, Me, step, keeps, takes, gives, stepped, Allows, put_back}
use Rattle.atomic_table.proofs.Lists.{set_here, set_again, one_turn}
use Rattle.pool_lock.specs.declared.view.Known.{Known}
use Rattle.pool_lock.specs.declared.view.Opened.{Opened}
use Rattle.pool_lock.specs.declared.view.Phase.TheVariants.{Idle, Waiting, Served}
use Rattle.pool_lock.specs.declared.view.View.{View}
use Rattle.pool_lock.specs.Entries.{StartsWith}
use Rattle.pool_lock.specs.Views.{passing, ticket_of, held}
use Rattle.pool_lock.specs.Told.{Meets, KnowsEach, drew, waited, passed_on}
use Rattle.pool_lock.specs.Rule.{Fits, AtHome, IsOut, Held, Kept}
use Rattle.pool_lock.proofs.Sums.{weigh-set, fits-set}
use Rattle.pool_lock.proofs.Places.{mod-next, range, fits-later, fits-out, fits-next, idle-no_ticket, idle-not_served, waiting-same, waiting-not_served, single-set, same-view, inside, numbers-same, few-out, still-out}
use Rattle.pool_lock.proofs.Settled.{settled}

module _ {X R : Type 0} where
  pub opened-same : (o p : Opened X R) → Some o ≡ Some p → o ≡ p
  opened-same o p e = cc

  module _ {T : Type 0} (list : T → List (ℕ × X)) (root : T → R) (n : ℕ) where
    abbrev St : Type 0
    St = State (Option T) (View X R)

    draws : (slots id : ℕ) (p : Known X R) → Allows (Kept list root n) slots id (passing p Idle, []) 0 (λ x. (x + 1) % 2 ^ 64) (drew (step slots 0 1 0 none) (passing p Idle, []))
    draws slots id p s kept _ at _ =
        let v : View X R = passing p Idle in
        let r = settled list root n s id v kept at tt in
        let x : ℕ = get_or s.words 0 0 in
        let k : ℕ = (x + 1) % 2 ^ 64 in
        let w : View X R = passing p (Waiting r.next) in
        let wide = r.wide in
        let drawn = r.drawn in
        let sum = weigh-set held s.views id v w at in
        let mine = r.fits id v at in (
          w,
          keeps,
          tt,
          inr (record {
            opened = r.opened;
            current = r.current;
            serving = r.serving;
            next = r.next + 1;
            wide = length-set s.words 0 k ∙ wide;
            next_word = get_or-set_same s.words 0 k 0 (omega arith) ∙ mod-next r.next x r.next_word;
            serving_word = get_or-set_other s.words 0 1 k 0 (λ e. omega arith) ∙ r.serving_word;
            count_word = get_or-set_other s.words 0 2 k 0 (λ e. omega arith) ∙ r.count_word;
            few = r.few;
            numbers = numbers-same n s.views id v w at refl r.numbers;
            drawn = omega arith;
            fits = fits-set (Fits (s.homes ≡ none ∷ []) r.serving (r.next + 1) r.current r.opened) s.views id w ((omega arith, omega arith), mine.1, mine.2)
                (λ j u _ e. let f = r.fits j u e in (fits-later (s.homes ≡ none ∷ []) r.serving r.next r.current u.phase f.0, f.1, f.2));
            single = single-set s.views id w r.single (λ j u t _ e tw tu. let a : r.next ≡ t = cc in let b = range (s.homes ≡ none ∷ []) r.serving r.next r.current u.phase t (r.fits j u e).0 tu in omega arith);
            short = r.short;
            begun = r.begun;
            ours = r.ours;
            home = still-out list root n s (set s.words 0 k) id w r.serving r.current r.opened (λ j u e q same. idle-not_served u.phase r.serving r.current (ap (λ (z : View X R). z.phase) (same-view s.views j id u v e at same)) q) r.home;
          }),
          (r.next, r.next_word, refl),
        )

    pub draws-at : (slots id : ℕ) (me : Me (Option T) (View X R)) (p : Known X R) → me ≡ (passing p Idle, []) → Allows (Kept list root n) slots id me 0 (λ x. (x + 1) % 2 ^ 64) (drew (step slots 0 1 0 none) me)
    draws-at slots id me p e = subst (λ (m : Me (Option T) (View X R)). Allows (Kept list root n) slots id m 0 (λ x. (x + 1) % 2 ^ 64) (drew (step slots 0 1 0 none) m)) (sym e) (draws slots id p)

    -- ---- a load of the ticket that is served

    pub unmoved : (s : St) (i id : ℕ) (me : Me (Option T) (View X R)) → get_elem? s.views id ≡ some me.0 → Held list root n s → Held list root n (stepped s i (get_or s.words i 0) id me.1 me.0 keeps)
    unmoved s i id me at r =
        subst (λ (ws : List ℕ). Held list root n (record { words = ws; homes = s.homes; views = set s.views id me.0 })) (sym (set-get_or s.words i 0))
        (subst (λ (vs : List (View X R)). Held list root n (record { words = s.words; homes = s.homes; views = vs })) (sym (set_again s.views id me.0 at)) r)

    taken : (s : St) (r : Held list root n s) (id t : ℕ) (p : Known X R) (y : T) → get_elem? s.views id ≡ some (passing p (Waiting t)) → t ≡ r.serving → s.homes ≡ some (Some y) ∷ [] → list y ≡ r.current
        → Held list root n (record { words = s.words; homes = none ∷ []; views = set s.views id (passing p (Served t (list y))) })
    taken s r id t p y at same home is =
        let gone : List (raw.Option (Option T)) = none ∷ [] in
        let v : View X R = passing p (Waiting t) in
        let w : View X R = passing p (Served t (list y)) in
        let mine = r.fits id v at in
        let sum = weigh-set held s.views id v w at in
        let drawn = r.drawn in
        let there : id < length s.views = inside s.views id v at in
        record {
          opened = r.opened;
          current = r.current;
          serving = r.serving;
          next = r.next;
          wide = r.wide;
          next_word = r.next_word;
          serving_word = r.serving_word;
          count_word = r.count_word;
          few = r.few;
          numbers = numbers-same n s.views id v w at refl r.numbers;
          drawn = omega arith;
          fits = fits-set (Fits (gone ≡ none ∷ []) r.serving r.next r.current r.opened) s.views id w ((same, mine.0.1, is, refl), mine.1, mine.2)
              (λ j u _ e. let f = r.fits j u e in (fits-out (s.homes ≡ none ∷ []) (gone ≡ none ∷ []) r.serving r.next r.current u.phase (λ _. refl) f.0, f.1, f.2));
          single = single-set s.views id w r.single (λ j u q other e tw tu. other (r.single j id u v q e at tu tw));
          short = r.short;
          begun = r.begun;
          ours = r.ours;
          home = inr (id, w, set_here s.views id w there, ap (λ (k : ℕ). Served k (list y)) same ∙ ap (Served r.serving) is, refl);
        }

    waits : (slots id t : ℕ) (p : Known X R) → Allows (Kept list root n) slots id (passing p (Waiting t), []) 1 (λ x. x) (waited list root (step slots 1 0 0 none) (passing p (Waiting t), []))
    waits slots id t p s kept _ at _ =
        let v : View X R = passing p (Waiting t) in
        let r = settled list root n s id v kept at tt in
        let x : ℕ = get_or s.words 1 0 in
        let mine = r.fits id v at in
        let small = few-out list root n s r in
        dite (ℕ_discrete x (t % 2 ^ 64))
        (λ hit.
        let same : t ≡ r.serving = sym (one_turn r.serving t 18446744073709551616 mine.0.0 (omega arith) (sym r.serving_word ∙ hit)) in
        ⊎_elim
        (λ (h : AtHome list root n r.current r.opened s).
        let y = h.0 in
        let k = taken s r id t p y at same h.1 h.2 in
        let w : View X R = passing p (Served t (list y)) in
        let meets : Meets (root y) (list y) v = (r.opened, h.3, subst (λ (xs : List (ℕ × X)). StartsWith xs r.opened.start) (sym h.2) r.begun, subst (λ (xs : List (ℕ × X)). KnowsEach r.opened xs (p ∷ [])) (sym h.2) mine.2) in (
          w,
          takes 0 (Some y),
          ap (λ hs. get_elem? hs 0) h.1,
          inr (subst (λ (ws : List ℕ). Held list root n (record { words = ws; homes = set s.homes 0 none; views = set s.views id w })) (sym (set-get_or s.words 1 0))
              (subst (λ hs. Held list root n (record { words = s.words; homes = hs; views = set s.views id w })) (sym (ap (λ hs. set hs 0 none) h.1)) k)),
          λ m e.
              let i : t ≡ m = waiting-same t m e in
              ((λ _. (y, meets, ap (λ (q : ℕ). (passing p (Served q (list y)), (0, Some y) ∷ [])) i)), λ no. absurd (no (hit ∙ ap (λ (q : ℕ). q % 2 ^ 64) i))),
        ))
        (λ (q : IsOut list root n r.serving r.current s).
        let there = r.single q.0 id q.1 v r.serving q.2 at (ap ticket_of q.3) (ap Some same) in
        absurd (waiting-not_served t r.serving r.current (ap (λ (z : View X R). z.phase) (sym (same-view s.views q.0 id q.1 v q.2 at there)) ∙ q.3)))
        r.home)
        (λ miss. (v, keeps, tt, inr (unmoved s 1 id (v, []) at r), λ m e. let i : t ≡ m = waiting-same t m e in ((λ hit. absurd (miss (hit ∙ ap (λ (q : ℕ). q % 2 ^ 64) (sym i)))), λ _. refl)))

    pub waits-at : (slots id t : ℕ) (me : Me (Option T) (View X R)) (p : Known X R) → me ≡ (passing p (Waiting t), []) → Allows (Kept list root n) slots id me 1 (λ x. x) (waited list root (step slots 1 0 0 none) me)
    waits-at slots id t me p e = subst (λ (m : Me (Option T) (View X R)). Allows (Kept list root n) slots id m 1 (λ x. x) (waited list root (step slots 1 0 0 none) m)) (sym e) (waits slots id t p)

    -- ---- the turn is passed on

    returned : (s : St) (r : Held list root n s) (id t : ℕ) (p : Known X R) (o : Opened X R) (y : T) → get_elem? s.views id ≡ some (passing p (Served t (list y))) → p.opened ≡ Some o → root y ≡ o.root
        → Held list root n (stepped s 1 ((get_or s.words 1 0 + 1) % 2 ^ 64) id ((0, Some y) ∷ []) (passing p Idle) gives)
    returned s r id t p o y at of its =
        let v : View X R = passing p (Served t (list y)) in
        let w : View X R = passing p Idle in
        let k : ℕ = (get_or s.words 1 0 + 1) % 2 ^ 64 in
        let gone : List (raw.Option (Option T)) = none ∷ [] in
        let back : List (raw.Option (Option T)) = some (Some y) ∷ [] in
        let mine = r.fits id v at in
        let ticket : ticket_of v.phase ≡ Some r.serving = ap Some mine.0.0 in
        let sum = weigh-set held s.views id v w at in
        let drawn = r.drawn in
        let wide = r.wide in
        let homes : put_back s.homes ((0, Some y) ∷ []) ≡ back = ap (λ hs. set hs 0 (some (Some y))) mine.0.3 in
        let other : (j : ℕ) (u : View X R) → j ≢ id → get_elem? s.views j ≡ some u → ticket_of u.phase ≡ Some r.serving → ⊥ = λ j u ne e q. ne (r.single j id u v r.serving e at q ticket) in
        let is : o ≡ r.opened = opened-same o r.opened (sym of ∙ mine.2.0.0) in
        let h : Held list root n (record { words = set s.words 1 k; homes = back; views = set s.views id w }) =
        record {
          opened = r.opened;
          current = r.current;
          serving = r.serving + 1;
          next = r.next;
          wide = length-set s.words 1 k ∙ wide;
          next_word = get_or-set_other s.words 1 0 k 0 (λ e. omega arith) ∙ r.next_word;
          serving_word = get_or-set_same s.words 1 k 0 (omega arith) ∙ mod-next r.serving (get_or s.words 1 0) r.serving_word;
          count_word = get_or-set_other s.words 1 2 k 0 (λ e. omega arith) ∙ r.count_word;
          few = r.few;
          numbers = numbers-same n s.views id v w at refl r.numbers;
          drawn = omega arith;
          fits = fits-set (Fits (back ≡ gone) (r.serving + 1) r.next r.current r.opened) s.views id w (tt, mine.1, mine.2)
              (λ j u ne e. let f = r.fits j u e in (fits-next (s.homes ≡ gone) (back ≡ gone) r.serving r.next r.current u.phase (other j u ne e) f.0, f.1, f.2));
          single = single-set s.views id w r.single (λ j u q ne e tw tu. absurd (idle-no_ticket w.phase q refl tw));
          short = r.short;
          begun = r.begun;
          ours = r.ours;
          home = inl (y, refl, mine.0.2, its ∙ ap (λ (q : Opened X R). q.root) is);
        } in
        subst (λ hs. Held list root n (record { words = set s.words 1 k; homes = hs; views = set s.views id w })) (sym homes) h

    passes : (slots id t : ℕ) (p : Known X R) (o : Opened X R) (y : T) → p.opened ≡ Some o → root y ≡ o.root → Allows (Kept list root n) slots id (passing p (Served t (list y)), (0, Some y) ∷ []) 1 (λ x. (x + 1) % 2 ^ 64) (passed_on (step slots 1 1 0 none) (passing p (Served t (list y)), (0, Some y) ∷ []))
    passes slots id t p o y of its s kept _ at _ =
        let r = settled list root n s id (passing p (Served t (list y))) kept at tt in
        (passing p Idle, gives, tt, inr (returned s r id t p o y at of its), refl)

    pub passes-at : (slots id t : ℕ) (me : Me (Option T) (View X R)) (p : Known X R) (o : Opened X R) (y : T) → p.opened ≡ Some o → root y ≡ o.root → me ≡ (passing p (Served t (list y)), (0, Some y) ∷ [])
        → Allows (Kept list root n) slots id me 1 (λ x. (x + 1) % 2 ^ 64) (passed_on (step slots 1 1 0 none) me)
    passes-at slots id t me p o y of its e = subst (λ (m : Me (Option T) (View X R)). Allows (Kept list root n) slots id m 1 (λ x. (x + 1) % 2 ^ 64) (passed_on (step slots 1 1 0 none) m)) (sym e) (passes slots id t p o y of its)
