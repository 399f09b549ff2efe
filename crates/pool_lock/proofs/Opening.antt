-- A table without a value, the two steps that put it in, and the cut of a seat keep the rule.
use Rattle.std.proofs.Common.{◌≡◌, ℕ, zero, suc, ◌+◌, ◌<◌, ◌≤◌, List, [], ◌∷◌, map, length, set, sym, refl, ap, ◌∙◌, subst, inl, inr, ⊎_elim, arith, Option, Some, None}
use Rattle.std.proofs.Math.Seq.{drop-length}
use mathlib.Core.Option.{none, some, some-injective, some-ne-none}
use lib.ListN.{get_elem?}
use lib.Seq.{set-get_or}
use Rattle.atomic_table.specs.Table.{State, Me, step, takes, gives, Allows, Splits, opening, put_back, rest}
use Rattle.atomic_table.proofs.Lists.{at_snoc, at_longer}
use Rattle.pool_lock.specs.declared.view.Known.{Known}
use Rattle.pool_lock.specs.declared.view.Opened.{Opened}
use Rattle.pool_lock.specs.declared.view.Phase.{Phase}
use Rattle.pool_lock.specs.declared.view.Phase.TheVariants.{Empty, Filling, Idle, Waiting, Served}
use Rattle.pool_lock.specs.declared.view.View.{View}
use Rattle.pool_lock.specs.Entries.{AllBelow, items_of}
use Rattle.pool_lock.specs.Weights.{weigh, upto}
use Rattle.pool_lock.specs.Views.{view_of, in_phase, beginner, fresh, fresh_from, opened_as, with_opened, held, number_of, numbers_in}
use Rattle.pool_lock.specs.Told.{KnowsEach, opening_in, fetched, filled, first_of, rest_of}
use Rattle.pool_lock.specs.Rule.{FitsPhase, AtRest, Fits, AtHome, IsOut, Held, Unfilled, Kept}
use Rattle.pool_lock.proofs.Sums.{weigh-set, weigh-snoc, fits-set}
use Rattle.pool_lock.proofs.Entries.{starts-same, starts-none}
use Rattle.pool_lock.proofs.Places.{idle-no_ticket, idle-not_served, single-set, same-view, still-out}
use Rattle.pool_lock.proofs.Settled.{IsSettled, settled}

-- a seat that fills the slot
abbrev IsFilling : {X : Type 0} → Phase X → Type 0
IsFilling Empty = ⊥
IsFilling Filling = Unit {0}
IsFilling Idle = ⊥
IsFilling (Waiting t) = ⊥
IsFilling (Served t c) = ⊥

fits-settled : {X : Type 0} (out : Type 0) (serving next : ℕ) (current : List (ℕ × X)) (p : Phase X) → FitsPhase out serving next current p → IsSettled p
fits-settled out serving next current Empty f = f
fits-settled out serving next current Filling f = f
fits-settled out serving next current Idle f = tt
fits-settled out serving next current (Waiting t) f = tt
fits-settled out serving next current (Served t c) f = tt

module _ {X R : Type 0} where
  fresh-numbers : (o : Option (Opened X R)) (k n : ℕ) → map number_of (fresh_from o k n) ≡ upto k n
  fresh-numbers o k zero = refl
  fresh-numbers o k (suc n) = ap (λ (xs : List ℕ). k ∷ xs) (fresh-numbers o (k + 1) n)

  pub fresh-opened : (o m : Option (Opened X R)) (k n : ℕ) → map (with_opened o) (fresh_from m k n) ≡ fresh_from o k n
  fresh-opened o m k zero = refl
  fresh-opened o m k (suc n) = ap (λ (l : List (Known X R)). fresh o k ∷ l) (fresh-opened o m (k + 1) n)

  fresh-know : (o : Opened X R) (k n : ℕ) → KnowsEach o o.start (fresh_from (Some o) k n)
  fresh-know o k zero = tt
  fresh-know o k (suc n) = ((refl, starts-none o.start, sym (ap (λ (xs : List (ℕ × X)). items_of k (length o.start) xs) (drop-length o.start))), fresh-know o (k + 1) n)

  fresh-rest : (o : Option (Opened X R)) (k n : ℕ) → AtRest Idle (fresh_from o k n)
  fresh-rest o k zero = refl
  fresh-rest o k (suc n) = tt

  module _ {T : Type 0} (list : T → List (ℕ × X)) (root : T → R) (n : ℕ) where
    abbrev St : Type 0
    St = State (Option T) (View X R)

    pub begins : n ≤ 64 → Kept list root n (opening (0 ∷ 0 ∷ 0 ∷ []) (None ∷ []) (beginner n Empty))
    begins most = inl (record { words = refl; few = most; slot = inl (refl, refl) })

    -- a seat that opens the lock finds it without a value
    unfilled : (s : St) (id : ℕ) (v : View X R) → Kept list root n s → get_elem? s.views id ≡ some v → (IsSettled v.phase → ⊥) → Unfilled list root n s
    unfilled s id v (inl u) at past = u
    unfilled s id v (inr r) at past = absurd (past (fits-settled (s.homes ≡ none ∷ []) r.serving r.next r.current v.phase (r.fits id v at).0))

    alone : (u v : View X R) (id : ℕ) → get_elem? (u ∷ []) id ≡ some v → (id ≡ 0) × (u ≡ v)
    alone u v zero e = (refl, some-injective u v e)
    alone u v (suc id) e = absurd (some-ne-none v (sym e))

    here : (vs : List (View X R)) (u v : View X R) (id : ℕ) → vs ≡ u ∷ [] → get_elem? vs id ≡ some v → (id ≡ 0) × (u ≡ v)
    here vs u v id e at = alone u v id (subst (λ (l : List (View X R)). get_elem? l id ≡ some v) e at)

    set-one : (vs : List (View X R)) (u w : View X R) (id : ℕ) → vs ≡ u ∷ [] → id ≡ 0 → set vs id w ≡ w ∷ []
    set-one vs u w id e z = ap (λ (l : List (View X R)). set l id w) e ∙ ap (λ (i : ℕ). set (u ∷ []) i w) z

    empty-not_filling : (k : ℕ) → beginner {X = X} {R = R} k Filling ≡ beginner k Empty → ⊥
    empty-not_filling k e = subst (λ (v : View X R). IsFilling v.phase) e tt

    fetches : (slots id : ℕ) → Allows (Kept list root n) slots id (beginner n Empty, []) 0 (λ x. x) (fetched (step slots 0 0 0 none) (beginner n Empty, []))
    fetches slots id s kept _ at _ =
        let u = unfilled s id (beginner n Empty) kept at (λ h. h) in
        let w : View X R = beginner n Filling in
        ⊎_elim
        (λ (e : (s.views ≡ beginner n Empty ∷ []) × (s.homes ≡ some None ∷ [])).
        let first = here s.views (beginner n Empty) (beginner n Empty) id e.0 at in (
          w,
          takes 0 None,
          ap (λ hs. get_elem? hs 0) e.1,
          inl (record {
            words = set-get_or s.words 0 0 ∙ u.words;
            few = u.few;
            slot = inr (set-one s.views (beginner n Empty) w id e.0 first.0, ap (λ hs. set hs 0 none) e.1);
          }),
          refl,
        ))
        (λ (e : (s.views ≡ beginner n Filling ∷ []) × (s.homes ≡ none ∷ [])). absurd (empty-not_filling n (here s.views (beginner n Filling) (beginner n Empty) id e.0 at).1))
        u.slot

    pub fetches-at : (slots id : ℕ) (me : Me (Option T) (View X R)) → me ≡ (beginner n Empty, []) → Allows (Kept list root n) slots id me 0 (λ x. x) (fetched (step slots 0 0 0 none) me)
    fetches-at slots id me e = subst (λ (m : Me (Option T) (View X R)). Allows (Kept list root n) slots id m 0 (λ x. x) (fetched (step slots 0 0 0 none) m)) (sym e) (fetches slots id)

    abbrev first-view : T → View X R
    first-view x = view_of (map (with_opened (Some (opened_as (root x) (list x)))) (fresh_from None 0 n)) Idle

    first-fits : (x : T) (i : ℕ) (v : View X R) → get_elem? (first-view x ∷ []) i ≡ some v → Fits ((some (Some x) ∷ []) ≡ none ∷ []) 0 0 (list x) (opened_as (root x) (list x)) v
    first-fits x zero v e = subst (Fits ((some (Some x) ∷ []) ≡ none ∷ []) 0 0 (list x) (opened_as (root x) (list x))) (some-injective (first-view x) v e) (tt, subst (AtRest Idle) (sym (fresh-opened (Some (opened_as (root x) (list x))) None 0 n)) (fresh-rest (Some (opened_as (root x) (list x))) 0 n), subst (KnowsEach (opened_as (root x) (list x)) (list x)) (sym (fresh-opened (Some (opened_as (root x) (list x))) None 0 n)) (fresh-know (opened_as (root x) (list x)) 0 n))
    first-fits x (suc i) v e = absurd (some-ne-none v (sym e))

    first-idle : (x : T) (i : ℕ) (v : View X R) → get_elem? (first-view x ∷ []) i ≡ some v → v.phase ≡ Idle
    first-idle x zero v e = ap (λ (u : View X R). u.phase) (sym (some-injective (first-view x) v e))
    first-idle x (suc i) v e = absurd (some-ne-none v (sym e))

    opens : (x : T) (count : ℕ) → count ≡ length (list x) → length (list x) < 9223372036854775808 → n ≤ 64 → Held list root n (record { words = 0 ∷ 0 ∷ count ∷ []; homes = some (Some x) ∷ []; views = first-view x ∷ [] })
    opens x count is short most =
        record {
          opened = opened_as (root x) (list x);
          current = list x;
          serving = 0;
          next = 0;
          wide = refl;
          next_word = refl;
          serving_word = refl;
          count_word = omega arith;
          few = most;
          numbers = λ h. let e : weigh h (numbers_in (first-view x)) ≡ weigh h (upto 0 n) = ap (λ (l : List (Known X R)). weigh h (map number_of l)) (fresh-opened (Some (opened_as (root x) (list x))) None 0 n) ∙ ap (weigh h) (fresh-numbers (Some (opened_as (root x) (list x))) 0 n) in omega arith;
          drawn = refl;
          fits = first-fits x;
          single = λ i j v w t ei ej ti tj. absurd (idle-no_ticket v.phase t (first-idle x i v ei) ti);
          short = short;
          begun = starts-same (list x);
          ours = subst (AllBelow n) (sym (drop-length (list x))) tt;
          home = inl (x, refl, refl, refl);
        }

    fills : (slots id : ℕ) (x : T) (count : ℕ) → count ≡ length (list x) → length (list x) < 9223372036854775808
        → Allows (Kept list root n) slots id (beginner n Filling, (0, Some x) ∷ []) 2 (λ _. count) (λ _. filled list root (step slots 2 count 0 none) (beginner n Filling, (0, Some x) ∷ []) count)
    fills slots id x count is short s kept _ at _ =
        let u = unfilled s id (beginner n Filling) kept at (λ h. h) in
        let w : View X R = first-view x in
        ⊎_elim
        (λ (e : (s.views ≡ beginner n Empty ∷ []) × (s.homes ≡ some None ∷ [])). absurd (empty-not_filling n (sym (here s.views (beginner n Empty) (beginner n Filling) id e.0 at).1)))
        (λ (e : (s.views ≡ beginner n Filling ∷ []) × (s.homes ≡ none ∷ [])).
        let first = here s.views (beginner n Filling) (beginner n Filling) id e.0 at in
        let views : set s.views id w ≡ w ∷ [] = set-one s.views (beginner n Filling) w id e.0 first.0 in
        let homes : put_back s.homes ((0, Some x) ∷ []) ≡ some (Some x) ∷ [] = ap (λ hs. set hs 0 (some (Some x))) e.1 in
        let words : set s.words 2 count ≡ 0 ∷ 0 ∷ count ∷ [] = ap (λ (ws : List ℕ). set ws 2 count) u.words in (
          w,
          gives,
          tt,
          inr (subst (λ (ws : List ℕ). Held list root n (record { words = ws; homes = put_back s.homes ((0, Some x) ∷ []); views = set s.views id w })) (sym words)
              (subst (λ hs. Held list root n (record { words = 0 ∷ 0 ∷ count ∷ []; homes = hs; views = set s.views id w })) (sym homes)
              (subst (λ (vs : List (View X R)). Held list root n (record { words = 0 ∷ 0 ∷ count ∷ []; homes = some (Some x) ∷ []; views = vs })) (sym views) (opens x count is short u.few)))),
          refl,
        ))
        u.slot

    pub fills-at : (slots id : ℕ) (me : Me (Option T) (View X R)) (x : T) (count : ℕ) → count ≡ length (list x) → length (list x) < 9223372036854775808 → me ≡ (beginner n Filling, (0, Some x) ∷ [])
        → Allows (Kept list root n) slots id me 2 (λ _. count) (λ _. filled list root (step slots 2 count 0 none) me count)
    fills-at slots id me x count is short e = subst (λ (m : Me (Option T) (View X R)). Allows (Kept list root n) slots id m 2 (λ _. count) (λ _. filled list root (step slots 2 count 0 none) m count)) (sym e) (fills slots id x count is short)

    splits : (id : ℕ) (p q : Known X R) (ps : List (Known X R)) → Splits (Kept list root n) id (view_of (p ∷ q ∷ ps) Idle) (view_of (q ∷ ps) Idle) (view_of (p ∷ []) Idle)
    splits id p q ps s kept at =
        let v : View X R = view_of (p ∷ q ∷ ps) Idle in
        let left : View X R = view_of (q ∷ ps) Idle in
        let right : View X R = view_of (p ∷ []) Idle in
        let r = settled list root n s id v kept at tt in
        let vs = set s.views id left in
        let mine = r.fits id v at in
        let sum = weigh-set held s.views id v left at in
        let more = weigh-snoc held vs right in
        let drawn = r.drawn in
        let F = Fits (s.homes ≡ none ∷ []) r.serving r.next r.current r.opened in
        let fits : (j : ℕ) (u : View X R) → get_elem? vs j ≡ some u → F u = fits-set F s.views id left (tt, tt, mine.2.1) (λ j u _ e. r.fits j u e) in
        let single = single-set s.views id left r.single (λ j u t _ e tw tu. idle-no_ticket left.phase t refl tw) in
        inr (record {
          opened = r.opened;
          current = r.current;
          serving = r.serving;
          next = r.next;
          wide = r.wide;
          next_word = r.next_word;
          serving_word = r.serving_word;
          count_word = r.count_word;
          few = r.few;
          numbers = λ h.
              let a = weigh-snoc (λ (u : View X R). weigh h (numbers_in u)) vs right in
              let b = weigh-set (λ (u : View X R). weigh h (numbers_in u)) s.views id v left at in
              let was = r.numbers h in
              omega arith;
          drawn = omega arith;
          fits = λ j u e. ⊎_elim (λ (a : get_elem? vs j ≡ some u). fits j u a) (λ (b : right ≡ u). subst F b (tt, tt, (mine.2.0, tt))) (at_snoc vs right u j e);
          single = λ i j u w t ei ej ti tj.
              ⊎_elim
              (λ (a : get_elem? vs i ≡ some u).
              ⊎_elim
              (λ (b : get_elem? vs j ≡ some w). single i j u w t a b ti tj)
              (λ (b : right ≡ w). absurd (idle-no_ticket w.phase t (ap (λ (z : View X R). z.phase) (sym b)) tj))
              (at_snoc vs right w j ej))
              (λ (a : right ≡ u). absurd (idle-no_ticket u.phase t (ap (λ (z : View X R). z.phase) (sym a)) ti))
              (at_snoc vs right u i ei);
          short = r.short;
          begun = r.begun;
          ours = r.ours;
          home =
              ⊎_elim
              (λ (h : AtHome list root n r.current r.opened (record { words = s.words; homes = s.homes; views = vs })). inl h)
              (λ (h : IsOut list root n r.serving r.current (record { words = s.words; homes = s.homes; views = vs })). inr (h.0, h.1, at_longer vs (right ∷ []) h.0 h.1 h.2, h.3, h.4))
              (still-out list root n s s.words id left r.serving r.current r.opened (λ j u e served same. idle-not_served u.phase r.serving r.current (ap (λ (z : View X R). z.phase) (same-view s.views j id u v e at same)) served) r.home);
        })

    pub splits-at : (id : ℕ) (me : Me (Option T) (View X R)) (p q : Known X R) (ps : List (Known X R)) → me ≡ (view_of (p ∷ q ∷ ps) Idle, []) → Splits (Kept list root n) id me.0 (rest_of me.0) (first_of me.0)
    splits-at id me p q ps e = subst (λ (m : Me (Option T) (View X R)). Splits (Kept list root n) id m.0 (rest_of m.0) (first_of m.0)) (sym e) (splits id p q ps)

module _ {X R T : Type 0} where
  -- the seat that fills the slot has the value
  pub filling-is : (n : ℕ) (m m1 m2 : Me (Option T) (View X R)) (y : T) → m ≡ (beginner n Empty, []) → m1 ≡ (in_phase Filling m.0, (0, None) ∷ m.1) → m2 ≡ (m1.0, (0, Some y) ∷ []) → m2 ≡ (beginner n Filling, (0, Some y) ∷ [])
  filling-is n m m1 m2 y e f g = g ∙ ap (λ (k : Me (Option T) (View X R)). (k.0, (0, Some y) ∷ [])) (f ∙ ap (λ (k : Me (Option T) (View X R)). (in_phase Filling k.0, (0, None) ∷ k.1)) e)

  -- what it stands for once the value is there
  pub filled-is : (list : T → List (ℕ × X)) (root : T → R) (n : ℕ) (m m' : Me (Option T) (View X R)) (y : T) → m ≡ (beginner n Filling, (0, Some y) ∷ []) → m' ≡ (view_of (map (with_opened (opening_in list root m.1)) m.0.passes) Idle, rest m.1) → m' ≡ (view_of (fresh_from (Some (opened_as (root y) (list y))) 0 n) Idle, [])
  filled-is list root n m m' y e f =
      f ∙ ap (λ (k : Me (Option T) (View X R)). (view_of (map (with_opened (opening_in list root k.1)) k.0.passes) Idle, rest k.1)) e
      ∙ ap (λ (ps : List (Known X R)). (view_of ps Idle, [])) (fresh-opened (Some (opened_as (root y) (list y))) None 0 n)
