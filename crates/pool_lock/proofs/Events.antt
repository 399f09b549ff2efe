-- The two events, steps on the count of items, keep the rule.
use Rattle.std.proofs.Common.{◌≡◌, ◌≢◌, ℕ, ◌+◌, ◌%◌, ◌^◌, ◌<◌, ◌≤◌, List, [], ◌∷◌, ◌++◌, map, length, drop, get_or, sym, refl, ap, ◌∙◌, subst, inr, arith, length-set, get_or-set_same, get_or-set_other, Option, Some}
use Rattle.std.proofs.lemmas.List.{length-append}
use Rattle.std.proofs.Math.Seq.{drop-append_seam}
use mathlib.Core.Logic.{dite}
use mathlib.Core.Option.{none, some}
use native.Mathlib.Decide.{dec_le}
use lib.ListN.{get_elem?}
use Rattle.atomic_table.specs.Table.{State, Me, step, keeps, stepped, Allows}
use Rattle.atomic_table.proofs.Lists.{set_here}
use Rattle.pool_lock.specs.declared.view.Known.{Known}
use Rattle.pool_lock.specs.declared.view.Opened.{Opened}
use Rattle.pool_lock.specs.declared.view.Phase.TheVariants.{Served}
use Rattle.pool_lock.specs.declared.view.View.{View}
use Rattle.pool_lock.specs.Entries.{StartsWith, items_of}
use Rattle.pool_lock.specs.Weights.{weigh, upto}
use Rattle.pool_lock.specs.Views.{passing, known, with_seen, ticket_of, held, number_of, numbers_in}
use Rattle.pool_lock.specs.Told.{KnowsEach, looked, published, put}
use Rattle.pool_lock.specs.Rule.{Fits, Held, Kept}
use Rattle.pool_lock.proofs.Sums.{weigh-set, weigh-one, weigh-two, is, is-here, upto-none, upto-once, fits-set}
use Rattle.pool_lock.proofs.Entries.{starts-more, starts-same, items-own, behind-own, behind-else, below-more}
use Rattle.pool_lock.proofs.Places.{mod-next, mod-same, fits-other, single-set, inside, numbers-same}
use Rattle.pool_lock.proofs.Settled.{settled}

module _ {X R : Type 0} where
  -- an item by a number that isn't theirs changes nothing of what passes know
  pub knows-else : (o : Opened X R) (current : List (ℕ × X)) (k : ℕ) (x : X) (ps : List (Known X R)) → StartsWith current o.start → weigh (is k) (map number_of ps) ≡ 0 → KnowsEach o current ps → KnowsEach o (current ++ (k, x) ∷ []) ps
  knows-else o current k x [] begun z h = tt
  knows-else o current k x (p ∷ ps) begun z h =
      let other : k ≢ p.number = λ e. let one = is-here k p.number (sym e) in omega arith in
      ((h.0.0, starts-more current p.seen ((k, x) ∷ []) h.0.1, h.0.2 ∙ sym (behind-else o.start current p.number k x begun other)), knows-else o current k x ps begun (omega arith) h.1)

module _ {X : Type 0} where
  -- the items of a pass's number behind what it took, where one more is there
  pub one-more : (c all : List (ℕ × X)) (k : ℕ) (item : X) → all ≡ c ++ (k, item) ∷ [] → items_of k (length c) (drop (length c) all) ≡ (length c, item) ∷ []
  one-more c all k item e = ap (items_of k (length c)) (ap (drop (length c)) e ∙ drop-append_seam c ((k, item) ∷ [])) ∙ items-own k (length c) (k, item) [] refl

-- what weighs something among the numbers below n lies below n
pub upto-in : (k n : ℕ) → 1 ≤ weigh (is k) (upto 0 n) → k < n
upto-in k n h = dite (dec_le n k) (λ le. let z = upto-none k 0 n (inr (omega arith)) in omega arith) (λ gt. omega arith)

module _ {X R : Type 0} where
  module _ {T : Type 0} (list : T → List (ℕ × X)) (root : T → R) (n : ℕ) where
    abbrev St : Type 0
    St = State (Option T) (View X R)

    -- the list was seen
    seen : (s : St) (r : Held list root n s) (id t : ℕ) (p : Known X R) (all : List (ℕ × X)) → get_elem? s.views id ≡ some (passing p (Served t all))
        → Held list root n (stepped s 2 ((get_or s.words 2 0 + 0) % 2 ^ 64) id [] (passing (with_seen all p) (Served t all)) keeps)
    seen s r id t p all at =
        let v : View X R = passing p (Served t all) in
        let w : View X R = passing (with_seen all p) (Served t all) in
        let k : ℕ = (get_or s.words 2 0 + 0) % 2 ^ 64 in
        let mine = r.fits id v at in
        let sum = weigh-set held s.views id v w at in
        let drawn = r.drawn in
        let wide = r.wide in
        let there = inside s.views id v at in
        record {
          opened = r.opened;
          current = r.current;
          serving = r.serving;
          next = r.next;
          wide = length-set s.words 2 k ∙ wide;
          next_word = get_or-set_other s.words 2 0 k 0 (λ e. omega arith) ∙ r.next_word;
          serving_word = get_or-set_other s.words 2 1 k 0 (λ e. omega arith) ∙ r.serving_word;
          count_word = get_or-set_same s.words 2 k 0 (omega arith) ∙ mod-same (length r.current) (get_or s.words 2 0) r.count_word;
          few = r.few;
          numbers = numbers-same n s.views id v w at refl r.numbers;
          drawn = omega arith;
          fits = fits-set (Fits (s.homes ≡ none ∷ []) r.serving r.next r.current r.opened) s.views id w
              (mine.0, tt, ((mine.2.0.0, subst (λ (xs : List (ℕ × X)). StartsWith xs all) mine.0.2 (starts-same all), mine.2.0.2), tt)) (λ j u _ e. r.fits j u e);
          single = single-set s.views id w r.single (λ j u q other e tw tu. other (r.single j id u v q e at tu tw));
          short = r.short;
          begun = r.begun;
          ours = r.ours;
          home = inr (id, w, set_here s.views id w there, ap (λ (q : ℕ). Served q all) mine.0.0 ∙ ap (Served r.serving) mine.0.2, mine.0.3);
        }

    looks : (slots id t : ℕ) (p : Known X R) (y : T) → Allows (Kept list root n) slots id (passing p (Served t (list y)), (0, Some y) ∷ []) 2 (λ x. (x + 0) % 2 ^ 64) (looked list (step slots 2 0 0 none) (passing p (Served t (list y)), (0, Some y) ∷ []))
    looks slots id t p y s kept _ at _ =
        let r = settled list root n s id (passing p (Served t (list y))) kept at tt in
        (passing (with_seen (list y) p) (Served t (list y)), keeps, tt, inr (seen s r id t p (list y) at), refl)

    pub looks-at : (slots id t : ℕ) (me : Me (Option T) (View X R)) (p : Known X R) (y : T) → me ≡ (passing p (Served t (list y)), (0, Some y) ∷ [])
        → Allows (Kept list root n) slots id me 2 (λ x. (x + 0) % 2 ^ 64) (looked list (step slots 2 0 0 none) me)
    looks-at slots id t me p y e = subst (λ (m : Me (Option T) (View X R)). Allows (Kept list root n) slots id m 2 (λ x. (x + 0) % 2 ^ 64) (looked list (step slots 2 0 0 none) m)) (sym e) (looks slots id t p y)

    -- one item more is in the list
    appended : (s : St) (r : Held list root n s) (id t : ℕ) (p : Known X R) (item : X) → length (r.current ++ (p.number, item) ∷ []) < 9223372036854775808 → get_elem? s.views id ≡ some (passing p (Served t r.current))
        → Held list root n (stepped s 2 ((get_or s.words 2 0 + 1) % 2 ^ 64) id [] (passing (known p.number p.opened p.seen (p.published ++ (length r.current, item) ∷ [])) (Served t (r.current ++ (p.number, item) ∷ []))) keeps)
    appended s r id t p item less-long at =
        let v : View X R = passing p (Served t r.current) in
        let one : List (ℕ × X) = (p.number, item) ∷ [] in
        let all : List (ℕ × X) = r.current ++ one in
        let q : Known X R = known p.number p.opened p.seen (p.published ++ (length r.current, item) ∷ []) in
        let w : View X R = passing q (Served t all) in
        let k : ℕ = (get_or s.words 2 0 + 1) % 2 ^ 64 in
        let mine = r.fits id v at in
        let ticket : ticket_of v.phase ≡ Some r.serving = ap Some mine.0.0 in
        let sum = weigh-set held s.views id v w at in
        let drawn = r.drawn in
        let wide = r.wide in
        let there = inside s.views id v at in
        let longer : length all ≡ length r.current + 1 = length-append r.current one in
        let other : (j : ℕ) (u : View X R) → j ≢ id → get_elem? s.views j ≡ some u → ticket_of u.phase ≡ Some r.serving → ⊥ = λ j u ne e f. ne (r.single j id u v r.serving e at f ticket) in
        let own : weigh (is p.number) (numbers_in v) ≡ 1 = let h = is-here p.number p.number refl in omega arith in
        let sums = r.numbers (is p.number) in
        let less : p.number < n = upto-in p.number n (let h = weigh-one (λ (u : View X R). weigh (is p.number) (numbers_in u)) s.views id v at in omega arith) in
        let else : (j : ℕ) (u : View X R) → j ≢ id → get_elem? s.views j ≡ some u → weigh (is p.number) (numbers_in u) ≡ 0 = λ j u ne e. let two = weigh-two (λ (z : View X R). weigh (is p.number) (numbers_in z)) s.views j id u v ne e at in let most = upto-once p.number 0 n in omega arith in
        record {
          opened = r.opened;
          current = all;
          serving = r.serving;
          next = r.next;
          wide = length-set s.words 2 k ∙ wide;
          next_word = get_or-set_other s.words 2 0 k 0 (λ e. omega arith) ∙ r.next_word;
          serving_word = get_or-set_other s.words 2 1 k 0 (λ e. omega arith) ∙ r.serving_word;
          count_word = get_or-set_same s.words 2 k 0 (omega arith) ∙ mod-next (length r.current) (get_or s.words 2 0) r.count_word ∙ ap (λ (m : ℕ). m % 2 ^ 64) (sym longer);
          few = r.few;
          numbers = numbers-same n s.views id v w at refl r.numbers;
          drawn = omega arith;
          fits = fits-set (Fits (s.homes ≡ none ∷ []) r.serving r.next all r.opened) s.views id w
              ((mine.0.0, mine.0.1, refl, mine.0.3), tt, ((mine.2.0.0, starts-more r.current p.seen one mine.2.0.1, ap (λ (l : List (ℕ × X)). l ++ (length r.current, item) ∷ []) mine.2.0.2 ∙ sym (behind-own r.opened.start r.current p.number item r.begun)), tt))
              (λ j u ne e. let f = r.fits j u e in (fits-other (s.homes ≡ none ∷ []) r.serving r.next r.current all u.phase (other j u ne e) f.0, f.1, knows-else r.opened r.current p.number item u.passes r.begun (else j u ne e) f.2));
          single = single-set s.views id w r.single (λ j u m ne e tw tu. ne (r.single j id u v m e at tu tw));
          short = less-long;
          begun = starts-more r.current r.opened.start one r.begun;
          ours = below-more n p.number item r.opened.start r.current r.begun less r.ours;
          home = inr (id, w, set_here s.views id w there, ap (λ (m : ℕ). Served m all) mine.0.0, mine.0.3);
        }

    publishes : (slots id t : ℕ) (p : Known X R) (c : List (ℕ × X)) (item : X) (y : T) → list y ≡ c ++ (p.number, item) ∷ [] → length (list y) < 9223372036854775808 → Allows (Kept list root n) slots id (passing p (Served t c), (0, Some y) ∷ []) 2 (λ x. (x + 1) % 2 ^ 64) (published list (step slots 2 1 0 none) (passing p (Served t c), (0, Some y) ∷ []))
    publishes slots id t p c item y more short s kept _ at _ =
        let v : View X R = passing p (Served t c) in
        let r = settled list root n s id v kept at tt in
        let is : c ≡ r.current = (r.fits id v at).0.2 in
        let grown : list y ≡ r.current ++ (p.number, item) ∷ [] = more ∙ ap (λ (xs : List (ℕ × X)). xs ++ (p.number, item) ∷ []) is in
        let h = appended s r id t p item (subst (λ (xs : List (ℕ × X)). length xs < 9223372036854775808) grown short) (at ∙ ap (λ (xs : List (ℕ × X)). some (passing p (Served t xs))) is) in
        let w : View X R = put (list y) v in
        let same : w ≡ passing (known p.number p.opened p.seen (p.published ++ (length r.current, item) ∷ [])) (Served t (r.current ++ (p.number, item) ∷ [])) =
        ap (λ (l : List (ℕ × X)). passing (known p.number p.opened p.seen (p.published ++ l)) (Served t (list y))) (one-more c (list y) p.number item more)
        ∙ ap (λ (xs : List (ℕ × X)). passing (known p.number p.opened p.seen (p.published ++ (length c, item) ∷ [])) (Served t xs)) more
        ∙ ap (λ (xs : List (ℕ × X)). passing (known p.number p.opened p.seen (p.published ++ (length xs, item) ∷ [])) (Served t (xs ++ (p.number, item) ∷ []))) is in (
          w,
          keeps,
          tt,
          inr (subst (λ (u : View X R). Held list root n (stepped s 2 ((get_or s.words 2 0 + 1) % 2 ^ 64) id [] u keeps)) (sym same) h),
          (r.count_word ∙ ap (λ (xs : List (ℕ × X)). length xs % 2 ^ 64) (sym is), refl),
        )

    pub publishes-at : (slots id t : ℕ) (me : Me (Option T) (View X R)) (p : Known X R) (c : List (ℕ × X)) (item : X) (y : T) → list y ≡ c ++ (p.number, item) ∷ [] → length (list y) < 9223372036854775808 → me ≡ (passing p (Served t c), (0, Some y) ∷ [])
        → Allows (Kept list root n) slots id me 2 (λ x. (x + 1) % 2 ^ 64) (published list (step slots 2 1 0 none) me)
    publishes-at slots id t me p c item y more short e = subst (λ (m : Me (Option T) (View X R)). Allows (Kept list root n) slots id m 2 (λ x. (x + 1) % 2 ^ 64) (published list (step slots 2 1 0 none) m)) (sym e) (publishes slots id t p c item y more short)
