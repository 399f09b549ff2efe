-- Lists of passes.
use Rattle.std.proofs.Common.{◌≡◌, ℕ, zero, suc, ◌+◌, ◌-◌, ◌≤◌, List, [], ◌∷◌, ◌++◌, map, length, drop, sym, refl, ap, ◌∙◌, subst, append_assoc, append-nil, add-zero, arith, Option, Some}
use Rattle.std.specs.Prelude.{IsSomeAnd, All as Each}
use Rattle.std.proofs.lemmas.List.Elements.{All-nil, All-cons}
use Rattle.atomic_table.specs.Table.{Me}
use Rattle.atomic_table.specs.Seated.{TableId}
use Rattle.pool_lock.specs.declared.view.Known.{Known}
use Rattle.pool_lock.specs.declared.view.Opened.{Opened}
use Rattle.pool_lock.specs.declared.view.Phase.TheVariants.{Idle}
use Rattle.pool_lock.specs.declared.view.View.{View}
use Rattle.pool_lock.specs.declared.pass.NumberedSeat.{NumberedSeat}
use Rattle.pool_lock.specs.Entries.{StartsWith, AllBelow}
use Rattle.pool_lock.specs.Weights.{weigh, AreBelow}
use Rattle.pool_lock.specs.Views.{passing, view_of, fresh, fresh_from, number_of, opened_in, seen_in}
use Rattle.pool_lock.specs.Told.{KnowsEach, Knows, first_of, rest_of, both_of}
use Rattle.pool_lock.specs.Calls.{IsPassOf, numbers_of, ArePassesOf, IsOurs, IsFresh, AreFresh, StandsIn, AllStandIn}
use Rattle.pool_lock.specs.Gathered.{passes_in}
use Rattle.pool_lock.proofs.Closing.{All}

module _ {X R : Type 0} where
  -- two fresh passes at least
  pub fresh-two : (o : Option (Opened X R)) (k n : ℕ) → 2 ≤ n → fresh_from o k n ≡ fresh o k ∷ fresh o (k + 1) ∷ fresh_from o (k + 1 + 1) (n - 2)
  fresh-two o k zero h = absurd (omega arith)
  fresh-two o k (suc zero) h = absurd (omega arith)
  fresh-two o k (suc (suc n)) h = let e : n ≡ suc (suc n) - 2 = omega arith in ap (λ (m : ℕ). fresh o k ∷ fresh o (k + 1) ∷ fresh_from o (k + 1 + 1) m) e

  pub fresh-rest : (o : Option (Opened X R)) (k n : ℕ) → 1 ≤ n → fresh_from o k n ≡ fresh o k ∷ fresh_from o (k + 1) (n - 1)
  fresh-rest o k zero h = absurd (omega arith)
  fresh-rest o k (suc n) h = let e : n ≡ suc n - 1 = omega arith in ap (λ (m : ℕ). fresh o k ∷ fresh_from o (k + 1) m) e

  stands : (n : ℕ) (r : R) (all : List (ℕ × X)) (o : Opened X R) (q : Known X R) → r ≡ o.root → StartsWith all o.start → AllBelow n (drop (length o.start) all) → Knows o all q → IsSomeAnd (opened_in (passing q Idle)) (λ z. StandsIn n r all z (passing q Idle))
  stands n r all o q root begun ours k =
      subst (λ (m : Option (Opened X R)). IsSomeAnd m (λ z. StandsIn n r all z (passing q Idle))) (sym k.0) (record { root = root; begun = begun; seen = k.1; published = k.2; ours = ours })

module _ {X R T : Type 0} where
  pub passes-front : (id : TableId) (ps qs : List (NumberedSeat T X R)) → ArePassesOf id (ps ++ qs) → ArePassesOf id ps
  passes-front id [] qs h = tt
  passes-front id (p ∷ ps) qs h = (h.0, passes-front id ps qs h.1)

  pub passes-back : (id : TableId) (ps qs : List (NumberedSeat T X R)) → ArePassesOf id (ps ++ qs) → ArePassesOf id qs
  passes-back id [] qs h = h
  passes-back id (p ∷ ps) qs h = passes-back id ps qs h.1

  pub in-append : (ps qs : List (NumberedSeat T X R)) → passes_in (ps ++ qs) ≡ passes_in ps ++ passes_in qs
  in-append [] qs = refl
  in-append (p ∷ ps) qs = ap (λ (l : List (Known X R)). p.seat.me.0.passes ++ l) (in-append ps qs) ∙ sym (append_assoc p.seat.me.0.passes (passes_in ps) (passes_in qs))

  pub fresh-append : (id : TableId) (o : Option (Opened X R)) (k : ℕ) (ps qs : List (NumberedSeat T X R)) → AreFresh id o k ps → AreFresh id o (k + length ps) qs → AreFresh id o k (ps ++ qs)
  fresh-append id o k [] qs h f = subst (λ (j : ℕ). AreFresh id o j qs) (add-zero k) f
  fresh-append id o k (p ∷ ps) qs h f =
      let e : k + suc (length ps) ≡ (k + 1) + length ps = omega arith in
      (h.0, fresh-append id o (k + 1) ps qs h.1 (subst (λ (j : ℕ). AreFresh id o j qs) e f))

  one-in : (id : TableId) (p : NumberedSeat T X R) (h : IsPassOf id p.number p.seat) → p.seat.me.0.passes ≡ h.1 ∷ []
  one-in id p h = ap (λ (m : Me (Option T) (View X R)). m.0.passes) h.3

  pub count-in : (id : TableId) (ps : List (NumberedSeat T X R)) → ArePassesOf id ps → length (passes_in ps) ≡ length ps
  count-in id [] h = refl
  count-in id (p ∷ ps) h = ap (λ (l : List (Known X R)). length (l ++ passes_in ps)) (one-in id p h.0) ∙ ap suc (count-in id ps h.1)

  pub numbers-in : (id : TableId) (ps : List (NumberedSeat T X R)) → ArePassesOf id ps → map number_of (passes_in ps) ≡ numbers_of ps
  numbers-in id [] h = refl
  numbers-in id (p ∷ ps) h =
      ap (λ (l : List (Known X R)). map number_of (l ++ passes_in ps)) (one-in id p h.0)
      ∙ ap (λ (k : ℕ). k ∷ map number_of (passes_in ps)) h.0.2
      ∙ ap (λ (l : List ℕ). p.number ∷ l) (numbers-in id ps h.1)

  pub all-stand : (id : TableId) (n : ℕ) (r : R) (all : List (ℕ × X)) (o : Opened X R) (ps : List (NumberedSeat T X R)) → r ≡ o.root → StartsWith all o.start → AllBelow n (drop (length o.start) all) → ArePassesOf id ps → KnowsEach o all (passes_in ps) → AllStandIn n r all ps
  all-stand id n r all o [] root begun ours h k = tt
  all-stand id n r all o (p ∷ ps) root begun ours h k =
      let e = subst (λ (l : List (Known X R)). KnowsEach o all (l ++ passes_in ps)) (one-in id p h.0) k in (
        subst (λ (m : Me (Option T) (View X R)). IsSomeAnd (opened_in m.0) (λ z. StandsIn n r all z m.0)) (sym h.0.3) (stands n r all o h.0.1 root begun ours e.0),
        all-stand id n r all o ps root begun ours h.1 e.1,
      )

  -- what the last seat knows, of all passes
  pub record Ends (list : T → List (ℕ × X)) (root : T → R) (x : T) (ps : List (NumberedSeat T X R)) : Type 0 where
    pub numbers : AreBelow (length ps) (numbers_of ps)
    pub stand : AllStandIn (length ps) (root x) (list x) ps

  pub ends : (list : T → List (ℕ × X)) (root : T → R) (id : TableId) (n : ℕ) (x : T) (o : Opened X R) (ks : List (Known X R)) (ps : List (NumberedSeat T X R)) → All list root n x o ks → ks ≡ passes_in ps → length ps ≡ n → ArePassesOf id ps → Ends list root x ps
  ends list root id n x o ks ps a e whole h =
      let numbers : AreBelow n (numbers_of ps) = λ f. ap (weigh f) (sym (numbers-in id ps h)) ∙ ap (λ (l : List (Known X R)). weigh f (map number_of l)) (sym e) ∙ a.numbers f in
      let stand = all-stand id n (root x) (list x) o ps a.root_same a.begun a.ours h (subst (KnowsEach o (list x)) e a.each) in
      record {
        numbers = subst (λ (m : ℕ). AreBelow m (numbers_of ps)) (sym whole) numbers;
        stand = subst (λ (m : ℕ). AllStandIn m (root x) (list x) ps) (sym whole) stand;
      }

module _ {X R T : Type 0} where
  -- one more fresh pass
  pub spread-one : (id : TableId) (o : Option (Opened X R)) (ps qs : List (NumberedSeat T X R)) (p : NumberedSeat T X R) (k : ℕ) → AreFresh id o 0 ps → qs ≡ ps ++ p ∷ [] → length ps ≡ k → p.number ≡ k → p.seat.table_id ≡ id → p.seat.me ≡ (passing (fresh o k) Idle, []) → AreFresh id o 0 qs
  spread-one id o ps qs p k h e count number own me =
      let place : k ≡ 0 + length ps = omega arith in
      subst (AreFresh id o 0) (sym e) (fresh-append id o 0 ps (p ∷ []) h (subst (λ (j : ℕ). AreFresh id o j (p ∷ [])) place ((number, own, me), tt)))

  -- fresh passes, as one statement on each
  pub all-fresh : (id : TableId) (o : Opened X R) (k : ℕ) (ps : List (NumberedSeat T X R)) → AreFresh id (Some o) k ps → Each (IsFresh id) ps
  all-fresh id o k [] h = All-nil (IsFresh id)
  all-fresh id o k (p ∷ ps) h = All-cons (IsFresh id) p ps (h.0.1, o, h.0.2 ∙ ap (λ (j : ℕ). (passing (fresh (Some o) j) Idle, [])) (sym h.0.0)) (all-fresh id o (k + 1) ps h.1)

  -- passes of a lock, by one statement on each
  pub all-ours : (id : TableId) (ps : List (NumberedSeat T X R)) → Each (IsOurs id) ps → ArePassesOf id ps
  all-ours id [] h = tt
  all-ours id (p ∷ ps) h = (h 0 p (omega arith), all-ours id ps (λ k d below. h (suc k) d (omega arith)))

  -- a fresh pass has seen nothing
  pub seen-none : (o : Option (Opened X R)) (k : ℕ) (m : Me (Option T) (View X R)) → m ≡ (passing (fresh o k) Idle, []) → 0 ≡ length (seen_in m.0)
  seen-none o k m e = sym (ap (λ (q : Me (Option T) (View X R)). length (seen_in q.0)) e)

  -- a seat gives the first of its fresh passes away
  pub split-first : (o : Option (Opened X R)) (k n : ℕ) (m m' : Me (Option T) (View X R)) → 1 ≤ n → m ≡ (view_of (fresh_from o k n) Idle, []) → m' ≡ (first_of m.0, []) → m' ≡ (passing (fresh o k) Idle, [])
  split-first o k n m m' some e f = f ∙ ap (λ (q : Me (Option T) (View X R)). (first_of q.0, [])) (e ∙ ap (λ (ps : List (Known X R)). (view_of ps Idle, [])) (fresh-rest o k n some))

  pub split-rest : (o : Option (Opened X R)) (k n k' n' : ℕ) (m m' : Me (Option T) (View X R)) → 1 ≤ n → k + 1 ≡ k' → n - 1 ≡ n' → m ≡ (view_of (fresh_from o k n) Idle, []) → m' ≡ (rest_of m.0, []) → m' ≡ (view_of (fresh_from o k' n') Idle, [])
  split-rest o k n k' n' m m' some next less e f =
      f ∙ ap (λ (q : Me (Option T) (View X R)). (rest_of q.0, [])) (e ∙ ap (λ (ps : List (Known X R)). (view_of ps Idle, [])) (fresh-rest o k n some))
      ∙ ap (λ (j : ℕ). (view_of (fresh_from o j (n - 1)) Idle, [])) next
      ∙ ap (λ (j : ℕ). (view_of (fresh_from o k' j) Idle, [])) less

  -- a seat that has one fresh pass left
  pub last-fresh : (o : Option (Opened X R)) (k n j : ℕ) (m : Me (Option T) (View X R)) → n ≡ 1 → k ≡ j → m ≡ (view_of (fresh_from o k n) Idle, []) → m ≡ (passing (fresh o j) Idle, [])
  last-fresh o k n j m one same e = e ∙ ap (λ (i : ℕ). (view_of (fresh_from o k i) Idle, [])) one ∙ ap (λ (i : ℕ). (view_of (fresh o i ∷ []) Idle, [])) same

  -- a seat takes in another
  pub joined-is : (m n m' : Me (Option T) (View X R)) (p q : Known X R) (ps : List (Known X R)) → m ≡ (view_of (p ∷ ps) Idle, []) → n ≡ (passing q Idle, []) → m' ≡ (both_of m.0 n.0, []) → m' ≡ (view_of (q ∷ p ∷ ps) Idle, [])
  joined-is m n m' p q ps e d f = f ∙ ap (λ (k : Me (Option T) (View X R)). (both_of k.0 n.0, [])) e ∙ ap (λ (k : Me (Option T) (View X R)). (both_of (view_of (p ∷ ps) Idle) k.0, [])) d

  pub all-kept : (new old : List (NumberedSeat T X R)) (other : NumberedSeat T X R) (m m' : Me (Option T) (View X R)) → old ≡ new ++ other ∷ [] → m' ≡ (both_of m.0 other.seat.me.0, []) → passes_in new ++ m'.0.passes ≡ passes_in old ++ m.0.passes
  all-kept new old other m m' e f =
      let its : List (Known X R) = other.seat.me.0.passes in
      ap (λ (k : Me (Option T) (View X R)). passes_in new ++ k.0.passes) f
      ∙ sym (append_assoc (passes_in new) its m.0.passes)
      ∙ ap (λ (l : List (Known X R)). (passes_in new ++ l) ++ m.0.passes) (sym (append-nil its))
      ∙ ap (λ (l : List (Known X R)). l ++ m.0.passes) (sym (in-append new (other ∷ [])))
      ∙ ap (λ (l : List (NumberedSeat T X R)). passes_in l ++ m.0.passes) (sym e)

  -- the last seat stands for all passes
  pub known-all : (ps others : List (NumberedSeat T X R)) (last : NumberedSeat T X R) (m : Me (Option T) (View X R)) (p : Known X R) (ks : List (Known X R)) → ps ≡ others ++ last ∷ [] → m ≡ (view_of (p ∷ ks) Idle, []) → m.0.passes ≡ passes_in others ++ last.seat.me.0.passes → p ∷ ks ≡ passes_in ps
  known-all ps others last m p ks e d all =
      sym (ap (λ (k : Me (Option T) (View X R)). k.0.passes) d) ∙ all
      ∙ ap (λ (l : List (Known X R)). passes_in others ++ l) (sym (append-nil last.seat.me.0.passes))
      ∙ sym (in-append others (last ∷ []))
      ∙ ap passes_in (sym e)

pub ruleset takes = (passes-front, passes-back, in-append)
