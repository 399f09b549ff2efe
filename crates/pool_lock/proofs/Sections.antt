-- What the steps of a section tell, of a seat that stands for one pass.
use Rattle.std.proofs.Common.{◌≡◌, ℕ, ◌+◌, ◌%◌, ◌^◌, ◌<◌, List, [], ◌∷◌, ◌++◌, length, sym, refl, ap, ◌∙◌, subst, arith, Option, Some, None}
use Rattle.std.proofs.lemmas.List.{length-append}
use Rattle.std.specs.Prelude.{IfSome, IsSomeAnd}
use mathlib.Core.Option.{none}
use Rattle.atomic_table.specs.Table.{Me, step}
use Rattle.pool_lock.specs.declared.view.Known.{Known}
use Rattle.pool_lock.specs.declared.view.Opened.{Opened}
use Rattle.pool_lock.specs.declared.view.Phase.TheVariants.{Idle, Waiting, Served}
use Rattle.pool_lock.specs.declared.view.View.{View}
use Rattle.pool_lock.specs.Entries.{StartsWith, AllStand, CopiesPrefix, items_behind}
use Rattle.pool_lock.specs.Views.{passing, in_phase, known, with_seen}
use Rattle.pool_lock.specs.Told.{Knows, Meets, saw, waited, published}
use Rattle.pool_lock.specs.Sections.{IsTurn, IsServed, MayReturn, MayAppend}
use Rattle.pool_lock.specs.Calls.{Looked, Published, HasCopies, MayPublish}
use Rattle.pool_lock.proofs.Entries.{behind-stand}
use Rattle.pool_lock.proofs.Events.{one-more}

place-of : (at n : ℕ) → at ≡ n % 18446744073709551616 → n < 9223372036854775808 → at ≡ n
place-of at n e less = omega arith

-- the value in hand
abbrev hand : {T : Type 0} → List (ℕ × Option T) → Option T
hand [] = None
hand (e ∷ es) = e.1

some-same : {T : Type 0} (x y : T) → Some x ≡ Some y → x ≡ y
some-same x y e = cc

module _ {X R : Type 0} where
  -- what a look tells, of a list that the pass knows
  pub looks-whole : (o : Opened X R) (all : List (ℕ × X)) (p : Known X R) → StartsWith all o.start → Knows o all p → Looked (passing p Idle) (passing (with_seen all p) Idle)
  looks-whole o all p begun knows =
      record {
        number = refl;
        opened = refl;
        published = refl;
        seen = knows.1;
        begun = subst (λ (q : Option (Opened X R)). IsSomeAnd q (λ z. StartsWith all z.start)) (sym knows.0) begun;
        behind = subst (λ (q : Option (Opened X R)). IsSomeAnd q (λ z. p.published ≡ items_behind z.start all p.number)) (sym knows.0) knows.2;
        stand = subst (AllStand p.number all) (sym knows.2) (behind-stand o.start all p.number begun);
      }

module _ {X R T : Type 0} where
  -- a load that finds the ticket
  pub turn-is : (list : T → List (ℕ × X)) (root : T → R) (m l n : Me (Option T) (View X R)) (ticket found t : ℕ) (p : Known X R) → ticket ≡ t % 2 ^ 64 → m ≡ (passing p (Waiting t), []) → l ≡ m → waited list root (step 1 1 0 0 none) l found n → found ≡ ticket → IsTurn list root m n
  turn-is list root m l n ticket found t p is e same told hit =
      let k = subst (λ (q : Me (Option T) (View X R)). waited list root (step 1 1 0 0 none) q found n) (same ∙ e) told in
      let h = (k t refl).0 (hit ∙ is) in
      (t, h.0, subst (λ (q : Me (Option T) (View X R)). Meets (root h.0) (list h.0) q.0) (sym e) h.1, h.2 ∙ ap (λ (q : Me (Option T) (View X R)). (in_phase (Served t (list h.0)) q.0, (0, Some h.0) ∷ [])) (sym e))

  -- the value is out of the slot
  pub served-is : (list : T → List (ℕ × X)) (root : T → R) (m m1 m2 m3 : Me (Option T) (View X R)) (t : ℕ) (y : T) → m1 ≡ (in_phase (Waiting t) m.0, []) → IsTurn list root m1 m2 → m2.1 ≡ (0, Some y) ∷ [] → m3 ≡ (m2.0, (0, None) ∷ []) → IsServed (root y) (list y) m m3
  served-is list root m m1 m2 m3 t y e turn value f =
      let same : turn.1 ≡ y = some-same turn.1 y (ap hand (sym (ap (λ (q : Me (Option T) (View X R)). q.1) turn.3) ∙ value)) in
      let meets = subst (λ (x : T). Meets (root x) (list x) m1.0) same turn.2 in
      let at = subst (λ (x : T). m2 ≡ (in_phase (Served turn.0 (list x)) m1.0, (0, Some x) ∷ [])) same turn.3 in (
        turn.0,
        subst (λ (q : Me (Option T) (View X R)). Meets (root y) (list y) q.0) e meets,
        f ∙ ap (λ (q : Me (Option T) (View X R)). (q.0, (0, None) ∷ [])) at ∙ ap (λ (q : Me (Option T) (View X R)). (in_phase (Served turn.0 (list y)) q.0, (0, None) ∷ [])) e,
      )

  -- the value is back in the slot, which is out with the seat
  pub back-in : (m m' : Me (Option T) (View X R)) (p : Known X R) (t : ℕ) (c : List (ℕ × X)) (y : T) → m ≡ (passing p (Served t c), (0, None) ∷ []) → m' ≡ (m.0, (0, Some y) ∷ []) → m' ≡ (passing p (Served t c), (0, Some y) ∷ [])
  back-in m m' p t c y e f = f ∙ ap (λ (n : Me (Option T) (View X R)). (n.0, (0, Some y) ∷ [])) e

  -- what a pass knows where its seat is served
  pub record Entered (r : R) (all : List (ℕ × X)) (p : Known X R) (m' : Me (Option T) (View X R)) : Type 0 where
    pub opened : Opened X R
    pub root : r ≡ opened.root
    pub begun : StartsWith all opened.start
    pub knows : Knows opened all p
    pub ticket : ℕ
    pub served : m' ≡ (passing p (Served ticket all), (0, None) ∷ [])

  pub entered : (m m' : Me (Option T) (View X R)) (p : Known X R) (r : R) (all : List (ℕ × X)) → m ≡ (passing p Idle, []) → IsServed r all m m' → Entered r all p m'
  entered m m' p r all e s =
      let k : Meets r all (passing p Idle) = subst (λ (n : Me (Option T) (View X R)). Meets r all n.0) e s.1 in
      record {
        opened = k.0;
        root = k.1;
        begun = k.2;
        knows = k.3.0;
        ticket = s.0;
        served = s.2 ∙ ap (λ (n : Me (Option T) (View X R)). (in_phase (Served s.0 all) n.0, (0, None) ∷ [])) e;
      }

  pub may-return : (r : R) (all : List (ℕ × X)) (p : Known X R) (m' : Me (Option T) (View X R)) → Entered r all p m' → MayReturn r all m'
  may-return r all p m' e = (e.ticket, p, e.opened, e.knows.0, e.root, e.served)

  pub may-return-same : (r r' : R) (all all' : List (ℕ × X)) (p : Known X R) (m' : Me (Option T) (View X R)) → Entered r all p m' → r' ≡ r → all' ≡ all → MayReturn r' all' m'
  may-return-same r r' all all' p m' e same is = (e.ticket, p, e.opened, e.knows.0, same ∙ e.root, e.served ∙ ap (λ (xs : List (ℕ × X)). (passing p (Served e.ticket xs), (0, None) ∷ [])) (sym is))

  -- ---- looks

  pub copies-prefix : {C : Type 0} (copied : R → List (ℕ × X) → C → Type 0) (have : C) (m m' : Me (Option T) (View X R)) (p : Known X R) (r : R) (all : List (ℕ × X)) → m ≡ (passing p Idle, []) → Entered r all p m' → HasCopies copied m.0 have → CopiesPrefix (copied r) all have
  copies-prefix copied have m m' p r all is e h =
      let k : HasCopies copied (passing p Idle) have = subst (λ (n : Me (Option T) (View X R)). HasCopies copied n.0 have) is h in
      let here : copied e.opened.root p.seen have = subst (λ (o : Option (Opened X R)). IfSome o (λ q. copied q.root p.seen have)) e.knows.0 k in
      (p.seen, e.knows.1, subst (λ (q : R). copied q p.seen have) (sym e.root) here)

  -- the seat after a look
  pub looked-at : (m' n : Me (Option T) (View X R)) (p : Known X R) (r : R) (all : List (ℕ × X)) → Entered r all p m' → n ≡ (in_phase Idle (saw all m'.0), []) → n ≡ (passing (with_seen all p) Idle, [])
  looked-at m' n p r all e h = h ∙ ap (λ (k : Me (Option T) (View X R)). (in_phase Idle (saw all k.0), [])) e.served

  pub looked-is : (m m' n : Me (Option T) (View X R)) (p : Known X R) (r : R) (all : List (ℕ × X)) → m ≡ (passing p Idle, []) → Entered r all p m' → n ≡ (passing (with_seen all p) Idle, []) → Looked m.0 n.0
  looked-is m m' n p r all is e at =
      let told : Looked (passing p Idle) (passing (with_seen all p) Idle) = looks-whole e.opened all p e.begun e.knows in
      subst (λ (k : Me (Option T) (View X R)). Looked k.0 n.0) (sym is) (subst (λ (k : Me (Option T) (View X R)). Looked (passing p Idle) k.0) (sym at) told)

  pub whole-copies : {C : Type 0} (copied : R → List (ℕ × X) → C → Type 0) (have : C) (m' n : Me (Option T) (View X R)) (p : Known X R) (r : R) (all : List (ℕ × X)) → Entered r all p m' → n ≡ (passing (with_seen all p) Idle, []) → copied r all have → HasCopies copied n.0 have
  whole-copies copied have m' n p r all e at h =
      subst (λ (k : Me (Option T) (View X R)). HasCopies copied k.0 have) (sym at)
      (subst (λ (o : Option (Opened X R)). IfSome o (λ q. copied q.root all have)) (sym e.knows.0) (subst (λ (q : R). copied q all have) e.root h))

  -- the seat after a section without an event
  pub left-at : (m m' n : Me (Option T) (View X R)) (p : Known X R) (r : R) (all : List (ℕ × X)) → m ≡ (passing p Idle, []) → Entered r all p m' → n ≡ (in_phase Idle m'.0, []) → n ≡ m
  left-at m m' n p r all is e h = h ∙ ap (λ (k : Me (Option T) (View X R)). (in_phase Idle k.0, [])) e.served ∙ sym is

  -- ---- publications

  pub fits-longer : (fits : R → List (ℕ × X) → X → Type 0) (item : X) (m m' : Me (Option T) (View X R)) (p : Known X R) (r : R) (all : List (ℕ × X)) → ((q : R) (front more : List (ℕ × X)) (i : X) → fits q front i → fits q (front ++ more) i) → m ≡ (passing p Idle, []) → Entered r all p m' → MayPublish fits m.0 item → fits r all item
  fits-longer fits item m m' p r all lasting is e h =
      let k : MayPublish fits (passing p Idle) item = subst (λ (n : Me (Option T) (View X R)). MayPublish fits n.0 item) is h in
      let here : fits e.opened.root p.seen item = subst (λ (o : Option (Opened X R)). IfSome o (λ q. fits q.root p.seen item)) e.knows.0 k in
      subst (λ (q : R). fits q all item) (sym e.root) (subst (λ (xs : List (ℕ × X)). fits e.opened.root xs item) (sym e.knows.1.1) (lasting e.opened.root p.seen e.knows.1.0 item here))

  pub may-append : (r r' : R) (all all' : List (ℕ × X)) (item : X) (k : ℕ) (p : Known X R) (m' : Me (Option T) (View X R)) → Entered r all p m' → p.number ≡ k → r' ≡ r → all' ≡ all ++ (k, item) ∷ [] → MayAppend r' all' m'
  may-append r r' all all' item k p m' e is same more = (e.ticket, p, e.opened, all, item, e.knows.0, same ∙ e.root, more ∙ ap (λ (j : ℕ). all ++ (j, item) ∷ []) (sym is), e.served)

  -- what the event and the end of its section tell
  pub published-is : (list : T → List (ℕ × X)) (m m1 m2 m3 : Me (Option T) (View X R)) (p : Known X R) (t : ℕ) (c : List (ℕ × X)) (item : X) (y : T) (at : ℕ) → m ≡ (passing p (Served t c), (0, None) ∷ []) → list y ≡ c ++ (p.number, item) ∷ [] → length (list y) < 9223372036854775808
      → m1 ≡ (m.0, (0, Some y) ∷ []) → published list (step 1 2 1 0 none) m1 at m2 → m3 ≡ (in_phase Idle m2.0, []) → (at ≡ length c) × (m3 ≡ (passing (known p.number p.opened p.seen (p.published ++ (length c, item) ∷ [])) Idle, []))
  published-is list m m1 m2 m3 p t c item y at e more short f told g =
      let k = subst (λ (n : Me (Option T) (View X R)). published list (step 1 2 1 0 none) n at m2) (back-in m m1 p t c y e f) told in
      let l : length (list y) ≡ length c + 1 = ap length more ∙ length-append c ((p.number, item) ∷ []) in (
        place-of at (length c) k.0 (omega arith),
        g ∙ ap (λ (n : Me (Option T) (View X R)). (in_phase Idle n.0, [])) k.1
            ∙ ap (λ (xs : List (ℕ × X)). (passing (known p.number p.opened p.seen (p.published ++ xs)) Idle, [])) (one-more c (list y) p.number item more),
      )

  pub told-published : (m n : Me (Option T) (View X R)) (p : Known X R) (at c : ℕ) (item : X) → m ≡ (passing p Idle, []) → at ≡ c → n ≡ (passing (known p.number p.opened p.seen (p.published ++ (c, item) ∷ [])) Idle, []) → Published m.0 at item n.0
  told-published m n p at c item is e f =
      let told : Published (passing p Idle) c item (passing (known p.number p.opened p.seen (p.published ++ (c, item) ∷ [])) Idle) = record { number = refl; opened = refl; seen = refl; published = refl } in
      subst (λ (k : Me (Option T) (View X R)). Published k.0 at item n.0) (sym is) (subst (λ (k : Me (Option T) (View X R)). Published (passing p Idle) at item k.0) (sym f) (subst (λ (j : ℕ). Published (passing p Idle) j item (passing (known p.number p.opened p.seen (p.published ++ (c, item) ∷ [])) Idle)) (sym e) told))
