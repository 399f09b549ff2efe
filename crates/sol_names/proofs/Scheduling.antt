-- The search for the units that a unit needs, step by step.
use Rattle.std.proofs.Common.{◌≡◌, ◌∙◌, sym, ap, refl, subst, ℕ, zero, suc, ◌+◌, ◌<◌, ◌≤◌, List, [], ◌∷◌, ◌++◌, ◌==◌, true, false, length, Option, Some, None, slice_get, slice_set, length-set, arith, append_assoc, append-nil, ◌⊎◌, inl, inr}
use Rattle.std.proofs.lemmas.Option.{slice_get_within}
use Rattle.std.proofs.lemmas.List.{map-append}
use Rattle.std.proofs.lemmas.List.Folds.{list_any-append}
use Rattle.sol_names.specs.declared.schedule.Visit.{Visit}
use Rattle.sol_names.specs.declared.schedule.Visit.TheVariants as visit
use Rattle.sol_names.specs.declared.schedule.Frame.{Frame}
use Rattle.sol_names.specs.Linearization.{Linearizes}
use Rattle.sol_names.specs.Schedule.{has, IsNeeded, HasBases, AreBehind, IsSchedule}
use Rattle.sol_names.specs.Search.{frames, units, Goes, Turns, AllIn, IsFramed, AllFramed, IsDeeper, AllDeeper, Deepens, Searching, work, stack_work}
use Rattle.sol_names.specs.Tails.{Below, AllBelow}
use Rattle.sol_names.proofs.Ordering.{linear-unique, get-below}
use Rattle.sol_names.proofs.Once.{either, or-left, or-right, own, same, base-linear}

-- ---- numbers that stand in lists

pub has-more : (b : ℕ) (xs ys : List ℕ) → has b xs ≡ true → has b (xs ++ ys) ≡ true
has-more b xs ys h = list_any-append (λ y. y == b) xs ys ∙ or-left (has b xs) (has b ys) h

pub has-later : (b : ℕ) (xs ys : List ℕ) → has b ys ≡ true → has b (xs ++ ys) ≡ true
has-later b xs ys h = list_any-append (λ y. y == b) xs ys ∙ or-right (has b xs) (has b ys) h

pub has-first : (b : ℕ) (xs : List ℕ) → has b (b ∷ xs) ≡ true
has-first b xs = or-left (b == b) (has b xs) (own b)

pub has-last : (b : ℕ) (xs : List ℕ) → has b (xs ++ b ∷ []) ≡ true
has-last b xs = has-later b xs (b ∷ []) (has-first b [])

pub has-snoc : (b w : ℕ) (xs : List ℕ) → has b (xs ++ w ∷ []) ≡ true → (has b xs ≡ true) ⊎ (w ≡ b)
has-snoc b w xs h =
    elim (either (has b xs) (has b (w ∷ [])) (sym (list_any-append (λ y. y == b) xs (w ∷ [])) ∙ h)) [
      | inl e ↦ inl e
      | inr e ↦ elim (either (w == b) false e) [ inl f ↦ inr (same w b f) | inr f ↦ absurd (cc) ]
    ]

all-has : (ds bs : List ℕ) (b : ℕ) → AllIn ds bs → has b bs ≡ true → has b ds ≡ true
all-has ds [] b a h = absurd (cc)
all-has ds (x ∷ xs) b a h =
    elim (either (x == b) (has b xs) h) [
      | inl e ↦ subst (λ (y : ℕ). has y ds ≡ true) (same x b e) a.0
      | inr e ↦ all-has ds xs b a.1 e
    ]

all-more : (ds es bs : List ℕ) → AllIn ds bs → AllIn (ds ++ es) bs
all-more ds es [] a = tt
all-more ds es (x ∷ xs) a = (has-more x ds es a.0, all-more ds es xs a.1)

all-snoc : (ds bs : List ℕ) (b : ℕ) → AllIn ds bs → has b ds ≡ true → AllIn ds (bs ++ b ∷ [])
all-snoc ds [] b a h = (h, tt)
all-snoc ds (x ∷ xs) b a h = (a.0, all-snoc ds xs b a.1 h)

-- ---- what a write changes

set-at : {A : Type 0} (xs : List A) (i j : ℕ) (x y : A) → slice_get (slice_set xs i x) j ≡ Some y → ((j ≡ i) × (x ≡ y)) ⊎ ((j ≡ i → ⊥) × (slice_get xs j ≡ Some y))
set-at {A} [] i j x y e = absurd (cc)
set-at {A} (z ∷ xs) zero zero x y e = let f : x ≡ y = cc in inl (refl, f)
set-at {A} (z ∷ xs) zero (suc j) x y e = inr (λ f. absurd (omega arith), e)
set-at {A} (z ∷ xs) (suc i) zero x y e = inr (λ f. absurd (omega arith), e)
set-at {A} (z ∷ xs) (suc i) (suc j) x y e =
    elim (set-at xs i j x y e) [
      | inl p ↦ inl (ap suc p.0, p.1)
      | inr p ↦ inr (λ f. let k : j ≡ i = omega arith in p.0 k, p.1)
    ]

-- ---- the stack

units-snoc : (fs : List (ℕ × List ℕ)) (w : ℕ) (l : List ℕ) → units (fs ++ (w, l) ∷ []) ≡ units fs ++ w ∷ []
units-snoc fs w l = map-append (λ (f : ℕ × List ℕ). f.0) fs ((w, l) ∷ [])

framed-first : (g : List (List ℕ)) (u : ℕ) (ds : List ℕ) (fs : List (ℕ × List ℕ)) (f : ℕ × List ℕ) → AllFramed g u ds (fs ++ f ∷ []) → AllFramed g u ds fs
framed-first g u ds [] f a = tt
framed-first g u ds (x ∷ fs) f a = (a.0, framed-first g u ds fs f a.1)

framed-last : (g : List (List ℕ)) (u : ℕ) (ds : List ℕ) (fs : List (ℕ × List ℕ)) (f : ℕ × List ℕ) → AllFramed g u ds (fs ++ f ∷ []) → IsFramed g u ds f
framed-last g u ds [] f a = a.0
framed-last g u ds (x ∷ fs) f a = framed-last g u ds fs f a.1

framed-snoc : (g : List (List ℕ)) (u : ℕ) (ds : List ℕ) (fs : List (ℕ × List ℕ)) (f : ℕ × List ℕ) → AllFramed g u ds fs → IsFramed g u ds f → AllFramed g u ds (fs ++ f ∷ [])
framed-snoc g u ds [] f a h = (h, tt)
framed-snoc g u ds (x ∷ fs) f a h = (a.0, framed-snoc g u ds fs f a.1 h)

framed-more : (g : List (List ℕ)) (u : ℕ) (ds es : List ℕ) (fs : List (ℕ × List ℕ)) → AllFramed g u ds fs → AllFramed g u (ds ++ es) fs
framed-more g u ds es [] a = tt
framed-more g u ds es (f ∷ fs) ((passed, e, h, n), a) = ((passed, e, all-more ds es passed h, n), framed-more g u ds es fs a)

framed-needed : (g : List (List ℕ)) (u w : ℕ) (ds : List ℕ) (fs : List (ℕ × List ℕ)) → AllFramed g u ds fs → has w (units fs) ≡ true → IsNeeded g u w
framed-needed g u w ds [] a h = absurd (cc)
framed-needed g u w ds (f ∷ fs) ((passed, e, k, n), a) h =
    elim (either (f.0 == w) (has w (units fs)) h) [
      | inl s ↦ subst (IsNeeded g u) (same f.0 w s) n
      | inr r ↦ framed-needed g u w ds fs a r
    ]

-- ---- deeper and deeper

deeper-step : (g : List (List ℕ)) (a b c : ℕ) → IsDeeper g a b → IsDeeper g b c → IsDeeper g a c
deeper-step g a b c h k o l = let (p, m, s) = h o l in let (q, n, t) = k p m in (q, n, omega arith)

deeper-never : (g : List (List ℕ)) (a : ℕ) → IsDeeper g a a → (o : List ℕ) → Linearizes g a o → ⊥
deeper-never g a h o l = let (p, m, s) = h o l in let e : length o ≡ length p = ap length (linear-unique l m) in absurd (omega arith)

deeper-snoc : (g : List (List ℕ)) (v : ℕ) (ws : List ℕ) (w : ℕ) → AllDeeper g v ws → IsDeeper g v w → AllDeeper g v (ws ++ w ∷ [])
deeper-snoc g v [] w a h = (h, tt)
deeper-snoc g v (x ∷ ws) w a h = (a.0, deeper-snoc g v ws w a.1 h)

deeper-first : (g : List (List ℕ)) (v : ℕ) (ws : List ℕ) (w : ℕ) → AllDeeper g v (ws ++ w ∷ []) → AllDeeper g v ws
deeper-first g v [] w a = tt
deeper-first g v (x ∷ ws) w a = (a.0, deeper-first g v ws w a.1)

deeper-last : (g : List (List ℕ)) (v : ℕ) (ws : List ℕ) (w : ℕ) → AllDeeper g v (ws ++ w ∷ []) → IsDeeper g v w
deeper-last g v [] w a = a.0
deeper-last g v (x ∷ ws) w a = deeper-last g v ws w a.1

deepens-first : (g : List (List ℕ)) (vs : List ℕ) (w : ℕ) → Deepens g (vs ++ w ∷ []) → Deepens g vs
deepens-first g [] w d = tt
deepens-first g (v ∷ vs) w d = (deeper-first g v vs w d.0, deepens-first g vs w d.1)

deepens-last : (g : List (List ℕ)) (vs : List ℕ) (w v : ℕ) → Deepens g (vs ++ w ∷ []) → has v vs ≡ true → IsDeeper g v w
deepens-last g [] w v d h = absurd (cc)
deepens-last g (x ∷ vs) w v d h =
    elim (either (x == v) (has v vs) h) [
      | inl s ↦ subst (λ (y : ℕ). IsDeeper g y w) (same x v s) (deeper-last g x vs w d.0)
      | inr r ↦ deepens-last g vs w v d.1 r
    ]

-- a unit below the last of the list
deepens-down : (g : List (List ℕ)) (vs : List ℕ) (w x : ℕ) → Deepens g (vs ++ w ∷ []) → IsDeeper g w x → Deepens g ((vs ++ w ∷ []) ++ x ∷ [])
deepens-down g [] w x d h = ((h, tt), (tt, tt))
deepens-down g (v ∷ vs) w x d h = (
  deeper-snoc g v (vs ++ w ∷ []) x d.0 (deeper-step g v w x (deeper-last g v vs w d.0) h),
  deepens-down g vs w x d.1 h,
)

-- ---- units that are done

behind-more : (g : List (List ℕ)) (before ws : List ℕ) (w : ℕ) → AreBehind g before ws → HasBases g (before ++ ws) w → AreBehind g before (ws ++ w ∷ [])
behind-more g before [] w a h = (subst (λ (xs : List ℕ). HasBases g xs w) (append-nil before) h, tt)
behind-more g before (v ∷ ws) w a h = (a.0, behind-more g (before ++ v ∷ []) ws w a.1 (subst (λ (xs : List ℕ). HasBases g xs w) (sym (append_assoc before (v ∷ []) ws)) h))

passed-bases : (g : List (List ℕ)) (u w : ℕ) (ds : List ℕ) → IsFramed g u ds (w, []) → HasBases g ds w
passed-bases g u w ds (passed, e, a, n) bs b f h =
    let i : passed ++ [] ≡ bs = cc in
    let s : bs ≡ passed = sym i ∙ append-nil passed in
    all-has ds passed b a (subst (λ (cs : List ℕ). has b cs ≡ true) s h)

-- the base that is next
next-base : (g : List (List ℕ)) (u w x : ℕ) (xs ds : List ℕ) → IsFramed g u ds (w, x ∷ xs) → IsDeeper g w x
next-base g u w x xs ds (passed, e, a, n) o l = base-linear g w x (passed ++ x ∷ xs) o e (has-later x passed (x ∷ xs) (has-first x xs)) l

next-needed : (g : List (List ℕ)) (u w x : ℕ) (xs ds : List ℕ) → IsFramed g u ds (w, x ∷ xs) → IsNeeded g u x
next-needed g u w x xs ds f o l =
    let (passed, e, a, n) = f in
    let (p, m) = n o l in
    let (q, k, s) = next-base g u w x xs ds f p m in
    (q, k)

pub top-within : (g : List (List ℕ)) (u w : ℕ) (left : List ℕ) (fs : List (ℕ × List ℕ)) (vs : List Visit) (ds : List ℕ) → Searching g u (fs ++ (w, left) ∷ []) vs ds → w < length g
top-within g u w left fs vs ds s = let (passed, e, a, n) = framed-last g u ds fs (w, left) s.framed in slice_get_within g w (passed ++ left) e

below-second : (n : ℕ) (xs ys : List ℕ) → Below n (xs ++ ys) → Below n ys
below-second n [] ys b = b
below-second n (x ∷ xs) ys b = below-second n xs ys b.1

pub top-below : (g : List (List ℕ)) (u w : ℕ) (left : List ℕ) (fs : List (ℕ × List ℕ)) (vs : List Visit) (ds : List ℕ) → AllBelow (length g) g → Searching g u (fs ++ (w, left) ∷ []) vs ds → Below (length g) left
top-below g u w left fs vs ds b s = let (passed, e, a, n) = framed-last g u ds fs (w, left) s.framed in below-second (length g) passed left (get-below (length g) g w (passed ++ left) b e)

-- the frame that was taken off the stack
pub popped : (old new : List Frame) (f : Frame) → old ≡ new ++ f ∷ [] → frames old ≡ frames new ++ (f.unit, f.left.now) ∷ []
popped old new f e = ap frames e ∙ map-append (λ (h : Frame). (h.unit, h.left.now)) new (f ∷ [])

-- ---- the turns

-- the unit is done
turn-done : (g : List (List ℕ)) (u w : ℕ) (fs : List (ℕ × List ℕ)) (vs : List Visit) (ds : List ℕ) → Searching g u (fs ++ (w, []) ∷ []) vs ds → Searching g u fs (slice_set vs w visit.Done) (ds ++ w ∷ [])
turn-done g u w fs vs ds s =
    let last : IsFramed g u ds (w, []) = framed-last g u ds fs (w, []) s.framed in
    let names : units (fs ++ (w, []) ∷ []) ≡ units fs ++ w ∷ [] = units-snoc fs w [] in
    let deepens : Deepens g (units fs ++ w ∷ []) = subst (Deepens g) names s.deepens in
    record {
      size = length-set vs w visit.Done ∙ s.size;
      framed = framed-more g u ds (w ∷ []) fs (framed-first g u ds fs (w, []) s.framed);
      deepens = deepens-first g (units fs) w deepens;
      open_ones = λ v e.
          elim (set-at vs w v visit.Done visit.Open e) [
            | inl p ↦ let f : visit.Done ≡ visit.Open = p.1 in absurd (cc)
            | inr f ↦
                elim (has-snoc v w (units fs) (subst (λ (ns : List ℕ). has v ns ≡ true) names (s.open_ones v f.1))) [
                  | inl h ↦ h
                  | inr k ↦ absurd (f.0 (sym k))
                ]
          ];
      done_ones = λ v e.
          elim (set-at vs w v visit.Done visit.Done e) [
            | inl p ↦ subst (λ (y : ℕ). has y (ds ++ w ∷ []) ≡ true) (sym p.0) (has-last w ds)
            | inr f ↦ has-more v ds (w ∷ []) (s.done_ones v f.1)
          ];
      needed = λ v h.
          elim (has-snoc v w ds h) [
            | inl i ↦ s.needed v i
            | inr k ↦ let (passed, e, a, n) = last in subst (IsNeeded g u) k n
          ];
      behind = behind-more g [] ds w s.behind (passed-bases g u w ds last);
      own =
          elim s.own [
            | inl h ↦ inl (has-more u ds (w ∷ []) h)
            | inr h ↦
                elim (has-snoc u w (units fs) (subst (λ (ns : List ℕ). has u ns ≡ true) names h)) [
                  | inl i ↦ inr i
                  | inr k ↦ inl (subst (λ (y : ℕ). has y (ds ++ w ∷ []) ≡ true) k (has-last w ds))
                ]
          ];
    }

-- a base that is done is passed
turn-passed : (g : List (List ℕ)) (u w x : ℕ) (xs : List ℕ) (fs : List (ℕ × List ℕ)) (vs : List Visit) (ds : List ℕ) → slice_get vs x ≡ Some visit.Done → Searching g u (fs ++ (w, x ∷ xs) ∷ []) vs ds → Searching g u (fs ++ (w, xs) ∷ []) vs ds
turn-passed g u w x xs fs vs ds v s =
    let (passed, e, a, n) = framed-last g u ds fs (w, x ∷ xs) s.framed in
    let names : units (fs ++ (w, x ∷ xs) ∷ []) ≡ units (fs ++ (w, xs) ∷ []) = units-snoc fs w (x ∷ xs) ∙ sym (units-snoc fs w xs) in
    let whole : slice_get g w ≡ Some ((passed ++ x ∷ []) ++ xs) = e ∙ ap Some (sym (append_assoc passed (x ∷ []) xs)) in
    record {
      size = s.size;
      framed = framed-snoc g u ds fs (w, xs) (framed-first g u ds fs (w, x ∷ xs) s.framed) (passed ++ x ∷ [], whole, all-snoc ds passed x a (s.done_ones x v), n);
      deepens = subst (Deepens g) names s.deepens;
      open_ones = λ y f. subst (λ (ns : List ℕ). has y ns ≡ true) names (s.open_ones y f);
      done_ones = s.done_ones;
      needed = s.needed;
      behind = s.behind;
      own = elim s.own [ inl h ↦ inl h | inr h ↦ inr (subst (λ (ns : List ℕ). has u ns ≡ true) names h) ];
    }

-- a new base is gone down to
turn-opened : (g : List (List ℕ)) (u w x : ℕ) (xs bs : List ℕ) (fs : List (ℕ × List ℕ)) (vs : List Visit) (ds : List ℕ) → slice_get g x ≡ Some bs → slice_get vs x ≡ Some visit.New → Searching g u (fs ++ (w, x ∷ xs) ∷ []) vs ds → Searching g u ((fs ++ (w, x ∷ xs) ∷ []) ++ (x, bs) ∷ []) (slice_set vs x visit.Open) ds
turn-opened g u w x xs bs fs vs ds e v s =
    let whole = fs ++ (w, x ∷ xs) ∷ [] in
    let last : IsFramed g u ds (w, x ∷ xs) = framed-last g u ds fs (w, x ∷ xs) s.framed in
    let names : units whole ≡ units fs ++ w ∷ [] = units-snoc fs w (x ∷ xs) in
    let more : units (whole ++ (x, bs) ∷ []) ≡ units whole ++ x ∷ [] = units-snoc whole x bs in
    let deeper : Deepens g ((units fs ++ w ∷ []) ++ x ∷ []) = deepens-down g (units fs) w x (subst (Deepens g) names s.deepens) (next-base g u w x xs ds last) in
    record {
      size = length-set vs x visit.Open ∙ s.size;
      framed = framed-snoc g u ds whole (x, bs) s.framed ([], e, tt, next-needed g u w x xs ds last);
      deepens = subst (Deepens g) (sym more) (subst (λ (ns : List ℕ). Deepens g (ns ++ x ∷ [])) (sym names) deeper);
      open_ones = λ y f.
          subst (λ (ns : List ℕ). has y ns ≡ true) (sym more)
          (elim (set-at vs x y visit.Open visit.Open f) [
            | inl p ↦ subst (λ (z : ℕ). has z (units whole ++ x ∷ []) ≡ true) (sym p.0) (has-last x (units whole))
            | inr p ↦ has-more y (units whole) (x ∷ []) (s.open_ones y p.1)
          ]);
      done_ones = λ y f.
          elim (set-at vs x y visit.Open visit.Done f) [
            | inl p ↦ let q : visit.Open ≡ visit.Done = p.1 in absurd (cc)
            | inr p ↦ s.done_ones y p.1
          ];
      needed = s.needed;
      behind = s.behind;
      own = elim s.own [ inl h ↦ inl h | inr h ↦ inr (subst (λ (ns : List ℕ). has u ns ≡ true) (sym more) (has-more u (units whole) (x ∷ []) h)) ];
    }

-- an open base leads to itself
turn-circle : (g : List (List ℕ)) (u w x : ℕ) (xs : List ℕ) (fs : List (ℕ × List ℕ)) (vs : List Visit) (ds : List ℕ) → slice_get vs x ≡ Some visit.Open → Searching g u (fs ++ (w, x ∷ xs) ∷ []) vs ds → (o : List ℕ) → Linearizes g u o → ⊥
turn-circle g u w x xs fs vs ds v s o l =
    let whole = fs ++ (w, x ∷ xs) ∷ [] in
    let last : IsFramed g u ds (w, x ∷ xs) = framed-last g u ds fs (w, x ∷ xs) s.framed in
    let names : units whole ≡ units fs ++ w ∷ [] = units-snoc fs w (x ∷ xs) in
    let there : has x (units fs ++ w ∷ []) ≡ true = subst (λ (ns : List ℕ). has x ns ≡ true) names (s.open_ones x v) in
    let down : IsDeeper g w x = next-base g u w x xs ds last in
    let (p, m) = next-needed g u w x xs ds last o l in
    elim (has-snoc x w (units fs) there) [
      | inl h ↦ deeper-never g x (deeper-step g x w x (deepens-last g (units fs) w x (subst (Deepens g) names s.deepens) h) down) p m
      | inr k ↦ deeper-never g x (subst (λ (y : ℕ). IsDeeper g y x) k down) p m
    ]

goes-true : (g : List (List ℕ)) (u w x : ℕ) (xs : List ℕ) (fs : List (ℕ × List ℕ)) (vs : List Visit) (ds : List ℕ) (new_fs : List (ℕ × List ℕ)) (new_vs : List Visit) (v : Option Visit) → slice_get vs x ≡ v → Goes g fs vs w x xs v true new_fs new_vs → Searching g u (fs ++ (w, x ∷ xs) ∷ []) vs ds → Searching g u new_fs new_vs ds
goes-true g u w x xs fs vs ds new_fs new_vs None e h s = absurd h
goes-true g u w x xs fs vs ds new_fs new_vs (Some visit.New) e (bs, f, t, i, j) s =
    subst (λ (gs : List (ℕ × List ℕ)). Searching g u gs new_vs ds) (sym i) (subst (λ (ws : List Visit). Searching g u ((fs ++ (w, x ∷ xs) ∷ []) ++ (x, bs) ∷ []) ws ds) (sym j) (turn-opened g u w x xs bs fs vs ds f e s))
goes-true g u w x xs fs vs ds new_fs new_vs (Some visit.Open) e h s = absurd (cc)
goes-true g u w x xs fs vs ds new_fs new_vs (Some visit.Done) e (t, i, j) s =
    subst (λ (gs : List (ℕ × List ℕ)). Searching g u gs new_vs ds) (sym i) (subst (λ (ws : List Visit). Searching g u (fs ++ (w, xs) ∷ []) ws ds) (sym j) (turn-passed g u w x xs fs vs ds e s))

pub turn-true : (g : List (List ℕ)) (u w : ℕ) (left : List ℕ) (fs : List (ℕ × List ℕ)) (vs : List Visit) (ds : List ℕ) (new_fs : List (ℕ × List ℕ)) (new_vs : List Visit) (new_ds : List ℕ) → Turns g fs vs ds w left true new_fs new_vs new_ds → Searching g u (fs ++ (w, left) ∷ []) vs ds → Searching g u new_fs new_vs new_ds
turn-true g u w [] fs vs ds new_fs new_vs new_ds (t, i, j, k) s =
    subst (λ (gs : List (ℕ × List ℕ)). Searching g u gs new_vs new_ds) (sym i) (subst (λ (ws : List Visit). Searching g u fs ws new_ds) (sym j) (subst (λ (es : List ℕ). Searching g u fs (slice_set vs w visit.Done) es) (sym k) (turn-done g u w fs vs ds s)))
turn-true g u w (x ∷ xs) fs vs ds new_fs new_vs new_ds (k, h) s =
    subst (λ (es : List ℕ). Searching g u new_fs new_vs es) (sym k) (goes-true g u w x xs fs vs ds new_fs new_vs (slice_get vs x) refl h s)

goes-false : (g : List (List ℕ)) (u w x : ℕ) (xs : List ℕ) (fs : List (ℕ × List ℕ)) (vs : List Visit) (ds : List ℕ) (new_fs : List (ℕ × List ℕ)) (new_vs : List Visit) (v : Option Visit) → slice_get vs x ≡ v → Goes g fs vs w x xs v false new_fs new_vs → Searching g u (fs ++ (w, x ∷ xs) ∷ []) vs ds → (o : List ℕ) → Linearizes g u o → ⊥
goes-false g u w x xs fs vs ds new_fs new_vs None e h s o l = absurd h
goes-false g u w x xs fs vs ds new_fs new_vs (Some visit.New) e (bs, f, t, i, j) s o l = absurd (cc)
goes-false g u w x xs fs vs ds new_fs new_vs (Some visit.Open) e h s o l = turn-circle g u w x xs fs vs ds e s o l
goes-false g u w x xs fs vs ds new_fs new_vs (Some visit.Done) e (t, i, j) s o l = absurd (cc)

pub turn-false : (g : List (List ℕ)) (u w : ℕ) (left : List ℕ) (fs : List (ℕ × List ℕ)) (vs : List Visit) (ds : List ℕ) (new_fs : List (ℕ × List ℕ)) (new_vs : List Visit) (new_ds : List ℕ) → Turns g fs vs ds w left false new_fs new_vs new_ds → Searching g u (fs ++ (w, left) ∷ []) vs ds → (o : List ℕ) → Linearizes g u o → ⊥
turn-false g u w [] fs vs ds new_fs new_vs new_ds (t, i, j, k) s o l = absurd (cc)
turn-false g u w (x ∷ xs) fs vs ds new_fs new_vs new_ds (k, h) s o l = goes-false g u w x xs fs vs ds new_fs new_vs (slice_get vs x) refl h s o l

-- ---- start and end

pub search-start : (g : List (List ℕ)) (u : ℕ) (bs : List ℕ) (vs : List Visit) → slice_get g u ≡ Some bs → length vs ≡ length g → ((w : ℕ) (v : Visit) → slice_get vs w ≡ Some v → v ≡ visit.New) → Searching g u ((u, bs) ∷ []) (slice_set vs u visit.Open) []
search-start g u bs vs e k n = record {
  size = length-set vs u visit.Open ∙ k;
  framed = (([], e, tt, λ o l. (o, l)), tt);
  deepens = (tt, tt);
  open_ones = λ w f.
      elim (set-at vs u w visit.Open visit.Open f) [
        | inl p ↦ subst (λ (y : ℕ). has y (u ∷ []) ≡ true) (sym p.0) (has-first u [])
        | inr p ↦ let q : visit.Open ≡ visit.New = n w visit.Open p.1 in absurd (cc)
      ];
  done_ones = λ w f.
      elim (set-at vs u w visit.Open visit.Done f) [
        | inl p ↦ let q : visit.Open ≡ visit.Done = p.1 in absurd (cc)
        | inr p ↦ let q : visit.Done ≡ visit.New = n w visit.Done p.1 in absurd (cc)
      ];
  needed = λ w h. absurd (cc);
  behind = tt;
  own = inr (has-first u []);
}

pub search-end : (g : List (List ℕ)) (u : ℕ) (vs : List Visit) (ds : List ℕ) → u < length g → Searching g u [] vs ds → IsSchedule g u ds
search-end g u vs ds l s = record { needed = s.needed; behind = s.behind; own = elim s.own [ inl h ↦ h | inr h ↦ absurd (cc) ]; within = l }

-- ---- the work that is left

abbrev pub weight : List (List ℕ) → List Visit → List (ℕ × List ℕ) → ℕ
weight g vs fs = work g vs + stack_work fs

stack-append : (fs gs : List (ℕ × List ℕ)) → stack_work (fs ++ gs) ≡ stack_work fs + stack_work gs
stack-append [] gs = omega arith
stack-append (f ∷ fs) gs = omega (arith, stack-append fs gs)

work-open : (g : List (List ℕ)) (vs : List Visit) (x : ℕ) (bs : List ℕ) → slice_get g x ≡ Some bs → slice_get vs x ≡ Some visit.New → work g (slice_set vs x visit.Open) + (length bs + 2) ≡ work g vs
work-open [] vs x bs e f = absurd (cc)
work-open (cs ∷ g) [] x bs e f = absurd (cc)
work-open (cs ∷ g) (visit.New ∷ vs) zero bs e f = let s : cs ≡ bs = cc in subst (λ (ds : List ℕ). work g vs + (length ds + 2) ≡ (length cs + 2) + work g vs) s (omega arith)
work-open (cs ∷ g) (visit.Open ∷ vs) zero bs e f = absurd (cc)
work-open (cs ∷ g) (visit.Done ∷ vs) zero bs e f = absurd (cc)
work-open (cs ∷ g) (visit.New ∷ vs) (suc x) bs e f = omega (arith, work-open g vs x bs e f)
work-open (cs ∷ g) (visit.Open ∷ vs) (suc x) bs e f = work-open g vs x bs e f
work-open (cs ∷ g) (visit.Done ∷ vs) (suc x) bs e f = work-open g vs x bs e f

work-done : (g : List (List ℕ)) (vs : List Visit) (w : ℕ) → work g (slice_set vs w visit.Done) ≤ work g vs
work-done [] vs w = omega arith
work-done (cs ∷ g) [] w = omega arith
work-done (cs ∷ g) (visit.New ∷ vs) zero = omega arith
work-done (cs ∷ g) (visit.Open ∷ vs) zero = omega arith
work-done (cs ∷ g) (visit.Done ∷ vs) zero = omega arith
work-done (cs ∷ g) (visit.New ∷ vs) (suc w) = omega (arith, work-done g vs w)
work-done (cs ∷ g) (visit.Open ∷ vs) (suc w) = work-done g vs w
work-done (cs ∷ g) (visit.Done ∷ vs) (suc w) = work-done g vs w

goes-less : (g : List (List ℕ)) (w x : ℕ) (xs : List ℕ) (fs : List (ℕ × List ℕ)) (vs : List Visit) (new_fs : List (ℕ × List ℕ)) (new_vs : List Visit) (v : Option Visit) → slice_get vs x ≡ v → Goes g fs vs w x xs v true new_fs new_vs → weight g new_vs new_fs < weight g vs (fs ++ (w, x ∷ xs) ∷ [])
goes-less g w x xs fs vs new_fs new_vs None e h = absurd h
goes-less g w x xs fs vs new_fs new_vs (Some visit.New) e (bs, f, t, i, j) =
    let a = stack-append (fs ++ (w, x ∷ xs) ∷ []) ((x, bs) ∷ []) in
    let k = work-open g vs x bs f e in
    let less : weight g (slice_set vs x visit.Open) ((fs ++ (w, x ∷ xs) ∷ []) ++ (x, bs) ∷ []) < weight g vs (fs ++ (w, x ∷ xs) ∷ []) = omega (arith, a, k) in
    subst (λ (gs : List (ℕ × List ℕ)). weight g new_vs gs < weight g vs (fs ++ (w, x ∷ xs) ∷ [])) (sym i) (subst (λ (ws : List Visit). weight g ws ((fs ++ (w, x ∷ xs) ∷ []) ++ (x, bs) ∷ []) < weight g vs (fs ++ (w, x ∷ xs) ∷ [])) (sym j) less)
goes-less g w x xs fs vs new_fs new_vs (Some visit.Open) e h = absurd (cc)
goes-less g w x xs fs vs new_fs new_vs (Some visit.Done) e (t, i, j) =
    let a = stack-append fs ((w, x ∷ xs) ∷ []) in
    let b = stack-append fs ((w, xs) ∷ []) in
    let less : weight g vs (fs ++ (w, xs) ∷ []) < weight g vs (fs ++ (w, x ∷ xs) ∷ []) = omega (arith, a, b) in
    subst (λ (gs : List (ℕ × List ℕ)). weight g new_vs gs < weight g vs (fs ++ (w, x ∷ xs) ∷ [])) (sym i) (subst (λ (ws : List Visit). weight g ws (fs ++ (w, xs) ∷ []) < weight g vs (fs ++ (w, x ∷ xs) ∷ [])) (sym j) less)

pub turn-less : (g : List (List ℕ)) (w : ℕ) (left : List ℕ) (fs : List (ℕ × List ℕ)) (vs : List Visit) (ds : List ℕ) (new_fs : List (ℕ × List ℕ)) (new_vs : List Visit) (new_ds : List ℕ) → Turns g fs vs ds w left true new_fs new_vs new_ds → weight g new_vs new_fs < weight g vs (fs ++ (w, left) ∷ [])
turn-less g w [] fs vs ds new_fs new_vs new_ds (t, i, j, k) =
    let a = stack-append fs ((w, []) ∷ []) in
    let d = work-done g vs w in
    let less : weight g (slice_set vs w visit.Done) fs < weight g vs (fs ++ (w, []) ∷ []) = omega (arith, a, d) in
    subst (λ (gs : List (ℕ × List ℕ)). weight g new_vs gs < weight g vs (fs ++ (w, []) ∷ [])) (sym i) (subst (λ (ws : List Visit). weight g ws fs < weight g vs (fs ++ (w, []) ∷ [])) (sym j) less)
turn-less g w (x ∷ xs) fs vs ds new_fs new_vs new_ds (k, h) = goes-less g w x xs fs vs new_fs new_vs (slice_get vs x) refl h
