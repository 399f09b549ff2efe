-- A round's drops and multipliers are right where those of the rounds before it are.
use Rattle.std.proofs.Common.{◌≡◌, ◌∙◌, sym, ap, subst, refl, ℕ, zero, suc, ◌+◌, ◌<◌, ◌≤◌, List, [], ◌∷◌, ◌++◌, ◌==◌, true, false, inl, inr, Some, slice_get, length, arith}
use Rattle.std.specs.List.{Contains}
use Rattle.std.proofs.lemmas.Bool.{cases_lt}
use Rattle.std.proofs.lemmas.Bool.Decides.{nat_tests}
use Rattle.std.proofs.lemmas.List.Elements.{Contains-append_left, Contains-append_right, Contains-append_cases}
use Rattle.chc_form.specs.declared.linear.Limits.{Limits}
use Rattle.chc_form.specs.declared.system.System.{System}
use Rattle.chc_form.specs.declared.system.Part.TheVariants as part
use Rattle.chc_form.specs.declared.lemma.Lemma.{Lemma}
use Rattle.chc_form.specs.Formulas.{FormulaRefuted}
use Rattle.chc_form.specs.WellMade.{well_made}
use Rattle.chc_form.proofs.Entries.{contains-first, contains-later, got-contained}
use Rattle.chc_reduce.specs.Reduced.{reduced}
use Rattle.chc_reduce.specs.Obligations.{obligations}
use Rattle.chc_reduce.proofs.Ordered.{reduced-ordered}
use Rattle.chc_ask.specs.Open.{StaysOpen}
use Rattle.chc_ask.proofs.Answers.{asked-refuted, asked-open}
use Rattle.chc_houdini.specs.declared.greatest.RoundStop.{RoundStop}
use Rattle.chc_houdini.specs.declared.rounds.Round.{Round}
use Rattle.chc_houdini.specs.Drops.{is_named, left_in, IsQuery, IsRefuted, IsDrop, Before, InOrder, RightDrops, kept}
use Rattle.chc_houdini.specs.Proofs.{AllAsked}
use Rattle.chc_houdini.specs.Rounds.{no_round, round_of}
use Rattle.chc_houdini.proofs.Below.{RightBelow, AllDropped}
use Rattle.chc_houdini.proofs.Named.{AllOf, named-more, left-more, left-kept, left-all, named-there, named-later, fewer}
use Rattle.lists.proofs.Places.{from-start, less-or-same}
use Rattle.chc_houdini.proofs.Stops.{IsShown, IsStop, IsDropped, stops_from, proofs_from, round-drops, round-proofs, proofs-asked, each-stop, stops-order, found}
use Rattle.std.proofs.lemmas.List.{append-nil}

-- ---- order

order-append : (ds es : List RoundStop) → InOrder ds → InOrder es → ((d e : RoundStop) → Contains ds d → Contains es e → Before d e) → InOrder (ds ++ es)
order-append [] es h k f = k
order-append (d ∷ ds) es h k f = (
  λ e there. elim (Contains-append_cases ds es e there) [
    | inl old ↦ h.0 e old
    | inr new ↦ f d e (contains-first d ds) new
  ],
  order-append ds es h.1 k (λ e g here there. f e g (contains-later d e ds here) there),
)

before-at : (ds : List RoundStop) (a b : ℕ) (d e : RoundStop) → InOrder ds → slice_get ds a ≡ Some d → slice_get ds b ≡ Some e → a < b → Before d e
before-at [] a b d e h p q less = absurd (cc)
before-at (x ∷ ds) zero zero d e h p q less = absurd (omega arith)
before-at (x ∷ ds) zero (suc b) d e h p q less =
    let same : x ≡ d = cc in
    subst (λ (y : RoundStop). Before y e) same (h.0 e (got-contained ds b e q))
before-at (x ∷ ds) (suc a) zero d e h p q less = absurd (omega arith)
before-at (x ∷ ds) (suc a) (suc b) d e h p q less = before-at ds a b d e h.1 p q (omega arith)

apart : (ds : List RoundStop) (d e : RoundStop) → Contains ds d → is_named ds e.round e.lemma ≡ false → Before d e → d.lemma ≡ e.lemma → ⊥
apart ds d e here there (inl less) same = let named = named-there ds e.round e.lemma d here less same in absurd (cc)
apart ds d e here there (inr later) same = let less = later.1 in absurd (omega arith)

drops-once : (s : System) (l : Limits) (candidates : List Lemma) (ds : List RoundStop) → InOrder ds → ((d : RoundStop) → Contains ds d → IsDrop s l candidates ds d) → (a b : ℕ) (d e : RoundStop) → slice_get ds a ≡ Some d → slice_get ds b ≡ Some e → d.lemma ≡ e.lemma → a ≡ b
drops-once s l candidates ds order each a b d e p q same =
    let here = got-contained ds a d p in
    let there = got-contained ds b e q in
    elim (cases_lt a b) [
      | inl less ↦ absurd (apart ds d e here (each e there).there (before-at ds a b d e order p q less) same)
      | inr past ↦ elim (less-or-same b a past) [
        | inl less ↦ absurd (apart ds e d there (each d here).there (before-at ds b a e d order q p less) (sym same))
        | inr equal ↦ sym equal
      ]
    ]

-- ---- queries that are shown

shown-refuted : (s : System) (l : Limits) (have : List Lemma) (c : Lemma) (j : ℕ) → well_made s ≡ true → IsShown s l have c j → FormulaRefuted (reduced s (part.Rule j) (Some c) have)
shown-refuted s l have c j w h = (asked-refuted l (reduced s (part.Rule j) (Some c) have) h.0 (reduced-ordered s (part.Rule j) (Some c) have w) h.1).1

-- ---- one drop, under the drops of a further round

drop-more : (s : System) (l : Limits) (candidates : List Lemma) (i : ℕ) (ds es : List RoundStop) (d : RoundStop) → AllOf i es → d.round < i → IsDrop s l candidates ds d → IsDrop s l candidates (ds ++ es) d
drop-more s l candidates i ds es d h below k =
    let less : d.round ≤ i = omega arith in
    let left = left-more i d.round 0 ds es candidates h less in
    record {
      candidate = k.candidate;
      place = k.place;
      there = named-more i d.round d.lemma ds es h less ∙ k.there;
      query = k.query;
      left = subst (λ (ls : List Lemma). StaysOpen l (reduced s (part.Rule d.rule) (Some k.candidate) ls) d.left) (sym left) k.left;
      earlier = λ j before q. subst (λ (ls : List Lemma). FormulaRefuted (reduced s (part.Rule j) (Some k.candidate) ls)) (sym left) (k.earlier j before q);
    }

stop-drop : (s : System) (l : Limits) (candidates : List Lemma) (i : ℕ) (ds es : List RoundStop) (d : RoundStop) → well_made s ≡ true → AllOf i es → IsStop s l (left_in ds candidates i) ds i candidates 0 d → IsDrop s l candidates (ds ++ es) d
stop-drop s l candidates i ds es d w h k =
    let less : d.round ≤ i = let e = k.round in omega arith in
    let have = left_in ds candidates i in
    let left = left-more i d.round 0 ds es candidates h less ∙ ap (left_in ds candidates) k.round in
    record {
      candidate = k.candidate;
      place = k.place;
      there = named-more i d.round d.lemma ds es h less ∙ ap (λ (r : ℕ). is_named ds r d.lemma) k.round ∙ k.there;
      query = k.stops.query;
      left = subst (λ (ls : List Lemma). StaysOpen l (reduced s (part.Rule d.rule) (Some k.candidate) ls) d.left) (sym left) (asked-open l (reduced s (part.Rule d.rule) (Some k.candidate) have) d.left (reduced-ordered s (part.Rule d.rule) (Some k.candidate) have w) k.stops.answer);
      earlier = λ j before q. subst (λ (ls : List Lemma). FormulaRefuted (reduced s (part.Rule j) (Some k.candidate) ls)) (sym left) (shown-refuted s l have k.candidate j w (k.stops.earlier j before q));
    }

-- ---- a round

abbrev pub new_drops : System → Limits → List Lemma → List RoundStop → ℕ → List RoundStop
new_drops s l candidates ds i = stops_from s l (left_in ds candidates i) ds i 0 candidates

new-stop : (s : System) (l : Limits) (candidates : List Lemma) (ds : List RoundStop) (i : ℕ) (d : RoundStop) → Contains (new_drops s l candidates ds i) d → IsStop s l (left_in ds candidates i) ds i candidates 0 d
new-stop s l candidates ds i d h = each-stop s l (left_in ds candidates i) ds i candidates 0 candidates (from-start candidates) d h

new-of : (s : System) (l : Limits) (candidates : List Lemma) (ds : List RoundStop) (i : ℕ) → AllOf i (new_drops s l candidates ds i)
new-of s l candidates ds i d h = (new-stop s l candidates ds i d h).round

step-order : (s : System) (l : Limits) (candidates : List Lemma) (ds : List RoundStop) (i : ℕ) → RightBelow s l candidates ds i → InOrder (ds ++ new_drops s l candidates ds i)
step-order s l candidates ds i h =
    order-append ds (new_drops s l candidates ds i) h.order (stops-order s l (left_in ds candidates i) ds i candidates 0 candidates (from-start candidates))
    (λ d e old new. let p = h.below d old in let q = new-of s l candidates ds i e new in inl (omega arith))

step-each : (s : System) (l : Limits) (candidates : List Lemma) (ds : List RoundStop) (i : ℕ) → well_made s ≡ true → RightBelow s l candidates ds i → (d : RoundStop) → Contains (ds ++ new_drops s l candidates ds i) d → IsDrop s l candidates (ds ++ new_drops s l candidates ds i) d
step-each s l candidates ds i w h d there =
    let es = new_drops s l candidates ds i in
    elim (Contains-append_cases ds es d there) [
      | inl old ↦ drop-more s l candidates i ds es d (new-of s l candidates ds i) (h.below d old) (h.each d old)
      | inr new ↦ stop-drop s l candidates i ds es d w (new-of s l candidates ds i) (new-stop s l candidates ds i d new)
    ]

step-below : (s : System) (l : Limits) (candidates : List Lemma) (ds : List RoundStop) (i : ℕ) → RightBelow s l candidates ds i → (d : RoundStop) → Contains (ds ++ new_drops s l candidates ds i) d → d.round < suc i
step-below s l candidates ds i h d there =
    elim (Contains-append_cases ds (new_drops s l candidates ds i) d there) [
      | inl old ↦ let p = h.below d old in omega arith
      | inr new ↦ let p = new-of s l candidates ds i d new in omega arith
    ]

dropped-before : (ds es : List RoundStop) (i k : ℕ) → IsDropped ds i k → IsDropped (ds ++ es) i k
dropped-before ds es i k h = (h.0, Contains-append_left ds es h.0 h.1, h.2, h.3)

dropped-now : (ds es : List RoundStop) (i k : ℕ) → IsDropped es i k → IsDropped (ds ++ es) i k
dropped-now ds es i k h = (h.0, Contains-append_right ds es h.0 h.1, h.2, h.3)

complete-before : (s : System) (l : Limits) (candidates : List Lemma) (ds es : List RoundStop) (i r k j : ℕ) (c : Lemma) → AllOf i es → RightBelow s l candidates ds i → r < i → slice_get candidates k ≡ Some c → is_named (ds ++ es) r k ≡ false → IsQuery s c j → (IsRefuted s (ds ++ es) candidates r c j → ⊥) → IsDropped (ds ++ es) r k
complete-before s l candidates ds es i r k j c o h less place there q not =
    let below : r ≤ i = omega arith in
    let left = left-more i r 0 ds es candidates o below in
    dropped-before ds es r k
    (h.complete r k j c less place (sym (named-more i r k ds es o below) ∙ there) q
    (λ x. not (subst (λ (ls : List Lemma). FormulaRefuted (reduced s (part.Rule j) (Some c) ls)) (sym left) x)))

complete-now : (s : System) (l : Limits) (candidates : List Lemma) (ds : List RoundStop) (i k j : ℕ) (c : Lemma) → well_made s ≡ true → slice_get candidates k ≡ Some c → is_named (ds ++ new_drops s l candidates ds i) i k ≡ false → IsQuery s c j → (IsRefuted s (ds ++ new_drops s l candidates ds i) candidates i c j → ⊥) → IsDropped (ds ++ new_drops s l candidates ds i) i k
complete-now s l candidates ds i k j c w place there q not =
    let es = new_drops s l candidates ds i in
    let have = left_in ds candidates i in
    let o = new-of s l candidates ds i in
    let within : i ≤ i = omega arith in
    let left = left-more i i 0 ds es candidates o within in
    elim (found s l have ds i candidates 0 candidates (from-start candidates) k c (omega arith) place (sym (named-more i i k ds es o within) ∙ there)) [
      | inl dropped ↦ dropped-now ds es i k dropped
      | inr shown ↦ absurd (not (subst (λ (ls : List Lemma). FormulaRefuted (reduced s (part.Rule j) (Some c) ls)) (sym left) (shown-refuted s l have c j w (shown j q))))
    ]

step-complete : (s : System) (l : Limits) (candidates : List Lemma) (ds : List RoundStop) (i : ℕ) → well_made s ≡ true → RightBelow s l candidates ds i → AllDropped s candidates (ds ++ new_drops s l candidates ds i) (suc i)
step-complete s l candidates ds i w h r k j c less place there q not =
    elim (less-or-same r i (omega arith)) [
      | inl before ↦ complete-before s l candidates ds (new_drops s l candidates ds i) i r k j c (new-of s l candidates ds i) h before place there q not
      | inr now ↦
          let es = new_drops s l candidates ds i in
          subst (λ (n : ℕ). is_named (ds ++ es) n k ≡ false → (IsRefuted s (ds ++ es) candidates n c j → ⊥) → IsDropped (ds ++ es) n k) (sym now)
          (λ t f. complete-now s l candidates ds i k j c w place t q f) there not
    ]

step-all : (s : System) (l : Limits) (candidates : List Lemma) (ds es : List RoundStop) (i : ℕ) (d : RoundStop) → AllOf i es → Contains es d → RightBelow s l candidates ds i → (r : ℕ) → r < suc i → (e : RoundStop) × Contains (ds ++ es) e × (e.round ≡ r)
step-all s l candidates ds es i d o there h r less =
    elim (less-or-same r i (omega arith)) [
      | inl before ↦ let a = h.all r before in (a.0, Contains-append_left ds es a.0 a.1, a.2)
      | inr now ↦ (d, Contains-append_right ds es d there, o d there ∙ sym now)
    ]

-- ---- the rounds

new-is : (s : System) (l : Limits) (candidates : List Lemma) (ds : List RoundStop) (i : ℕ) → (round_of s l (left_in ds candidates i) ds i candidates).drops ≡ new_drops s l candidates ds i
unfolding round_of
new-is s l candidates ds i = round-drops s l (left_in ds candidates i) ds i no_round 0 candidates

proofs-are : (s : System) (l : Limits) (candidates : List Lemma) (ds : List RoundStop) (i : ℕ) → new_drops s l candidates ds i ≡ [] → (round_of s l (left_in ds candidates i) ds i candidates).proofs ≡ proofs_from s l (left_in ds candidates i) ds i 0 candidates
unfolding round_of
proofs-are s l candidates ds i e = round-proofs s l (left_in ds candidates i) ds i no_round 0 candidates e

-- round i over candidates after drops
abbrev pub this_round : System → Limits → List Lemma → List RoundStop → ℕ → Round
this_round s l candidates ds i = round_of s l (left_in ds candidates i) ds i candidates

pub right-none : (s : System) (l : Limits) (candidates : List Lemma) → RightBelow s l candidates [] 0
right-none s l candidates = record {
  order = tt;
  each = λ d there. absurd (omega (arith, there.1));
  below = λ d there. absurd (omega (arith, there.1));
  all = λ i less. absurd (omega arith);
  complete = λ i k j c less place there q not. absurd (omega arith);
}

some-of : (es : List RoundStop) → (length es == 0) ≡ false → (d : RoundStop) × Contains es d
some-of [] h = absurd (cc)
some-of (d ∷ es) h = (d, contains-first d es)

none-of : (es : List RoundStop) → (length es == 0) ≡ true → es ≡ []
none-of [] h = refl
none-of (d ∷ es) h = absurd (grind (arith, nat_tests))

more-new : (s : System) (l : Limits) (candidates : List Lemma) (ds : List RoundStop) (i : ℕ) (d : RoundStop) → well_made s ≡ true → Contains (new_drops s l candidates ds i) d → RightBelow s l candidates ds i → RightBelow s l candidates (ds ++ new_drops s l candidates ds i) (suc i)
more-new s l candidates ds i d w there h = record {
  order = step-order s l candidates ds i h;
  each = step-each s l candidates ds i w h;
  below = step-below s l candidates ds i h;
  all = step-all s l candidates ds (new_drops s l candidates ds i) i d (new-of s l candidates ds i) there h;
  complete = step-complete s l candidates ds i w h;
}

pub right-more : (s : System) (l : Limits) (candidates : List Lemma) (ds : List RoundStop) (i : ℕ) → well_made s ≡ true → (length (this_round s l candidates ds i).drops == 0) ≡ false → RightBelow s l candidates ds i → RightBelow s l candidates (ds ++ (this_round s l candidates ds i).drops) (i + 1)
right-more s l candidates ds i w some h =
    let n : i + 1 ≡ suc i = omega arith in
    let e = new-is s l candidates ds i in
    let d = some-of (new_drops s l candidates ds i) (ap (λ (es : List RoundStop). length es == 0) (sym e) ∙ some) in
    rw n (subst (λ (es : List RoundStop). RightBelow s l candidates (ds ++ es) (suc i)) (sym e) (more-new s l candidates ds i d.0 w d.1 h))

fewer-left : (s : System) (l : Limits) (candidates : List Lemma) (ds : List RoundStop) (i : ℕ) → (length (this_round s l candidates ds i).drops == 0) ≡ false → length (left_in (ds ++ (this_round s l candidates ds i).drops) candidates (suc i)) < length (left_in ds candidates i)
fewer-left s l candidates ds i some =
    let e = new-is s l candidates ds i in
    let es = new_drops s l candidates ds i in
    let d = some-of es (ap (λ (fs : List RoundStop). length fs == 0) (sym e) ∙ some) in
    let stop = new-stop s l candidates ds i d.0 d.1 in
    let n : 0 + d.0.lemma ≡ d.0.lemma = omega arith in
    let round : d.0.round < suc i = let r = stop.round in omega arith in
    subst (λ (fs : List RoundStop). length (left_in (ds ++ fs) candidates (suc i)) < length (left_in ds candidates i)) (sym e)
    (fewer i 0 d.0.lemma ds (ds ++ es) candidates stop.candidate (λ k h. named-later ds es i k h) stop.place
    (ap (is_named ds i) n ∙ stop.there)
    (ap (is_named (ds ++ es) (suc i)) n ∙ named-there (ds ++ es) (suc i) d.0.lemma d.0 (Contains-append_right ds es d.0 d.1) round refl))

pub fewer-next : (s : System) (l : Limits) (candidates : List Lemma) (ds : List RoundStop) (i : ℕ) → (length (this_round s l candidates ds i).drops == 0) ≡ false → length (left_in (ds ++ (this_round s l candidates ds i).drops) candidates (i + 1)) < length (left_in ds candidates i)
fewer-next s l candidates ds i some = let n : i + 1 ≡ suc i = omega arith in rw n (fewer-left s l candidates ds i some)

-- a round that goes on has a candidate left
pub rounds-room : (s : System) (l : Limits) (candidates : List Lemma) (ds : List RoundStop) (i : ℕ) → (length (this_round s l candidates ds i).drops == 0) ≡ false → i + length (left_in ds candidates i) ≤ length candidates → length candidates < 4294967296 → i + 1 < 4294967296
rounds-room s l candidates ds i some count few = let f = fewer-left s l candidates ds i some in omega arith

pub right-last : (s : System) (l : Limits) (candidates : List Lemma) (ds : List RoundStop) (i : ℕ) → well_made s ≡ true → (length (this_round s l candidates ds i).drops == 0) ≡ true → RightBelow s l candidates ds i → RightDrops s l candidates ds i
right-last s l candidates ds i w none h =
    let e : new_drops s l candidates ds i ≡ [] = sym (new-is s l candidates ds i) ∙ none-of (this_round s l candidates ds i).drops none in
    let same : ds ++ new_drops s l candidates ds i ≡ ds = ap (λ (es : List RoundStop). ds ++ es) e ∙ append-nil ds in
    record {
      order = h.order;
      once = drops-once s l candidates ds h.order h.each;
      each = h.each;
      below = h.below;
      all = h.all;
      complete = subst (λ (es : List RoundStop). AllDropped s candidates es (suc i)) same (step-complete s l candidates ds i w h);
    }

pub kept-last : (s : System) (l : Limits) (candidates : List Lemma) (ds : List RoundStop) (i : ℕ) → RightBelow s l candidates ds i → left_in ds candidates i ≡ kept ds candidates
kept-last s l candidates ds i h = left-kept i 0 ds candidates h.below

pub proofs-last : (s : System) (l : Limits) (candidates : List Lemma) (ds : List RoundStop) (i : ℕ) → (length (this_round s l candidates ds i).drops == 0) ≡ true → AllAsked l (obligations s [] (left_in ds candidates i)) (this_round s l candidates ds i).proofs
proofs-last s l candidates ds i none =
    let have = left_in ds candidates i in
    let e : new_drops s l candidates ds i ≡ [] = sym (new-is s l candidates ds i) ∙ none-of (this_round s l candidates ds i).drops none in
    subst (AllAsked l (obligations s [] have)) (sym (proofs-are s l candidates ds i e)) (proofs-asked s l have ds i 0 candidates e 0)

pub none-counted : (candidates : List Lemma) → 0 + length (left_in [] candidates 0) ≤ length candidates
none-counted candidates = let e : length (left_in [] candidates 0) ≡ length candidates = ap (length {A = Lemma}) (left-all 0 0 candidates) in omega arith

pub ruleset steps = (right-none, right-more, fewer-next, rounds-room, right-last, kept-last, proofs-last, none-counted)
