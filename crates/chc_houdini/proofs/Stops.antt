-- What a candidate's judgement says of its queries, and which drops and multipliers a round gives.
use Rattle.std.proofs.Common.{◌≡◌, ◌∙◌, sym, ap, subst, refl, ℕ, zero, suc, ◌+◌, ◌-◌, ◌<◌, ◌≤◌, List, [], ◌∷◌, ◌++◌, ◌==◌, Bool, true, false, ◌⊎◌, inl, inr, Some, None, slice_get, length, arith, append_assoc, if◌then◌else◌}
use Rattle.std.specs.List.{Contains, slice_index_or}
use Rattle.std.proofs.lemmas.List.Elements.{Contains-append_right}
use Rattle.std.proofs.lemmas.Bool.{cases_lt}
use Rattle.std.proofs.lemmas.Bool.Decides.{nat_tests}
use lib.IntN.{ℤ}
use Rattle.chc_form.specs.declared.linear.Limits.{Limits}
use Rattle.chc_form.specs.declared.system.Rule.{Rule}
use Rattle.chc_form.specs.declared.system.System.{System}
use Rattle.chc_form.specs.declared.system.Part.TheVariants as part
use Rattle.chc_form.specs.declared.lemma.Lemma.{Lemma}
use Rattle.chc_form.proofs.Entries.{contains-first}
use Rattle.chc_reduce.specs.Reduced.{reduced}
use Rattle.chc_reduce.specs.Obligations.{Obligation, at_rules, for_lemmas}
use Rattle.chc_ask.specs.declared.open.Open.{Open}
use Rattle.chc_ask.specs.declared.open.Asked.{Asked}
use Rattle.chc_ask.specs.declared.open.Asked.TheVariants as asked
use Rattle.chc_ask.specs.Asked.{asked_of}
use Rattle.chc_houdini.specs.declared.greatest.RoundStop.{RoundStop}
use Rattle.chc_houdini.specs.declared.rounds.Judged.{Judged}
use Rattle.chc_houdini.specs.declared.rounds.Judged.TheVariants as judged
use Rattle.chc_houdini.specs.declared.rounds.Round.{Round}
use Rattle.chc_houdini.specs.Drops.{is_named, left_from, IsQuery, InOrder}
use Rattle.chc_houdini.specs.Proofs.{AllAsked}
use Rattle.chc_houdini.specs.Rounds.{with_proofs, after_answer, judged_from, judgement, noted, round_from}
use Rattle.lists.proofs.Places.{FromPlace, from-start, from-head, from-tail, from-end, less-or-same}
use Rattle.std.proofs.lemmas.List.{append-nil}

-- ---- lists from a place on

-- ---- judgements

-- the query of c for rule n is answered by multipliers
abbrev pub IsShown : System → Limits → List Lemma → Lemma → ℕ → Type 0
IsShown s l have c n = (p : List ℤ) × (asked_of l (reduced s (part.Rule n) (Some c) have) ≡ asked.Refuted p)

-- each query of c for a rule below j is
abbrev ShownBelow : System → Limits → List Lemma → Lemma → ℕ → Type 0
ShownBelow s l have c j = (n : ℕ) → n < j → IsQuery s c n → IsShown s l have c n

-- the query of c for rule j is the first that is left open
pub record StopsAt (s : System) (l : Limits) (have : List Lemma) (c : Lemma) (j : ℕ) (o : Open) : Type 0 where
  pub query : IsQuery s c j
  pub answer : asked_of l (reduced s (part.Rule j) (Some c) have) ≡ asked.Open o
  pub earlier : (n : ℕ) → n < j → IsQuery s c n → IsShown s l have c n

abbrev pub Said : System → Limits → List Lemma → Lemma → Judged → Type 0
Said s l have c (judged.Shown ps) = (n : ℕ) → IsQuery s c n → IsShown s l have c n
Said s l have c (judged.Stopped j o) = StopsAt s l have c j o

said-with : (s : System) (l : Limits) (have : List Lemma) (c : Lemma) (ps : List (List ℤ)) (x : Judged) → Said s l have c x → Said s l have c (with_proofs ps x)
said-with s l have c ps (judged.Shown qs) h = h
said-with s l have c ps (judged.Stopped j o) h = h

one-more : (P : ℕ → Type 0) (j : ℕ) → ((n : ℕ) → n < j → P n) → P j → (n : ℕ) → n < suc j → P n
one-more P j below here n h =
    elim (less-or-same n j (omega arith)) [
      | inl less ↦ below n less
      | inr same ↦ subst P (sym same) here
    ]

same-rule : (s : System) (c : Lemma) (j : ℕ) (r : Rule) → slice_get s.rules j ≡ Some r → IsQuery s c j → r.head.pred ≡ c.pred
same-rule s c j r e q = let e2 = q.1 in let e3 = q.2 in cc

said-turn : (s : System) (l : Limits) (have : List Lemma) (c : Lemma) (j : ℕ) (r : Rule) (b : Bool) (a : Asked) (later : Judged) → slice_get s.rules j ≡ Some r → (r.head.pred == c.pred) ≡ b → asked_of l (reduced s (part.Rule j) (Some c) have) ≡ a → ShownBelow s l have c j → (ShownBelow s l have c (suc j) → Said s l have c later) → Said s l have c (if b then after_answer a j later else later)
said-turn s l have c j r true (asked.Refuted p) later there on e below go =
    said-with s l have c (p ∷ []) later (go (one-more (λ n. IsQuery s c n → IsShown s l have c n) j below (λ q. (p, e))))
said-turn s l have c j r true (asked.Open o) later there on e below go =
    let same : r.head.pred ≡ c.pred = grind (arith, nat_tests) in
    record { query = (r, there, same); answer = e; earlier = below }
said-turn s l have c j r false a later there on e below go =
    go (one-more (λ n. IsQuery s c n → IsShown s l have c n) j below (λ q. let same = same-rule s c j r there q in absurd (grind (arith, nat_tests))))

said-from : (s : System) (l : Limits) (have : List Lemma) (c : Lemma) (j : ℕ) (rs : List Rule) → FromPlace s.rules j rs → ShownBelow s l have c j → Said s l have c (judged_from s l have c j rs)
said-from s l have c j [] h below = λ n q.
    elim (cases_lt n j) [
      | inl less ↦ below n less q
      | inr past ↦ absurd (from-end s.rules j n q.0 h past q.1)
    ]
said-from s l have c j (r ∷ rs) h below =
    said-turn s l have c j r (r.head.pred == c.pred) (asked_of l (reduced s (part.Rule j) (Some c) have)) (judged_from s l have c (suc j) rs)
    (from-head s.rules j r rs h) refl refl below (said-from s l have c (suc j) rs (from-tail s.rules j r rs h))

pub judgement-said : (s : System) (l : Limits) (have : List Lemma) (c : Lemma) → Said s l have c (judgement s l have c)
unfolding judgement
judgement-said s l have c = said-from s l have c 0 s.rules (from-start s.rules) (λ n less q. absurd (omega arith))

-- ---- multipliers of a judgement

abbrev Proved : Limits → List Obligation → Judged → Type 0
Proved l os (judged.Shown ps) = AllAsked l os ps
Proved l os (judged.Stopped j o) = Unit {0}

proved-with : (l : Limits) (o : Obligation) (os : List Obligation) (p : List ℤ) (x : Judged) → asked_of l o.formula ≡ asked.Refuted p → Proved l os x → Proved l (o ∷ os) (with_proofs (p ∷ []) x)
proved-with l o os p (judged.Shown ps) e h = (e, h)
proved-with l o os p (judged.Stopped j left) e h = tt

proved-turn : (l : Limits) (o : Obligation) (os : List Obligation) (j : ℕ) (b : Bool) (a : Asked) (later : Judged) → asked_of l o.formula ≡ a → Proved l os later → Proved l (if b then o ∷ os else os) (if b then after_answer a j later else later)
proved-turn l o os j true (asked.Refuted p) later e h = proved-with l o os p later e h
proved-turn l o os j true (asked.Open left) later e h = tt
proved-turn l o os j false a later e h = h

proved-from : (s : System) (l : Limits) (have : List Lemma) (k : ℕ) (c : Lemma) (j : ℕ) (rs : List Rule) → Proved l (at_rules s have k c j rs) (judged_from s l have c j rs)
proved-from s l have k c j [] = tt
proved-from s l have k c j (r ∷ rs) =
    proved-turn l (record { lemma = k; rule = j; formula = reduced s (part.Rule j) (Some c) have }) (at_rules s have k c (suc j) rs) j (r.head.pred == c.pred) (asked_of l (reduced s (part.Rule j) (Some c) have)) (judged_from s l have c (suc j) rs) refl (proved-from s l have k c (suc j) rs)

judgement-proved : (s : System) (l : Limits) (have : List Lemma) (k : ℕ) (c : Lemma) → Proved l (at_rules s have k c 0 s.rules) (judgement s l have c)
unfolding judgement
judgement-proved s l have k c = proved-from s l have k c 0 s.rules

asked-append : (l : Limits) (os more : List Obligation) (ps qs : List (List ℤ)) → AllAsked l os ps → AllAsked l more qs → AllAsked l (os ++ more) (ps ++ qs)
asked-append l [] more [] qs h k = k
asked-append l [] more (p ∷ ps) qs h k = absurd h
asked-append l (o ∷ os) more [] qs h k = absurd h
asked-append l (o ∷ os) more (p ∷ ps) qs h k = (h.0, asked-append l os more ps qs h.1 k)

-- ---- the drops and multipliers of a round

abbrev stop_of : ℕ → ℕ → Judged → List RoundStop
stop_of i k (judged.Shown ps) = []
stop_of i k (judged.Stopped j o) = (record { round = i; lemma = k; rule = j; left = o }) ∷ []

abbrev proofs_of : Judged → List (List ℤ)
proofs_of (judged.Shown ps) = ps
proofs_of (judged.Stopped j o) = []

abbrev pub stops_from : System → Limits → List Lemma → List RoundStop → ℕ → ℕ → List Lemma → List RoundStop
stops_from s l have earlier i k [] = []
stops_from s l have earlier i k (c ∷ cs) =
    if is_named earlier i k then stops_from s l have earlier i (suc k) cs else stop_of i k (judgement s l have c) ++ stops_from s l have earlier i (suc k) cs

abbrev pub proofs_from : System → Limits → List Lemma → List RoundStop → ℕ → ℕ → List Lemma → List (List ℤ)
proofs_from s l have earlier i k [] = []
proofs_from s l have earlier i k (c ∷ cs) =
    if is_named earlier i k then proofs_from s l have earlier i (suc k) cs else proofs_of (judgement s l have c) ++ proofs_from s l have earlier i (suc k) cs

drops-turn : (i k : ℕ) (b : Bool) (sofar : Round) (x : Judged) (rest : List RoundStop) → (if b then sofar else noted i k sofar x).drops ++ rest ≡ sofar.drops ++ (if b then rest else stop_of i k x ++ rest)
drops-turn i k true sofar x rest = refl
drops-turn i k false sofar (judged.Shown ps) rest = refl
drops-turn i k false sofar (judged.Stopped j o) rest = append_assoc sofar.drops ((record { round = i; lemma = k; rule = j; left = o }) ∷ []) rest

pub round-drops : (s : System) (l : Limits) (have : List Lemma) (earlier : List RoundStop) (i : ℕ) (sofar : Round) (k : ℕ) (cs : List Lemma) → (round_from s l have earlier i sofar k cs).drops ≡ sofar.drops ++ stops_from s l have earlier i k cs
round-drops s l have earlier i sofar k [] = sym (append-nil sofar.drops)
round-drops s l have earlier i sofar k (c ∷ cs) =
    round-drops s l have earlier i (if is_named earlier i k then sofar else noted i k sofar (judgement s l have c)) (suc k) cs
    ∙ drops-turn i k (is_named earlier i k) sofar (judgement s l have c) (stops_from s l have earlier i (suc k) cs)

none-later : (i k : ℕ) (b : Bool) (x : Judged) (rest : List RoundStop) → (if b then rest else stop_of i k x ++ rest) ≡ [] → rest ≡ []
none-later i k true x rest h = h
none-later i k false (judged.Shown ps) rest h = h
none-later i k false (judged.Stopped j o) rest h = absurd (cc)

proofs-turn : (i k : ℕ) (b : Bool) (sofar : Round) (x : Judged) (rest : List RoundStop) (more : List (List ℤ)) → (if b then rest else stop_of i k x ++ rest) ≡ [] → (if b then sofar else noted i k sofar x).proofs ++ more ≡ sofar.proofs ++ (if b then more else proofs_of x ++ more)
proofs-turn i k true sofar x rest more h = refl
proofs-turn i k false sofar (judged.Shown ps) rest more h = append_assoc sofar.proofs ps more
proofs-turn i k false sofar (judged.Stopped j o) rest more h = absurd (cc)

pub round-proofs : (s : System) (l : Limits) (have : List Lemma) (earlier : List RoundStop) (i : ℕ) (sofar : Round) (k : ℕ) (cs : List Lemma) → stops_from s l have earlier i k cs ≡ [] → (round_from s l have earlier i sofar k cs).proofs ≡ sofar.proofs ++ proofs_from s l have earlier i k cs
round-proofs s l have earlier i sofar k [] h = sym (append-nil sofar.proofs)
round-proofs s l have earlier i sofar k (c ∷ cs) h =
    round-proofs s l have earlier i (if is_named earlier i k then sofar else noted i k sofar (judgement s l have c)) (suc k) cs (none-later i k (is_named earlier i k) (judgement s l have c) (stops_from s l have earlier i (suc k) cs) h)
    ∙ proofs-turn i k (is_named earlier i k) sofar (judgement s l have c) (stops_from s l have earlier i (suc k) cs) (proofs_from s l have earlier i (suc k) cs) h

asked-turn : (s : System) (l : Limits) (have : List Lemma) (i k n : ℕ) (b : Bool) (c : Lemma) (x : Judged) (rest : List RoundStop) (ls : List Lemma) (more : List (List ℤ)) → Proved l (at_rules s have n c 0 s.rules) x → (if b then rest else stop_of i k x ++ rest) ≡ [] → ((m : ℕ) → AllAsked l (for_lemmas s have m ls) more) → AllAsked l (for_lemmas s have n (if b then ls else c ∷ ls)) (if b then more else proofs_of x ++ more)
asked-turn s l have i k n true c x rest ls more p h go = go n
asked-turn s l have i k n false c (judged.Shown ps) rest ls more p h go = asked-append l (at_rules s have n c 0 s.rules) (for_lemmas s have (suc n) ls) ps more p (go (suc n))
asked-turn s l have i k n false c (judged.Stopped j o) rest ls more p h go = absurd (cc)

pub proofs-asked : (s : System) (l : Limits) (have : List Lemma) (earlier : List RoundStop) (i k : ℕ) (cs : List Lemma) → stops_from s l have earlier i k cs ≡ [] → (n : ℕ) → AllAsked l (for_lemmas s have n (left_from earlier i k cs)) (proofs_from s l have earlier i k cs)
proofs-asked s l have earlier i k [] h n = tt
proofs-asked s l have earlier i k (c ∷ cs) h n =
    asked-turn s l have i k n (is_named earlier i k) c (judgement s l have c) (stops_from s l have earlier i (suc k) cs) (left_from earlier i (suc k) cs) (proofs_from s l have earlier i (suc k) cs) (judgement-proved s l have n c) h
    (proofs-asked s l have earlier i (suc k) cs (none-later i k (is_named earlier i k) (judgement s l have c) (stops_from s l have earlier i (suc k) cs) h))

-- ---- the drops of a round are right

-- a drop of round i, over candidates from number k on
pub record IsStop (s : System) (l : Limits) (have : List Lemma) (earlier : List RoundStop) (i : ℕ) (candidates : List Lemma) (k : ℕ) (d : RoundStop) : Type 0 where
  pub round : d.round ≡ i
  pub above : k ≤ d.lemma
  pub candidate : Lemma
  pub place : slice_get candidates d.lemma ≡ Some candidate
  pub there : is_named earlier i d.lemma ≡ false
  pub stops : StopsAt s l have candidate d.rule d.left

above-less : (s : System) (l : Limits) (have : List Lemma) (earlier : List RoundStop) (i : ℕ) (candidates : List Lemma) (k : ℕ) (d : RoundStop) → IsStop s l have earlier i candidates (suc k) d → IsStop s l have earlier i candidates k d
above-less s l have earlier i candidates k d h = let a = h.above in record { round = h.round; above = omega arith; candidate = h.candidate; place = h.place; there = h.there; stops = h.stops }

contains-at : {A : Type 0} → (x y : A) (xs : List A) (n : ℕ) → n < length (x ∷ xs) → slice_index_or (x ∷ xs) n y ≡ y → (x ≡ y) ⊎ Contains xs y
contains-at {A} x y xs zero h e = inl e
contains-at {A} x y xs (suc n) h e = inr (n, omega arith, e)

pub contains-cases : {A : Type 0} → (x y : A) (xs : List A) → Contains (x ∷ xs) y → (x ≡ y) ⊎ Contains xs y
contains-cases {A} x y xs h = contains-at x y xs h.0 h.1 h.2

stops-turn : (s : System) (l : Limits) (have : List Lemma) (earlier : List RoundStop) (i : ℕ) (candidates : List Lemma) (k : ℕ) (b : Bool) (c : Lemma) (x : Judged) (rest : List RoundStop) → is_named earlier i k ≡ b → slice_get candidates k ≡ Some c → Said s l have c x → ((d : RoundStop) → Contains rest d → IsStop s l have earlier i candidates (suc k) d) → (d : RoundStop) → Contains (if b then rest else stop_of i k x ++ rest) d → IsStop s l have earlier i candidates k d
stops-turn s l have earlier i candidates k true c x rest e place said go d h = above-less s l have earlier i candidates k d (go d h)
stops-turn s l have earlier i candidates k false c (judged.Shown ps) rest e place said go d h = above-less s l have earlier i candidates k d (go d h)
stops-turn s l have earlier i candidates k false c (judged.Stopped j o) rest e place said go d h =
    let first : RoundStop = record { round = i; lemma = k; rule = j; left = o } in
    elim (contains-cases first d rest h) [
      | inl here ↦ subst (IsStop s l have earlier i candidates k) here (record { round = refl; above = omega arith; candidate = c; place = place; there = e; stops = said })
      | inr later ↦ above-less s l have earlier i candidates k d (go d later)
    ]

pub each-stop : (s : System) (l : Limits) (have : List Lemma) (earlier : List RoundStop) (i : ℕ) (candidates : List Lemma) (k : ℕ) (cs : List Lemma) → FromPlace candidates k cs → (d : RoundStop) → Contains (stops_from s l have earlier i k cs) d → IsStop s l have earlier i candidates k d
each-stop s l have earlier i candidates k [] p d h = absurd (omega (arith, h.1))
each-stop s l have earlier i candidates k (c ∷ cs) p d h =
    stops-turn s l have earlier i candidates k (is_named earlier i k) c (judgement s l have c) (stops_from s l have earlier i (suc k) cs) refl (from-head candidates k c cs p) (judgement-said s l have c)
    (each-stop s l have earlier i candidates (suc k) cs (from-tail candidates k c cs p)) d h

order-turn : (i k : ℕ) (b : Bool) (x : Judged) (rest : List RoundStop) → InOrder rest → ((d : RoundStop) → Contains rest d → (d.round ≡ i) × (suc k ≤ d.lemma)) → InOrder (if b then rest else stop_of i k x ++ rest)
order-turn i k true x rest h go = h
order-turn i k false (judged.Shown ps) rest h go = h
order-turn i k false (judged.Stopped j o) rest h go = (λ d here. let g = go d here in inr (sym g.0, g.1), h)

pub stops-order : (s : System) (l : Limits) (have : List Lemma) (earlier : List RoundStop) (i : ℕ) (candidates : List Lemma) (k : ℕ) (cs : List Lemma) → FromPlace candidates k cs → InOrder (stops_from s l have earlier i k cs)
stops-order s l have earlier i candidates k [] p = tt
stops-order s l have earlier i candidates k (c ∷ cs) p =
    let q = from-tail candidates k c cs p in
    order-turn i k (is_named earlier i k) (judgement s l have c) (stops_from s l have earlier i (suc k) cs) (stops-order s l have earlier i candidates (suc k) cs q)
    (λ d h. let g = each-stop s l have earlier i candidates (suc k) cs q d h in (g.round, g.above))

-- candidate m is dropped in round i
abbrev pub IsDropped : List RoundStop → ℕ → ℕ → Type 0
IsDropped drops i m = (d : RoundStop) × Contains drops d × (d.round ≡ i) × (d.lemma ≡ m)

dropped-later : (i k m : ℕ) (b : Bool) (x : Judged) (rest : List RoundStop) → IsDropped rest i m → IsDropped (if b then rest else stop_of i k x ++ rest) i m
dropped-later i k m true x rest h = h
dropped-later i k m false x rest h = (h.0, Contains-append_right (stop_of i k x) rest h.0 h.1, h.2, h.3)

found-here : (s : System) (l : Limits) (have : List Lemma) (i k : ℕ) (b : Bool) (c : Lemma) (x : Judged) (rest : List RoundStop) → b ≡ false → Said s l have c x → IsDropped (if b then rest else stop_of i k x ++ rest) i k ⊎ ((n : ℕ) → IsQuery s c n → IsShown s l have c n)
found-here s l have i k true c x rest e said = absurd (cc)
found-here s l have i k false c (judged.Shown ps) rest e said = inr said
found-here s l have i k false c (judged.Stopped j o) rest e said =
    let first : RoundStop = record { round = i; lemma = k; rule = j; left = o } in
    inl (first, contains-first first rest, refl, refl)

pub found : (s : System) (l : Limits) (have : List Lemma) (earlier : List RoundStop) (i : ℕ) (candidates : List Lemma) (k : ℕ) (cs : List Lemma) → FromPlace candidates k cs → (m : ℕ) (c : Lemma) → k ≤ m → slice_get candidates m ≡ Some c → is_named earlier i m ≡ false → IsDropped (stops_from s l have earlier i k cs) i m ⊎ ((n : ℕ) → IsQuery s c n → IsShown s l have c n)
found s l have earlier i candidates k [] p m c above place there = absurd (from-end candidates k m c p above place)
found s l have earlier i candidates k (b ∷ cs) p m c above place there =
    let rest = stops_from s l have earlier i (suc k) cs in
    elim (less-or-same k m above) [
      | inl later ↦ elim (found s l have earlier i candidates (suc k) cs (from-tail candidates k b cs p) m c (omega arith) place there) [
        | inl dropped ↦ inl (dropped-later i k m (is_named earlier i k) (judgement s l have b) rest dropped)
        | inr shown ↦ inr shown
      ]
      | inr same ↦
          let head = from-head candidates k b cs p in
          let is : b ≡ c = cc in
          let there' : is_named earlier i k ≡ false = cc in
          let all = stops_from s l have earlier i k (b ∷ cs) in
          subst (λ (v : ℕ). IsDropped all i v ⊎ ((n : ℕ) → IsQuery s c n → IsShown s l have c n)) same
          (subst (λ (v : Lemma). IsDropped all i k ⊎ ((n : ℕ) → IsQuery s v n → IsShown s l have v n)) is (found-here s l have i k (is_named earlier i k) b (judgement s l have b) rest there' (judgement-said s l have b)))
    ]
