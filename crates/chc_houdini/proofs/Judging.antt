-- A round rule by rule is the round candidate by candidate.
use Rattle.std.proofs.Common.{◌≡◌, ◌∙◌, ap, refl, ℕ, suc, ◌+◌, ◌-◌, ◌<◌, ◌≤◌, List, [], ◌∷◌, ◌++◌, ◌==◌, Bool, true, false, map, Some, slice_get, get_or, take, drop, length, arith, append_assoc, append-nil, if◌then◌else◌}
use Rattle.std.proofs.lemmas.Option.{slice_get_within}
use Rattle.std.proofs.lemmas.List.{map-append}
use Rattle.std.proofs.Math.Seq.{take-length}
use lib.IntN.{ℤ}
use Rattle.chc_form.specs.declared.linear.Limits.{Limits}
use Rattle.chc_form.specs.declared.system.Rule.{Rule}
use Rattle.chc_form.specs.declared.system.System.{System}
use Rattle.chc_form.specs.declared.system.Part.TheVariants as part
use Rattle.chc_form.specs.declared.lemma.Lemma.{Lemma}
use Rattle.chc_reduce.specs.Reduced.{reduced}
use Rattle.chc_ask.specs.declared.open.Asked.{Asked}
use Rattle.chc_ask.specs.declared.open.Asked.TheVariants as asked
use Rattle.chc_ask.specs.Asked.{asked_of}
use Rattle.chc_houdini.specs.declared.greatest.RoundStop.{RoundStop}
use Rattle.chc_houdini.specs.declared.rounds.Judged.{Judged}
use Rattle.chc_houdini.specs.declared.rounds.Judged.TheVariants as judged
use Rattle.chc_houdini.specs.declared.rounds.Round.{Round}
use Rattle.chc_houdini.specs.declared.rounds.Candidate.{Candidate}
use Rattle.chc_houdini.specs.Drops.{is_named}
use Rattle.chc_houdini.specs.Rounds.{with_proofs, after_answer, judged_from, judgement, noted, round_from, no_round, round_of}
use Rattle.chc_houdini.specs.Candidates.{candidates_from, taken, judged_more, turned, judged_by, gathered}
use Rattle.lists.proofs.Places.{FromPlace, from-start, from-head, from-tail}

-- ---- one rule

pub rule-within : (s : System) (j : ℕ) (r : Rule) → slice_get s.rules j ≡ Some r → j < length s.rules
rule-within s j r e = slice_get_within s.rules j r e

pub made-more : {A B : Type 0} (f : A → B) (made : List B) (xs : List A) (x : A) (y : B) → made ≡ map f xs → y ≡ f x → made ++ y ∷ [] ≡ map f (xs ++ x ∷ [])
made-more {A} {B} f made xs x y e h = let m : map f (xs ++ x ∷ []) ≡ map f xs ++ f x ∷ [] = map-append f xs (x ∷ []) in cc

pub ruleset rules = (rule-within)

-- the rules from number j on
pub record AreRest (s : System) (j : ℕ) (rs : List Rule) : Type 0 where
  pub place : FromPlace s.rules j rs

pub rest-start : (s : System) → AreRest s 0 s.rules
rest-start s = record { place = from-start s.rules }

pub rest-head : (s : System) (j : ℕ) (r : Rule) (rs : List Rule) → AreRest s j (r ∷ rs) → slice_get s.rules j ≡ Some r
rest-head s j r rs h = from-head s.rules j r rs h.place

pub rest-tail : (s : System) (j : ℕ) (r : Rule) (rs : List Rule) → AreRest s j (r ∷ rs) → AreRest s (suc j) rs
rest-tail s j r rs h = record { place = from-tail s.rules j r rs h.place }

-- what is left after the first
abbrev pub after_first : List Rule → List Rule
after_first rs = take (length rs - 1) (drop 1 rs)

pub rules-turn : (s : System) (l : Limits) (have : List Lemma) (j k : ℕ) (r : Rule) (rs : List Rule) (xs ys : List Candidate) → 1 ≤ length rs → r ≡ get_or rs 0 r → k ≡ suc j → ys ≡ map (turned s l have j r) xs → AreRest s j rs → j + length rs ≡ length s.rules → (judged_by s l have k (after_first rs) ys ≡ judged_by s l have j rs xs) × AreRest s k (after_first rs) × (k + length (after_first rs) ≡ length s.rules)
rules-turn s l have j k r [] xs ys many e n h a all = absurd (omega arith)
rules-turn s l have j k r (q ∷ rs) xs ys many e n h a all =
    let m : length (q ∷ rs) - 1 ≡ length rs = omega arith in
    let count : suc j + length rs ≡ length s.rules = omega arith in
    rw (m, take-length rs, n, h, e) (refl, rest-tail s j q rs a, count)

pub ruleset turns = (rest-start, rest-head)

-- ---- gathering

pub gathered-more : (i : ℕ) (sofar : Round) (xs : List Candidate) (x : Candidate) → gathered i sofar (xs ++ x ∷ []) ≡ noted i x.number (gathered i sofar xs) x.judged
gathered-more i sofar [] x = refl
gathered-more i sofar (y ∷ xs) x = gathered-more i (noted i y.number sofar y.judged) xs x

pub ruleset gathers = (gathered-more)

-- ---- the whole

-- what the rules so far say, and then those that are left
abbrev continued : Judged → Judged → Judged
continued (judged.Shown made) later = with_proofs made later
continued (judged.Stopped i o) later = judged.Stopped i o

abbrev finished : System → Limits → List Lemma → ℕ → List Rule → Candidate → Candidate
finished s l have j rs x = record x { judged = continued x.judged (judged_from s l have x.lemma j rs) }

with-one-more : (made : List (List ℤ)) (p : List ℤ) (x : Judged) → with_proofs (made ++ p ∷ []) x ≡ with_proofs made (with_proofs (p ∷ []) x)
with-one-more made p (judged.Shown ps) = ap judged.Shown (append_assoc made (p ∷ []) ps)
with-one-more made p (judged.Stopped j o) = refl

with-none : (x : Judged) → with_proofs [] x ≡ x
with-none (judged.Shown ps) = refl
with-none (judged.Stopped j o) = refl

taken-then : (j : ℕ) (made : List (List ℤ)) (a : Asked) (later : Judged) → continued (taken j made a) later ≡ with_proofs made (after_answer a j later)
taken-then j made (asked.Refuted p) later = with-one-more made p later
taken-then j made (asked.Open o) later = refl

either-then : (j : ℕ) (b : Bool) (made : List (List ℤ)) (a : Asked) (later : Judged) → continued (if b then taken j made a else judged.Shown made) later ≡ with_proofs made (if b then after_answer a j later else later)
either-then j true made a later = taken-then j made a later
either-then j false made a later = refl

more-then : (s : System) (l : Limits) (have : List Lemma) (j : ℕ) (r : Rule) (rs : List Rule) (c : Lemma) (x : Judged) → continued (judged_more s l have j r c x) (judged_from s l have c (suc j) rs) ≡ continued x (judged_from s l have c j (r ∷ rs))
more-then s l have j r rs c (judged.Shown made) = either-then j (r.head.pred == c.pred) made (asked_of l (reduced s (part.Rule j) (Some c) have)) (judged_from s l have c (suc j) rs)
more-then s l have j r rs c (judged.Stopped i o) = refl

finished-turned : (s : System) (l : Limits) (have : List Lemma) (j : ℕ) (r : Rule) (rs : List Rule) (xs : List Candidate) → map (finished s l have (suc j) rs) (map (turned s l have j r) xs) ≡ map (finished s l have j (r ∷ rs)) xs
finished-turned s l have j r rs [] = refl
finished-turned s l have j r rs (x ∷ xs) =
    let here = ap (λ (v : Judged). record x { judged = v }) (more-then s l have j r rs x.lemma x.judged) in
    let later = finished-turned s l have j r rs xs in
    cc

unjudged : (x : Candidate) → continued x.judged (judged.Shown []) ≡ x.judged → record x { judged = continued x.judged (judged.Shown []) } ≡ x
unjudged x e = ap (λ (v : Judged). record x { judged = v }) e

shown-none : (x : Judged) → continued x (judged.Shown []) ≡ x
shown-none (judged.Shown made) = ap judged.Shown (append-nil made)
shown-none (judged.Stopped i o) = refl

finished-none : (s : System) (l : Limits) (have : List Lemma) (j : ℕ) (xs : List Candidate) → xs ≡ map (finished s l have j []) xs
finished-none s l have j [] = refl
finished-none s l have j (x ∷ xs) =
    let here = unjudged x (shown-none x.judged) in
    let later = finished-none s l have j xs in
    cc

judged-finished : (s : System) (l : Limits) (have : List Lemma) (j : ℕ) (rs : List Rule) (xs : List Candidate) → judged_by s l have j rs xs ≡ map (finished s l have j rs) xs
judged-finished s l have j [] xs = finished-none s l have j xs
judged-finished s l have j (r ∷ rs) xs = judged-finished s l have (suc j) rs (map (turned s l have j r) xs) ∙ finished-turned s l have j r rs xs

abbrev first : ℕ → Lemma → Candidate
first k c = record { number = k; lemma = c; judged = judged.Shown [] }

noted-first : (s : System) (l : Limits) (have : List Lemma) (i k : ℕ) (sofar : Round) (c : Lemma) → noted i k sofar (with_proofs [] (judged_from s l have c 0 s.rules)) ≡ noted i k sofar (judgement s l have c)
unfolding judgement
noted-first s l have i k sofar c = ap (noted i k sofar) (with-none (judged_from s l have c 0 s.rules))

gathered-turn : (s : System) (l : Limits) (have : List Lemma) (i k : ℕ) (b : Bool) (sofar : Round) (c : Lemma) (rest : List Candidate) → gathered i sofar (map (finished s l have 0 s.rules) (if b then rest else first k c ∷ rest)) ≡ gathered i (if b then sofar else noted i k sofar (judgement s l have c)) (map (finished s l have 0 s.rules) rest)
gathered-turn s l have i k true sofar c rest = refl
gathered-turn s l have i k false sofar c rest = ap (λ (r : Round). gathered i r (map (finished s l have 0 s.rules) rest)) (noted-first s l have i k sofar c)

gathered-round : (s : System) (l : Limits) (have : List Lemma) (earlier : List RoundStop) (i : ℕ) (sofar : Round) (k : ℕ) (cs : List Lemma) → gathered i sofar (map (finished s l have 0 s.rules) (candidates_from earlier i k cs)) ≡ round_from s l have earlier i sofar k cs
gathered-round s l have earlier i sofar k [] = refl
gathered-round s l have earlier i sofar k (c ∷ cs) =
    gathered-turn s l have i k (is_named earlier i k) sofar c (candidates_from earlier i (suc k) cs)
    ∙ gathered-round s l have earlier i (if is_named earlier i k then sofar else noted i k sofar (judgement s l have c)) (suc k) cs

pub rule-by-rule : (s : System) (l : Limits) (have : List Lemma) (earlier : List RoundStop) (i : ℕ) (cs : List Lemma) → gathered i no_round (judged_by s l have 0 s.rules (candidates_from earlier i 0 cs)) ≡ round_of s l have earlier i cs
unfolding round_of
rule-by-rule s l have earlier i cs =
    ap (gathered i no_round) (judged-finished s l have 0 s.rules (candidates_from earlier i 0 cs)) ∙ gathered-round s l have earlier i no_round 0 cs

pub ruleset round = (rule-by-rule)
