-- The lemmas that are kept are among the candidates.
use Rattle.std.proofs.Common.{ℕ, suc, ◌≤◌, List, [], ◌∷◌, ◌==◌, Bool, true, false, length, arith, if◌then◌else◌, inl, inr}
use Rattle.std.specs.List.{Contains, list_any}
use Rattle.std.proofs.lemmas.List.Elements.{Contains-append_left, Contains-append_right, Contains-append_cases}
use Rattle.chc_form.specs.declared.lemma.Lemma.{Lemma}
use Rattle.chc_houdini.specs.declared.greatest.RoundStop.{RoundStop}
use Rattle.chc_houdini.specs.Drops.{kept_from, kept}

pub contained-later : {A : Type 0} → (x y : A) (xs : List A) → Contains xs x → Contains (y ∷ xs) x
contained-later x y xs h = Contains-append_right (y ∷ []) xs x h

either-contained : (b : Bool) (c l : Lemma) (kept cs : List Lemma) → (Contains kept l → Contains cs l) → Contains (if b then kept else c ∷ kept) l → Contains (c ∷ cs) l
either-contained true c l kept cs h i = contained-later l c cs (h i)
either-contained false c l kept cs h i =
    elim (Contains-append_cases (c ∷ []) kept l i) [
      | inl first ↦ Contains-append_left (c ∷ []) cs l first
      | inr later ↦ contained-later l c cs (h later)
    ]

kept_from-contained : (drops : List RoundStop) (k : ℕ) (cs : List Lemma) (l : Lemma) → Contains (kept_from drops k cs) l → Contains cs l
kept_from-contained drops k [] l i = i
kept_from-contained drops k (c ∷ cs) l i =
    either-contained (list_any (λ d. d.lemma == k) drops) c l (kept_from drops (suc k) cs) cs (kept_from-contained drops (suc k) cs l) i

pub kept-contained : (drops : List RoundStop) (cs : List Lemma) (l : Lemma) → Contains (kept drops cs) l → Contains cs l
kept-contained drops cs l i = kept_from-contained drops 0 cs l i

either-few : (b : Bool) (c : Lemma) (kept cs : List Lemma) → length kept ≤ length cs → length (if b then kept else c ∷ kept) ≤ length (c ∷ cs)
either-few true c kept cs h = omega arith
either-few false c kept cs h = omega arith

kept_from-few : (drops : List RoundStop) (k : ℕ) (cs : List Lemma) → length (kept_from drops k cs) ≤ length cs
kept_from-few drops k [] = omega arith
kept_from-few drops k (c ∷ cs) = either-few (list_any (λ d. d.lemma == k) drops) c (kept_from drops (suc k) cs) cs (kept_from-few drops (suc k) cs)

pub kept-few : (drops : List RoundStop) (cs : List Lemma) → length (kept drops cs) ≤ length cs
kept-few drops cs = kept_from-few drops 0 cs

pub ruleset keeping = (kept-contained, kept-few)
