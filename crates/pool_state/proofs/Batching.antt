-- What a batch keeps whose proofs pass.
use Rattle.std.proofs.Common.{◌≡◌, ◌∙◌, sym, subst, ℕ, ◌≤◌, true, List, ◌++◌, length, take, drop, Option, None}
use Rattle.std.specs.List.{list_all}
use Rattle.std.proofs.Math.Seq.{take-append_seam, drop-append_seam}
use lib.IntN.{ℤ}
use Rattle.chc_form.specs.declared.system.System.{System}
use Rattle.chc_form.specs.declared.lemma.Lemma.{Lemma}
use Rattle.chc_form.specs.WellMade.{well_made, of_system}
use Rattle.chc_reduce.specs.Obligations.{for_lemmas, obligations}
use Rattle.pool_state.specs.Content.{IsBatch}
use Rattle.pool_state.specs.Unproved.{unproved}
use Rattle.pool_state.proofs.Proving.{unproved-relative}

batch-same : (s t : System) (base lemmas first rest : List Lemma) → t ≡ s → first ≡ base → rest ≡ lemmas → IsBatch (record { system = s; base = base; lemmas = lemmas }) → IsBatch (record { system = t; base = first; lemmas = rest })
batch-same s t base lemmas first rest e f g b =
    let one : IsBatch (record { system = t; base = base; lemmas = lemmas }) = subst (λ (x : System). IsBatch (record { system = x; base = base; lemmas = lemmas })) (sym e) b in
    let two : IsBatch (record { system = t; base = first; lemmas = lemmas }) = subst (λ (x : List Lemma). IsBatch (record { system = t; base = x; lemmas = lemmas })) (sym f) one in
    subst (λ (x : List Lemma). IsBatch (record { system = t; base = first; lemmas = x })) (sym g) two

-- the two parts of what was had
pub first-part : (base lemmas have : List Lemma) (n : ℕ) → have ≡ base ++ lemmas → n ≡ length base → take n have ≡ base
first-part base lemmas have n e l = rw (l, e) (take-append_seam base lemmas)

pub second-part : (base lemmas have : List Lemma) (n : ℕ) → have ≡ base ++ lemmas → n ≡ length base → drop n have ≡ lemmas
second-part base lemmas have n e l = rw (l, e) (drop-append_seam base lemmas)

pub parts-proved : (s : System) (base lemmas have : List Lemma) (n : ℕ) (proofs : List (List ℤ)) (o : Option (ℕ × ℕ)) → have ≡ base ++ lemmas → n ≡ length base → unproved (for_lemmas s have 0 (drop n have)) proofs ≡ o → unproved (obligations s base lemmas) proofs ≡ o
parts-proved s base lemmas have n proofs o e l h =
    let two : drop n have ≡ lemmas = second-part base lemmas have n e l in
    let one : unproved (for_lemmas s have 0 lemmas) proofs ≡ o = subst (λ (ls : List Lemma). unproved (for_lemmas s have 0 ls) proofs ≡ o) two h in
    subst (λ (ls : List Lemma). unproved (for_lemmas s ls 0 lemmas) proofs ≡ o) e one

-- what was tested is what is given
pub seen-proved : (s seen : System) (have slice : List Lemma) (n : ℕ) (proofs ps : List (List ℤ)) (o : Option (ℕ × ℕ)) → seen ≡ s → slice ≡ have → ps ≡ proofs → unproved (for_lemmas seen slice 0 (drop n slice)) ps ≡ o → unproved (for_lemmas s have 0 (drop n have)) proofs ≡ o
seen-proved s seen have slice n proofs ps o e f g h =
    let one : unproved (for_lemmas s slice 0 (drop n slice)) ps ≡ o = subst (λ (x : System). unproved (for_lemmas x slice 0 (drop n slice)) ps ≡ o) e h in
    let two : unproved (for_lemmas s have 0 (drop n have)) ps ≡ o = subst (λ (x : List Lemma). unproved (for_lemmas s x 0 (drop n x)) ps ≡ o) f one in
    subst (λ (x : List (List ℤ)). unproved (for_lemmas s have 0 (drop n have)) x ≡ o) g two

-- what a batch keeps
pub batch-kept : (s t : System) (base lemmas have first rest : List Lemma) (n : ℕ) (proofs : List (List ℤ)) → t ≡ s → have ≡ base ++ lemmas → n ≡ length base → first ≡ take n have → rest ≡ drop n have → well_made s ≡ true → list_all (of_system s) base ≡ true → list_all (of_system s) lemmas ≡ true → 1 ≤ length lemmas → length lemmas ≤ 1024 → unproved (for_lemmas s have 0 (drop n have)) proofs ≡ None → IsBatch (record { system = t; base = first; lemmas = rest })
batch-kept s t base lemmas have first rest n proofs same e l f r made base_of lemmas_of some few h =
    batch-same s t base lemmas first rest same (f ∙ first-part base lemmas have n e l) (r ∙ second-part base lemmas have n e l) (record {
      made = made;
      base_of = base_of;
      lemmas_of = lemmas_of;
      some = some;
      few = few;
      relative = unproved-relative s base lemmas proofs made (parts-proved s base lemmas have n proofs None e l h);
    })
