use Rattle.std.proofs.Common.{ℕ, List, ◌≡◌, ◌∙◌, sym, subst, Contains}
use lib.Dec.{eqb}
use Rattle.std.specs.Prelude.{◌↔◌}
use Rattle.std.specs.List.{dedup}
use Rattle.std.specs.List.Sorted.{IsPermutation, IsStrictlyIncreasing}
use Rattle.std.proofs.lemmas.Map.Keys.{IsStrictlyIncreasing-dedup}
use Rattle.std.proofs.lemmas.List.Kept.{Contains-dedup_nat, Contains-from_dedup}
use Rattle.std.proofs.lemmas.List.Filters.{dedup_is}
use Rattle.std.proofs.lemmas.List.Sorted.{Contains-permutation, IsPermutation-sym}
use Rattle.sol_eval.proofs.hits.ascending.Goals as goal

pub returns-clause-ascending : goal.returns-clause-ascending
returns-clause-ascending c =
    let sorted : List ℕ = c.sort.new.self.items in
    let e : c.from_vec.result ≡ dedup eqb sorted = c.from_vec.ensures ∙ dedup_is eqb sorted _ c.dedup.ensures.filtered in
    let P : List ℕ → Type 0 = λ xs. IsStrictlyIncreasing xs in
    subst P (sym e) (IsStrictlyIncreasing-dedup sorted c.in_ok-sort.ensures.sorted)

pub returns-clause-same : goal.returns-clause-same
returns-clause-same c =
    let all : List ℕ = c.args.all in
    let sorted : List ℕ = c.sort.new.self.items in
    let e : c.from_vec.result ≡ dedup eqb sorted = c.from_vec.ensures ∙ dedup_is eqb sorted _ c.dedup.ensures.filtered in
    let p : IsPermutation all sorted = rw c.into_vec-all.ensures at c.sort.ensures.permutation in
    let P : List ℕ → Type 0 = λ xs. (t : ℕ) → Contains xs t ↔ Contains all t in
    subst P (sym e) (λ t. (
      λ h. Contains-permutation sorted all t (IsPermutation-sym all sorted p) (Contains-from_dedup eqb sorted t h),
      λ h. Contains-dedup_nat sorted t (Contains-permutation all sorted t p h),
    ))
