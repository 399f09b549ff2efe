-- Counts of items that hold nothing.
use Rattle.std.proofs.Common.{◌≡◌, ℕ, suc, List, [], ◌∷◌, ◌++◌, length, refl, ap}
use Rattle.pool_bench.specs.Rows.{items_by}

pub count : (ks : List ℕ) → length (items_by ks) ≡ length ks
count [] = refl
count (k ∷ ks) = ap suc (count ks)

pub one-more : (ks : List ℕ) (k : ℕ) → items_by (ks ++ k ∷ []) ≡ items_by ks ++ (k, tt) ∷ []
one-more [] k = refl
one-more (j ∷ ks) k = ap (λ (xs : List (ℕ × Unit {0})). (j, tt) ∷ xs) (one-more ks k)

pub ruleset counts = (count, one-more)
