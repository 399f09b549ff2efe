-- Numbers that are counted in tails, and the tests that the counts answer.
use Rattle.std.proofs.Common.{◌≡◌, ◌∙◌, sym, refl, ℕ, ◌+◌, ◌<◌, ◌≤◌, List, [], ◌∷◌, ◌++◌, ◌==◌, Bool, true, false, not, ◌||◌, map, length, slice_index, slice_index_or, take, drop, ◌-◌, append_assoc, arith, if◌then◌else◌, Some}
use Rattle.std.specs.List.{list_any}
use Rattle.std.proofs.lemmas.Bool.Decides.{nat_tests}
use Rattle.std.proofs.lemmas.List.{map-append}
use Rattle.std.proofs.Math.Seq.{take-length}
use denote.Ref.{Bor}
use Rattle.sol_names.specs.Linearization.{is_behind, next_among, without_head}
use Rattle.sol_names.specs.Tails.{views, Below, AllBelow, times, times_behind, times_in_tails, AreTails}

-- ---- tests

either-first : (b c : Bool) (n : ℕ) → c ≡ not (n == 0) → (b || c) ≡ not (((if b then 1 else 0) + n) == 0)
either-first true c n e = let f : ((1 + n) == 0) ≡ false = grind (arith, nat_tests) in rw f refl
either-first false c n e = let f : 0 + n ≡ n = omega arith in rw f e

any-times : (u : ℕ) (xs : List ℕ) → list_any (λ y. y == u) xs ≡ not (times u xs == 0)
any-times u [] = refl
any-times u (x ∷ xs) = either-first (x == u) (list_any (λ y. y == u) xs) (times u xs) (any-times u xs)

any-behind : (u : ℕ) (l : List ℕ) → is_behind u l ≡ not (times_behind u l == 0)
any-behind u [] = refl
any-behind u (x ∷ xs) = any-times u xs

both-zero : (m n : ℕ) → (not (m == 0) || not (n == 0)) ≡ not ((m + n) == 0)
both-zero m n = grind (arith, nat_tests)

any-tails : (u : ℕ) (ls : List (List ℕ)) → list_any (is_behind u) ls ≡ not (times_in_tails u ls == 0)
any-tails u [] = refl
any-tails u (l ∷ ls) = rw (any-behind u l, any-tails u ls) (both-zero (times_behind u l) (times_in_tails u ls))

-- a number that is counted 0 times stands in no tail
pub free-none : (counts : List ℕ) (ls : List (List ℕ)) (u : ℕ) → AreTails counts ls → u < length counts → slice_index counts u ≡ 0 → list_any (is_behind u) ls ≡ false
free-none counts ls u h l e =
    let n : times_in_tails u ls ≡ 0 = sym (h u l) ∙ e in
    any-tails u ls ∙ rw n refl

pub taken-some : (counts : List ℕ) (ls : List (List ℕ)) (u : ℕ) → AreTails counts ls → u < length counts → (slice_index counts u ≡ 0 → ⊥) → list_any (is_behind u) ls ≡ true
taken-some counts ls u h l e =
    let n : times_in_tails u ls ≡ slice_index counts u = sym (h u l) in
    let f : (slice_index counts u == 0) ≡ false = grind (arith, nat_tests) in
    any-tails u ls ∙ rw (n, f) refl

-- ---- the first head that stands in no tail

-- the head of a list is counted 0 times
free-head : (all : List (List ℕ)) (counts : List ℕ) (l : List ℕ) (ls : List (List ℕ)) → AreTails counts all → Below (length counts) l → 1 ≤ length l → slice_index counts (slice_index l 0) ≡ 0 → next_among all (l ∷ ls) ≡ Some (slice_index l 0)
free-head all counts [] ls h b m e = absurd (omega arith)
free-head all counts (x ∷ xs) ls h b m e = let f : list_any (is_behind x) all ≡ false = free-none counts all x h b.0 e in rw f refl

-- it is counted more often
taken-head : (all : List (List ℕ)) (counts : List ℕ) (l : List ℕ) (ls : List (List ℕ)) → AreTails counts all → Below (length counts) l → 1 ≤ length l → (slice_index counts (slice_index l 0) ≡ 0 → ⊥) → next_among all (l ∷ ls) ≡ next_among all ls
taken-head all counts [] ls h b m e = refl
taken-head all counts (x ∷ xs) ls h b m e = let f : list_any (is_behind x) all ≡ true = taken-some counts all x h b.0 e in rw f refl

abbrev nothing : Bor (List ℕ)
nothing = record { ref_ptr = (0, 0); now = [] }

pub next-found : (all : List (List ℕ)) (counts : List ℕ) (rs : List (Bor (List ℕ))) → AreTails counts all → AllBelow (length counts) (views rs) → 1 ≤ length rs → 1 ≤ length (slice_index_or rs 0 nothing).now → slice_index counts (slice_index (slice_index_or rs 0 nothing).now 0) ≡ 0 → next_among all (views rs) ≡ Some (slice_index (slice_index_or rs 0 nothing).now 0)
next-found all counts [] h b m n e = absurd (omega arith)
next-found all counts (r ∷ rs) h b m n e = free-head all counts r.now (views rs) h b.0 n e

pub next-turn : (all : List (List ℕ)) (counts : List ℕ) (rs : List (Bor (List ℕ))) → AreTails counts all → AllBelow (length counts) (views rs) → 1 ≤ length rs → 1 ≤ length (slice_index_or rs 0 nothing).now → (slice_index counts (slice_index (slice_index_or rs 0 nothing).now 0) ≡ 0 → ⊥) → next_among all (views (take (length rs - 1) (drop 1 rs))) ≡ next_among all (views rs)
next-turn all counts [] h b m n e = absurd (omega arith)
next-turn all counts (r ∷ rs) h b m n e =
    let k : length (r ∷ rs) - 1 ≡ length rs = omega arith in
    rw (k, take-length rs) (sym (taken-head all counts r.now (views rs) h b.0 n e))

pub below-turn : (n : ℕ) (rs : List (Bor (List ℕ))) → 1 ≤ length rs → AllBelow n (views rs) → AllBelow n (views (take (length rs - 1) (drop 1 rs)))
below-turn n [] m b = absurd (omega arith)
below-turn n (r ∷ rs) m b =
    let k : length (r ∷ rs) - 1 ≡ length rs = omega arith in
    rw (k, take-length rs) b.1

-- ---- lists without a number at their heads

pub heads-turn : (h : ℕ) (left rs : List (Bor (List ℕ))) (r : Bor (List ℕ)) (whole : List (List ℕ)) → 1 ≤ length rs → r.now ≡ without_head h (slice_index_or rs 0 nothing).now → views left ++ map (without_head h) (views rs) ≡ whole → views (left ++ r ∷ []) ++ map (without_head h) (views (take (length rs - 1) (drop 1 rs))) ≡ whole
heads-turn h left [] r whole m e i = absurd (omega arith)
heads-turn h left (q ∷ rs) r whole m e i =
    let k : length (q ∷ rs) - 1 ≡ length rs = omega arith in
    let v : views (left ++ r ∷ []) ≡ views left ++ r.now ∷ [] = map-append (λ (s : Bor (List ℕ)). s.now) left (r ∷ []) in
    rw (k, take-length rs, v, e, append_assoc) i

times-append : (u : ℕ) (ls ms : List (List ℕ)) → times_in_tails u (ls ++ ms) ≡ times_in_tails u ls + times_in_tails u ms
times-append u [] ms = omega arith
times-append u (l ∷ ls) ms = omega (arith, times-append u ls ms)

pub counts-turn : (u n m : ℕ) (left rs : List (Bor (List ℕ))) (r : Bor (List ℕ)) → 1 ≤ length rs → n ≡ times_in_tails u (views left) + times_in_tails u (views rs) → m + times_behind u (slice_index_or rs 0 nothing).now ≡ n + times_behind u r.now → m ≡ times_in_tails u (views (left ++ r ∷ [])) + times_in_tails u (views (take (length rs - 1) (drop 1 rs)))
counts-turn u n m left [] r one e f = absurd (omega arith)
counts-turn u n m left (q ∷ rs) r one e f =
    let k : length (q ∷ rs) - 1 ≡ length rs = omega arith in
    let v : views (left ++ r ∷ []) ≡ views left ++ r.now ∷ [] = map-append (λ (s : Bor (List ℕ)). s.now) left (r ∷ []) in
    let t : times_in_tails u (views left ++ r.now ∷ []) ≡ times_in_tails u (views left) + (times_behind u r.now + 0) = times-append u (views left) (r.now ∷ []) in
    rw (k, take-length rs, v, t) (omega arith)
