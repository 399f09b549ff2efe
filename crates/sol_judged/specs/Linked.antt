-- Members with the place of the last of each name, and of the one before each that has its name.
use Rattle.std.specs.Prelude.{◌≡◌, ◌≤◌, ℕ, zero, suc, List, length, Option, Some, None, Bool, false, bytes_eq, if◌then◌else◌, slice_get}
use Rattle.indexmap.specs.IndexMap.{IndexMap, get_by}
use denote.Ref.{Bor}
use Rattle.sol_judged.specs.declared.tables.Member.{Member}

abbrev pub has_name : Option Member → List ℕ → Bool
has_name None q = false
has_name (Some m) q = bytes_eq m.name.now q

-- the place of the last one of a name among so many members
unfoldable pub last_below : List Member → List ℕ → ℕ → Option ℕ
last_below ms q zero = None
last_below ms q (suc k) = if has_name (slice_get ms k) q then Some k else last_below ms q k

-- what a map has for a name
abbrev pub number_of : {S : Type 0} → IndexMap (Bor (List ℕ)) ℕ S → List ℕ → Option ℕ
number_of m q = get_by (λ k. bytes_eq q k.now) m

-- each of so many members has the place of the one before it that has its name
abbrev pub ArePrevious : List Member → List (Option ℕ) → ℕ → Type 0
ArePrevious ms previous n = (i : ℕ) (m : Member) → suc i ≤ n → slice_get ms i ≡ Some m → slice_get previous i ≡ Some (last_below ms m.name.now i)

pub record IsLinked {S : Type 0} (ms : List Member) (previous : List (Option ℕ)) (last : IndexMap (Bor (List ℕ)) ℕ S) : Type 0 where
  pub as_long : length previous ≡ length ms
  pub last_is : (q : List ℕ) → number_of last q ≡ last_below ms q (length ms)
  pub previous_are : ArePrevious ms previous (length ms)
