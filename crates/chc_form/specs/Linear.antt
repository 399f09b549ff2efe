-- What linear inequalities say, over whole numbers and over fractions. Each sum stands for "at most 0".
use Rattle.std.specs.Prelude.{ℕ, ◌<◌, ◌≢◌, List, [], ◌∷◌, map, pos, ◌+ℤ◌, ◌*ℤ◌, ◌≤ℤ◌}
use lib.IntN.{ℤ}
use Rattle.chc_form.specs.declared.linear.Lin.{Lin}
use Rattle.chc_form.specs.declared.linear.Row.{Row}

-- a sum of products at a valuation
abbrev pub sum_of : List (ℕ × ℤ) → (ℕ → ℤ) → ℤ
sum_of [] x = pos 0
sum_of (t ∷ ts) x = (t.1 *ℤ x t.0) +ℤ sum_of ts x

abbrev pub value_of : Lin → (ℕ → ℤ) → ℤ
value_of l x = sum_of l.terms x +ℤ l.konst

-- each sum is at most 0 at these whole numbers
abbrev pub Satisfies : List Lin → (ℕ → ℤ) → Type 0
Satisfies [] x = Unit {0}
Satisfies (l ∷ ls) x = (value_of l x ≤ℤ pos 0) × Satisfies ls x

-- no whole numbers satisfy the inequalities
abbrev pub Unsatisfiable : List Lin → Type 0
Unsatisfiable ls = (x : ℕ → ℤ) → Satisfies ls x → ⊥

-- each sum is at most 0 at these fractions: numerators x over one denominator d
abbrev pub FracSatisfies : List Lin → (ℕ → ℤ) → ℤ → Type 0
FracSatisfies [] x d = Unit {0}
FracSatisfies (l ∷ ls) x d = ((sum_of l.terms x +ℤ (l.konst *ℤ d)) ≤ℤ pos 0) × FracSatisfies ls x d

-- no fractions satisfy the inequalities
abbrev pub FracRefuted : List Lin → Type 0
FracRefuted ls = (x : ℕ → ℤ) (d : ℤ) → pos 1 ≤ℤ d → FracSatisfies ls x d → ⊥

-- variables ascend from a first one on, and no coefficient is 0
abbrev pub AscendFrom : ℕ → List (ℕ × ℤ) → Type 0
AscendFrom n [] = Unit {0}
AscendFrom n (t ∷ ts) = (n < t.0) × (t.1 ≢ pos 0) × AscendFrom t.0 ts

abbrev pub Ascend : List (ℕ × ℤ) → Type 0
Ascend [] = Unit {0}
Ascend (t ∷ ts) = (t.1 ≢ pos 0) × AscendFrom t.0 ts

-- each sum is in the order that a `Lin` is in
abbrev pub AllAscend : List Lin → Type 0
AllAscend [] = Unit {0}
AllAscend (l ∷ ls) = Ascend l.terms × AllAscend ls

-- the sums of rows
abbrev pub lins : List Row → List Lin
lins rows = map (λ r. r.lin) rows
