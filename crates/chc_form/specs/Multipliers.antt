-- Multipliers that refute linear inequalities: Farkas' lemma, in the direction that a checker needs.
use Rattle.std.specs.Prelude.{◌≡◌, ℕ, List, [], ◌∷◌, length, pos, ◌+ℤ◌, ◌*ℤ◌, ◌≤ℤ◌, ◌<ℤ◌, ◌==◌, if◌then◌else◌}
use lib.IntN.{ℤ}
use Rattle.chc_form.specs.declared.linear.Lin.{Lin}

-- a variable's coefficient, 0 where it doesn't stand in the sum
abbrev pub coef : List (ℕ × ℤ) → ℕ → ℤ
coef [] v = pos 0
coef (t ∷ ts) v = (if t.0 == v then t.1 else pos 0) +ℤ coef ts v

-- the sum of numbers of the inequalities, each times its multiplier
abbrev pub weighted : (Lin → ℤ) → List ℤ → List Lin → ℤ
weighted f [] ls = pos 0
weighted f (m ∷ ms) [] = pos 0
weighted f (m ∷ ms) (l ∷ ls) = (m *ℤ f l) +ℤ weighted f ms ls

abbrev pub NoneNegative : List ℤ → Type 0
NoneNegative [] = Unit {0}
NoneNegative (m ∷ ms) = (pos 0 ≤ℤ m) × NoneNegative ms

-- one multiplier per inequality, none negative; the weighted sum has no variable and a constant above 0, and so says
-- that a number above 0 is at most 0
pub record Refutes (ms : List ℤ) (ls : List Lin) : Type 0 where
  pub count : length ms ≡ length ls
  pub signs : NoneNegative ms
  pub gone : (v : ℕ) → weighted (λ l. coef l.terms v) ms ls ≡ pos 0
  pub above : pos 0 <ℤ weighted (λ l. l.konst) ms ls
