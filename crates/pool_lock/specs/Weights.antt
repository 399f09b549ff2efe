-- Sums over lists.
use Rattle.std.specs.Prelude.{◌≡◌, ℕ, zero, suc, ◌+◌, List, [], ◌∷◌}

-- the weights of the entries, added up
abbrev pub weigh : {A : Type 0} → (A → ℕ) → List A → ℕ
weigh h [] = 0
weigh h (x ∷ xs) = h x + weigh h xs

-- so many numbers, from one on
abbrev pub upto : ℕ → ℕ → List ℕ
upto k zero = []
upto k (suc n) = k ∷ upto (k + 1) n

-- the numbers are those below n, each once: they weigh as much, however numbers are weighed
abbrev pub AreBelow : ℕ → List ℕ → Type 0
AreBelow n xs = (h : ℕ → ℕ) → weigh h xs ≡ weigh h (upto 0 n)
