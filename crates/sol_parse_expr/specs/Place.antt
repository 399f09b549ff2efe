-- Places in a list of tokens.
use Rattle.std.specs.Prelude.{◌≡◌, ◌+◌, ◌-◌, ◌^◌, ◌⊎◌, ℕ, min, List, [], ◌∷◌}
use Rattle.sol_tree.specs.declared.token.Token.{Token}

-- where a token ends, as far as a place of 32 bits can tell
abbrev pub end_of : Token → ℕ
end_of t = min (t.at + t.len) (2 ^ 32 - 1)

-- where a token begins, or where the last one ends; 0 where there is none
abbrev pub IsPlace : ℕ → List Token → Type 0
IsPlace at [] = at ≡ 0
IsPlace at (t ∷ []) = (at ≡ t.at) ⊎ (at ≡ end_of t)
IsPlace at (t ∷ (u ∷ us)) = (at ≡ t.at) ⊎ IsPlace at (u ∷ us)
