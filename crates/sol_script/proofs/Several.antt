-- Numbers read one after another.
use Rattle.std.proofs.Common.{◌≡◌, ◌∙◌, refl, sym, ap, ℕ, suc, List, [], ◌∷◌, ◌++◌, length, Option, Some, None}
use Rattle.std.proofs.lemmas.List.{append_assoc, append-nil}
use lib.IntN.{ℤ}
use Rattle.sol_script.specs.Lines.{before_numbers}

-- some numbers before others, where there are others
abbrev pub onto : List ℤ → Option (List ℤ) → Option (List ℤ)
onto ns None = None
onto ns (Some ms) = Some (ns ++ ms)

pub onto-nothing : (o : Option (List ℤ)) → o ≡ onto [] o
onto-nothing None = refl
onto-nothing (Some ns) = refl

pub onto-next : (ns : List ℤ) (n : ℤ) (o : Option (List ℤ)) → onto ns (before_numbers (Some n) o) ≡ onto (ns ++ n ∷ []) o
onto-next ns n None = refl
onto-next ns n (Some ms) = ap Some (sym (append_assoc ns (n ∷ []) ms))

pub onto-end : (ns : List ℤ) → onto ns (Some []) ≡ Some ns
onto-end ns = ap Some (append-nil ns)

-- how much of a text is left, where there is one
abbrev pub size_left : Option (List ℕ) → ℕ
size_left None = 0
size_left (Some text) = suc (length text)

pub ruleset several = (onto-nothing, onto-next, onto-end)
