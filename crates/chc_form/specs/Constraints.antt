-- What a constraint says at values, over exact whole numbers. Quotients are truncated towards 0, as Solidity's are.
use Rattle.std.specs.Prelude.{◌≡◌, ◌≢◌, List, [], ◌∷◌, map, pos, ◌*ℤ◌, ◌≤ℤ◌, int_div, int_rem, Option, Some, None, slice_get}
use lib.IntN.{ℤ}
use Rattle.chc_form.specs.declared.linear.Lin.{Lin}
use Rattle.chc_form.specs.declared.system.Sort.{Sort}
use Rattle.chc_form.specs.declared.system.Sort.TheVariants as sort
use Rattle.chc_form.specs.declared.system.Con.{Con}
use Rattle.chc_form.specs.declared.system.Con.TheVariants as con
use Rattle.chc_form.specs.Linear.{value_of}
use Rattle.chc_form.specs.Valuations.{Valuation, KeysFit}

-- the numbers of keys
abbrev pub keys_at : Valuation → List Lin → List ℤ
keys_at v ks = map (λ k. value_of k v.number) ks

-- these are keys of the mapping, each in its type
abbrev pub AreKeys : Option Sort → List ℤ → Type 0
AreKeys None ks = ⊥
AreKeys (Some (sort.Whole t)) ks = ⊥
AreKeys (Some sort.Free) ks = ⊥
AreKeys (Some (sort.Map types value)) ks = KeysFit types ks

-- the first mapping is the second with a number at some keys
pub record IsStored (new old : List ℤ → ℤ) (keys : List ℤ) (n : ℤ) : Type 0 where
  pub there : new keys ≡ n
  pub elsewhere : (ks : List ℤ) → ks ≢ keys → new ks ≡ old ks

-- the constraint is true
abbrev pub ConAt : List Sort → Valuation → Con → Type 0
ConAt sorts v (con.Le l) = value_of l v.number ≤ℤ pos 0
ConAt sorts v (con.Differ l) = value_of l v.number ≢ pos 0
ConAt sorts v (con.Mul a b w) = v.number w ≡ value_of a v.number *ℤ value_of b v.number
ConAt sorts v (con.Div a b q) = (value_of b v.number ≢ pos 0) × (v.number q ≡ int_div (value_of a v.number) (value_of b v.number))
ConAt sorts v (con.Rem a b r) = (value_of b v.number ≢ pos 0) × (v.number r ≡ int_rem (value_of a v.number) (value_of b v.number))
ConAt sorts v (con.Sel m ks x) = AreKeys (slice_get sorts m) (keys_at v ks) × (v.number x ≡ v.mapping m (keys_at v ks))
ConAt sorts v (con.Sto n m ks e) = AreKeys (slice_get sorts m) (keys_at v ks) × IsStored (v.mapping n) (v.mapping m) (keys_at v ks) (value_of e v.number)
ConAt sorts v (con.Zero m) = (ks : List ℤ) → v.mapping m ks ≡ pos 0

-- all constraints are true
abbrev pub ConsAt : List Sort → Valuation → List Con → Type 0
ConsAt sorts v [] = Unit {0}
ConsAt sorts v (c ∷ cs) = ConAt sorts v c × ConsAt sorts v cs
