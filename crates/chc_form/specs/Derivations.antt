-- What the rules of a system derive.
use Rattle.std.specs.Prelude.{◌≡◌, ◌<◌, ℕ, List, [], ◌∷◌, length, Some, slice_get}
use Rattle.std.specs.List.{Contains}
use lib.IntN.{ℤ}
use Rattle.chc_form.specs.declared.system.App.{App}
use Rattle.chc_form.specs.declared.system.Rule.{Rule}
use Rattle.chc_form.specs.declared.system.Query.{Query}
use Rattle.chc_form.specs.declared.system.System.{System}
use Rattle.chc_form.specs.Valuations.{Valuation, HasSorts, at_atom}
use Rattle.chc_form.specs.Constraints.{ConsAt}

-- two values agree at the places of so many arguments
pub record Agree (count : ℕ) (v w : Valuation) : Type 0 where
  pub numbers : (j : ℕ) → j < count → v.number j ≡ w.number j
  pub mappings : (j : ℕ) → j < count → (ks : List ℤ) → v.mapping j ks ≡ w.mapping j ks

mutual
  -- a predicate is derived at values: by a rule whose head has them, whose constraints are true, and whose body is derived
  pub data Derived (s : System) : ℕ → Valuation → Type 0 where
    by_rule : {r : Rule} {v w : Valuation} → Contains s.rules r → HasSorts v r.vars → ConsAt r.vars v r.cons → AllDerived s v r.body → Agree (length r.head.args) (at_atom v r.head) w → Derived s r.head.pred w

  -- each atom is derived at its values
  pub data AllDerived (s : System) : Valuation → List App → Type 0 where
    none : {v : Valuation} → AllDerived s v []
    more : {v : Valuation} {a : App} {rest : List App} → Derived s a.pred (at_atom v a) → AllDerived s v rest → AllDerived s v (a ∷ rest)

-- some values make a query's constraints true, and its body is derived at them
abbrev pub Derivable : System → ℕ → Type 0
Derivable s t = (q : Query) × (v : Valuation) × (slice_get s.queries t ≡ Some q) × HasSorts v q.vars × ConsAt q.vars v q.cons × AllDerived s v q.body
