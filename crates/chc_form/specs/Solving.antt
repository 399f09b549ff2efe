-- Lemmas that solve a system of Horn rules, and queries that they refute.
use Rattle.std.specs.Prelude.{◌≡◌, ℕ, List, ◌++◌, Some, slice_get}
use Rattle.std.specs.List.{Contains}
use Rattle.chc_form.specs.declared.system.Rule.{Rule}
use Rattle.chc_form.specs.declared.system.Query.{Query}
use Rattle.chc_form.specs.declared.system.System.{System}
use Rattle.chc_form.specs.declared.lemma.Lemma.{Lemma}
use Rattle.chc_form.specs.Valuations.{Valuation, HasSorts, at_atom}
use Rattle.chc_form.specs.Constraints.{ConsAt}
use Rattle.chc_form.specs.Lemmas.{LemmaAt, AtomHolds, AtomsHold}

-- the values make the constraints of a rule true, and its body holds under the lemmas
pub record BodyHolds (ls : List Lemma) (r : Rule) (v : Valuation) : Type 0 where
  pub sorts : HasSorts v r.vars
  pub atoms : AtomsHold ls v r.body
  pub constraints : ConsAt r.vars v r.cons

-- the same of a query
pub record QueryHolds (ls : List Lemma) (q : Query) (v : Valuation) : Type 0 where
  pub sorts : HasSorts v q.vars
  pub atoms : AtomsHold ls v q.body
  pub constraints : ConsAt q.vars v q.cons

-- where a rule's body holds under the lemmas, its head does
abbrev pub RuleSolved : List Lemma → Rule → Type 0
RuleSolved ls r = (v : Valuation) → BodyHolds ls r v → AtomHolds ls v r.head

-- the lemmas solve the rules
abbrev pub Solves : System → List Lemma → Type 0
Solves s ls = (r : Rule) → Contains s.rules r → RuleSolved ls r

-- no values make the query of this number hold under the lemmas
abbrev pub Refutes : System → ℕ → List Lemma → Type 0
Refutes s t ls = (q : Query) → slice_get s.queries t ≡ Some q → (v : Valuation) → QueryHolds ls q v → ⊥

-- where a rule's body holds under the base and the batch, each lemma of the batch on the head's predicate is true there
abbrev pub Relative : System → List Lemma → List Lemma → Type 0
Relative s base batch = (r : Rule) → Contains s.rules r → (l : Lemma) → Contains batch l → l.pred ≡ r.head.pred → (v : Valuation) → BodyHolds (base ++ batch) r v → LemmaAt (at_atom v r.head) l
