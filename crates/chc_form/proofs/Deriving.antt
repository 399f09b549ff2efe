-- Lemmas that solve a system are true of what it derives.
use Rattle.std.proofs.Common.{◌≡◌, ◌∙◌, subst, ap, ℕ, List, [], ◌∷◌, length, true}
use Rattle.std.specs.Prelude.{Option, Some, slice_get}
use Rattle.std.specs.List.{list_all}
use Rattle.std.proofs.lemmas.Bool.{and_parts}
use Rattle.chc_form.specs.declared.system.Sort.{Sort}
use Rattle.chc_form.specs.declared.system.App.{App}
use Rattle.chc_form.specs.declared.system.System.{System}
use Rattle.chc_form.specs.declared.lemma.Lemma.{Lemma}
use Rattle.chc_form.specs.Valuations.{Valuation, at_atom}
use Rattle.chc_form.specs.Lemmas.{LemmaAt, AtomHolds, AtomsHold}
use Rattle.chc_form.specs.Solving.{BodyHolds, Solves, Refutes}
use Rattle.chc_form.specs.Derivations.{Agree, Derived, AllDerived, by_rule, none, more, Derivable}
use Rattle.chc_form.specs.WellMade.{is_lemma_of, well_made, of_system}
use Rattle.chc_form.proofs.Passing.{rule-made, rule-head, atom-places}
use Rattle.chc_form.proofs.Agreeing.{lemma-same}

-- the lemmas on a predicate are true at values
abbrev TrueAt : List Lemma → ℕ → Valuation → Type 0
TrueAt [] p w = Unit {0}
TrueAt (l ∷ ls) p w = (l.pred ≡ p → LemmaAt w l) × TrueAt ls p w

atom-true : (ls : List Lemma) (v : Valuation) (a : App) → TrueAt ls a.pred (at_atom v a) → AtomHolds ls v a
atom-true [] v a h = tt
atom-true (l ∷ ls) v a h = (h.0, atom-true ls v a h.1)

lemma-on : (s : System) (l : Lemma) (p : ℕ) (places : List Sort) → of_system s l ≡ true → slice_get s.preds p ≡ Some places → l.pred ≡ p → is_lemma_of (Some places) l ≡ true
unfolding of_system
lemma-on s l p places h e same = subst (λ (o : Option (List Sort)). is_lemma_of o l ≡ true) (ap (λ (q : ℕ). slice_get s.preds q) same ∙ e) h

head-true : (s : System) (ls : List Lemma) (v w : Valuation) (a : App) (places : List Sort) → list_all (of_system s) ls ≡ true → slice_get s.preds a.pred ≡ Some places → length places ≡ length a.args → Agree (length a.args) (at_atom v a) w → AtomHolds ls v a → TrueAt ls a.pred w
head-true s [] v w a places all e size same h = tt
head-true s (l ∷ ls) v w a places all e size same h =
    let both = and_parts (of_system s l) (list_all (of_system s) ls) all in (
      λ on. lemma-same (length a.args) (at_atom v a) w same places size l (lemma-on s l a.pred places both.0 e on) (h.0 on),
      head-true s ls v w a places both.1 e size same h.1,
    )

mutual
  derived-true : (s : System) (ls : List Lemma) → well_made s ≡ true → list_all (of_system s) ls ≡ true → Solves s ls → {p : ℕ} {w : Valuation} → Derived s p w → TrueAt ls p w
  derived-true s ls made all solves (by_rule {r} {v} {w} i sorts cons body same) =
      let head = atom-places s.preds r.vars r.head (rule-head s.preds r (rule-made s r made i)) in
      let holds : BodyHolds ls r v = record { sorts = sorts; atoms = body-true s ls made all solves body; constraints = cons } in
      head-true s ls v w r.head head.0 all head.1 head.2 same (solves r i v holds)

  body-true : (s : System) (ls : List Lemma) → well_made s ≡ true → list_all (of_system s) ls ≡ true → Solves s ls → {v : Valuation} {body : List App} → AllDerived s v body → AtomsHold ls v body
  body-true s ls made all solves none = tt
  body-true s ls made all solves (more {v} {a} {rest} d ds) = (atom-true ls v a (derived-true s ls made all solves d), body-true s ls made all solves ds)

-- what is derived is not refuted
pub derived-not_refuted : (s : System) (t : ℕ) (lemmas : List Lemma) → well_made s ≡ true → list_all (of_system s) lemmas ≡ true → Derivable s t → Solves s lemmas → Refutes s t lemmas → ⊥
derived-not_refuted s t lemmas made all d solves refutes =
    refutes d.0 d.2 d.1 (record { sorts = d.3; atoms = body-true s lemmas made all solves d.5; constraints = d.4 })
