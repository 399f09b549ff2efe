-- Atoms that hold under lists of lemmas one after another, and a batch that joins lemmas that solve a system.
use Rattle.std.proofs.Common.{◌≡◌, subst, sym, List, [], ◌∷◌, ◌++◌, arith}
use Rattle.std.specs.List.{Contains}
use Rattle.std.proofs.lemmas.List.Elements.{Contains-get_or, Contains-append_right}
use Rattle.chc_form.specs.declared.system.App.{App}
use Rattle.chc_form.specs.declared.system.System.{System}
use Rattle.chc_form.specs.declared.lemma.Lemma.{Lemma}
use Rattle.chc_form.specs.Valuations.{Valuation, at_atom}
use Rattle.chc_form.specs.Lemmas.{LemmaAt, AtomHolds, AtomsHold}
use Rattle.chc_form.specs.Solving.{BodyHolds, Solves, Relative}

-- ---- an atom under lists one after another

pub atom-first : (ls ms : List Lemma) (v : Valuation) (a : App) → AtomHolds (ls ++ ms) v a → AtomHolds ls v a
atom-first [] ms v a h = tt
atom-first (l ∷ ls) ms v a h = (h.0, atom-first ls ms v a h.1)

pub atom-second : (ls ms : List Lemma) (v : Valuation) (a : App) → AtomHolds (ls ++ ms) v a → AtomHolds ms v a
atom-second [] ms v a h = h
atom-second (l ∷ ls) ms v a h = atom-second ls ms v a h.1

pub atom-both : (ls ms : List Lemma) (v : Valuation) (a : App) → AtomHolds ls v a → AtomHolds ms v a → AtomHolds (ls ++ ms) v a
atom-both [] ms v a h k = k
atom-both (l ∷ ls) ms v a h k = (h.0, atom-both ls ms v a h.1 k)

pub atoms-first : (ls ms : List Lemma) (v : Valuation) (body : List App) → AtomsHold (ls ++ ms) v body → AtomsHold ls v body
atoms-first ls ms v [] h = tt
atoms-first ls ms v (a ∷ more) h = (atom-first ls ms v a h.0, atoms-first ls ms v more h.1)

pub atoms-second : (ls ms : List Lemma) (v : Valuation) (body : List App) → AtomsHold (ls ++ ms) v body → AtomsHold ms v body
atoms-second ls ms v [] h = tt
atoms-second ls ms v (a ∷ more) h = (atom-second ls ms v a h.0, atoms-second ls ms v more h.1)

pub atoms-both : (ls ms : List Lemma) (v : Valuation) (body : List App) → AtomsHold ls v body → AtomsHold ms v body → AtomsHold (ls ++ ms) v body
atoms-both ls ms v [] h k = tt
atoms-both ls ms v (a ∷ more) h k = (atom-both ls ms v a h.0 k.0, atoms-both ls ms v more h.1 k.1)

-- ---- an atom under each lemma

pub atom-from_each : (ls : List Lemma) (v : Valuation) (a : App) → ((l : Lemma) → Contains ls l → l.pred ≡ a.pred → LemmaAt (at_atom v a) l) → AtomHolds ls v a
atom-from_each [] v a h = tt
atom-from_each (l ∷ ls) v a h = (h l (Contains-get_or (l ∷ ls) 0 l (omega arith)), atom-from_each ls v a (λ m i. h m (Contains-append_right (l ∷ []) ls m i)))

-- ---- joining

joined-at : (s : System) (base more batch : List Lemma) → Solves s (base ++ more) → Relative s base batch → Solves s ((base ++ more) ++ batch)
joined-at s base more batch solves relative r i v body =
    let old : AtomsHold (base ++ more) v r.body = atoms-first (base ++ more) batch v r.body body.atoms in
    let new : AtomsHold batch v r.body = atoms-second (base ++ more) batch v r.body body.atoms in
    let both : AtomsHold (base ++ batch) v r.body = atoms-both base batch v r.body (atoms-first base more v r.body old) new in
    let before : BodyHolds (base ++ more) r v = record { sorts = body.sorts; atoms = old; constraints = body.constraints } in
    let beside : BodyHolds (base ++ batch) r v = record { sorts = body.sorts; atoms = both; constraints = body.constraints } in
    atom-both (base ++ more) batch v r.head (solves r i v before) (atom-from_each batch v r.head (λ l j e. relative r i l j e v beside))

-- a batch that is relative to a prefix of lemmas that solve joins them
pub joined : (s : System) (lemmas base more batch : List Lemma) → lemmas ≡ base ++ more → Solves s lemmas → Relative s base batch → Solves s (lemmas ++ batch)
joined s lemmas base more batch e solves relative =
    let solved : Solves s (base ++ more) = subst (λ (ls : List Lemma). Solves s ls) e solves in
    subst (λ (ls : List Lemma). Solves s (ls ++ batch)) (sym e) (joined-at s base more batch solved relative)
