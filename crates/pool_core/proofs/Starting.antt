-- When lemmas begin with others.
use Rattle.std.proofs.Common.{◌≡◌, ◌∙◌, sym, ap, List, ◌++◌, length, take, drop, arith}
use Rattle.std.proofs.Math.Seq.{take-length}
use Rattle.std.proofs.lemmas.List.{take-append-le, take-append-drop}
use Rattle.chc_form.specs.declared.lemma.Lemma.{Lemma}
use Rattle.pool_lock.specs.Entries.{StartsWith}

pub front-taken : (ls fs : List Lemma) → take (length fs) ls ≡ fs → StartsWith ls fs
front-taken ls fs h = (drop (length fs) ls, sym (take-append-drop (length fs) ls) ∙ ap (λ (xs : List Lemma). xs ++ drop (length fs) ls) h)

pub taken-front : (ls fs : List Lemma) → StartsWith ls fs → take (length fs) ls ≡ fs
taken-front ls fs s = ap (take (length fs)) s.1 ∙ take-append-le (length fs) fs s.0 (omega arith) ∙ take-length fs
