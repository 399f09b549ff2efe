-- The kept lemmas can be a batch, and the pool that they join is the first one.
use Rattle.std.proofs.Common.{◌≡◌, refl, ◌≤◌, List, [], ◌∷◌, length, arith}
use Rattle.chc_form.specs.declared.System.{System}
use Rattle.chc_form.specs.declared.Lemma.{Lemma}
use Rattle.pool_state.specs.Content.{Fits, joined_to}
use Rattle.sol_check.specs.Reports.{first_content}

pub nothing_fits : (s : System) (ls : List Lemma) → Fits (record { system = s; batches = []; lemmas = [] }) (record { system = s; base = []; lemmas = ls })
nothing_fits s ls = record { same = refl; rest = []; prefix = refl }

pub first_joined : (s : System) (ls : List Lemma) → 1 ≤ length ls → joined_to (record { system = s; batches = []; lemmas = [] }) 0 (record { system = s; base = []; lemmas = ls }) ≡ first_content s ls
first_joined s [] h = absurd (omega arith)
first_joined s (l ∷ ls) h = refl

pub first_nothing : (s : System) → (record { system = s; batches = []; lemmas = [] }) ≡ first_content s []
first_nothing s = refl

pub ruleset pools = (nothing_fits, first_joined, first_nothing)
