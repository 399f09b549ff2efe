-- What is made of lists that were cut off after 4,096 entries has the same first 4,096 entries.
use Rattle.std.proofs.Common.{◌≡◌, ◌∙◌, sym, refl, ap, ℕ, List, [], ◌∷◌, ◌++◌, take, pos, Some, None, arith}
use Rattle.std.specs.List.{flat_map}
use lib.IntN.{ℤ}
use Rattle.chc_nums.specs.declared.Ty.{Ty}
use Rattle.sol_core.specs.declared.Fun.{Fun}
use Rattle.sol_core.specs.declared.Program.{Program}
use Rattle.sol_core.specs.declared.Script.{Script}
use Rattle.sol_probe.specs.declared.calls.PlainCall.{PlainCall}
use Rattle.sol_probe.specs.Filled.{filled}
use Rattle.sol_probe.specs.Probes.{fronted, corners, choices, senders, deployed_by, deployments, called_by, calls_of, calls_from, calls, with_call, with_calls, probes}
use Rattle.sol_probe.proofs.Filling.{filled-none, filled-more, filled-start, filled-map-cut, filled-each, take-joined, take-rows}

pub choices-none : take 4096 (choices []) ≡ [] ∷ []
unfolding choices
choices-none = refl

pub choices-more : (t : Ty) (ts : List Ty) → take 4096 (choices (t ∷ ts)) ≡ take 4096 (flat_map (fronted (take 4096 (choices ts))) (corners t))
unfolding choices
choices-more t ts =
    let cut : filled [] (flat_map (fronted (take 4096 (choices ts))) (corners t)) ≡ filled [] (flat_map (fronted (choices ts)) (corners t)) =
    filled-each (fronted (take 4096 (choices ts))) (fronted (choices ts)) (λ x all. filled-map-cut (λ (zs : List ℤ). x ∷ zs) all (choices ts)) [] (corners t) in
    sym (filled-start (flat_map (fronted (choices ts)) (corners t))) ∙ sym cut ∙ filled-start (flat_map (fronted (take 4096 (choices ts))) (corners t))

pub ruleset choosing = (choices-none, choices-more)

-- what two senders fill up
two-senders : {B : Type 0} (f : List (List ℤ) → ℤ → List B) → ((cs : List (List ℤ)) (s : ℤ) (all : List B) → filled all (f (take 4096 cs) s) ≡ filled all (f cs s)) → (cs : List (List ℤ)) (all : List B) → filled (filled all (f (take 4096 cs) (pos 1))) (f (take 4096 cs) (pos 2)) ≡ filled all (flat_map (f cs) senders)
unfolding senders
two-senders {B = B} f h cs all =
    ap (λ (zs : List B). filled zs (f (take 4096 cs) (pos 2))) (h cs (pos 1) all) ∙ h cs (pos 2) (filled all (f cs (pos 1))) ∙ sym (filled-none (filled (filled all (f cs (pos 1))) (f cs (pos 2)))) ∙ filled-more (filled all (f cs (pos 1))) (f cs (pos 2)) [] ∙ filled-more all (f cs (pos 1)) (f cs (pos 2) ++ [])

pub deployments_made : (p : Program) → take 4096 (deployments p) ≡ filled (filled [] (deployed_by (take 4096 (choices p.params)) (pos 1))) (deployed_by (take 4096 (choices p.params)) (pos 2))
unfolding deployments
deployments_made p = sym (two-senders deployed_by (λ ds s all. filled-map-cut (λ (args : List ℤ). record { sender = s; args = args; calls = [] }) all ds) (choices p.params) [] ∙ filled-start (flat_map (deployed_by (choices p.params)) senders))

pub calls_of-none : (d : ℕ) (all : List PlainCall) → filled all (calls_of d None) ≡ all
unfolding calls_of
calls_of-none d all = filled-none all

pub calls_of-some : (d : ℕ) (f : Fun) (all : List PlainCall) → filled all (calls_of d (Some f)) ≡ filled (filled all (called_by d (take 4096 (choices (take f.params f.locals))) (pos 1))) (called_by d (take 4096 (choices (take f.params f.locals))) (pos 2))
unfolding calls_of
calls_of-some d f all = sym (two-senders (called_by d) (λ ds s all. filled-map-cut (λ (args : List ℤ). record { door = d; sender = s; args = args }) all ds) (choices (take f.params f.locals)) all)

pub calls-made : (p : Program) → take 4096 (calls p) ≡ filled [] (calls_from p 0 p.doors)
unfolding calls
calls-made p = sym (filled-start (calls_from p 0 p.doors))

pub ruleset calling = (calls_of-none, calls_of-some, calls-made)

-- scripts with no call have none at all
no-rows : (xs : List Script) → flat_map (with_calls []) xs ≡ []
no-rows [] = refl
no-rows (x ∷ xs) = no-rows xs

rows-cut : (cs : List PlainCall) (xs : List Script) → take 4096 (flat_map (with_calls cs) (take 4096 xs)) ≡ take 4096 (flat_map (with_calls cs) xs)
rows-cut [] xs = rw (no-rows (take 4096 xs), no-rows xs) refl
rows-cut (c ∷ cs) xs = take-rows (with_calls (c ∷ cs)) (λ s. omega arith) 4096 4096 xs (omega arith)

called-cut : (cs : List PlainCall) (xs : List Script) → take 4096 (flat_map (with_calls (take 4096 cs)) xs) ≡ take 4096 (flat_map (with_calls cs) xs)
called-cut cs xs = sym (filled-start (flat_map (with_calls (take 4096 cs)) xs)) ∙ filled-each (with_calls (take 4096 cs)) (with_calls cs) (λ s all. filled-map-cut (with_call s) all cs) [] xs ∙ filled-start (flat_map (with_calls cs) xs)

pub probes_made : (p : Program) → probes p ≡ take 4096 (take 4096 (deployments p) ++ take 4096 (flat_map (with_calls (take 4096 (calls p))) (take 4096 (deployments p))))
unfolding probes
probes_made p =
    let second : take 4096 (flat_map (with_calls (take 4096 (calls p))) (take 4096 (deployments p))) ≡ take 4096 (flat_map (with_calls (calls p)) (deployments p)) =
    called-cut (calls p) (take 4096 (deployments p)) ∙ rows-cut (calls p) (deployments p) in
    rw second (sym (take-joined 4096 (deployments p) (flat_map (with_calls (calls p)) (deployments p))))
