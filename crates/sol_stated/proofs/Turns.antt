-- A fault that a loop has come to is one of all.
use Rattle.std.proofs.Common.{◌≡◌, ◌∙◌, sym, ap, ℕ, suc, ◌<◌, List, ◌∷◌, map, drop, length, get_or, drop-cons}
use Rattle.sol_tree.specs.declared.file.Param.{Param}
use Rattle.sol_judged.specs.declared.fault.TypeFault.{TypeFault}
use Rattle.sol_judged.specs.Judged.{Judged, IsFault}
use Rattle.sol_judged.proofs.Faults.{IsFault-front}
use Rattle.sol_stated.specs.declared.scope.Scope.{Scope}
use Rattle.sol_stated.specs.Checks.{Check, all_checks}
use Rattle.sol_stated.specs.Contexts.{Context}
use Rattle.sol_stated.specs.Bodies.{param, params}

pub check_stopped : {X : Type 0} (all : Check) (f : X → Check) (i : ℕ) (xs : List X) (x : X) (e : TypeFault) → all ≡ all_checks (map f (drop i xs)) → i < length xs → x ≡ get_or xs i x → IsFault (f x).faults e → IsFault all.faults e
check_stopped {X} all f i xs x e h k q p =
    let d = ap (map f) (drop-cons xs i x k) ∙ ap (λ (y : X). f y ∷ map f (drop (suc i) xs)) (sym q) in
    rw (h, d) (IsFault-front e _ _ p)

pub ruleset checks = (check_stopped)

pub params_stopped : (all : Judged Scope) (c : Context) (i : ℕ) (ps : List Param) (p : Param) (w : Scope) (e : TypeFault) → all ≡ params c (drop i ps) w → i < length ps → p ≡ get_or ps i p → IsFault (param c p w).faults e → IsFault all.faults e
params_stopped all c i ps p w e h k q f =
    let d = drop-cons ps i p k ∙ ap (λ (x : Param). x ∷ drop (suc i) ps) (sym q) in
    rw (h, d) (IsFault-front e _ _ f)

pub ruleset params_in_turn = (params_stopped)
