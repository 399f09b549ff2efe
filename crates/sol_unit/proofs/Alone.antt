-- A fault of one unit is one of all.
use Rattle.std.proofs.Common.{◌≡◌, ◌∙◌, sym, ap, ℕ, suc, ◌<◌, List, ◌∷◌, map, drop, length, get_or, drop-cons}
use Rattle.sol_tree.specs.declared.file.Unit as units
use Rattle.sol_judged.specs.declared.fault.TypeFault.{TypeFault}
use Rattle.sol_judged.specs.declared.tables.Declared.{Declared}
use Rattle.sol_judged.specs.Judged.{IsFault}
use Rattle.sol_judged.proofs.Faults.{IsFault-front}
use Rattle.sol_stated.specs.Checks.{Check, all_checks}
use Rattle.sol_unit.specs.declared.scenes.Shared.{Shared}
use Rattle.sol_unit.specs.Judging.{judge_alone, judge_all_alone, judge_own, judge_all_own}

pub alone_stopped : (all : Check) (d : Declared) (u i : ℕ) (xs : List units.Unit) (x : units.Unit) (e : TypeFault) → all ≡ judge_all_alone d u (drop i xs) → i < length xs → x ≡ get_or xs i x → IsFault (judge_alone d u x).faults e → IsFault all.faults e
alone_stopped all d u i xs x e h k q f =
    let t = drop-cons xs i x k ∙ ap (λ (y : units.Unit). y ∷ drop (suc i) xs) (sym q) in
    rw (h, t) (IsFault-front e _ _ f)

pub own_stopped : (all : Check) (us : List units.Unit) (s : Shared) (lineage : List ℕ) (u i : ℕ) (xs : List units.Unit) (x : units.Unit) (e : TypeFault) → all ≡ judge_all_own us s lineage u (drop i xs) → i < length xs → x ≡ get_or xs i x → IsFault (judge_own us s lineage u x).faults e → IsFault all.faults e
own_stopped all us s lineage u i xs x e h k q f =
    let t = drop-cons xs i x k ∙ ap (λ (y : units.Unit). y ∷ drop (suc i) xs) (sym q) in
    rw (h, t) (IsFault-front e _ _ f)

pub place_stopped : (all : Check) (f : ℕ → Check) (i : ℕ) (us : List ℕ) (e : TypeFault) → all ≡ all_checks (map f (drop i us)) → i < length us → IsFault (f (get_or us i 0)).faults e → IsFault all.faults e
place_stopped all f i us e h k q =
    let t = ap (map f) (drop-cons us i 0 k) in
    rw (h, t) (IsFault-front e _ _ q)

pub ruleset places = (place_stopped)

pub ruleset alone = (alone_stopped)

pub ruleset own = (own_stopped)
