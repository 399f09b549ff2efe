-- What was written, part after part.
use Rattle.std.proofs.Common.{◌≡◌, ◌≢◌, ◌∙◌, sym, ap, refl, ℕ, zero, suc, ◌+◌, ◌-◌, ◌≤◌, List, [], ◌++◌, length, take, drop, Option, Some, None, Ok, append_assoc, append-nil, length-drop, arith}
use Rattle.std.proofs.lemmas.List.{take_rest}
use Rattle.std.proofs.Math.Seq.{take-add}
use Rattle.sol_outside.specs.Causes.{Appended}
use Rattle.sol_outside.specs.Parts.{Counts, WritesPart}

pub appended-nothing : (old : Option (List ℕ)) → Appended old old []
appended-nothing None = refl
appended-nothing (Some w) = ap Some (sym (append-nil w))

pub appended-then : (a b c : Option (List ℕ)) (xs ys : List ℕ) → Appended a b xs → Appended b c ys → Appended a c (xs ++ ys)
appended-then None None c xs ys h k = k
appended-then None (Some v) c xs ys h k = absurd (cc)
appended-then (Some w) None c xs ys h k = absurd (cc)
appended-then (Some w) (Some v) c xs ys h k =
    let e : v ≡ w ++ xs = cc in
    k ∙ ap (λ (v : List ℕ). Some (v ++ ys)) e ∙ ap Some (append_assoc w xs ys)

-- one write more: what it took stands after what was taken before
pub appended-more : (a b c : Option (List ℕ)) (whole : List ℕ) (done n : ℕ) → Appended a b (take done whole) → Appended b c (take n (drop done whole)) → Appended a c (take (done + n) whole)
appended-more a b c whole done n h k = rw (take-add done n whole) (appended-then a b c (take done whole) (take n (drop done whole)) h k)

pub counts-some : (n before now : ℕ) → n ≢ 0 → Counts n before now → now ≡ before
counts-some zero before now h k = absurd (h refl)
counts-some (suc n) before now h k = k

pub writes-on : (before mid now : ℕ) (a b c : Option (List ℕ)) (whole : List ℕ) (done n : ℕ) → n ≢ 0 → mid ≡ before → done ≤ length whole → Appended a b (take done whole) → WritesPart mid now b c (take (length whole - done) (drop done whole)) (Ok n) → (now ≡ before) × (done + n ≤ length whole) × Appended a c (take (done + n) whole)
writes-on before mid now a b c whole done n some same within h k =
    let part : take (length whole - done) (drop done whole) ≡ drop done whole = take_rest whole done in
    let fits : n ≤ length (drop done whole) = rw part at k.0 in
    let took : Appended b c (take n (drop done whole)) = rw part at k.1 in
    (counts-some n mid now some k.2 ∙ same, omega (arith, fits, length-drop done whole, within), appended-more a b c whole done n h took)

pub ruleset writing = (writes-on)
