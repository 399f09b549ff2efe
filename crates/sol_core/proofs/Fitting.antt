-- A script fits exactly where none of its visits has a fault.
use Rattle.std.proofs.Common.{◌≡◌, ◌∙◌, sym, ap, subst, refl, ℕ, zero, suc, List, [], ◌∷◌, ◌++◌, map, length, Bool, true, false, not, ◌&&◌, ◌==◌, Option, Some, None, if◌then◌else◌, pos, ◌↔◌, arith}
use Rattle.std.proofs.lemmas.Int.{ints}
use Rattle.std.specs.Option.{option_or, option_map}
use Rattle.std.specs.List.{list_all}
use Rattle.std.specs.Ordering.{int_eq}
use Rattle.std.proofs.lemmas.Bool.{and_parts, and_from}
use Rattle.std.proofs.lemmas.Bool.Decides.{nat_tests}
use Rattle.std.proofs.lemmas.List.Folds.{list_all-append}
use lib.IntN.{ℤ}
use Rattle.chc_nums.specs.declared.Ty.{Ty}
use Rattle.sol_core.specs.declared.program.Fun.{Fun}
use Rattle.sol_core.specs.declared.program.Program.{Program}
use Rattle.sol_core.specs.declared.script.Script.{Script}
use Rattle.sol_core.specs.declared.script.Call.{Call, Call-F, out-Call, roll-Call, map-Call}
use Rattle.sol_core.specs.declared.script.Call.TheFolds.{fold-Call, fold-roll-Call, ind-Call}
use Rattle.sol_core.specs.declared.script.Reply.{Reply, Reply-F, out-Reply, roll-Reply, map-Reply, fold-Reply, fold-roll-Reply}
use Rattle.sol_core.specs.declared.script_faults.ScriptFault.{ScriptFault}
use Rattle.sol_core.specs.Values.{is_sender, in_range, takes, each}
use Rattle.sol_core.specs.Doors.{door, params_of}
use Rattle.sol_core.specs.Fits.{Fits, takes_args, call_fits}
use Rattle.sol_core.specs.ScriptFaults.{Visit, joined, call_step, reply_step, call_visits, reply_visits, visits_of, replies_visits, fault_with, fault_for, first_fault, visits}

-- ---- one visit

abbrev takes_types : Option (List Ty) → List ℤ → Bool
takes_types None args = false
takes_types (Some ts) args = takes ts args

abbrev visit_fits : Visit → Bool
visit_fits v = takes_types v.types v.args && is_sender v.sender

not-zero : (s : ℤ) → is_sender s ≡ true → int_eq s (pos 0) ≡ false
not-zero s h = grind (arith, ints)

as-many : (ts : List Ty) (args : List ℤ) → takes ts args ≡ true → length args ≡ length ts
as-many [] [] h = refl
as-many [] (z ∷ zs) h = absurd (cc)
as-many (t ∷ ts) [] h = absurd (cc)
as-many (t ∷ ts) (z ∷ zs) h = ap suc (as-many ts zs (and_parts (in_range t z) (takes ts zs) h).1)

none-holds : (z l f : Bool) (a b c : ScriptFault) → (if z then Some a else (if not l then Some b else (if f then None else Some c))) ≡ None → f ≡ true
none-holds true l f a b c h = absurd (cc)
none-holds false false f a b c h = absurd (cc)
none-holds false true true a b c h = refl
none-holds false true false a b c h = absurd (cc)

holds-none : (z l f : Bool) (a b c : ScriptFault) → z ≡ false → l ≡ true → f ≡ true → (if z then Some a else (if not l then Some b else (if f then None else Some c))) ≡ None
holds-none false true true a b c x y w = refl
holds-none true l f a b c x y w = absurd (cc)
holds-none false false f a b c x y w = absurd (cc)
holds-none false true false a b c x y w = absurd (cc)

faultless : (at : ℕ) (ts : Option (List Ty)) (s : ℤ) (args : List ℤ) → fault_for at ts s args ≡ None → (takes_types ts args && is_sender s) ≡ true
faultless at None s args h = absurd (cc)
faultless at (Some ts) s args h = let f = and_parts (is_sender s) (takes ts args) (none-holds (int_eq s (pos 0)) (length args == length ts) (is_sender s && takes ts args) _ _ _ h) in and_from (takes ts args) (is_sender s) f.1 f.0

fits-faultless : (at : ℕ) (ts : Option (List Ty)) (s : ℤ) (args : List ℤ) → (takes_types ts args && is_sender s) ≡ true → fault_for at ts s args ≡ None
fits-faultless at None s args h = absurd (cc)
fits-faultless at (Some ts) s args h =
    let f = and_parts (takes ts args) (is_sender s) h in
    let same : length args ≡ length ts = as-many ts args f.0 in
    let many : (length args == length ts) ≡ true = grind (arith, nat_tests) in
    holds-none (int_eq s (pos 0)) (length args == length ts) (is_sender s && takes ts args) _ _ _ (not-zero s f.1) many (and_from (is_sender s) (takes ts args) f.1 f.0)

-- ---- lists of visits

none-first : (f g : Option ScriptFault) → option_or f g ≡ None → (f ≡ None) × (g ≡ None)
none-first None g h = (refl, h)
none-first (Some e) g h = absurd (cc)

none-all : (at : ℕ) (vs : List Visit) → first_fault at vs ≡ None → list_all visit_fits vs ≡ true
none-all at [] h = refl
none-all at (v ∷ vs) h = let q = none-first (fault_for at v.types v.sender v.args) (first_fault (suc at) vs) h in and_from (visit_fits v) (list_all visit_fits vs) (faultless at v.types v.sender v.args q.0) (none-all (suc at) vs q.1)

all-none : (at : ℕ) (vs : List Visit) → list_all visit_fits vs ≡ true → first_fault at vs ≡ None
all-none at [] h = refl
all-none at (v ∷ vs) h = let q = and_parts (visit_fits v) (list_all visit_fits vs) h in ap (λ o. option_or o (first_fault (suc at) vs)) (fits-faultless at v.types v.sender v.args q.0) ∙ all-none (suc at) vs q.1

-- ---- calls and replies

both : {a b c d : Bool} → a ≡ b → c ≡ d → (a && c) ≡ (b && d)
both {a} {b} {c} {d} e f = ap (λ x. x && c) e ∙ ap (λ x. b && x) f

same-types : (f : Option Fun) (args : List ℤ) → takes_args f args ≡ takes_types (option_map params_of f) args
same-types None args = refl
same-types (Some f) args = refl

module _ (p : Program) where
  abbrev fits_step : Call-F Bool Bool → Bool
  fits_step d = takes_args (door p d.fun) d.args && is_sender d.sender && each d.replies

  abbrev reply_fits : Reply → Bool
  reply_fits r = fold-Reply Bool Bool fits_step (λ r. each r.calls) r

  abbrev CallGood : Call → Type 0
  CallGood c = call_fits p c ≡ list_all visit_fits (call_visits p c)

  abbrev ReplyGood : Reply → Type 0
  ReplyGood r = reply_fits r ≡ list_all visit_fits (reply_visits p r)

  replies-good : (rs : List ((r : Reply) × ReplyGood r)) → each (map reply_fits (map (λ r. r.0) rs)) ≡ list_all visit_fits (replies_visits p (map (λ r. r.0) rs))
  replies-good [] = refl
  replies-good (r ∷ rs) = both r.1 (replies-good rs) ∙ sym (list_all-append visit_fits (reply_visits p r.0) (replies_visits p (map (λ r. r.0) rs)))

  calls-good : (cs : List ((c : Call) × CallGood c)) → each (map (call_fits p) (map (λ c. c.0) cs)) ≡ list_all visit_fits (visits_of p (map (λ c. c.0) cs))
  calls-good [] = refl
  calls-good (c ∷ cs) = both c.1 (calls-good cs) ∙ sym (list_all-append visit_fits (call_visits p c.0) (visits_of p (map (λ c. c.0) cs)))

  call-layer : (y : Call-F ((c : Call) × CallGood c) ((r : Reply) × ReplyGood r)) → CallGood (roll-Call (map-Call ((c : Call) × CallGood c) ((r : Reply) × ReplyGood r) Call Reply (λ e. e.0) (λ e. e.0) y))
  unfolding call_visits reply_visits
  call-layer y =
      let x : Call-F Call Reply = map-Call ((c : Call) × CallGood c) ((r : Reply) × ReplyGood r) Call Reply (λ e. e.0) (λ e. e.0) y in
      fold-roll-Call Bool Bool fits_step (λ r. each r.calls) x ∙ both (ap (λ b. b && is_sender y.sender) (same-types (door p y.fun) y.args)) (replies-good y.replies) ∙ sym (ap (list_all visit_fits) (fold-roll-Call (List Visit) (List Visit) (call_step p) reply_step x))

  reply-layer : (y : Reply-F ((c : Call) × CallGood c) ((r : Reply) × ReplyGood r)) → ReplyGood (roll-Reply (map-Reply ((c : Call) × CallGood c) ((r : Reply) × ReplyGood r) Call Reply (λ e. e.0) (λ e. e.0) y))
  unfolding call_visits reply_visits
  reply-layer y =
      let x : Reply-F Call Reply = map-Reply ((c : Call) × CallGood c) ((r : Reply) × ReplyGood r) Call Reply (λ e. e.0) (λ e. e.0) y in
      fold-roll-Reply Bool Bool fits_step (λ r. each r.calls) x ∙ calls-good y.calls ∙ sym (ap (list_all visit_fits) (fold-roll-Reply (List Visit) (List Visit) (call_step p) reply_step x))

  call-good : (c : Call) → CallGood c
  call-good = ind-Call CallGood ReplyGood (λ x y is. subst (λ z. CallGood (roll-Call z)) is (call-layer y)) (λ x y is. subst (λ z. ReplyGood (roll-Reply z)) is (reply-layer y))

  all-good : (cs : List Call) → list_all (call_fits p) cs ≡ list_all visit_fits (visits_of p cs)
  all-good [] = refl
  all-good (c ∷ cs) = both (call-good c) (all-good cs) ∙ sym (list_all-append visit_fits (call_visits p c) (visits_of p cs))

  whole : (s : Script) → (takes p.params s.args && is_sender s.sender && list_all (call_fits p) s.calls) ≡ list_all visit_fits (visits p s)
  whole s = ap (λ b. (takes p.params s.args && is_sender s.sender) && b) (all-good s.calls)

  pub fits_where : (s : Script) → Fits p s ↔ (first_fault 0 (visits p s) ≡ None)
  fits_where s = (λ h. all-none 0 (visits p s) (sym (whole s) ∙ h), λ h. whole s ∙ none-all 0 (visits p s) h)
