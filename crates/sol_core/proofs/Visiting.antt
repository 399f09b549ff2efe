-- The visits of a call, of a reply and of lists of them; and the first fault of visits that follow others.
use Rattle.std.proofs.Common.{◌≡◌, ◌∙◌, sym, ap, refl, ℕ, zero, suc, ◌+◌, ◌<◌, ◌≤◌, List, [], ◌∷◌, ◌++◌, map, length, drop, get_or, length-append, Option, Some, None, arith}
use Rattle.std.proofs.Math.Seq.{drop-cons}
use Rattle.std.specs.Option.{option_or, option_map}
use Rattle.sol_core.specs.declared.program.Program.{Program}
use Rattle.sol_core.specs.declared.script.Call.{Call, out-Call}
use Rattle.sol_core.specs.declared.script.Call.TheFolds.{fold_out-Call}
use Rattle.sol_core.specs.declared.script.Reply.{Reply, out-Reply, fold_out-Reply}
use Rattle.sol_core.specs.declared.script_faults.ScriptFault.{ScriptFault}
use Rattle.sol_core.specs.Doors.{door, params_of}
use Rattle.sol_core.specs.ScriptFaults.{Visit, joined, call_step, reply_step, call_visits, reply_visits, visits_of, replies_visits, fault_for, first_fault}

pub visits-call : (p : Program) (c : Call) → call_visits p c ≡ record { types = option_map params_of (door p (out-Call c).fun); sender = (out-Call c).sender; args = (out-Call c).args } ∷ replies_visits p (out-Call c).replies
unfolding call_visits reply_visits
visits-call p c = fold_out-Call (List Visit) (List Visit) (call_step p) reply_step c

pub visits-reply : (p : Program) (r : Reply) → reply_visits p r ≡ visits_of p (out-Reply r).calls
unfolding call_visits reply_visits
visits-reply p r = fold_out-Reply (List Visit) (List Visit) (call_step p) reply_step r

fault-behind : (f : Option ScriptFault) (a b c : Option ScriptFault) → a ≡ option_or b c → option_or f a ≡ option_or (option_or f b) c
fault-behind None a b c h = h
fault-behind (Some e) a b c h = refl

-- the first fault of some visits is that of the first ones, else that of the others
pub fault-append : (at : ℕ) (xs ys : List Visit) → first_fault at (xs ++ ys) ≡ option_or (first_fault at xs) (first_fault (at + length xs) ys)
fault-append at [] ys = ap (λ n. first_fault n ys) (omega arith)
fault-append at (x ∷ xs) ys =
    let there : suc at + length xs ≡ at + suc (length xs) = omega arith in
    fault-behind (fault_for at x.types x.sender x.args) (first_fault (suc at) (xs ++ ys)) (first_fault (suc at) xs) (first_fault (at + suc (length xs)) ys) (fault-append (suc at) xs ys ∙ ap (λ n. option_or (first_fault (suc at) xs) (first_fault n ys)) there)

-- ---- lists of them, one after another

-- what stands in lists from an entry on
from-entry : {A : Type 0} (f : A → List Visit) (xs : List A) (i : ℕ) (x : A) → i < length xs → x ≡ get_or xs i x → joined (map f (drop i xs)) ≡ f x ++ joined (map f (drop (i + 1) xs))
from-entry f xs i x h e =
    let first : joined (map f (drop i xs)) ≡ f (get_or xs i x) ++ joined (map f (drop (suc i) xs)) = ap (λ ys. joined (map f ys)) (drop-cons xs i x h) in
    let is : f (get_or xs i x) ++ joined (map f (drop (suc i) xs)) ≡ f x ++ joined (map f (drop (suc i) xs)) = ap (λ y. f y ++ joined (map f (drop (suc i) xs))) (sym e) in
    let next : suc i ≡ i + 1 = omega arith in
    first ∙ is ∙ ap (λ n. f x ++ joined (map f (drop n xs))) next

-- a fault of an entry is the first one
pub stopped : {A : Type 0} (f : A → List Visit) (xs : List A) (i : ℕ) (x : A) (at : ℕ) (all : Option ScriptFault) (e : ScriptFault) → first_fault at (joined (map f (drop i xs))) ≡ all → i < length xs → x ≡ get_or xs i x → first_fault at (f x) ≡ Some e → all ≡ Some e
stopped f xs i x at all e h within is found = sym h ∙ ap (first_fault at) (from-entry f xs i x within is) ∙ fault-append at (f x) (joined (map f (drop (i + 1) xs))) ∙ ap (λ o. option_or o (first_fault (at + length (f x)) (joined (map f (drop (i + 1) xs))))) found

-- behind an entry without a fault the first one is that of what follows
pub behind-entry : {A : Type 0} (f : A → List Visit) (xs : List A) (i : ℕ) (x : A) (at new : ℕ) (all : Option ScriptFault) → first_fault at (joined (map f (drop i xs))) ≡ all → i < length xs → x ≡ get_or xs i x → first_fault at (f x) ≡ None → new ≡ at + length (f x) → first_fault new (joined (map f (drop (i + 1) xs))) ≡ all
behind-entry f xs i x at new all h within is none next =
    let rest : List Visit = joined (map f (drop (i + 1) xs)) in
    let both : first_fault at (joined (map f (drop i xs))) ≡ first_fault (at + length (f x)) rest =
    ap (first_fault at) (from-entry f xs i x within is) ∙ fault-append at (f x) rest ∙ ap (λ o. option_or o (first_fault (at + length (f x)) rest)) none in
    ap (λ n. first_fault n rest) next ∙ sym both ∙ h

pub count-behind : {A : Type 0} (f : A → List Visit) (xs : List A) (i : ℕ) (x : A) (at new total : ℕ) → at + length (joined (map f (drop i xs))) ≡ total → i < length xs → x ≡ get_or xs i x → new ≡ at + length (f x) → new + length (joined (map f (drop (i + 1) xs))) ≡ total
count-behind f xs i x at new total h within is next =
    let lengths : length (joined (map f (drop i xs))) ≡ length (f x) + length (joined (map f (drop (i + 1) xs))) = ap length (from-entry f xs i x within is) ∙ length-append (f x) (joined (map f (drop (i + 1) xs))) in
    omega arith

-- the calls in a call and in a reply are few where the call's and the reply's are
pub few-call : (p : Program) (c : Call) (at : ℕ) → at + length (call_visits p c) < 4294967296 → at + 1 + length (replies_visits p (out-Call c).replies) < 4294967296
few-call p c at h = let e : length (call_visits p c) ≡ suc (length (replies_visits p (out-Call c).replies)) = ap length (visits-call p c) in omega arith

pub few-reply : (p : Program) (r : Reply) (at : ℕ) → at + length (reply_visits p r) < 4294967296 → at + length (visits_of p (out-Reply r).calls) < 4294967296
few-reply p r at h = let e : length (reply_visits p r) ≡ length (visits_of p (out-Reply r).calls) = ap length (visits-reply p r) in omega arith

-- there are no more visits in a part than in the whole
pub fewer-in-entry : {A : Type 0} (f : A → List Visit) (xs : List A) (i : ℕ) (x : A) → i < length xs → x ≡ get_or xs i x → length (f x) ≤ length (joined (map f xs))
fewer-in-entry f [] i x h e = absurd (omega arith)
fewer-in-entry f (y ∷ ys) zero x h e = let l : length (f x) ≡ length (f y) = ap (λ z. length (f z)) e in let s : length (f y ++ joined (map f ys)) ≡ length (f y) + length (joined (map f ys)) = length-append (f y) (joined (map f ys)) in omega arith
fewer-in-entry f (y ∷ ys) (suc i) x h e = let l : length (f x) ≤ length (joined (map f ys)) = fewer-in-entry f ys i x (omega arith) e in let s : length (f y ++ joined (map f ys)) ≡ length (f y) + length (joined (map f ys)) = length-append (f y) (joined (map f ys)) in omega arith

pub fewer-in-call : (p : Program) (c : Call) → length (call_visits p c) ≡ suc (length (replies_visits p (out-Call c).replies))
fewer-in-call p c = ap length (visits-call p c)

pub fewer-in-reply : (p : Program) (r : Reply) → length (reply_visits p r) ≡ length (visits_of p (out-Reply r).calls)
fewer-in-reply p r = ap length (visits-reply p r)

pub few-entry : {A : Type 0} (f : A → List Visit) (xs : List A) (i : ℕ) (x : A) (at total : ℕ) → at + length (joined (map f (drop i xs))) ≡ total → total < 4294967296 → i < length xs → x ≡ get_or xs i x → at + length (f x) < 4294967296
few-entry f xs i x at total h few within is =
    let lengths : length (joined (map f (drop i xs))) ≡ length (f x) + length (joined (map f (drop (i + 1) xs))) = ap length (from-entry f xs i x within is) ∙ length-append (f x) (joined (map f (drop (i + 1) xs))) in
    omega arith

pub ruleset visiting = (visits-call, visits-reply, fault-append, stopped, behind-entry, count-behind, few-call, few-reply, few-entry, fewer-in-entry, fewer-in-call, fewer-in-reply)
