-- Every probe fits its program.
use Rattle.std.proofs.Common.{◌≡◌, ◌∙◌, sym, refl, ap, subst, ℕ, zero, suc, ◌+◌, ◌-◌, ◌*◌, ◌^◌, ◌<◌, ◌≤◌, List, [], ◌∷◌, ◌++◌, length, get_or, take, map, Bool, true, false, not, ◌&&◌, cond, Option, Some, None, slice_get, pos, ◌≤ℤ◌, arith, Contains, add-zero}
use Rattle.std.specs.List.{flat_map, list_all}
use Rattle.std.specs.Ordering.{int_eq}
use Rattle.std.proofs.lemmas.Int.{ints}
use Rattle.std.proofs.Math.Pow.{pow_mono}
use Rattle.std.proofs.lemmas.Bool.{and_from}
use lib.IntN.{ℤ}
use lib.Signed.{lt_z}
use Rattle.chc_nums.specs.declared.Ty.{Ty}
use Rattle.chc_nums.specs.declared.Ty.TheVariants as ty
use Rattle.chc_nums.specs.Types.{IsType, least, greatest}
use Rattle.sol_core.specs.declared.Fun.{Fun}
use Rattle.sol_core.specs.declared.Program.{Program}
use Rattle.sol_core.specs.declared.Script.{Script}
use Rattle.sol_core.specs.declared.Call.{Call, roll-Call}
use Rattle.sol_core.specs.declared.Call.TheFolds.{fold-roll-Call}
use Rattle.sol_core.specs.Doors.{door, fun_at}
use Rattle.sol_core.specs.Values.{in_range, is_sender, takes, each}
use Rattle.sol_core.specs.Fits.{Fits, takes_args, call_fits}
use Rattle.sol_eval.specs.Sized.{type_sized}
use Rattle.sol_eval.proofs.Sizes.{type_size}
use Rattle.sol_probe.specs.declared.calls.PlainCall.{PlainCall}
use Rattle.sol_probe.specs.Probes.{unless, corners, fronted, choices, senders, deployed_by, deployments, called_by, calls_of, calls_from, calls, with_call, with_calls, probes}

-- what holds of each entry of a list
abbrev Each : {A : Type 0} → (A → Type 0) → List A → Type 0
Each P [] = Unit {0}
Each P (x ∷ xs) = P x × Each P xs

each-more : {A : Type 0} (P Q : A → Type 0) → ((x : A) → P x → Q x) → (xs : List A) → Each P xs → Each Q xs
each-more P Q f [] h = tt
each-more P Q f (x ∷ xs) h = (f x h.0, each-more P Q f xs h.1)

each-append : {A : Type 0} (P : A → Type 0) (xs ys : List A) → Each P xs → Each P ys → Each P (xs ++ ys)
each-append P [] ys h g = g
each-append P (x ∷ xs) ys h g = (h.0, each-append P xs ys h.1 g)

each-map : {A B : Type 0} (P : B → Type 0) (f : A → B) (xs : List A) → Each (λ x. P (f x)) xs → Each P (map f xs)
each-map P f [] h = tt
each-map P f (x ∷ xs) h = (h.0, each-map P f xs h.1)

each-flat_map : {A B : Type 0} (P : B → Type 0) (f : A → List B) (xs : List A) → Each (λ x. Each P (f x)) xs → Each P (flat_map f xs)
each-flat_map P f [] h = tt
each-flat_map P f (x ∷ xs) h = each-append P (f x) (flat_map f xs) h.0 (each-flat_map P f xs h.1)

each-take : {A : Type 0} (P : A → Type 0) (n : ℕ) (xs : List A) → Each P xs → Each P (take n xs)
each-take P zero xs h = tt
each-take P (suc n) [] h = tt
each-take P (suc n) (x ∷ xs) h = (h.0, each-take P n xs h.1)

each-at : {A : Type 0} (P : A → Type 0) (xs : List A) (k : ℕ) (d : A) → k < length xs → Each P xs → P (get_or xs k d)
each-at P [] k d i h = absurd (omega arith)
each-at P (x ∷ xs) zero d i h = h.0
each-at P (x ∷ xs) (suc k) d i h = let below : k < length xs = omega arith in each-at P xs k d below h.1

each-held : {A : Type 0} (P : A → Type 0) (xs : List A) (x : A) → Each P xs → Contains xs x → P x
each-held P xs x h i = subst P i.2 (each-at P xs i.0 x i.1 h)

-- corner values lie in their types
not-below : (a b : ℤ) → b ≤ℤ a → not (lt_z a b) ≡ true
not-below a b h = grind (arith, ints)

least-zero : (t : Ty) → IsType t → least t ≤ℤ pos 0
least-zero ty.Bool h = omega (arith, ints)
least-zero (ty.Uint s) h = omega (arith, ints)
least-zero (ty.Int s) h = omega (arith, ints)
least-zero ty.Addr h = omega (arith, ints)

greatest-one : (t : Ty) → IsType t → pos 1 ≤ℤ greatest t
greatest-one ty.Bool h = omega (arith, ints)
greatest-one (ty.Uint s) h = let p : 2 ^ 1 ≤ 2 ^ (8 * s) = pow_mono {i = 1} {j = 8 * s} (omega arith) in omega (arith, ints)
greatest-one (ty.Int s) h = let p : 2 ^ 1 ≤ 2 ^ (8 * s - 1) = pow_mono {i = 1} {j = 8 * s - 1} (omega arith) in omega (arith, ints)
greatest-one ty.Addr h = omega (arith, ints)

between : (t : Ty) (v : ℤ) → least t ≤ℤ v → v ≤ℤ greatest t → in_range t v ≡ true
between t v l g = and_from (not (lt_z v (least t))) (not (lt_z (greatest t) v)) (not-below v (least t) l) (not-below (greatest t) v g)

each-unless : (P : ℤ → Type 0) (b : Bool) (v : ℤ) (vs : List ℤ) → P v → Each P vs → Each P (unless b v vs)
each-unless P true v vs h g = g
each-unless P false v vs h g = (h, g)

corners-of : (t : Ty) (b : Bool) → type_sized t ≡ b → Each (λ v. in_range t v ≡ true) (cond b (unless (int_eq (least t) (pos 0)) (least t) (pos 0 ∷ unless (int_eq (greatest t) (pos 1)) (pos 1) (greatest t ∷ []))) [])
corners-of t false e = tt
corners-of t true e =
    let P : ℤ → Type 0 = λ v. in_range t v ≡ true in
    let size : IsType t = type_size t e in
    let low : least t ≤ℤ pos 0 = least-zero t size in
    let high : pos 1 ≤ℤ greatest t = greatest-one t size in
    let at_least : P (least t) = between t (least t) (omega (arith, ints)) (omega (arith, ints)) in
    let at_zero : P (pos 0) = between t (pos 0) low (omega (arith, ints)) in
    let at_one : P (pos 1) = between t (pos 1) (omega (arith, ints)) high in
    let at_greatest : P (greatest t) = between t (greatest t) (omega (arith, ints)) (omega (arith, ints)) in
    each-unless P (int_eq (least t) (pos 0)) (least t) (pos 0 ∷ unless (int_eq (greatest t) (pos 1)) (pos 1) (greatest t ∷ [])) at_least
    (at_zero, each-unless P (int_eq (greatest t) (pos 1)) (pos 1) (greatest t ∷ []) at_one (at_greatest, tt))

corners-fit : (t : Ty) → Each (λ v. in_range t v ≡ true) (corners t)
unfolding corners
corners-fit t = corners-of t (type_sized t) refl

-- choices of arguments fit the types
choices-fit : (ts : List Ty) → Each (λ vs. takes ts vs ≡ true) (choices ts)
unfolding choices
choices-fit [] = (refl, tt)
choices-fit (t ∷ ts) =
    let P : List ℤ → Type 0 = λ vs. takes (t ∷ ts) vs ≡ true in
    let front : (v : ℤ) → in_range t v ≡ true → Each P (fronted (choices ts) v) =
    λ v h. each-map P (λ vs. v ∷ vs) (choices ts) (each-more (λ vs. takes ts vs ≡ true) (λ vs. takes (t ∷ ts) (v ∷ vs) ≡ true) (λ vs g. and_from (in_range t v) (takes ts vs) h g) (choices ts) (choices-fit ts)) in
    each-flat_map P (fronted (choices ts)) (corners t) (each-more (λ v. in_range t v ≡ true) (λ v. Each P (fronted (choices ts) v)) front (corners t) (corners-fit t))

senders-fit : Each (λ s. is_sender s ≡ true) senders
unfolding senders
senders-fit = (refl, (refl, tt))

-- what is made by both senders
by-senders : {A B : Type 0} (P : A → Type 0) (Q : B → Type 0) (f : List A → ℤ → List B) → ((s : ℤ) (xs : List A) → is_sender s ≡ true → Each P xs → Each Q (f xs s)) → (xs : List A) → Each P xs → Each Q (flat_map (f xs) senders)
by-senders P Q f h xs g = each-flat_map Q (f xs) senders (each-more (λ s. is_sender s ≡ true) (λ s. Each Q (f xs s)) (λ s i. h s xs i g) senders senders-fit)

-- a deployment that fits
record Deploys (p : Program) (s : Script) : Type 0 where
  args : takes p.params s.args ≡ true
  sender : is_sender s.sender ≡ true
  alone : s.calls ≡ []

deployments-fit : (p : Program) → Each (Deploys p) (deployments p)
unfolding deployments
deployments-fit p =
    by-senders (λ vs. takes p.params vs ≡ true) (Deploys p) deployed_by
    (λ s cs i g. each-map (Deploys p) (λ args. record { sender = s; args = args; calls = [] }) cs
    (each-more (λ vs. takes p.params vs ≡ true) (λ vs. Deploys p (record { sender = s; args = vs; calls = [] })) (λ vs h. record { args = h; sender = i; alone = refl }) cs g))
    (choices p.params) (choices-fit p.params)

-- a call that fits
record Calls (p : Program) (c : PlainCall) : Type 0 where
  args : takes_args (door p c.door) c.args ≡ true
  sender : is_sender c.sender ≡ true

calls_of-fit : (p : Program) (d : ℕ) (o : Option Fun) → door p d ≡ o → Each (Calls p) (calls_of d o)
unfolding calls_of
calls_of-fit p d None e = tt
calls_of-fit p d (Some f) e =
    let T : List ℤ → Type 0 = λ vs. takes (take f.params f.locals) vs ≡ true in
    let fits : (vs : List ℤ) → T vs → takes_args (door p d) vs ≡ true = λ vs h. ap (λ (o : Option Fun). takes_args o vs) e ∙ h in
    by-senders T (Calls p) (called_by d)
    (λ s cs i g. each-map (Calls p) (λ args. record { door = d; sender = s; args = args }) cs
    (each-more T (λ vs. Calls p (record { door = d; sender = s; args = vs })) (λ vs h. record { args = fits vs h; sender = i }) cs g))
    (choices (take f.params f.locals)) (choices-fit (take f.params f.locals))

calls_from-fit : (p : Program) (d : ℕ) (fs : List ℕ) → ((k : ℕ) → slice_get fs k ≡ slice_get p.doors (d + k)) → Each (Calls p) (calls_from p d fs)
calls_from-fit p d [] h = tt
calls_from-fit p d (f ∷ fs) h =
    let here : slice_get p.doors d ≡ Some f = rw add-zero at (sym (h 0)) in
    let behind : door p d ≡ slice_get p.funs f = ap (fun_at p) here in
    each-append (Calls p) (calls_of d (slice_get p.funs f)) (calls_from p (d + 1) fs) (calls_of-fit p d (slice_get p.funs f) behind)
    (calls_from-fit p (d + 1) fs (λ k. let next : d + 1 + k ≡ d + suc k = omega arith in h (suc k) ∙ ap (slice_get p.doors) (sym next)))

calls-fit : (p : Program) → Each (Calls p) (calls p)
unfolding calls
calls-fit p = calls_from-fit p 0 p.doors (λ k. let same : 0 + k ≡ k = omega arith in ap (slice_get p.doors) (sym same))

called-fits : (p : Program) (c : PlainCall) → Calls p c → call_fits p (roll-Call (record { fun = c.door; sender = c.sender; args = c.args; replies = [] })) ≡ true
called-fits p c h =
    fold-roll-Call Bool Bool (λ d. takes_args (door p d.fun) d.args && is_sender d.sender && each d.replies) (λ r. each r.calls) (record { fun = c.door; sender = c.sender; args = c.args; replies = [] })
    ∙ and_from (takes_args (door p c.door) c.args && is_sender c.sender) true (and_from (takes_args (door p c.door) c.args) (is_sender c.sender) h.args h.sender) refl

alone-fits : (p : Program) (s : Script) → Deploys p s → Fits p s
alone-fits p s h =
    let none : list_all (call_fits p) s.calls ≡ true = ap (λ (cs : List Call). list_all (call_fits p) cs) h.alone in
    and_from (takes p.params s.args && is_sender s.sender) (list_all (call_fits p) s.calls) (and_from (takes p.params s.args) (is_sender s.sender) h.args h.sender) none

with_call-fits : (p : Program) (s : Script) (c : PlainCall) → Deploys p s → Calls p c → Fits p (with_call s c)
with_call-fits p s c h g =
    and_from (takes p.params s.args && is_sender s.sender) (list_all (call_fits p) (with_call s c).calls) (and_from (takes p.params s.args) (is_sender s.sender) h.args h.sender)
    (and_from (call_fits p (roll-Call (record { fun = c.door; sender = c.sender; args = c.args; replies = [] }))) true (called-fits p c g) refl)

all-fit : (p : Program) → Each (Fits p) (probes p)
unfolding probes
all-fit p =
    each-take (Fits p) 4096 (deployments p ++ flat_map (with_calls (calls p)) (deployments p))
    (each-append (Fits p) (deployments p) (flat_map (with_calls (calls p)) (deployments p))
    (each-more (Deploys p) (Fits p) (alone-fits p) (deployments p) (deployments-fit p))
    (each-flat_map (Fits p) (with_calls (calls p)) (deployments p)
    (each-more (Deploys p) (λ s. Each (Fits p) (with_calls (calls p) s))
    (λ s h. each-map (Fits p) (with_call s) (calls p) (each-more (Calls p) (λ c. Fits p (with_call s c)) (λ c g. with_call-fits p s c h g) (calls p) (calls-fit p)))
    (deployments p) (deployments-fit p))))

pub probes-fit : (p : Program) (s : Script) → Contains (probes p) s → Fits p s
probes-fit p s i = each-held (Fits p) (probes p) s (all-fit p) i

pub probes_fit : (p : Program) (s : Script) → Contains (probes p) s → Fits p s
probes_fit p s i = probes-fit p s i
