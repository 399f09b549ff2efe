-- The scripts that are tried on every program: first the deployments alone, then each deployment with each call after it,
-- by senders 1 and 2 and with corner values as arguments, the last argument the fastest; of all these the first 4,096.
use Rattle.std.specs.Prelude.{ℕ, ◌+◌, List, [], ◌∷◌, ◌++◌, map, take, Option, Some, None, slice_get, pos, Bool, if◌then◌else◌}
use Rattle.std.specs.List.{flat_map}
use lib.IntN.{ℤ}
use Rattle.std.specs.Ordering.{int_eq}
use Rattle.chc_nums.specs.declared.limits.TheConstants.{MAX_PROBES}
use Rattle.chc_nums.specs.declared.Ty.{Ty}
use Rattle.chc_nums.specs.Types.{least, greatest}
use Rattle.sol_core.specs.declared.Fun.{Fun}
use Rattle.sol_core.specs.declared.Program.{Program}
use Rattle.sol_core.specs.declared.Script.{Script}
use Rattle.sol_core.specs.declared.Call.{roll-Call}
use Rattle.sol_eval.specs.Sized.{type_sized}
use Rattle.sol_probe.specs.declared.calls.PlainCall.{PlainCall}

-- a value in front of others, unless it doubles one
abbrev pub unless : Bool → ℤ → List ℤ → List ℤ
unless doubled v vs = if doubled then vs else v ∷ vs

-- the least value of a type, 0, 1 and its greatest, each once; a type of a size that Solidity lacks has none
unfoldable pub corners : Ty → List ℤ
corners t = if type_sized t then unless (int_eq (least t) (pos 0)) (least t) (pos 0 ∷ unless (int_eq (greatest t) (pos 1)) (pos 1) (greatest t ∷ [])) else []

-- one more argument in front of others
abbrev pub fronted : List (List ℤ) → ℤ → List (List ℤ)
fronted rest v = map (λ vs. v ∷ vs) rest

-- the choices of arguments of types
unfoldable pub choices : List Ty → List (List ℤ)
choices [] = [] ∷ []
choices (t ∷ ts) = flat_map (fronted (choices ts)) (corners t)

unfoldable pub senders : List ℤ
senders = pos 1 ∷ pos 2 ∷ []

-- the deployments by a sender
abbrev pub deployed_by : List (List ℤ) → ℤ → List Script
deployed_by all sender = map (λ args. record { sender = sender; args = args; calls = [] }) all

unfoldable pub deployments : Program → List Script
deployments p = flat_map (deployed_by (choices p.params)) senders

-- the calls through a door by a sender
abbrev pub called_by : ℕ → List (List ℤ) → ℤ → List PlainCall
called_by d all sender = map (λ args. record { door = d; sender = sender; args = args }) all

-- the calls through a door; there is none where no function is behind it
unfoldable pub calls_of : ℕ → Option Fun → List PlainCall
calls_of d None = []
calls_of d (Some f) = flat_map (called_by d (choices (take f.params f.locals))) senders

-- the calls through doors with these functions, the first of which has this place
abbrev pub calls_from : Program → ℕ → List ℕ → List PlainCall
calls_from p d [] = []
calls_from p d (f ∷ fs) = calls_of d (slice_get p.funs f) ++ calls_from p (d + 1) fs

unfoldable pub calls : Program → List PlainCall
calls p = calls_from p 0 p.doors

-- a deployment with a call after it
abbrev pub with_call : Script → PlainCall → Script
with_call s c = record { sender = s.sender; args = s.args; calls = roll-Call (record { fun = c.door; sender = c.sender; args = c.args; replies = [] }) ∷ [] }

abbrev pub with_calls : List PlainCall → Script → List Script
with_calls cs s = map (with_call s) cs

unfoldable pub probes : Program → List Script
probes p = take MAX_PROBES (deployments p ++ flat_map (with_calls (calls p)) (deployments p))
