-- Why a script doesn't fit a program: the first of its visits that breaks a rule, and the first rule that it breaks.
use Rattle.std.specs.Prelude.{◌≡◌, ℕ, ◌+◌, suc, List, [], ◌∷◌, length, map, Option, Some, None, Result, Ok, Err, Bool, true, false, not, ◌&&◌, ◌||◌, ◌==◌, pos, if◌then◌else◌}
use Rattle.std.specs.Option.{option_map, option_or}
use Rattle.std.specs.List.{flat_map}
use Rattle.std.specs.Ordering.{int_eq}
use lib.IntN.{ℤ}
use Rattle.chc_nums.specs.declared.Ty.{Ty}
use Rattle.sol_core.specs.declared.program.Program.{Program}
use Rattle.sol_core.specs.declared.script.Script.{Script}
use Rattle.sol_core.specs.declared.script.Call.{Call, Call-F}
use Rattle.sol_core.specs.declared.script.Call.TheFolds.{fold-Call}
use Rattle.sol_core.specs.declared.script.Reply.{Reply, Reply-F, fold-Reply}
use Rattle.sol_core.specs.declared.script_faults.ScriptFault.{ScriptFault}
use Rattle.sol_core.specs.declared.script_faults.ScriptFault.TheVariants as fault
use Rattle.sol_core.specs.Values.{is_sender, takes}
use Rattle.sol_core.specs.Doors.{door, params_of}

-- a deployment or a call: the types that it takes, if there is a function, who makes it, and the arguments
pub record Visit : Type 0 where
  pub types : Option (List Ty)
  pub sender : ℤ
  pub args : List ℤ

-- lists of visits, one after another
abbrev pub joined : List (List Visit) → List Visit
joined vss = flat_map (λ vs. vs) vss

abbrev pub call_step : Program → Call-F (List Visit) (List Visit) → List Visit
call_step p c = record { types = option_map params_of (door p c.fun); sender = c.sender; args = c.args } ∷ joined c.replies

abbrev pub reply_step : Reply-F (List Visit) (List Visit) → List Visit
reply_step r = joined r.calls

-- a call and the calls in its replies, in preorder
unfoldable pub call_visits : Program → Call → List Visit
call_visits p c = fold-Call (List Visit) (List Visit) (call_step p) reply_step c

-- the calls in a reply
unfoldable pub reply_visits : Program → Reply → List Visit
reply_visits p r = fold-Reply (List Visit) (List Visit) (call_step p) reply_step r

abbrev pub visits_of : Program → List Call → List Visit
visits_of p cs = joined (map (call_visits p) cs)

abbrev pub replies_visits : Program → List Reply → List Visit
replies_visits p rs = joined (map (reply_visits p) rs)

-- the deployment, and then the calls in preorder
abbrev pub visits : Program → Script → List Visit
visits p s = record { types = Some p.params; sender = s.sender; args = s.args } ∷ visits_of p s.calls

-- the first rule that a visit breaks: its function exists, its sender isn't 0, its arguments are as many as the types, and
-- its sender and they lie in their types
abbrev pub fault_with : ℕ → List Ty → ℤ → List ℤ → Option ScriptFault
fault_with at ts sender args = if int_eq sender (pos 0) then Some (fault.SenderZero at) else (if not (length args == length ts) then Some (fault.ArgCount at) else (if is_sender sender && takes ts args then None else Some (fault.ArgRange at)))

abbrev pub fault_for : ℕ → Option (List Ty) → ℤ → List ℤ → Option ScriptFault
fault_for at None sender args = Some (fault.NoFunction at)
fault_for at (Some ts) sender args = fault_with at ts sender args

-- the first fault of some visits, the first of which has a number
abbrev pub first_fault : ℕ → List Visit → Option ScriptFault
first_fault at [] = None
first_fault at (v ∷ vs) = option_or (fault_for at v.types v.sender v.args) (first_fault (suc at) vs)

-- Ok where there is no fault
abbrev pub IsFirst : Option ScriptFault → Result (Unit {0}) ScriptFault → Type 0
IsFirst f (Ok u) = f ≡ None
IsFirst f (Err e) = f ≡ Some e
