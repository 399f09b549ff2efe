-- Which scripts a program takes: every call names a door and has arguments of its types, and every sender is an address
-- that isn't 0.
use Rattle.std.specs.Prelude.{List, Option, Some, None, Bool, false, ◌&&◌, IsTrue}
use Rattle.std.specs.List.{list_all}
use lib.IntN.{ℤ}
use Rattle.sol_core.specs.declared.program.Program.{Program}
use Rattle.sol_core.specs.declared.program.Fun.{Fun}
use Rattle.sol_core.specs.declared.script.Script.{Script}
use Rattle.sol_core.specs.declared.script.Call.{Call}
use Rattle.sol_core.specs.declared.script.Call.TheFolds.{fold-Call}
use Rattle.sol_core.specs.Values.{is_sender, takes, each}
use Rattle.sol_core.specs.Doors.{door, params_of}

abbrev pub takes_args : Option Fun → List ℤ → Bool
takes_args None args = false
takes_args (Some f) args = takes (params_of f) args

-- a call fits, where its replies do; a reply fits, where its calls do
abbrev pub call_fits : Program → Call → Bool
call_fits p c = fold-Call Bool Bool (λ d. takes_args (door p d.fun) d.args && is_sender d.sender && each d.replies) (λ r. each r.calls) c

abbrev pub Fits : Program → Script → Type 0
Fits p s = IsTrue (takes p.params s.args && is_sender s.sender && list_all (call_fits p) s.calls)
