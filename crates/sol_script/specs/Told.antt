-- Which scripts a text can tell: each call has a door, numbers have 128 bits, and at most 128 replies are open at one line.
use Rattle.std.specs.Prelude.{ℕ, zero, suc, List, [], ◌∷◌, ◌++◌, map, Option, Some, None, Bool, true, false, ◌&&◌, nat_le, IsTrue}
use Rattle.std.specs.List.{list_all}
use Rattle.std.specs.Option.{is_some}
use lib.IntN.{ℤ}
use Rattle.sol_core.specs.declared.Answer.{Answer}
use Rattle.sol_core.specs.declared.Answer.TheVariants as answer
use Rattle.sol_core.specs.declared.Program.{Program}
use Rattle.sol_core.specs.declared.Script.{Script}
use Rattle.sol_core.specs.declared.Call.{Call, Call-F}
use Rattle.sol_core.specs.declared.Call.TheFolds.{fold-Call}
use Rattle.sol_core.specs.declared.Reply.{Reply, Reply-F, fold-Reply}
use Rattle.sol_core.specs.Doors.{door}
use Rattle.sol_script.specs.Lines.{is_short}
use Rattle.sol_script.specs.ScriptText.{script_lines, joined}

abbrev pub is_short_answer : Answer → Bool
is_short_answer answer.Fail = true
is_short_answer (answer.Give None) = true
is_short_answer (answer.Give (Some n)) = is_short n

abbrev pub within : ℕ → List (ℕ → Bool) → Bool
within k [] = true
within k (t ∷ ts) = t k && within k ts

-- so many replies more may be open
abbrev pub call_told : Program → Call-F (ℕ → Bool) (ℕ → Bool) → ℕ → Bool
call_told p c k = (is_some (door p c.fun) && (is_short c.sender && list_all is_short c.args)) && within k c.replies

abbrev pub reply_told : Reply-F (ℕ → Bool) (ℕ → Bool) → ℕ → Bool
reply_told r zero = false
reply_told r (suc k) = within k r.calls && is_short_answer r.answer

unfoldable pub is_told_call : Program → Call → ℕ → Bool
is_told_call p c = fold-Call (ℕ → Bool) (ℕ → Bool) (call_told p) reply_told c

unfoldable pub is_told_reply : Program → Reply → ℕ → Bool
is_told_reply p r = fold-Reply (ℕ → Bool) (ℕ → Bool) (call_told p) reply_told r

abbrev pub is_told : Program → Script → Bool
is_told p s = (is_short s.sender && list_all is_short s.args) && within 128 (map (is_told_call p) s.calls)

-- the text of a script: its lines, one after another
abbrev pub text_of : List (List ℕ) → List ℕ
text_of [] = []
text_of (l ∷ ls) = l ++ text_of ls

unfoldable pub script_text : Program → Script → List ℕ
script_text p s = text_of (script_lines p s)
