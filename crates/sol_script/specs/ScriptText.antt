-- The text of a script. Each line ends in a line feed, and its words are separated by one space. The deployment is
-- `deploy SENDER ARGUMENTS`. A call is `call NAME SENDER ARGUMENTS`, with the name of the function behind its door, and
-- then its replies: each is `reply`, the calls that it makes, and `give`, `give VALUE` or `fail`. The last line is `end`.
use Rattle.std.specs.Prelude.{ℕ, List, [], ◌∷◌, ◌++◌, map, Option, Some, None, codes}
use Rattle.std.specs.Fmt.{signed_decimal}
use lib.IntN.{ℤ}
use Rattle.sol_core.specs.declared.Fun.{Fun}
use Rattle.sol_core.specs.declared.Program.{Program}
use Rattle.sol_core.specs.declared.Script.{Script}
use Rattle.sol_core.specs.declared.Answer.{Answer}
use Rattle.sol_core.specs.declared.Answer.TheVariants as answer
use Rattle.sol_core.specs.declared.Call.{Call, Call-F}
use Rattle.sol_core.specs.declared.Call.TheFolds.{fold-Call}
use Rattle.sol_core.specs.declared.Reply.{Reply, Reply-F, fold-Reply}
use Rattle.sol_core.specs.Doors.{door}

-- a text with numbers behind it, each after a space; numbers are decimal, with `-` before negative ones
abbrev pub with_numbers : List ℕ → List ℤ → List ℕ
with_numbers text [] = text
with_numbers text (n ∷ ns) = with_numbers (text ++ codes " " ++ signed_decimal n) ns

abbrev pub deploy_line : Script → List ℕ
deploy_line s = with_numbers (codes "deploy") (s.sender ∷ s.args) ++ codes "\n"

-- the name of a function, or nothing where there is none
abbrev pub name_of : Option Fun → List ℕ
name_of None = []
name_of (Some f) = f.name

abbrev pub call_line : Program → ℕ → ℤ → List ℤ → List ℕ
call_line p d sender args = with_numbers (codes "call " ++ name_of (door p d)) (sender ∷ args) ++ codes "\n"

abbrev pub value_words : Option ℤ → List ℕ
value_words None = codes "give"
value_words (Some n) = with_numbers (codes "give") (n ∷ [])

abbrev pub answer_line : Answer → List ℕ
answer_line (answer.Give value) = value_words value ++ codes "\n"
answer_line answer.Fail = codes "fail\n"

-- lists of lines one after another
abbrev pub joined : List (List (List ℕ)) → List (List ℕ)
joined [] = []
joined (ls ∷ more) = ls ++ joined more

abbrev pub call_layer : Program → Call-F (List (List ℕ)) (List (List ℕ)) → List (List ℕ)
call_layer p c = call_line p c.fun c.sender c.args ∷ joined c.replies

abbrev pub reply_layer : Reply-F (List (List ℕ)) (List (List ℕ)) → List (List ℕ)
reply_layer r = codes "reply\n" ∷ joined r.calls ++ answer_line r.answer ∷ []

unfoldable pub call_lines : Program → Call → List (List ℕ)
call_lines p c = fold-Call (List (List ℕ)) (List (List ℕ)) (call_layer p) reply_layer c

unfoldable pub reply_lines : Program → Reply → List (List ℕ)
reply_lines p r = fold-Reply (List (List ℕ)) (List (List ℕ)) (call_layer p) reply_layer r

abbrev pub script_lines : Program → Script → List (List ℕ)
script_lines p s = deploy_line s ∷ joined (map (call_lines p) s.calls) ++ codes "end\n" ∷ []
