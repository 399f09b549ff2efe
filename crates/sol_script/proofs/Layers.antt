-- The lines of a call and of a reply, from those of their parts.
use Rattle.std.proofs.Common.{◌≡◌, List, ◌∷◌, [], ◌++◌, ℕ, map}
use Rattle.std.specs.Prelude.{codes}
use Rattle.sol_core.specs.declared.Program.{Program}
use Rattle.sol_core.specs.declared.Call.{Call, out-Call}
use Rattle.sol_core.specs.declared.Call.TheFolds.{fold_out-Call}
use Rattle.sol_core.specs.declared.Reply.{Reply, out-Reply, fold_out-Reply}
use Rattle.sol_script.specs.ScriptText.{call_line, answer_line, joined, call_layer, reply_layer, call_lines, reply_lines}

pub call-layers : (p : Program) (c : Call) → call_lines p c ≡ call_line p (out-Call c).fun (out-Call c).sender (out-Call c).args ∷ joined (map (reply_lines p) (out-Call c).replies)
unfolding call_lines reply_lines
call-layers p c = fold_out-Call (List (List ℕ)) (List (List ℕ)) (call_layer p) reply_layer c

pub reply-layers : (p : Program) (r : Reply) → reply_lines p r ≡ codes "reply\n" ∷ joined (map (call_lines p) (out-Reply r).calls) ++ answer_line (out-Reply r).answer ∷ []
unfolding call_lines reply_lines
reply-layers p r = fold_out-Reply (List (List ℕ)) (List (List ℕ)) (call_layer p) reply_layer r

pub ruleset layers = (call-layers, reply-layers)
