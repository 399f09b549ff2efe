use Rattle.std.proofs.Common.{◌≡◌, ◌++◌, map, drop}
use Rattle.sol_script.specs.ScriptText.{joined, call_lines, reply_lines}
use Rattle.sol_script.proofs.text.+lines.Given as goal

abbrev pub invariant-add_calls-loop-call : goal.invariant-add_calls-loop-call
invariant-add_calls-loop-call l = l.all ++ joined (map (call_lines l.p) (drop l.call-index l.calls)) ≡ l.fn.all ++ joined (map (call_lines l.p) l.fn.calls)

abbrev pub invariant-add_replies-loop-reply : goal.invariant-add_replies-loop-reply
invariant-add_replies-loop-reply l = l.all ++ joined (map (reply_lines l.p) (drop l.reply-index l.replies)) ≡ l.fn.all ++ joined (map (reply_lines l.p) l.fn.replies)
