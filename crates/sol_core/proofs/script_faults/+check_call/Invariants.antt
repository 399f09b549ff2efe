use Rattle.std.proofs.Common.{◌≡◌, ◌+◌, ◌*◌, drop, length}
use Rattle.sol_core.specs.ScriptFaults.{first_fault, call_visits, reply_visits, visits_of, replies_visits}
use Rattle.sol_core.proofs.script_faults.+check_call.Given as goal

abbrev pub invariant-check_calls-loop-call : goal.invariant-check_calls-loop-call
invariant-check_calls-loop-call l = (first_fault l.at (visits_of l.p (drop l.call-index l.calls)) ≡ first_fault l.fn.at (visits_of l.p l.fn.calls)) × (l.at + length (visits_of l.p (drop l.call-index l.calls)) ≡ l.fn.at + length (visits_of l.p l.fn.calls))

abbrev pub invariant-check_replies-loop-reply : goal.invariant-check_replies-loop-reply
invariant-check_replies-loop-reply l = (first_fault l.at (replies_visits l.p (drop l.reply-index l.replies)) ≡ first_fault l.fn.at (replies_visits l.p l.fn.replies)) × (l.at + length (replies_visits l.p (drop l.reply-index l.replies)) ≡ l.fn.at + length (replies_visits l.p l.fn.replies))

abbrev pub decreases-check_call : goal.decreases-check_call
decreases-check_call l = 4 * length (call_visits l.p.now l.call.now)

abbrev pub decreases-check_replies : goal.decreases-check_replies
decreases-check_replies l = 4 * length (replies_visits l.p.now l.replies.now) + 3

abbrev pub decreases-check_reply : goal.decreases-check_reply
decreases-check_reply l = 4 * length (reply_visits l.p.now l.reply.now) + 2

abbrev pub decreases-check_calls : goal.decreases-check_calls
decreases-check_calls l = 4 * length (visits_of l.p.now l.calls.now) + 1
