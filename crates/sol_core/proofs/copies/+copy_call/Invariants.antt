use Rattle.std.proofs.Common.{◌≡◌, take}
use Rattle.sol_core.proofs.copies.+copy_call.Given as goal

abbrev pub invariant-copy_replies-loop-reply : goal.invariant-copy_replies-loop-reply
invariant-copy_replies-loop-reply l = l.all ≡ take l.reply-index l.replies

abbrev pub invariant-copy_nested-loop-call : goal.invariant-copy_nested-loop-call
invariant-copy_nested-loop-call l = l.all ≡ take l.call-index l.calls
