use Rattle.std.proofs.Common.{◌≡◌, ◌+◌, ◌<◌, ◌≤◌, length, None, rules}
use Rattle.sol_core.specs.ScriptFaults.{call_visits, reply_visits, visits_of, replies_visits, first_fault}
use Rattle.sol_core.proofs.Visiting.{behind-entry, count-behind, few-entry, fewer-in-entry}
use Rattle.sol_core.proofs.script_faults.+check_call.Goals as goal

pub check_calls-loop-call-preserved : goal.check_calls-loop-call-preserved
check_calls-loop-call-preserved t c =
    let none : first_fault c.loop-call.at (call_visits c.args.p.now c.call-item.result) ≡ None = search rules in
    let next : c.check_call.new.at ≡ c.loop-call.at + length (call_visits c.args.p.now c.call-item.result) = search rules in
    let within : c.loop-call.call-index < length c.args.calls.now = search rules in
    (behind-entry (call_visits c.args.p.now) c.args.calls.now c.loop-call.call-index c.call-item.result c.loop-call.at c.check_call.new.at _ c.loop-call.invariant.0 within c.call-item.is none next, count-behind (call_visits c.args.p.now) c.args.calls.now c.loop-call.call-index c.call-item.result c.loop-call.at c.check_call.new.at _ c.loop-call.invariant.1 within c.call-item.is next)

pub check_replies-loop-reply-preserved : goal.check_replies-loop-reply-preserved
check_replies-loop-reply-preserved t c =
    let none : first_fault c.loop-reply.at (reply_visits c.args.p.now c.reply-item.result) ≡ None = search rules in
    let next : c.check_reply.new.at ≡ c.loop-reply.at + length (reply_visits c.args.p.now c.reply-item.result) = search rules in
    let within : c.loop-reply.reply-index < length c.args.replies.now = search rules in
    (behind-entry (reply_visits c.args.p.now) c.args.replies.now c.loop-reply.reply-index c.reply-item.result c.loop-reply.at c.check_reply.new.at _ c.loop-reply.invariant.0 within c.reply-item.is none next, count-behind (reply_visits c.args.p.now) c.args.replies.now c.loop-reply.reply-index c.reply-item.result c.loop-reply.at c.check_reply.new.at _ c.loop-reply.invariant.1 within c.reply-item.is next)

pub check_calls-check_call-requires : goal.check_calls-check_call-requires
check_calls-check_call-requires t c =
    let within : c.loop-call.call-index < length c.args.calls.now = search rules in
    let fewer : length (call_visits c.args.p.now c.call-item.result) ≤ length (visits_of c.args.p.now c.args.calls.now) = fewer-in-entry (call_visits c.args.p.now) c.args.calls.now c.loop-call.call-index c.call-item.result within c.call-item.is in
    (search rules, (c.requires.params, few-entry (call_visits c.args.p.now) c.args.calls.now c.loop-call.call-index c.call-item.result c.loop-call.at _ c.loop-call.invariant.1 c.requires.few within c.call-item.is))

pub check_replies-check_reply-requires : goal.check_replies-check_reply-requires
check_replies-check_reply-requires t c =
    let within : c.loop-reply.reply-index < length c.args.replies.now = search rules in
    let fewer : length (reply_visits c.args.p.now c.reply-item.result) ≤ length (replies_visits c.args.p.now c.args.replies.now) = fewer-in-entry (reply_visits c.args.p.now) c.args.replies.now c.loop-reply.reply-index c.reply-item.result within c.reply-item.is in
    (search rules, (c.requires.params, few-entry (reply_visits c.args.p.now) c.args.replies.now c.loop-reply.reply-index c.reply-item.result c.loop-reply.at _ c.loop-reply.invariant.1 c.requires.few within c.reply-item.is))
