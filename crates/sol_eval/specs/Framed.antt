-- The frame that an evaluator runs in.
use Rattle.sol_meaning.specs.Frames.{Caller, Frame}
use Rattle.sol_meaning.specs.Calling.{level_at}
use Rattle.sol_eval.specs.declared.frames as frames

abbrev pub caller_in : frames.Caller.Caller → Caller
caller_in c = record { sender = c.sender; is_static = c.is_static; replies = c.replies.now }

abbrev pub frame_in : frames.Frame.Frame → Frame
frame_in f = record { level = level_at f.program.now f.level; caller = caller_in f.caller.now }
