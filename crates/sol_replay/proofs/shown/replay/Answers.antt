use Rattle.std.proofs.Common.{rules}
use Rattle.std.specs.List.{Contains}
use Rattle.sol_replay.proofs.Hitting.{told-shown, told-unfit, the-told}
use Rattle.sol_replay.proofs.shown.replay.Goals as goal

pub returns-in-Ok-check_script : goal.returns-in-Ok-check_script
returns-in-Ok-check_script c =
    let there : Contains c.args.p.now.sites c.args.target = search rules in
    told-shown c.args.p.now c.args.text.now c.args.target c.in-Ok.script c.shown.result there (the-told c.args.p.now c.args.text.now c.in-Ok.script c.in-Ok.ensures c.in-Ok-check_script.ensures) c.shown.ensures

pub returns-in-Ok : goal.returns-in-Ok
returns-in-Ok c =
    let there : Contains c.args.p.now.sites c.args.target = search rules in
    (there, told-unfit c.args.p.now c.args.text.now c.in-Ok.script _ c.in-Ok.ensures c.in-Err.ensures)
