use Rattle.std.proofs.Common.{◌≡◌}
use Rattle.sol_driver.specs.Outcomes.{whole, part, stopped}
use Rattle.sol_driver.specs.Texts.{status_of}
use Rattle.sol_driver.proofs.top.tell_report.Goals as goal

pub returns-in-Ok-tell : goal.returns-in-Ok-tell
returns-in-Ok-tell g c =
    let same : c.status_of-status.result ≡ status_of c.args.report.verdicts = rw c.as_slice.ensures at c.status_of-status.ensures in
    let written = rw (c.as_slice-2.ensures, c.in-Ok.ensures) at c.in-Ok-tell.ensures.1 in
    rw same (whole c.in-Ok-tell.ensures.0 written)

pub returns-in-Err-Failed : goal.returns-in-Err-Failed
returns-in-Err-Failed g c =
    let told = rw c.in-Err-Failed.field-0-is at c.in-Err-Failed.ensures in
    let written = rw (c.as_slice-2.ensures, c.in-Ok.ensures) at told.1 in
    part told.0 written

pub returns : goal.returns
returns g c =
    let told = rw c.in-Err-NoMemory.field-0-is at c.in-Err-NoMemory.ensures in
    let written = rw (c.as_slice-2.ensures, c.in-Ok.ensures) at told.1 in
    rw c.without_memory-in-Err-NoMemory.ensures.outcome (stopped (g.K.Sink.written c.tell.new.out) written c.without_memory-in-Err-NoMemory.ensures.written)
