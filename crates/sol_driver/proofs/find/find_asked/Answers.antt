use Rattle.sol_driver.proofs.Findings.{judged-found-ok, too-long-found}
use Rattle.sol_driver.proofs.find.find_asked.Goals as goal

pub returns-in-Ok : goal.returns-in-Ok
returns-in-Ok g c =
    let judged = rw (c.as_slice.ensures.value, c.in-Ok.ensures.same) at c.find_in.ensures in
    let held = rw (c.as_str-file.ensures, c.source.ensures) at c.in-Ok.ensures.reads.2 in
    judged-found-ok _ c.args.request.now c.in-Ok.bytes.items _ c.find_in.result (record { asks = c.requires; same = c.in-Ok.ensures.reads.0; held = held; short = c.in-Ok.ensures.reads.1 }) judged

pub returns-in-Err-TooLong : goal.returns-in-Err-TooLong
returns-in-Err-TooLong g c =
    let told = rw c.in-Err-TooLong.field-0-is at c.in-Err-TooLong.ensures.reads in
    let long = rw (c.as_str-file.ensures, c.source.ensures) at told.2 in
    too-long-found _ c.args.request.now c.requires told.0 long
