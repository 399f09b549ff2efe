use Rattle.sol_driver.specs.Outcomes.{stopped}
use Rattle.sol_driver.proofs.top.tell_listing.Goals as goal

pub returns-in-Err-NoMemory : goal.returns-in-Err-NoMemory
returns-in-Err-NoMemory g c =
    let told = rw c.in-Err-NoMemory.field-0-is at c.in-Err-NoMemory.ensures in
    rw c.without_memory.ensures.outcome (stopped (g.K.Sink.written c.tell.new.out) told.1 c.without_memory.ensures.written)
