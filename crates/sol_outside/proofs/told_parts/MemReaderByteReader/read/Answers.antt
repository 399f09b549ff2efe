use Rattle.std.proofs.Common.{length}
use Rattle.sol_outside.proofs.Steps.{read-step}
use Rattle.sol_outside.proofs.told_parts.MemReaderByteReader.read.Goals as goal

pub returns-in-AtMost-clause-reads : goal.returns-in-AtMost-clause-reads
returns-in-AtMost-clause-reads c =
    let same = rw c.as_slice-in-AtMost.ensures.value at c.give-n.ensures.bytes in
    let some = rw c.as_slice-in-AtMost.ensures.value at c.give-n.ensures.some in
    read-step c.args.self.now.faults c.args.self.now.bytes.items c.give-n.new.part c.args.self.now.at c.give-n.result (length c.give-n.new.part) same some c.give-n.ensures.within.1
