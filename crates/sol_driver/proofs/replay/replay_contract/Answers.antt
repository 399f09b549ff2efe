use Rattle.sol_driver.proofs.replay.replay_contract.Goals as goal

pub returns : goal.returns
returns c = rw c.in_ok-program.ensures at c.replay.ensures
