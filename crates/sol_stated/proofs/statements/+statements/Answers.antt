use Rattle.sol_stated.proofs.Stating.{statement-If}
use Rattle.sol_stated.proofs.statements.+statements.Goals as goal

pub judge_statement-returns-in_ok-judge_statement-in-If : goal.judge_statement-returns-in_ok-judge_statement-in-If
judge_statement-returns-in_ok-judge_statement-in-If t c = rw (c.in-If.is, statement-If, c.in_ok-check_condition-in-If.ensures, ← c.get.ensures, c.in_ok-judge_statement-in-If.ensures) c.judge_otherwise.ensures
