use Rattle.sol_lexer.proofs.Endings.{some_ending}
use Rattle.sol_lexer.proofs.lexer.token_laws.Goals as goal

pub returns-clause-some : goal.returns-clause-some
returns-clause-some c = some_ending
