use Rattle.std.proofs.Common.{◌≡◌, ◌+◌, List, ◌++◌, length}
use Rattle.sol_tree.specs.declared.token.Token.{Token}
use Rattle.sol_lexer.specs.Tokens.{FaultFrom, LexicalFault, Tokenizes, TokenizesFrom}
use Rattle.sol_lexer.specs.declared.lexer.LexFault.{LexFault}
use Rattle.sol_lexer.proofs.lexer.lex.Given as goal

abbrev pub invariant-loop-rest : goal.invariant-loop-rest
invariant-loop-rest l =
    (l.at + length l.rest ≡ length l.fn.text) × ((ts : List Token) → TokenizesFrom l.at l.rest ts → Tokenizes l.fn.text (l.tokens.items ++ ts)) × ((f : LexFault) → FaultFrom l.at l.rest f → LexicalFault l.fn.text f)

abbrev pub decreases-loop-rest : goal.decreases-loop-rest
decreases-loop-rest l = length l.rest
