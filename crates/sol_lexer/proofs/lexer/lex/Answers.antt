use Rattle.std.proofs.Common.{◌≡◌, List, [], append-nil, subst, length}
use Rattle.std.proofs.lemmas.Bool.{eqb-true}
use Rattle.sol_tree.specs.declared.token.Token.{Token}
use Rattle.sol_lexer.specs.Tokens.{Tokenizes}
use Rattle.sol_lexer.proofs.Steps.{none-left}
use Rattle.sol_lexer.proofs.lexer.lex.Goals as goal

pub returns-clause-tokens : goal.returns-clause-tokens
returns-clause-tokens c =
    let empty : length c.loop-rest.rest.now ≡ 0 = eqb-true (length c.loop-rest.rest.now) 0 (cc) in
    subst (λ (ts : List Token). Tokenizes c.args.text.now ts) (append-nil c.loop-rest.tokens.items) (c.loop-rest.invariant.1 [] (none-left c.loop-rest.at c.loop-rest.rest.now empty))
