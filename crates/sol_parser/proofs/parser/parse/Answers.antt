use Rattle.std.proofs.Common.{rules, ◌≡◌, Some}
use Rattle.sol_parser.specs.Reading.{file_at}
use Rattle.sol_parser.proofs.Laws.{file-read}
use Rattle.sol_parser.proofs.parser.parse.Goals as goal

pub returns-in-Some : goal.returns-in-Some
returns-in-Some c =
    let e : file_at 127 c.args.tokens.now ≡ Some c.in-Some.file = search rules in
    file-read c.args.tokens.now c.in-Some.file e
