use Rattle.std.proofs.Common.{sym, subst, arith, rules}
use Rattle.std.specs.Prelude.{FitsSigned}
use Rattle.std.specs.Int.{w128}
use Rattle.std.proofs.lemmas.Int.{to_z-of_z}
use Rattle.sol_lexer.specs.Steps.{Passes}
use Rattle.sol_lexer.specs.Tokens as rule
use Rattle.sol_lexer.specs.declared.lexer.Step.{Step}
use Rattle.sol_lexer.proofs.Steps.{byte-within, mark-utf8, refused-within, step-dropped, step-mark, step-number, step-text, step-word, word-utf8}
use Rattle.sol_lexer.proofs.lexer.next_step.Goals as goal

pub name-requires : goal.name-requires
name-requires c = word-utf8 c.args.text.now c.in-Word.len (c.in-Word.ensures)

pub name-requires-in-Mark : goal.name-requires-in-Mark
name-requires-in-Mark c = mark-utf8 c.args.text.now c.in-Mark.len (c.in-Mark.ensures)

pub overflow_cast-result : goal.overflow_cast-result
overflow_cast-result c = omega (arith, byte-within (c.in-BadByte.ensures 0), c.requires.short)

pub overflow_add-result : goal.overflow_add-result
overflow_add-result c = omega (arith, byte-within (c.in-BadByte.ensures 0), c.requires.short)

pub overflow_cast-result-in-Refused : goal.overflow_cast-result-in-Refused
overflow_cast-result-in-Refused c = omega (arith, refused-within (c.in-Refused.ensures 0), c.requires.short)

pub returns-in-Dropped : goal.returns-in-Dropped
returns-in-Dropped c = step-dropped c.args.at c.args.text.now c.in-Dropped.len (c.in-Dropped.ensures)

pub returns-in_ok-word-in-Word : goal.returns-in_ok-word-in-Word
returns-in_ok-word-in-Word c = subst (λ (s : Step). Passes c.args.at c.args.text.now s) (sym c.kept.ensures) (step-word c.args.at c.args.text.now c.in-Word.len c.in_ok-word-in-Word.word (c.in_ok-word-in-Word.ensures) (c.in-Word.ensures))

pub returns-in-Number : goal.returns-in-Number
returns-in-Number c =
    let fits : FitsSigned w128 c.in-Number.value = search rules in
    let e = simp to_z-of_z at c.kept-in-Number.ensures in
    subst (λ (s : Step). Passes c.args.at c.args.text.now s) (sym e) (step-number c.args.at c.args.text.now c.in-Number.len c.in-Number.value c.in-Number.hex (c.in-Number.ensures))

pub returns-in-Text : goal.returns-in-Text
returns-in-Text c = subst (λ (s : Step). Passes c.args.at c.args.text.now s) (sym c.kept-in-Text.ensures) (step-text c.args.at c.args.text.now c.in-Text.len (c.in-Text.ensures))

pub returns-in_ok-mark-in-Mark : goal.returns-in_ok-mark-in-Mark
returns-in_ok-mark-in-Mark c = subst (λ (s : Step). Passes c.args.at c.args.text.now s) (sym c.kept-in-Mark.ensures) (step-mark c.args.at c.args.text.now c.in-Mark.len c.in_ok-mark-in-Mark.mark (c.in_ok-mark-in-Mark.ensures) (c.in-Mark.ensures))

pub returns-in-BadByte : goal.returns-in-BadByte
returns-in-BadByte c = rule.here (c.in-BadByte.ensures c.args.at)

pub returns-in-OpenComment : goal.returns-in-OpenComment
returns-in-OpenComment c = rule.here (c.in-OpenComment.ensures c.args.at)

pub returns-in-OpenText : goal.returns-in-OpenText
returns-in-OpenText c = rule.here (c.in-OpenText.ensures c.args.at)

pub returns-in-WideNumber : goal.returns-in-WideNumber
returns-in-WideNumber c = rule.here (c.in-WideNumber.ensures c.args.at)

pub returns-in-Refused : goal.returns-in-Refused
returns-in-Refused c = rule.here (c.in-Refused.ensures c.args.at)
