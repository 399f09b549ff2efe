use Rattle.std.proofs.Common.{sym, ◌∙◌, arith, refl}
use Rattle.std.proofs.lemmas.Option.{slice_get_read}
use Rattle.sol_judged.proofs.Linking.{walk-found, walk-on, walk-next, walk-less}
use Rattle.sol_judged.proofs.linked.found.Goals as goal

pub returns-then-is_sought : goal.returns-then-is_sought
returns-then-is_sought c = walk-found c.args.sought c.args.units.now c.args.entries.now c.args.name.now c.loop-at.below c.in-Some.i c.in-Some-get.member.now _ (sym c.in-Some.is ∙ c.loop-at.invariant.0) c.loop-at.invariant.1 (slice_get_read c.args.entries.now _ c.in-Some.i c.in-Some-get.member.now refl c.in-Some-get.ensures.lookup.3.0 c.in-Some-get.ensures.lookup.1) (sym c.is_sought.ensures ∙ c.if-is_sought.true)

pub loop-at-preserved : goal.loop-at-preserved
loop-at-preserved c =
    let h = sym c.in-Some.is ∙ c.loop-at.invariant.0 in
    let g = slice_get_read c.args.entries.now _ c.in-Some.i c.in-Some-get.member.now refl c.in-Some-get.ensures.lookup.3.0 c.in-Some-get.ensures.lookup.1 in
    let less = walk-less c.args.entries.now c.args.name.now c.loop-at.below c.in-Some.i h in (
      c.one_before-at.ensures ∙ walk-next c.args.entries.now c.args.previous.now c.args.name.now c.loop-at.below c.in-Some.i c.in-Some-get.member.now c.requires.linked c.loop-at.invariant.2 h g,
      walk-on c.args.sought c.args.units.now c.args.entries.now c.args.name.now c.loop-at.below c.in-Some.i c.in-Some-get.member.now _ h c.loop-at.invariant.1 g (sym c.is_sought.ensures ∙ c.if-is_sought.false),
      omega (arith, less, c.loop-at.invariant.2),
    )
