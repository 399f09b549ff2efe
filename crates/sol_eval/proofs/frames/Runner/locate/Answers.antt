use Rattle.std.proofs.Common.{sym, subst, ap}
use Rattle.sol_core.specs.declared.Place.{Place}
use Rattle.sol_meaning.specs.declared.World.{World}
use Rattle.sol_meaning.specs.declared.Got.{Got}
use Rattle.sol_meaning.specs.declared.Spot.{Spot}
use Rattle.sol_meaning.specs.Exec.{located}
use Rattle.sol_eval.specs.Ran.{Ran}
use Rattle.sol_eval.specs.Framed.{frame_in}
use Rattle.sol_eval.proofs.frames.Runner.locate.Goals as goal

pub returns-in-Elem-clause-ran : goal.returns-in-Elem-clause-ran
returns-in-Elem-clause-ran g c =
    let all = ap (λ (p : Place). located (frame_in c.args.self.now.frame) p c.args.w.now) c.in-Elem.is in
    let P : Got Spot × World → Type 0 = λ o. Ran o c.locate_element.result c.locate_element.new.w in
    subst P (sym all) c.locate_element.ensures.ran
