use Rattle.std.proofs.Common.{◌≡◌, map, drop, true}
use Rattle.std.specs.List.{list_all}
use Rattle.sol_meaning.specs.Exec.{all_of}
use Rattle.sol_meaning.specs.Run.{built}
use Rattle.sol_eval.specs.Framed.{frame_in}
use Rattle.sol_eval.specs.Sized.{build_sized}
use Rattle.sol_eval.proofs.frames.Runner.build_all.Given as goal

abbrev pub invariant-loop-b : goal.invariant-loop-b
invariant-loop-b g l = record {
  done : all_of (map (built (frame_in l.fn.self.frame) l.given) (drop l.b-index l.builds)) l.w ≡ all_of (map (built (frame_in l.fn.self.frame) l.given) l.fn.builds) l.fn.w;
  sized : list_all build_sized (drop l.b-index l.builds) ≡ true;
}
