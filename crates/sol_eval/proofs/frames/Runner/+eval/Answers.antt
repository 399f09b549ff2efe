use Rattle.std.proofs.Common.{rules, ◌≡◌, ◌∙◌, sym, ap, subst, ◌+◌, ◌*◌, ◌<◌, ◌≤◌, List, length, drop, map, arith}
use Rattle.std.specs.Prelude.{FitsSigned}
use Rattle.std.specs.Int.{w128}
use Rattle.std.specs.List.{list_all}
use Rattle.std.proofs.lemmas.Int.{to_z-of_z}
use lib.IntN.{ℤ}
use Rattle.sol_core.specs.declared.Expr.{Expr}
use Rattle.sol_meaning.specs.declared.World.{World}
use Rattle.sol_meaning.specs.declared.Got.{Got}
use Rattle.sol_meaning.specs.declared.Got.TheVariants as got
use Rattle.sol_meaning.specs.Frames.{and_then, number_at, array_at}
use Rattle.sol_meaning.specs.Eval.{eval, second_of, operated, arithmetic, compared, truth, at_index, index_in, values_onto}
use Rattle.sol_eval.specs.Ran.{Ran}
use Rattle.sol_eval.specs.Framed.{frame_in}
use Rattle.sol_eval.specs.Sized.{expr_sized}
use Rattle.sol_eval.proofs.Firsts.{values_more, drop-turn}
use Rattle.sol_eval.proofs.Sizes.{first-sized, rest-sized}
use Rattle.sol_eval.proofs.Weights.{weight, weights, item-within}
use Rattle.sol_eval.proofs.frames.Runner.+eval.Goals as goal

pub arith-returns-in-Value-clause-ran : goal.arith-returns-in-Value-clause-ran
arith-returns-in-Value-clause-ran g t c =
    let first : eval (frame_in c.args.self.now.frame) c.args.a.now c.args.w.now ≡ (got.Value c.in-Value.x, c.eval.new.w) = ap (λ (e : Expr). eval (frame_in c.args.self.now.frame) e c.args.w.now) (sym c.get.ensures) ∙ c.in_ok-x.ensures.ran ∙ ap (λ (r : Got ℤ). (r, c.eval.new.w)) c.in-Value.is in
    let fits : FitsSigned w128 c.in-Value.x = search rules in
    let exact = simp to_z-of_z at c.arith_to.ensures.ran in
    let P : Got ℤ × World → Type 0 = λ o. Ran o c.arith_to.result c.arith_to.new.w in
    subst P (sym (ap (λ (s : Got ℤ × World). and_then s (λ x v. and_then (second_of c.args.op (eval (frame_in c.args.self.now.frame) c.args.b.now) v) (λ y u. arithmetic (operated c.args.checked c.args.op c.args.ty x y) c.args.panics u))) first)) exact

pub compare-returns-in-Value-clause-ran : goal.compare-returns-in-Value-clause-ran
compare-returns-in-Value-clause-ran g t c =
    let first : eval (frame_in c.args.self.now.frame) c.args.a.now c.args.w.now ≡ (got.Value c.in-Value.x, c.eval.new.w) = ap (λ (e : Expr). eval (frame_in c.args.self.now.frame) e c.args.w.now) (sym c.get.ensures) ∙ c.in_ok-x.ensures.ran ∙ ap (λ (r : Got ℤ). (r, c.eval.new.w)) c.in-Value.is in
    let fits : FitsSigned w128 c.in-Value.x = search rules in
    let exact = simp to_z-of_z at c.compare_to.ensures.ran in
    let P : Got ℤ × World → Type 0 = λ o. Ran o c.compare_to.result c.compare_to.new.w in
    subst P (sym (ap (λ (s : Got ℤ × World). and_then s (λ x v. and_then (eval (frame_in c.args.self.now.frame) c.args.b.now v) (λ y u. (got.Value (truth (compared c.args.cmp x y)), u)))) first)) exact

pub compare_to-returns-in-Value-clause-ran : goal.compare_to-returns-in-Value-clause-ran
compare_to-returns-in-Value-clause-ran g t c =
    let first : eval (frame_in c.args.self.now.frame) c.args.b.now c.args.w.now ≡ (got.Value c.in-Value.y, c.eval.new.w) = ap (λ (e : Expr). eval (frame_in c.args.self.now.frame) e c.args.w.now) (sym c.get.ensures) ∙ c.in_ok-y.ensures.ran ∙ ap (λ (r : Got ℤ). (r, c.eval.new.w)) c.in-Value.is in
    let fx : FitsSigned w128 c.args.x = c.ranges.x in
    let fy : FitsSigned w128 c.in-Value.y = search rules in
    let ft : FitsSigned w128 c.truth.result = search rules in
    let exact = simp to_z-of_z at c.compared.ensures in
    let same : c.truth.result ≡ truth (compared c.args.cmp c.args.x c.in-Value.y) = c.truth.ensures ∙ ap truth exact in
    simp to_z-of_z (ap (λ (s : Got ℤ × World). and_then s (λ y u. (got.Value (truth (compared c.args.cmp c.args.x y)), u))) first ∙ ap (λ (n : ℤ). (got.Value n, c.eval.new.w)) (sym same))

pub element-returns-in-Value-clause-ran : goal.element-returns-in-Value-clause-ran
element-returns-in-Value-clause-ran g t c =
    let first : eval (frame_in c.args.self.now.frame) c.args.index.now c.args.w.now ≡ (got.Value c.in-Value.i, c.eval.new.w) = ap (λ (e : Expr). eval (frame_in c.args.self.now.frame) e c.args.w.now) (sym c.get.ensures) ∙ c.in_ok-i.ensures.ran ∙ ap (λ (r : Got ℤ). (r, c.eval.new.w)) c.in-Value.is in
    let fits : FitsSigned w128 c.in-Value.i = search rules in
    let exact = simp to_z-of_z at c.element_at.ensures.ran in
    let P : Got ℤ × World → Type 0 = λ o. Ran o c.element_at.result c.element_at.new.w in
    subst P (sym (ap (λ (s : Got ℤ × World). and_then s (λ i v. at_index c.args.site (index_in (length (array_at v.state.arrays c.args.a)) i) (λ n u. (got.Value (number_at (array_at u.state.arrays c.args.a) n), u)) v)) first)) exact

pub eval_all-eval-requires : goal.eval_all-eval-requires
eval_all-eval-requires g t c κs within =
    let inside : c.loop-e.e-index < length c.args.es.now = omega arith in
    let turn = drop-turn c.args.es.now c.loop-e.e-index c.e-item.result inside c.e-item.is in
    let sized = first-sized expr_sized c.e-item.result (drop (c.loop-e.e-index + 1) c.args.es.now) (ap (list_all expr_sized) (sym turn) ∙ c.loop-e.invariant.sized) in
    let small : weight c.e-item.result ≤ weights c.args.es.now = item-within weight c.args.es.now c.loop-e.e-index c.e-item.result inside c.e-item.is in
    let down : 8 * weight c.e-item.result < 8 * weights c.args.es.now + 3 = omega (arith, small) in
    (search (rules, down), (within, (c.requires.runs, sized)))

pub eval_all-loop-e-preserved : goal.eval_all-loop-e-preserved
eval_all-loop-e-preserved g t c =
    let inside : c.loop-e.e-index < length c.args.es.now = omega arith in
    let rest : List Expr = drop (c.loop-e.e-index + 1) c.args.es.now in
    let turn = drop-turn c.args.es.now c.loop-e.e-index c.e-item.result inside c.e-item.is in
    let first : eval (frame_in c.args.self.now.frame) c.e-item.result c.loop-e.w ≡ (got.Value c.in-Value.n, c.eval.new.w) = c.in_ok-n.ensures.ran ∙ ap (λ (r : Got ℤ). (r, c.eval.new.w)) c.in-Value.is in
    let fits : FitsSigned w128 c.in-Value.n = search rules in
    let added = simp to_z-of_z at c.in_ok-push-in-Value.ensures.added in
    record {
      ran = ap (λ (ns : List ℤ). values_onto ns (map (eval (frame_in c.args.self.now.frame)) rest) c.eval.new.w) added ∙ sym (values_more (frame_in c.args.self.now.frame) c.e-item.result rest c.loop-e.values c.in-Value.n c.loop-e.w c.eval.new.w first) ∙ ap (λ (xs : List Expr). values_onto c.loop-e.values (map (eval (frame_in c.args.self.now.frame)) xs) c.loop-e.w) (sym turn) ∙ c.loop-e.invariant.ran;
      kept = c.in_ok-n.ensures.kept ∙ c.loop-e.invariant.kept;
      sized = rest-sized expr_sized c.e-item.result rest (ap (list_all expr_sized) (sym turn) ∙ c.loop-e.invariant.sized);
    }
