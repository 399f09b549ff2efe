use Rattle.std.proofs.Common.{◌≡◌, [], ◌∷◌, ◌++◌, ◌<◌, ℕ, List, Bool, true, false, sym, subst}
use Rattle.sol_names.specs.Search.{frames, Searching, Turns}
use Rattle.sol_names.proofs.Scheduling.{popped, weight, top-within, top-below, turn-true, turn-false, turn-less}
use Rattle.sol_names.proofs.schedule.search.Goals as goal

pub turn-requires-clause-unit : goal.turn-requires-clause-unit
turn-requires-clause-unit c =
    let g = c.args.graph.now in
    let u = c.args.unit in
    let f = c.in-Some.frame in
    let old = c.loop-frame.stack.items in
    let new = c.pop.new.self.items in
    let vs = c.loop-frame.visits in
    let ds = c.loop-frame.done.items in
    let e : frames old ≡ frames new ++ (f.unit, f.left.now) ∷ [] = popped old new f c.in-Some.ensures.items in
    let s : Searching g u (frames new ++ (f.unit, f.left.now) ∷ []) vs ds = subst (λ (fs : List (ℕ × List ℕ)). Searching g u fs vs ds) e c.loop-frame.invariant in
    top-within g u f.unit f.left.now (frames new) vs ds s

pub turn-requires-clause-left : goal.turn-requires-clause-left
turn-requires-clause-left c =
    let g = c.args.graph.now in
    let u = c.args.unit in
    let f = c.in-Some.frame in
    let old = c.loop-frame.stack.items in
    let new = c.pop.new.self.items in
    let vs = c.loop-frame.visits in
    let ds = c.loop-frame.done.items in
    let e : frames old ≡ frames new ++ (f.unit, f.left.now) ∷ [] = popped old new f c.in-Some.ensures.items in
    let s : Searching g u (frames new ++ (f.unit, f.left.now) ∷ []) vs ds = subst (λ (fs : List (ℕ × List ℕ)). Searching g u fs vs ds) e c.loop-frame.invariant in
    top-below g u f.unit f.left.now (frames new) vs ds c.requires.below s

pub returns-then-not-branch : goal.returns-then-not-branch
returns-then-not-branch c =
    let g = c.args.graph.now in
    let u = c.args.unit in
    let f = c.in-Some.frame in
    let old = c.loop-frame.stack.items in
    let new = c.pop.new.self.items in
    let vs = c.loop-frame.visits in
    let ds = c.loop-frame.done.items in
    let e : frames old ≡ frames new ++ (f.unit, f.left.now) ∷ [] = popped old new f c.in-Some.ensures.items in
    let s : Searching g u (frames new ++ (f.unit, f.left.now) ∷ []) vs ds = subst (λ (fs : List (ℕ × List ℕ)). Searching g u fs vs ds) e c.loop-frame.invariant in
    let last = c.turn.new.stack.items in
    let new_vs = c.turn.new.visits in
    let new_ds = c.turn.new.done.items in
    let t : Turns g (frames new) vs ds f.unit f.left.now false (frames last) new_vs new_ds = subst (λ (b : Bool). Turns g (frames new) vs ds f.unit f.left.now b (frames last) new_vs new_ds) c.if-not-branch.true c.in_ok-turn.ensures in
    turn-false g u f.unit f.left.now (frames new) vs ds (frames last) new_vs new_ds t s

pub loop-frame-preserved : goal.loop-frame-preserved
loop-frame-preserved c =
    let g = c.args.graph.now in
    let u = c.args.unit in
    let f = c.in-Some.frame in
    let old = c.loop-frame.stack.items in
    let new = c.pop.new.self.items in
    let vs = c.loop-frame.visits in
    let ds = c.loop-frame.done.items in
    let e : frames old ≡ frames new ++ (f.unit, f.left.now) ∷ [] = popped old new f c.in-Some.ensures.items in
    let s : Searching g u (frames new ++ (f.unit, f.left.now) ∷ []) vs ds = subst (λ (fs : List (ℕ × List ℕ)). Searching g u fs vs ds) e c.loop-frame.invariant in
    let last = c.turn.new.stack.items in
    let new_vs = c.turn.new.visits in
    let new_ds = c.turn.new.done.items in
    let t : Turns g (frames new) vs ds f.unit f.left.now true (frames last) new_vs new_ds = subst (λ (b : Bool). Turns g (frames new) vs ds f.unit f.left.now b (frames last) new_vs new_ds) c.if-not-branch.false c.in_ok-turn.ensures in
    turn-true g u f.unit f.left.now (frames new) vs ds (frames last) new_vs new_ds t s

pub loop-frame-smaller : goal.loop-frame-smaller
loop-frame-smaller c =
    let g = c.args.graph.now in
    let u = c.args.unit in
    let f = c.in-Some.frame in
    let old = c.loop-frame.stack.items in
    let new = c.pop.new.self.items in
    let vs = c.loop-frame.visits in
    let ds = c.loop-frame.done.items in
    let e : frames old ≡ frames new ++ (f.unit, f.left.now) ∷ [] = popped old new f c.in-Some.ensures.items in
    let last = c.turn.new.stack.items in
    let new_vs = c.turn.new.visits in
    let new_ds = c.turn.new.done.items in
    let t : Turns g (frames new) vs ds f.unit f.left.now true (frames last) new_vs new_ds = subst (λ (b : Bool). Turns g (frames new) vs ds f.unit f.left.now b (frames last) new_vs new_ds) c.if-not-branch.false c.in_ok-turn.ensures in
    subst (λ (fs : List (ℕ × List ℕ)). weight g new_vs (frames last) < weight g vs fs) (sym e) (turn-less g f.unit f.left.now (frames new) vs ds (frames last) new_vs new_ds t)
