use Rattle.std.proofs.Common.{drop, subst, List}
use Rattle.std.specs.Prelude.{Err}
use Rattle.chc_form.specs.declared.lemma.Lemma.{Lemma}
use Rattle.pool_state.specs.Tested.{tested, Leaves}
use Rattle.std.proofs.lemmas.List.{take_rest}
use Rattle.chc_reduce.specs.Obligations.{for_lemmas}
use Rattle.pool_state.proofs.Testing.{stays-open, none-open}
use Rattle.pool_state.proofs.batch.test_batch.Goals as goal

pub returns-in-Ok : goal.returns-in-Ok
returns-in-Ok c =
    let e = c.in-Ok.ensures in
    (tt, none-open (for_lemmas c.args.s.now c.args.have.now 0 (drop c.args.had c.args.have.now)) c.args.proofs.now c.in-Ok.field-0.now (rw (take_rest c.args.have.now c.args.had) at e))

pub returns-in-Err : goal.returns-in-Err
returns-in-Err c =
    let rest = take_rest c.args.have.now c.args.had in
    let fault : Leaves (tested (for_lemmas c.args.s.now c.args.have.now 0 (drop c.args.had c.args.have.now)) c.args.proofs.now) (Err c.in-Err.fault) = subst (λ (ls : List Lemma). Leaves (tested (for_lemmas c.args.s.now c.args.have.now 0 ls) c.args.proofs.now) (Err c.in-Err.fault)) rest c.in-Err.ensures in
    stays-open {A = Unit {0}} (for_lemmas c.args.s.now c.args.have.now 0 (drop c.args.had c.args.have.now)) c.args.proofs.now (λ u. Unit {0}) c.in-Err.fault fault
