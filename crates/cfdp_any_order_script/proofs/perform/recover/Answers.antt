use Rattle.std.proofs.Common.{arith, refl}
use Rattle.std.proofs.lemmas.Result.{err_from_is_err_and}
use Rattle.cfdp_any_order_script.proofs.Ending.{recovered_ends, recovered_last, recovered_more, recovered_none, recovered_still}
use Rattle.cfdp_any_order_script.proofs.perform.recover.Goals as goal

pub loop-round-init : goal.loop-round-init
loop-round-init c = recovered_none c.args.play.now c.settle.new.play c.in_ok-settle.ensures

pub loop-round-preserved : goal.loop-round-preserved
loop-round-preserved c =
    recovered_more c.loop-round._round c.args.play.now c.loop-round.play c.recover_once.new.play c.loop-round.invariant (c.in_ok-recover_once.ensures.done c.if-not-branch.false)

pub returns-in_err-recover_once : goal.returns-in_err-recover_once
returns-in_err-recover_once c =
    let p = err_from_is_err_and c.from_residual-in_err-recover_once.result c.from_residual-in_err-recover_once.ensures.1 in
    rw (p.1, p.2) (recovered_ends _ c.loop-round._round c.args.play.now c.loop-round.play c.recover_once.new.play c.loop-round.invariant c.in_err-recover_once.ensures.ends)

pub returns-then-not-branch : goal.returns-then-not-branch
returns-then-not-branch c =
    let last = c.in_ok-recover_once.ensures.none c.if-not-branch.true in
    recovered_last c.loop-round._round c.args.play.now c.loop-round.play c.recover_once.new.play c.loop-round.invariant last.0 last.1

pub returns-in-Some : goal.returns-in-Some
returns-in-Some c = recovered_still c.in-Some.field-0.0 c.in-Some.field-0.1 c.loop-round._round c.args.play.now c.loop-round.play c.loop-round.invariant (omega arith) c.in-Some.ensures

pub returns-in-None : goal.returns-in-None
returns-in-None c = recovered_last c.loop-round._round c.args.play.now c.loop-round.play c.loop-round.play c.loop-round.invariant c.in-None.ensures refl
