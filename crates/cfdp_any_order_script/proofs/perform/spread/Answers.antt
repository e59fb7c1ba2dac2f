use Rattle.std.proofs.Common.{arith, inl, inr, refl}
use Rattle.std.proofs.lemmas.Result.{err_from_is_err_and}
use Rattle.cfdp_any_order_script.specs.Performing.{PollsAndFlushes}
use Rattle.cfdp_any_order_script.proofs.Ending.{spreading_ended, times_more}
use Rattle.cfdp_any_order_script.proofs.perform.spread.Goals as goal

pub returns-in_err-spread_once : goal.returns-in_err-spread_once
returns-in_err-spread_once c =
    let p = err_from_is_err_and c.from_residual.result c.from_residual.ensures.1 in
    spreading_ended c.args.side c.from_residual.result _ _ c.loop-done._done c.args.play.now c.loop-done.play c.spread_once.new.play p.1 p.2 c.loop-done.invariant
    c.in_err-spread_once.ensures.ends

pub returns-then-not-branch : goal.returns-then-not-branch
returns-then-not-branch c = (c.loop-done._done, c.loop-done.play, c.loop-done.invariant, c.in_ok-spread_once.ensures.idle c.if-not-branch.true)

pub loop-done-preserved : goal.loop-done-preserved
loop-done-preserved c =
    times_more (PollsAndFlushes c.args.side) c.loop-done._done c.args.play.now c.loop-done.play c.spread_once.new.play c.loop-done.invariant
    (c.in_ok-spread_once.ensures.done c.if-not-branch.false)

pub returns : goal.returns
returns c = (c.loop-done._done, c.loop-done.play, c.loop-done.invariant, inl (refl, omega arith, refl))
