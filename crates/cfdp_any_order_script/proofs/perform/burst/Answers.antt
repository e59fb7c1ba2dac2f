use Rattle.std.proofs.Common.{inr}
use Rattle.std.proofs.lemmas.Result.{err_from_is_err_and}
use Rattle.cfdp_any_order_script.proofs.Ending.{burst_ended, flushed}
use Rattle.cfdp_any_order_script.proofs.perform.burst.Goals as goal

pub returns-in_err-_any : goal.returns-in_err-_any
returns-in_err-_any c =
    let p = err_from_is_err_and c.from_residual-in_err-_any.result c.from_residual-in_err-_any.ensures.1 in
    burst_ended c.args.side c.from_residual-in_err-_any.result _ _ c.args.play.now c.poll_all.new.play c.attempt.new.play p.1 p.2 c.in_ok-poll_all.ensures c.in_err-_any.ensures.other
    c.in_err-_any.ensures.ends

pub returns : goal.returns
returns c =
    inr (c.poll_all.new.play, c.in_ok-poll_all.ensures, flushed c.args.side c.in_ok-_any._any c.poll_all.new.play c.attempt.new.play c.in_ok-_any.ensures.done c.in_ok-_any.ensures.idle)
