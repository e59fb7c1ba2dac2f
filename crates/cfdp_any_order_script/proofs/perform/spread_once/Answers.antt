use Rattle.std.proofs.lemmas.Result.{err_from_is_err_and}
use Rattle.cfdp_any_order_script.proofs.Ending.{flushed, sending_ended}
use Rattle.cfdp_any_order_script.proofs.perform.spread_once.Goals as goal

pub returns-in_err-_any-clause-ends : goal.returns-in_err-_any-clause-ends
returns-in_err-_any-clause-ends c =
    let p = err_from_is_err_and c.from_residual-in_err-_any.result c.from_residual-in_err-_any.ensures.1 in
    sending_ended c.args.side c.from_residual-in_err-_any.result _ _ c.args.play.now c.attempt.new.play c.attempt-2.new.play p.1 p.2 (c.in_ok-attempt.ensures.done c.if-not-branch.false)
    c.in_err-_any.ensures.other c.in_err-_any.ensures.ends

pub returns-clause-done : goal.returns-clause-done
returns-clause-done c =
    λ yes. (
      c.attempt.new.play,
      c.in_ok-attempt.ensures.done c.if-not-branch.false,
      flushed c.args.side c.in_ok-_any._any c.attempt.new.play c.attempt-2.new.play c.in_ok-_any.ensures.done c.in_ok-_any.ensures.idle,
    )
