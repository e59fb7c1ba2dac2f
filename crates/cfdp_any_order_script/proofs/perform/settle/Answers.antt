use Rattle.std.proofs.Common.{None, Some, arith, inl, refl, subst}
use Rattle.std.proofs.lemmas.Result.{err_from_is_err_and}
use Rattle.link_sim.specs.declared.event.Event.{Event}
use Rattle.cfdp_any_order_script.specs.Performing.{HappensOnce, nothing}
use Rattle.cfdp_any_order_script.proofs.Settling.{settled_idle, settled_last, settled_moved, settled_none, settling_ended}
use Rattle.cfdp_any_order_script.proofs.perform.settle.Goals as goal
use Rattle.cfdp_any_order_script.proofs.perform.settle.Goals.{then-branch, else-branch+else-idle-eq8}

pub returns-then-idle-eq8 : goal.returns-then-idle-eq8
returns-then-idle-eq8 c =
    let h = c.loop-done.invariant in
    let one = subst (λ (e : Event). HappensOnce e (Some nothing) c.loop-done.play c.attempt.new.play) c.turn_event.ensures (c.in_ok-attempt.ensures.idle c.if-branch.false) in
    (h.count, h.first, h.before, settled_last c.loop-done._done c.loop-done.turn c.loop-done.idle c.args.play.now c.loop-done.play c.attempt.new.play h one c.if-idle-eq8.true)

pub loop-done-preserved : goal.loop-done-preserved
loop-done-preserved c =
    let h = c.loop-done.invariant in
    elim c.if-branch.branch [
      | then-branch w ↦
          let one = subst (λ (e : Event). HappensOnce e None c.loop-done.play c.attempt.new.play) c.turn_event.ensures (c.in_ok-attempt.ensures.done w.if-branch.true) in
          rw (w.turn-is, w.idle-is) (settled_moved c.loop-done._done c.loop-done.turn c.loop-done.idle c.args.play.now c.loop-done.play c.attempt.new.play h one)
      | else-branch+else-idle-eq8 w ↦
          let one = subst (λ (e : Event). HappensOnce e (Some nothing) c.loop-done.play c.attempt.new.play) c.turn_event.ensures (c.in_ok-attempt.ensures.idle w.if-branch.false) in
          rw (w.turn-is, w.idle-is) (settled_idle c.loop-done._done c.loop-done.turn c.loop-done.idle w.next_turn-turn.result c.args.play.now c.loop-done.play c.attempt.new.play h one w.next_turn-turn.ensures.is w.next_turn-turn.ensures.bound (omega arith))
    ]

pub loop-done-init : goal.loop-done-init
loop-done-init c = settled_none c.args.play.now

pub returns-in_err-attempt : goal.returns-in_err-attempt
returns-in_err-attempt c =
    let p = err_from_is_err_and c.from_residual.result c.from_residual.ensures.1 in
    settling_ended c.from_residual.result _ _ c.turn_event.result c.loop-done._done c.loop-done.turn c.loop-done.idle c.args.play.now c.loop-done.play c.attempt.new.play p.1 p.2
    c.turn_event.ensures c.loop-done.invariant c.in_err-attempt.ensures.other c.in_err-attempt.ensures.ends

pub returns : goal.returns
returns c = (c.loop-done._done, c.loop-done.play, c.loop-done.invariant.all, inl (refl, omega arith, refl))
