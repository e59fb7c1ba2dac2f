use Rattle.std.proofs.Common.{◌≡◌, ◌∙◌}
use Rattle.std.proofs.lemmas.Result.{err_from_is_err_and}
use Rattle.cfdp_sender.specs.declared.phase.SenderPhase.TheVariants.{Sending}
use Rattle.cfdp_sender.specs.Does.{AsksSome}
use Rattle.cfdp_sender.proofs.Asking.{asked-next, asks-some, first-left}
use Rattle.cfdp_sender.proofs.sender.Sender.ask_all.Goals as goal

pub loop-start-preserved : goal.loop-start-preserved
loop-start-preserved c =
    let left = first-left _ _ _ _ c.in-Some.is c.next.ensures.steps in
    let p = asked-next c.args.pairs.now c.loop-start.yielded c.loop-start.start-iterator c.next.new.self
    (c.in-Some.start, c.in-Some.end) c.args.self.now c.loop-start.self c.ask.new.self c.loop-start.invariant.0 c.loop-start.invariant.1 left c.in_ok-ask.ensures.ok in
    (p.0, p.1, c.ask.ensures.same ∙ c.loop-start.invariant.2)

pub returns-in_err-ask-clause-err : goal.returns-in_err-ask-clause-err
returns-in_err-ask-clause-err c =
    let some : c.args.self.now.phase ≡ Sending → AsksSome c.args.pairs.now c.args.self.now c.ask.new.self =
    λ sending. asks-some c.args.pairs.now c.loop-start.yielded c.loop-start.start-iterator c.args.self.now c.ask.new.self sending c.loop-start.invariant.1
    (c.in_err-ask.ensures.err ∙ c.loop-start.invariant.0) in
    let p = err_from_is_err_and c.from_residual.result c.from_residual.ensures.1 in rw p.1 some
