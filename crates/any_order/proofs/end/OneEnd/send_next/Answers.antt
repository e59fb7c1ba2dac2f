use Rattle.std.proofs.Common.{[], ◌∷◌, refl, sym, subst, inl, inr}
use Rattle.std.proofs.lemmas.Result.{err_from_is_err_and}
use Rattle.any_order.specs.Calls.{Polls, Refuses}
use Rattle.any_order.specs.Kept.{gives}
use Rattle.any_order.specs.World.{ArePollCalls}
use Rattle.any_order.proofs.Leading.{makes_same, makes_sends}
use Rattle.any_order.proofs.end.OneEnd.send_next.Goals as goal

pub returns-in_err-answer-clause-makes : goal.returns-in_err-answer-clause-makes
returns-in_err-answer-clause-makes g c =
    let p = err_from_is_err_and c.from_residual.result c.from_residual.ensures.1 in (
      Refuses ∷ [],
      subst (λ r. ArePollCalls r (Refuses ∷ [])) (sym p.1) (inl refl),
      λ d theirs puts. makes_same d c.args.self.now theirs c.poll.new.self puts c.in_err-answer.ensures.err,
    )

pub returns-in_err-take_off-clause-makes : goal.returns-in_err-take_off-clause-makes
returns-in_err-take_off-clause-makes g c =
    let p = err_from_is_err_and c.from_residual-in_err-take_off.result c.from_residual-in_err-take_off.ensures.1 in
    let e = c.in_ok-answer.ensures in
    let all = c.take_off.ensures.gives in (
      Polls c.in_ok-answer.answer ∷ gives all.0,
      subst (λ r. ArePollCalls r (Polls c.in_ok-answer.answer ∷ gives all.0)) (sym p.1) (inr (c.in_ok-answer.answer, all.0, refl)),
      λ d theirs puts. makes_sends c.in_ok-answer.answer all.0 d c.args.self.now theirs c.poll.new.self c.take_off.new.self puts e.polled e.spells e.only all.1 c.take_off.ensures.only,
    )

pub returns-clause-makes : goal.returns-clause-makes
returns-clause-makes g c =
    let e = c.in_ok-answer.ensures in
    let all = c.take_off.ensures.gives in (
      Polls c.in_ok-answer.answer ∷ gives all.0,
      (all.0, refl),
      λ d theirs puts. makes_sends c.in_ok-answer.answer all.0 d c.args.self.now theirs c.poll.new.self c.take_off.new.self puts e.polled e.spells e.only all.1 c.take_off.ensures.only,
    )
