use Rattle.std.proofs.Common.{[], ◌∷◌, ◌++◌, ◌∙◌, ◌+◌, None, ap, append-nil, inl, inr, length-append, refl, rules, subst, sym}
use Rattle.std.specs.List.{flat_map}
use Rattle.cfdp_port.proofs.GainLemmas.{gains-both, gains-same}
use Rattle.cfdp_service.specs.Calls.{Asks}
use Rattle.cfdp_service.specs.Serving.{wish_calls}
use Rattle.cfdp_service.proofs.ChainLemmas.{chain-none, chain-one, chain-then}
use Rattle.cfdp_service.proofs.ServingLemmas.{chain-wish, does-none, does-then}
use Rattle.cfdp_service.proofs.serving.obey.Goals as goal

pub loop-wish-init : goal.loop-wish-init
loop-wish-init g c = (([], does-none _, chain-none g.U.User.steps _, refl), gains-same _ _ refl, refl)

pub returns-in_default-clause-obeys : goal.returns-in_default-clause-obeys
returns-in_default-clause-obeys g c =
    let before = c.loop-wish.invariant.0 in
    let none = subst (λ wish. g.U.User.steps c.loop-wish.user (Asks wish) c.asks.new.self) c.in_default.is c.asks.ensures in (
      flat_map wish_calls before.0 ++ Asks None ∷ [],
      record { done = before.0; rests = Asks None ∷ []; does = before.1; is = refl; ends = inl refl },
      chain-then g.U.User.steps (flat_map wish_calls before.0) (Asks None ∷ []) _ c.loop-wish.user c.asks.new.self before.2 (chain-one g.U.User.steps (Asks None) c.loop-wish.user c.asks.new.self none),
    )

pub loop-wish-preserved : goal.loop-wish-preserved
loop-wish-preserved g c =
    let before = c.loop-wish.invariant.0 in
    let wish = c.in-Some.wish in
    let reply = c.fulfil-reply.result in
    let asks = subst (λ w. g.U.User.steps c.loop-wish.user (Asks w) c.asks.new.self) c.in-Some.is c.asks.ensures in (
      (
        before.0 ++ (wish, reply) ∷ [],
        does-then before.0 (wish, reply) _ _ _ before.1 c.fulfil-reply.ensures.does.happens,
        chain-wish g.U.User.steps before.0 wish reply _ c.loop-wish.user c.asks.new.self c.answered.new.self before.2 asks c.answered.ensures,
        length-append before.0 ((wish, reply) ∷ []) ∙ ap (λ n. n + 1) before.3,
      ),
      gains-both _ _ _ c.loop-wish.invariant.1 c.fulfil-reply.ensures.gains,
      c.fulfil-reply.ensures.does.wire ∙ c.loop-wish.invariant.2,
    )

pub returns-clause-obeys : goal.returns-clause-obeys
returns-clause-obeys g c =
    let before = c.loop-wish.invariant.0 in (flat_map wish_calls before.0, record { done = before.0; rests = []; does = before.1; is = sym (append-nil (flat_map wish_calls before.0)); ends = inr (refl, before.3 ∙ search rules) }, before.2)
