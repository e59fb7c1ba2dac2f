use Rattle.std.proofs.Common.{refl, inl, inr}
use Rattle.std.proofs.lemmas.Result.{err_from_is_err_and}
use Rattle.link_sim.specs.Observed.{seen}
use Rattle.link_sim.specs.Recovering.{Round, RoundEnds}
use Rattle.link_sim.proofs.Clean.Causes.{err-then}
use Rattle.link_sim.proofs.Events.Folding.{leads-both, upholds-leads}
use Rattle.link_sim.specs.Tracks.{Advances}
use Rattle.link_sim.specs.Waiting.{IgnoreInactivity}
use Rattle.link_sim.proofs.Recovery.Rounds.{next-least}
use Rattle.link_sim.proofs.Recovery.Laws.{round-laws}
use Rattle.link_sim.proofs.Recovery.Round.{advances}
use Rattle.link_sim.proofs.world.World.recover_round.Goals as goal

pub returns-clause-round : goal.returns-clause-round
returns-clause-round g c _ =
    let r : Round = record { side = c.in-Some.side; now = c.in-Some.now; ticked = c.tell.new.self; settled = c.settle_on.new.self } in
    (r, (record { rests = c.requires.settled; tells = c.in_ok-tell.ensures.tells; settles = c.in_ok-settle_on.ensures.settles.tries.well; settled = c.in_ok-settle_on.ensures.settles.tries.settled }, refl), advances-now)
  where
    advances-now : IgnoreInactivity c.args.self.now → Advances c.args.self.now c.settle_on.new.self
    advances-now ignore = advances round-laws c.in-Some.side c.in-Some.now c.args.self.now c.tell.new.self c.settle_on.new.self c.show_what_is_kept.ensures.0 c.show_what_is_kept.ensures.1
        c.in_ok-tell.ensures.expires.0 c.in_ok-tell.ensures.expires.1
        c.in_ok-settle_on.ensures.runs (λ s put e own has. c.show_rest.ensures c.in_ok-settle_on.ensures.settles.tries.settled s put e has) ignore
        (next-least c.in-Some.side c.in-Some.now c.args.self.now c.in_ok-tell.ensures.tells.next)

pub returns-clause-leads : goal.returns-clause-leads
returns-clause-leads g c = leads-both (seen c.args.self.now) (seen c.tell.new.self) (seen c.settle_on.new.self) c.tell.ensures.leads
    (upholds-leads c.tell.new.self c.settle_on.new.self c.settle_on.ensures.settles.upholds)

pub returns-in_err-settle_on-clause-leads : goal.returns-in_err-settle_on-clause-leads
returns-in_err-settle_on-clause-leads g c = leads-both (seen c.args.self.now) (seen c.tell.new.self) (seen c.settle_on.new.self) c.tell.ensures.leads
    (upholds-leads c.tell.new.self c.settle_on.new.self c.settle_on.ensures.settles.upholds)

pub returns-in_err-tell-clause-ends : goal.returns-in_err-tell-clause-ends
returns-in_err-tell-clause-ends g c =
    let p = err_from_is_err_and c.from_residual.result c.from_residual.ensures.1 in
    err-then c.from_residual.result (λ error. RoundEnds error c.args.self.now c.tell.new.self) p.0 c.in_err-tell.field-0.0 p.1 p.2
    (record { side = c.in-Some.side; now = c.in-Some.now; next = c.in-Some.ensures; ends = inl c.in_err-tell.ensures.ends })

pub returns-in_err-settle_on-clause-ends : goal.returns-in_err-settle_on-clause-ends
returns-in_err-settle_on-clause-ends g c =
    let p = err_from_is_err_and c.from_residual-in_err-settle_on.result c.from_residual-in_err-settle_on.ensures.1 in
    err-then c.from_residual-in_err-settle_on.result (λ error. RoundEnds error c.args.self.now c.settle_on.new.self) p.0 c.in_err-settle_on.field-0.0 p.1 p.2
    (record { side = c.in-Some.side; now = c.in-Some.now; next = c.in-Some.ensures; ends = inr (c.tell.new.self, c.in_ok-tell.ensures.tells, c.in_err-settle_on.ensures.settles.tries.cause) })
