use Rattle.std.proofs.Common.{◌≡◌, sym, subst}
use Rattle.cfdp_entity.specs.Polling.{Rests, turn}
use Rattle.link_sim.specs.Observed.{seen}
use Rattle.link_sim.specs.World.State.{WorldState, entity_at}
use Rattle.link_sim.proofs.Events.Folding.{leads-none, leads-both}
use Rattle.link_sim.proofs.Ways.Sendings.{on_err, poll_lacks, polled_more, polled_none, polls_all}
use Rattle.link_sim.proofs.world.World.poll_all.Goals as goal

pub loop-init : goal.loop-init
loop-init g c = record { leads = leads-none (seen c.args.self.now); polled = polled_none c.args.side c.args.self.now }

pub loop-preserved : goal.loop-preserved
loop-preserved g c = record {
  leads = leads-both (seen c.args.self.now) (seen c.loop.self) (seen c.does.new.self) c.loop.invariant.leads c.does.ensures.turn.work.leads;
  polled = polled_more c.args.side c.args.self.now c.loop.self c.does.new.self c.loop.invariant.polled (c.in_ok-does.ensures.applied c.if-branch.true);
}

pub returns-in_err-does-clause-lacks : goal.returns-in_err-does-clause-lacks
returns-in_err-does-clause-lacks g c =
    on_err c.from_residual.result _ (poll_lacks c.args.side c.args.self.now c.loop.self c.does.new.self c.loop.invariant.polled c.in_err-does.ensures.lacks)

pub returns-clause-polls : goal.returns-clause-polls
returns-clause-polls g c =
    polls_all c.args.side c.args.self.now c.loop.self c.does.new.self c.loop.invariant.polled (c.in_ok-does.ensures.turn.idle c.if-branch.false)

pub returns-clause-rests : goal.returns-clause-rests
returns-clause-rests g c =
    let idle = c.in_ok-does.ensures.turn.idle c.if-branch.false in
    subst (λ (w : WorldState). turn (entity_at c.args.side w) ≡ Rests) (sym idle.1) idle.0

pub returns-in_err-does-clause-leads : goal.returns-in_err-does-clause-leads
returns-in_err-does-clause-leads g c = leads-both (seen c.args.self.now) (seen c.loop.self) (seen c.does.new.self) c.loop.invariant.leads c.does.ensures.turn.work.leads

pub returns-clause-leads : goal.returns-clause-leads
returns-clause-leads g c = leads-both (seen c.args.self.now) (seen c.loop.self) (seen c.does.new.self) c.loop.invariant.leads c.does.ensures.turn.work.leads
