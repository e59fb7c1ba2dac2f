use Rattle.std.proofs.Common.{◌≡◌, sym, subst}
use Rattle.cfdp_entity.specs.Polling.{Rests, turn}
use Rattle.link_sim.specs.Observed.{seen}
use Rattle.link_sim.specs.World.State.{WorldState, entity_at}
use Rattle.link_sim.proofs.Events.Folding.{leads-none, leads-both, leads-upholds}
use Rattle.link_sim.proofs.Ways.Sendings.{flush_lacks, sent_more, sent_none, spread_failed, spread_lacks, spreads}
use Rattle.link_sim.proofs.world.World.spread.Goals as goal

pub loop-self-init : goal.loop-self-init
loop-self-init g c = record { leads = leads-none (seen c.args.self.now); sent = sent_none c.args.side c.args.self.now }

pub loop-self-preserved : goal.loop-self-preserved
loop-self-preserved g c = record {
  leads = leads-both (seen c.args.self.now) (seen c.does.new.self) (seen c.does-in-loop-self.new.self)
      (leads-both (seen c.args.self.now) (seen c.loop-self.self) (seen c.does.new.self) c.loop-self.invariant.leads c.does.ensures.turn.work.leads) c.does-in-loop-self.ensures.turn.work.leads;
  sent = sent_more c.args.side c.in_ok-_flushed._flushed c.args.self.now c.loop-self.self c.does.new.self c.does-in-loop-self.new.self c.loop-self.invariant.sent
      (c.in_ok-does.ensures.applied c.if-branch.true) c.in_ok-_flushed.ensures.applied c.in_ok-_flushed.ensures.turn.idle;
}

pub returns-in_err-does-clause-tries : goal.returns-in_err-does-clause-tries
returns-in_err-does-clause-tries g c =
    spread_failed _ c.from_residual.result c.args.side c.args.self.now c.does.new.self c.from_residual.ensures.1
    (spread_lacks c.args.side c.args.self.now c.loop-self.self c.does.new.self c.loop-self.invariant.sent c.in_err-does.ensures.lacks)

pub returns-in_err-does-clause-upholds : goal.returns-in_err-does-clause-upholds
returns-in_err-does-clause-upholds g c = leads-upholds c.args.self.now c.does.new.self c.show_what_holds.ensures
    (leads-both (seen c.args.self.now) (seen c.loop-self.self) (seen c.does.new.self) c.loop-self.invariant.leads c.does.ensures.turn.work.leads)

pub returns-in_err-_flushed-clause-tries : goal.returns-in_err-_flushed-clause-tries
returns-in_err-_flushed-clause-tries g c =
    spread_failed _ c.from_residual-in_err-_flushed.result c.args.side c.args.self.now c.does-in-loop-self.new.self c.from_residual-in_err-_flushed.ensures.1
    (flush_lacks c.args.side c.args.self.now c.loop-self.self c.does.new.self c.does-in-loop-self.new.self c.loop-self.invariant.sent
    (c.in_ok-does.ensures.applied c.if-branch.true) c.in_err-_flushed.ensures.lacks)

pub returns-in_err-_flushed-clause-upholds : goal.returns-in_err-_flushed-clause-upholds
returns-in_err-_flushed-clause-upholds g c = leads-upholds c.args.self.now c.does-in-loop-self.new.self c.show_what_holds.ensures
    (leads-both (seen c.args.self.now) (seen c.does.new.self) (seen c.does-in-loop-self.new.self)
    (leads-both (seen c.args.self.now) (seen c.loop-self.self) (seen c.does.new.self) c.loop-self.invariant.leads c.does.ensures.turn.work.leads) c.does-in-loop-self.ensures.turn.work.leads)

pub returns-clause-tries : goal.returns-clause-tries
returns-clause-tries g c =
    let idle = c.in_ok-does.ensures.turn.idle c.if-branch.false in
    record {
      rests = subst (λ (w : WorldState). turn (entity_at c.args.side w) ≡ Rests) (sym idle.1) idle.0;
      spreads = spreads c.args.side c.args.self.now c.loop-self.self c.does.new.self c.loop-self.invariant.sent idle;
      lacks = tt;
    }

pub returns-clause-upholds : goal.returns-clause-upholds
returns-clause-upholds g c = leads-upholds c.args.self.now c.does.new.self c.show_what_holds.ensures
    (leads-both (seen c.args.self.now) (seen c.loop-self.self) (seen c.does.new.self) c.loop-self.invariant.leads c.does.ensures.turn.work.leads)
