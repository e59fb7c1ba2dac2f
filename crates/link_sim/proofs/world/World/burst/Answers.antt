use Rattle.link_sim.specs.Observed.{seen}
use Rattle.link_sim.proofs.Events.Folding.{leads-both, leads-upholds}
use Rattle.link_sim.proofs.Clean.Causes.{flushed-rests}
use Rattle.link_sim.proofs.Ways.Sendings.{burst_failed, burst_lacks_flush, burst_lacks_poll, bursts}
use Rattle.link_sim.proofs.world.World.burst.Goals as goal

pub returns-in_err-poll_all-clause-tries : goal.returns-in_err-poll_all-clause-tries
returns-in_err-poll_all-clause-tries g c =
    burst_failed _ c.from_residual.result c.args.side c.args.self.now c.poll_all.new.self c.from_residual.ensures.1
    (burst_lacks_poll c.args.side c.args.self.now c.poll_all.new.self c.in_err-poll_all.ensures.lacks)

pub returns-in_err-poll_all-clause-upholds : goal.returns-in_err-poll_all-clause-upholds
returns-in_err-poll_all-clause-upholds g c = leads-upholds c.args.self.now c.poll_all.new.self c.show_what_holds.ensures c.poll_all.ensures.leads

pub returns-in_err-_flushed-clause-tries : goal.returns-in_err-_flushed-clause-tries
returns-in_err-_flushed-clause-tries g c =
    burst_failed _ c.from_residual-in_err-_flushed.result c.args.side c.args.self.now c.does.new.self c.from_residual-in_err-_flushed.ensures.1
    (burst_lacks_flush c.args.side c.args.self.now c.poll_all.new.self c.does.new.self c.in_ok-poll_all.ensures.polls c.in_err-_flushed.ensures.lacks)

pub returns-in_err-_flushed-clause-upholds : goal.returns-in_err-_flushed-clause-upholds
returns-in_err-_flushed-clause-upholds g c = leads-upholds c.args.self.now c.does.new.self c.show_what_holds.ensures
    (leads-both (seen c.args.self.now) (seen c.poll_all.new.self) (seen c.does.new.self) c.poll_all.ensures.leads c.does.ensures.turn.work.leads)

pub returns-clause-tries : goal.returns-clause-tries
returns-clause-tries g c = record {
  rests = flushed-rests c.in_ok-_flushed._flushed c.args.side c.poll_all.new.self c.does.new.self c.in_ok-_flushed.ensures.applied c.in_ok-_flushed.ensures.turn.idle c.in_ok-poll_all.ensures.rests;
  bursts = bursts c.args.side c.in_ok-_flushed._flushed c.args.self.now c.poll_all.new.self c.does.new.self c.in_ok-poll_all.ensures.polls
      c.in_ok-_flushed.ensures.applied c.in_ok-_flushed.ensures.turn.idle;
  lacks = tt;
}

pub returns-clause-upholds : goal.returns-clause-upholds
returns-clause-upholds g c = leads-upholds c.args.self.now c.does.new.self c.show_what_holds.ensures
    (leads-both (seen c.args.self.now) (seen c.poll_all.new.self) (seen c.does.new.self) c.poll_all.ensures.leads c.does.ensures.turn.work.leads)
