use Rattle.std.proofs.Common.{inl, inr, refl}
use Rattle.std.proofs.lemmas.Result.{err_from_is_err_and}
use Rattle.link_sim.specs.Calls.{Settles}
use Rattle.link_sim.specs.Observed.{seen}
use Rattle.link_sim.specs.Onward.{GoesOn}
use Rattle.link_sim.specs.Settling.{first_event}
use Rattle.station_pair.specs.declared.settle_error.SettleError.{SettleError}
use Rattle.link_sim.proofs.Events.Folding.{leads-none, leads-both, leads-upholds}
use Rattle.link_sim.proofs.Clean.Causes.{on-then, cause-then}
use Rattle.link_sim.proofs.Clean.Parts.{err-as}
use Rattle.link_sim.proofs.world.World.settle_on.Goals as goal

pub loop-init : goal.loop-init
loop-init g c = record { leads = leads-none (seen c.args.self.now); well = inl (refl, refl) }

pub loop-preserved : goal.loop-preserved
loop-preserved g c = record {
  leads = leads-both (seen c.args.self.now) (seen c.loop.self) (seen c.settle_round.new.self) c.loop.invariant.leads c.settle_round.ensures.part.work.leads;
  well = inr (on-then first_event first_event first_event c.args.self.now c.loop.self c.settle_round.new.self c.loop.invariant.well c.in_ok-settle_round.ensures.part.well);
}

pub returns-in_err-settle_round-clause-settles : goal.returns-in_err-settle_round-clause-settles
returns-in_err-settle_round-clause-settles g c =
    let p = err_from_is_err_and c.from_residual.result c.from_residual.ensures.1 in
    let e : SettleError = c.in_err-settle_round.field-0.0 in
    err-as c.from_residual.result (λ r. Settles r c.args.self.now c.settle_round.new.self) p.0 e p.1 p.2
    (record {
      tries = record {
        settled = tt;
        well = tt;
        cause = cause-then e first_event first_event c.args.self.now c.loop.self c.settle_round.new.self c.loop.invariant.well c.in_err-settle_round.ensures.part.cause;
      };
      upholds = leads-upholds c.args.self.now c.settle_round.new.self c.show_what_holds.ensures
          (leads-both (seen c.args.self.now) (seen c.loop.self) (seen c.settle_round.new.self) c.loop.invariant.leads c.settle_round.ensures.part.work.leads);
      completes = tt;
    })

pub returns-clause-settles : goal.returns-clause-settles
returns-clause-settles g c =
    let settled = c.in_ok-settle_round.ensures.settled c.if-branch.false in
    let on : GoesOn c.args.self.now c.settle_round.new.self =
    on-then first_event first_event first_event c.args.self.now c.loop.self c.settle_round.new.self c.loop.invariant.well c.in_ok-settle_round.ensures.part.well in
    record {
      tries = record { settled = settled; well = on.well; cause = tt };
      upholds = leads-upholds c.args.self.now c.settle_round.new.self c.show_what_holds.ensures
          (leads-both (seen c.args.self.now) (seen c.loop.self) (seen c.settle_round.new.self) c.loop.invariant.leads c.settle_round.ensures.part.work.leads);
      completes = λ clean. c.show_completion.ensures settled (on.well.clean clean);
    }

pub returns-clause-runs : goal.returns-clause-runs
returns-clause-runs g c =
    (on-then first_event first_event first_event c.args.self.now c.loop.self c.settle_round.new.self c.loop.invariant.well c.in_ok-settle_round.ensures.part.well).runs
