use Rattle.std.proofs.Common.{◌≡◌, ◌∙◌, inl, inr, sym, subst, arith}
use Rattle.std.proofs.lemmas.Result.{err_from_is_err_and}
use Rattle.link_sim.specs.Observed.{seen}
use Rattle.link_sim.specs.Onward.{RecoversOn}
use Rattle.link_sim.specs.Recovering.{Recovers, most_rounds}
use Rattle.link_sim.specs.World.State.{WorldState}
use Rattle.station_pair.specs.declared.settle_error.SettleError.{SettleError}
use Rattle.link_sim.proofs.Events.Folding.{leads-both, leads-upholds, upholds-leads}
use Rattle.link_sim.proofs.Recovery.Rounds.{recovery-ended, run-none, run-more, stays-armed}
use Rattle.link_sim.proofs.Recovery.Recovered.{all-completed, not-armed, other-error}
use Rattle.link_sim.proofs.Recovery.Laws.{first-laws}
use Rattle.link_sim.proofs.Recovery.First.{first-stand}
use Rattle.link_sim.proofs.world.World.recover.Goals as goal

pub loop-round-init : goal.loop-round-init
loop-round-init g c = record {
  leads = upholds-leads c.args.self.now c.settle_on.new.self c.settle_on.ensures.settles.upholds;
  run = run-none c.args.self.now c.settle_on.new.self (record { well = c.in_ok-settle_on.ensures.settles.tries.well; runs = c.in_ok-settle_on.ensures.runs })
      c.in_ok-settle_on.ensures.settles.tries.settled
      (first-stand first-laws c.args.self.now c.settle_on.new.self c.show_what_is_kept.ensures.0 c.show_what_is_kept.ensures.1 c.in_ok-settle_on.ensures.runs
      (λ s put e own has. c.show_rest.ensures c.in_ok-settle_on.ensures.settles.tries.settled s put e has));
}

pub loop-round-preserved : goal.loop-round-preserved
loop-round-preserved g c =
    let round = c.in_ok-recover_round.ensures.round c.if-not-branch.false in
    record {
      leads = leads-both (seen c.args.self.now) (seen c.loop-round.self) (seen c.recover_round.new.self) c.loop-round.invariant.leads c.recover_round.ensures.leads;
      run = run-more c.loop-round._round c.args.self.now c.loop-round.self c.recover_round.new.self c.loop-round-test.true c.loop-round.invariant.run round.0 round.1 round.2;
    }

pub returns-in_err-settle_on-clause-tries : goal.returns-in_err-settle_on-clause-tries
returns-in_err-settle_on-clause-tries g c =
    let p = err_from_is_err_and c.from_residual.result c.from_residual.ensures.1 in
    let e : SettleError = c.in_err-settle_on.field-0.0 in
    recovery-ended c.from_residual.result p.0 e c.args.self.now c.settle_on.new.self p.1 p.2 (inl c.in_err-settle_on.ensures.settles.tries.cause)

pub returns-in_err-recover_round-clause-tries : goal.returns-in_err-recover_round-clause-tries
returns-in_err-recover_round-clause-tries g c =
    let p = err_from_is_err_and c.from_residual-in_err-recover_round.result c.from_residual-in_err-recover_round.ensures.1 in
    let e : SettleError = c.in_err-recover_round.field-0.0 in
    recovery-ended c.from_residual-in_err-recover_round.result p.0 e c.args.self.now c.recover_round.new.self p.1 p.2
    (inr (c.loop-round.self, c.loop-round.invariant.run.on.run, c.in_err-recover_round.ensures.ends))

pub returns-then-not-branch-clause-tries : goal.returns-then-not-branch-clause-tries
returns-then-not-branch-clause-tries g c =
    let same : c.recover_round.new.self ≡ c.loop-round.self = c.in_ok-recover_round.ensures.same c.if-not-branch.true in
    record {
      recovered = c.in_ok-recover_round.ensures.recovered c.if-not-branch.true;
      well = subst (λ (w : WorldState). Recovers c.args.self.now w) (sym same) c.loop-round.invariant.run.on.run;
      cause = tt;
    }

pub returns-in-None-clause-tries : goal.returns-in-None-clause-tries
returns-in-None-clause-tries g c = record {
  recovered = record { settled = c.loop-round.invariant.run.rests; only_inactivity = c.in-None.ensures };
  well = c.loop-round.invariant.run.on.run;
  cause = tt;
}

pub returns-in-Some-clause-tries : goal.returns-in-Some-clause-tries
returns-in-Some-clause-tries g c = record {
  recovered = tt;
  well = tt;
  cause = stays-armed c.loop-round._round c.args.self.now c.loop-round.self c.in-Some.field-0.0 c.in-Some.field-0.1
      (omega (arith, c.loop-round-test.false, c.loop-round.auto._round-end)) c.loop-round.invariant.run c.in-Some.ensures;
}

pub returns-in_err-recover_round-clause-upholds : goal.returns-in_err-recover_round-clause-upholds
returns-in_err-recover_round-clause-upholds g c = leads-upholds c.args.self.now c.recover_round.new.self c.show_what_holds.ensures
    (leads-both (seen c.args.self.now) (seen c.loop-round.self) (seen c.recover_round.new.self) c.loop-round.invariant.leads c.recover_round.ensures.leads)

pub returns-then-not-branch-clause-upholds : goal.returns-then-not-branch-clause-upholds
returns-then-not-branch-clause-upholds g c = leads-upholds c.args.self.now c.recover_round.new.self c.show_what_holds.ensures
    (leads-both (seen c.args.self.now) (seen c.loop-round.self) (seen c.recover_round.new.self) c.loop-round.invariant.leads c.recover_round.ensures.leads)

pub returns-in-None-clause-upholds : goal.returns-in-None-clause-upholds
returns-in-None-clause-upholds g c = leads-upholds c.args.self.now c.loop-round.self c.show_what_holds.ensures c.loop-round.invariant.leads

pub returns-in-Some-clause-upholds : goal.returns-in-Some-clause-upholds
returns-in-Some-clause-upholds g c = leads-upholds c.args.self.now c.loop-round.self c.show_what_holds.ensures c.loop-round.invariant.leads

pub returns-in_err-settle_on-clause-ends : goal.returns-in_err-settle_on-clause-ends
returns-in_err-settle_on-clause-ends g c =
    let p = err_from_is_err_and c.from_residual.result c.from_residual.ensures.1 in
    other-error c.from_residual.result p.0 c.in_err-settle_on.field-0.0 _ p.1 p.2

pub returns-in_err-recover_round-clause-ends : goal.returns-in_err-recover_round-clause-ends
returns-in_err-recover_round-clause-ends g c =
    let p = err_from_is_err_and c.from_residual-in_err-recover_round.result c.from_residual-in_err-recover_round.ensures.1 in
    other-error c.from_residual-in_err-recover_round.result p.0 c.in_err-recover_round.field-0.0 _ p.1 p.2

pub returns-in-Some-clause-ends : goal.returns-in-Some-clause-ends
returns-in-Some-clause-ends g c k =
    let most : c.loop-round._round ≡ most_rounds = omega (arith, c.loop-round-test.false, c.loop-round.auto._round-end) in
    absurd (not-armed c.args.self.now c.loop-round.self c.loop-round.invariant.run.on (c.loop-round.invariant.run.count ∙ most)
    c.show_what_is_kept-2.ensures.1 k.0 k.1)

pub returns-then-not-branch-clause-completes : goal.returns-then-not-branch-clause-completes
returns-then-not-branch-clause-completes g c k id unfinished =
    let same : c.recover_round.new.self ≡ c.loop-round.self = c.in_ok-recover_round.ensures.same c.if-not-branch.true in
    all-completed c.args.self.now c.recover_round.new.self (subst (λ (w : WorldState). RecoversOn c.args.self.now w) (sym same) c.loop-round.invariant.run.on) k.0 k.1
    (c.in_ok-recover_round.ensures.kept c.if-not-branch.true).0 (c.in_ok-recover_round.ensures.recovered c.if-not-branch.true) id unfinished

pub returns-in-None-clause-completes : goal.returns-in-None-clause-completes
returns-in-None-clause-completes g c k id unfinished =
    all-completed c.args.self.now c.loop-round.self c.loop-round.invariant.run.on k.0 k.1 c.show_what_is_kept-2.ensures.0
    (record { settled = c.loop-round.invariant.run.rests; only_inactivity = c.in-None.ensures }) id unfinished
