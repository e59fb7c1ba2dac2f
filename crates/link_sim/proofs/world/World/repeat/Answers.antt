use Rattle.std.proofs.Common.{◌≡◌, ◌≤◌, ◌<◌, inl, inr, refl, sym, ap, subst, ◌∙◌, arith}
use Rattle.std.proofs.lemmas.Result.{err_from_is_err_and}
use Rattle.link_sim.specs.Observed.{seen}
use Rattle.link_sim.specs.Parts.{SettlesPart}
use Rattle.link_sim.specs.Settling.{next_of}
use Rattle.link_sim.specs.World.State.{WorldState}
use Rattle.link_sim.specs.World.Steps.{Steps}
use Rattle.link_sim.specs.Work.{world_work}
use Rattle.link_sim.specs.declared.event.Applied.TheVariants as did
use Rattle.station_pair.specs.declared.settle_error.SettleError.{SettleError}
use Rattle.link_sim.proofs.Events.Folding.{leads-none, leads-both}
use Rattle.link_sim.proofs.Clean.Causes.{on-then, cause-here, nothing-same}
use Rattle.link_sim.proofs.Clean.Parts.{err-as}
use Rattle.link_sim.proofs.world.World.repeat.Goals as goal

pub loop-happened-init : goal.loop-happened-init
loop-happened-init g c = record {
  leads = leads-none (seen c.args.self.now);
  most = omega arith;
  less = λ e. absurd cc;
  same = λ e. refl;
  well = inl (refl, refl);
}

pub loop-happened-preserved : goal.loop-happened-preserved
loop-happened-preserved g c =
    let i = c.loop-happened.invariant in
    let most : world_work c.loop-happened.self ≤ world_work c.args.self.now = i.most in
    let less : world_work c.settle_by.new.self < world_work c.loop-happened.self = c.in_ok-settle_by.ensures.turn.work.less c.if-branch.true in
    record {
      leads = leads-both (seen c.args.self.now) (seen c.loop-happened.self) (seen c.settle_by.new.self) i.leads c.settle_by.ensures.turn.work.leads;
      most = omega (arith, most, less);
      less = λ e. omega (arith, most, less);
      same = λ e. absurd cc;
      well = inr (on-then c.args.event.now c.args.event.now c.args.event.now c.args.self.now c.loop-happened.self c.settle_by.new.self i.well (c.in_ok-settle_by.ensures.well c.if-branch.true));
    }

pub returns-in_err-settle_by-clause-part : goal.returns-in_err-settle_by-clause-part
returns-in_err-settle_by-clause-part g c =
    let p = err_from_is_err_and c.from_residual.result c.from_residual.ensures.1 in
    let e : SettleError = c.in_err-settle_by.field-0.0 in
    err-as c.from_residual.result (λ r. SettlesPart c.args.event.now (next_of c.args.event.now) r c.args.self.now c.settle_by.new.self) p.0 e p.1 p.2
    (record {
      work = record {
        leads = leads-both (seen c.args.self.now) (seen c.loop-happened.self) (seen c.settle_by.new.self) c.loop-happened.invariant.leads c.settle_by.ensures.turn.work.leads;
        less = tt;
      };
      same = tt;
      well = tt;
      cause = cause-here e c.args.event.now c.args.event.now c.args.self.now c.loop-happened.self c.settle_by.new.self c.loop-happened.invariant.well c.in_err-settle_by.ensures.ends;
    })

pub returns-clause-part : goal.returns-clause-part
returns-clause-part g c =
    let idle = c.in_ok-settle_by.ensures.turn.idle c.if-branch.false in
    let same : c.settle_by.new.self ≡ c.loop-happened.self = nothing-same c.args.event.now c.loop-happened.self c.settle_by.new.self c.requires.of_it idle in
    let work : world_work c.settle_by.new.self ≡ world_work c.loop-happened.self = ap world_work same in
    record {
      work = record {
        leads = leads-both (seen c.args.self.now) (seen c.loop-happened.self) (seen c.settle_by.new.self) c.loop-happened.invariant.leads c.settle_by.ensures.turn.work.leads;
        less = λ happened. let less : world_work c.loop-happened.self < world_work c.args.self.now = c.loop-happened.invariant.less happened in omega (arith, less, work);
      };
      same = λ none. same ∙ c.loop-happened.invariant.same none;
      well = on-then c.args.event.now c.args.event.now (next_of c.args.event.now) c.args.self.now c.loop-happened.self c.settle_by.new.self c.loop-happened.invariant.well
          (c.in_ok-settle_by.ensures.well_last c.if-branch.false);
      cause = tt;
    }

pub returns-clause-idle : goal.returns-clause-idle
returns-clause-idle g c =
    let idle = c.in_ok-settle_by.ensures.turn.idle c.if-branch.false in
    let same : c.settle_by.new.self ≡ c.loop-happened.self = nothing-same c.args.event.now c.loop-happened.self c.settle_by.new.self c.requires.of_it idle in
    subst (λ (w : WorldState). Steps c.args.event.now did.Nothing w c.settle_by.new.self) (sym same) idle
