use Rattle.std.proofs.Common.{◌≡◌, inl, inr, sym, subst}
use Rattle.link_sim.specs.Clean.{IsClean}
use Rattle.link_sim.specs.Settling.{IsOfSettling, KeepsAll, all_shortages}
use Rattle.link_sim.specs.World.State.{WorldState}
use Rattle.link_sim.specs.World.Steps.{Steps}
use Rattle.link_sim.specs.declared.event.Applied.TheVariants as did
use Rattle.link_sim.specs.declared.event.Event.{Event}
use Rattle.link_sim.specs.Tracks.{RunsAlong}
use Rattle.link_sim.proofs.Recovery.Along.{along-same}
use Rattle.link_sim.proofs.Events.Folding.{upholds-leads}
use Rattle.link_sim.proofs.Clean.Causes.{not-refused, nothing-same, only-one}
use Rattle.link_sim.proofs.world.World.settle_by.Goals as goal

pub returns-in-Applied : goal.returns-in-Applied
returns-in-Applied g c =
    let e : Event = c.args.event.now in
    let old : WorldState = c.args.self.now in
    let new : WorldState = c.happen.new.self in
    let of_it : IsOfSettling e = c.requires.of_it in
    let step = c.in-Ok.ensures.applies.tries.steps in
    let applied : c.in-Ok.applied ≡ did.Applied = elim c.in-Applied.is [
      | inl is ↦ is
      | inr r ↦ absurd (not-refused e r.0 old new of_it (subst (λ d. Steps e d old new) r.1 step))
    ] in
    let told : KeepsAll c.shortages-before.result c.shortages.result = c.shortage_since.ensures.well c.in_default-shortage_since.is in
    let spared : KeepsAll (all_shortages old) (all_shortages new) =
    subst (λ x. KeepsAll x (all_shortages new)) c.shortages-before.ensures (subst (λ x. KeepsAll c.shortages-before.result x) c.shortages.ensures told) in
    record {
      turn = record { work = record { leads = upholds-leads old new c.happen.ensures.applies.upholds; less = λ _. c.in-Ok.ensures.less of_it applied }; idle = λ e. absurd cc };
      well = λ moved. record {
        well = record { only = only-one e did.Applied old new of_it (subst (λ d. Steps e d old new) applied step); spared = spared; clean = c.in-Ok.ensures.applies.clean of_it applied spared };
        runs = c.in-Ok.ensures.runs of_it applied spared;
      };
      well_last = λ e. absurd cc;
      ends = tt;
    }

pub returns-in-Nothing-clause-well_last : goal.returns-in-Nothing-clause-well_last
returns-in-Nothing-clause-well_last g c moved =
    let e : Event = c.args.event.now in
    let old : WorldState = c.args.self.now in
    let new : WorldState = c.happen.new.self in
    let of_it : IsOfSettling e = c.requires.of_it in
    let step : Steps e did.Nothing old new = subst (λ d. Steps e d old new) c.in-Nothing.is c.in-Ok.ensures.applies.tries.steps in
    let same : new ≡ old = nothing-same e old new of_it step in
    let told : KeepsAll c.shortages-before.result c.shortages.result = c.shortage_since.ensures.well c.in_default-shortage_since.is in
    let spared : KeepsAll (all_shortages old) (all_shortages new) =
    subst (λ x. KeepsAll x (all_shortages new)) c.shortages-before.ensures (subst (λ x. KeepsAll c.shortages-before.result x) c.shortages.ensures told) in
    record {
      well = record { only = only-one e did.Nothing old new of_it step; spared = spared; clean = λ is. subst (λ (w : WorldState). IsClean w) (sym same) is };
      runs = subst (λ (w : WorldState). RunsAlong old w) (sym same) (along-same old);
    }
