use Rattle.std.proofs.Common.{◌≡◌, ◌⊎◌, inr, subst}
use Rattle.cfdp_entity.specs.Sound.{FindsMore}
use Rattle.std.specs.Prelude.{IfOk}
use Rattle.link_sim.specs.Calls.{Applies}
use Rattle.link_sim.specs.Clean.{IsClean}
use Rattle.link_sim.specs.EveryPut.{KeepsPuts}
use Rattle.link_sim.specs.Found.{ExpiresOn}
use Rattle.link_sim.specs.Observed.{seen}
use Rattle.link_sim.specs.Settling.{DropsWhereFull, KeepsAll, all_shortages}
use Rattle.link_sim.specs.Sound.{IsSound}
use Rattle.link_sim.specs.Theorem.{FoldsAt, put_of}
use Rattle.link_sim.specs.Tracks.{KeepsPutsOf, RunsAlong}
use Rattle.link_sim.specs.World.State.{WorldState, published_at}
use Rattle.link_sim.specs.World.Steps.{PublishesAt, Steps, side_in}
use Rattle.link_sim.proofs.Recovery.Along.{told-time}
use Rattle.link_sim.proofs.Events.FilesKept.{event-files, stays-files}
use Rattle.link_sim.specs.declared.event.Applied.TheVariants as dids
use Rattle.link_sim.proofs.Events.Stepping.{by-step, ok-then}
use Rattle.link_sim.proofs.world.World.happen.Goals as goal

pub invariant_of-self : goal.invariant_of-self
invariant_of-self g c =
    let law = c.events_keep_the_promises.ensures in
    let e = c.args.event.now in
    let old : WorldState = c.self.inside.stations in
    let new : WorldState = c.step-did.new.self in (
      by-step (λ old new. IsSound new) e old new (λ did s. law.keeps e did old new c.self.invariant.0 s)
          (λ k. law.stays (side_in e) old new c.self.invariant.0 k) c.step-did.result c.step-did.ensures.steps c.step-did.ensures.err,
      by-step (λ old new. KeepsPuts new) e old new (λ did s. law.puts_kept e did old new c.self.invariant.0 c.self.invariant.1 s)
          (λ k. law.puts_rest (side_in e) old new c.self.invariant.0 c.self.invariant.1 k) c.step-did.result c.step-did.ensures.steps c.step-did.ensures.err,
    )

pub returns-clause-applies : goal.returns-clause-applies
returns-clause-applies g c =
    let law = c.events_keep_the_promises.ensures in
    let e = c.args.event.now in
    let r = c.step-did.result in
    let did_it = c.step-did.ensures.steps in
    let none = c.step-did.ensures.err in
    let old : WorldState = c.self.inside.stations in
    let new : WorldState = c.step-did.new.self in
    let sound : IsSound old = c.self.invariant.0 in
    subst (λ (w : WorldState). Applies e r w new) c.self.view_is
    (record {
      tries = c.step-did.ensures;
      upholds = record {
        follows = record {
          puts = by-step (λ old new. FindsMore (put_of (seen old)) (put_of (seen new))) e old new (λ did s. law.puts e did old new sound s)
              (λ k. law.puts_stay (side_in e) old new k) r did_it none;
          folds = λ t. by-step (λ old new. FoldsAt t (seen old) (seen new)) e old new (λ did s. law.folds e did old new t sound s)
              (λ k. law.folds_none (side_in e) old new t sound k) r did_it none;
        };
        holds = λ t. law.holds new t (by-step (λ old new. IsSound new) e old new (λ did s. law.keeps e did old new sound s)
            (λ k. law.stays (side_in e) old new sound k) r did_it none);
      };
      published = λ t. by-step (λ old new. PublishesAt t e ⊎ (published_at t new ≡ published_at t old)) e old new (λ did s. event-files t old new e did s)
          (λ k. inr (stays-files (side_in e) t old new k)) r did_it none;
      clean = λ of_it. ok-then (λ did. Steps e did old new) (λ did. did ≡ dids.Applied → KeepsAll (all_shortages old) (all_shortages new) → IsClean old → IsClean new)
          (λ did s applied spared is. law.clean e old new sound c.self.invariant.1 of_it (subst (λ d. Steps e d old new) applied s) spared is) r did_it;
      clean_put = λ side source destination is. ok-then (λ did. Steps e did old new) (λ did. did ≡ dids.Applied → IsClean old → IsClean new)
          (λ did s applied clean. law.clean_put side source destination old new (subst (λ x. Steps x dids.Applied old new) is (subst (λ d. Steps e d old new) applied s)) clean) r did_it;
    })

pub returns-clause-full : goal.returns-clause-full
returns-clause-full g c =
    let law = c.events_keep_the_promises.ensures in
    let e = c.args.event.now in
    let old : WorldState = c.self.inside.stations in
    let new : WorldState = c.step-did.new.self in
    subst (λ (w : WorldState). DropsWhereFull w new) c.self.view_is
    (by-step (λ old new. DropsWhereFull old new) e old new (λ did s. law.full e did old new c.self.invariant.0 c.self.invariant.1 s)
    (λ k. law.full_none (side_in e) old new k) c.step-did.result c.step-did.ensures.steps c.step-did.ensures.err)

pub returns-clause-runs : goal.returns-clause-runs
returns-clause-runs g c of_it =
    let law = c.events_keep_the_promises.ensures in
    let e = c.args.event.now in
    let old : WorldState = c.self.inside.stations in
    let new : WorldState = c.step-did.new.self in
    subst (λ (w : WorldState). IfOk c.step-did.result (λ did. did ≡ dids.Applied → KeepsAll (all_shortages w) (all_shortages new) → RunsAlong w new)) c.self.view_is
    (ok-then (λ did. Steps e did old new) (λ did. did ≡ dids.Applied → KeepsAll (all_shortages old) (all_shortages new) → RunsAlong old new)
    (λ did s applied spared. law.runs e old new c.self.invariant.0 c.self.invariant.1 of_it (subst (λ d. Steps e d old new) applied s) spared) c.step-did.result c.step-did.ensures.steps)

pub returns-clause-tells : goal.returns-clause-tells
returns-clause-tells g c side now is =
    let law = c.events_keep_the_promises.ensures in
    let e = c.args.event.now in
    let old : WorldState = c.self.inside.stations in
    let new : WorldState = c.step-did.new.self in
    subst (λ (w : WorldState). IfOk c.step-did.result (λ did. ExpiresOn side now w new × KeepsPutsOf w new)) c.self.view_is
    (ok-then (λ did. Steps e did old new) (λ did. ExpiresOn side now old new × KeepsPutsOf old new)
    (λ did s. law.tells side now old new c.self.invariant.0 (told-time side now did old new (subst (λ x. Steps x did old new) is s))) c.step-did.result c.step-did.ensures.steps)
