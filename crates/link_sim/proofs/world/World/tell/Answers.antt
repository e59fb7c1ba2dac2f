use Rattle.std.proofs.Common.{refl, subst}
use Rattle.link_sim.specs.Settling.{KeepsAll, all_shortages}
use Rattle.link_sim.specs.World.State.{WorldState}
use Rattle.link_sim.proofs.Recovery.Rounds.{tick-applied}
use Rattle.link_sim.proofs.world.World.tell.Goals as goal

pub returns-clause-tells : goal.returns-clause-tells
returns-clause-tells g c =
    let old : WorldState = c.args.self.now in
    let new : WorldState = c.happen.new.self in
    let told : KeepsAll c.shortages-before.result c.shortages.result = c.shortage_since.ensures.well c.in_default-shortage_since.is in
    let spared : KeepsAll (all_shortages old) (all_shortages new) =
    subst (λ x. KeepsAll x (all_shortages new)) c.shortages-before.ensures (subst (λ x. KeepsAll c.shortages-before.result x) c.shortages.ensures told) in
    record {
      next = c.requires.next;
      ticks = tick-applied c.in-Ok._applied c.args.side c.args.now old new c.in-Ok.ensures.applies.tries.steps;
      spared = spared;
    }

pub returns-clause-expires : goal.returns-clause-expires
returns-clause-expires g c = c.in-Ok.ensures.tells c.args.side c.args.now refl
