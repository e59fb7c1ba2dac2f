use Rattle.std.proofs.Common.{inl, inr, subst, sym}
use Rattle.link_sim.specs.Running.{Goes}
use Rattle.link_sim.specs.Sound.{IsSound}
use Rattle.link_sim.specs.World.State.{AreRested, WorldState}
use Rattle.station_pair.specs.declared.side.Side.{Side}
use Rattle.link_sim.proofs.Events.Beginning.{event-moves, sound-first}
use Rattle.link_sim.proofs.Events.Keeping.{Grounds, sound-next}
use Rattle.link_sim.proofs.Events.Leading.{led-keeps}
use Rattle.link_sim.proofs.Events.Moving.{EntityLaws, Moves}
use Rattle.link_sim.proofs.Events.Resting.{rests-kept}
use Rattle.link_sim.proofs.Ways.First.{first-rests, first-ways}
use Rattle.link_sim.proofs.Work.WithinWorld.{event-within}
use Rattle.promises.proofs.Falling.{Keeps, steps-fall}
use Rattle.promises.proofs.settling.a_settling_has_few_events.Goals as goal

pub returns : goal.returns
returns c config outboxes inboxes first old new steps valid is led are =
    let k = led-keeps Kept kept-on first old (sound, first-rests config outboxes inboxes first valid is) led in
    steps-fall keeps steps old new k.0 k.1 are
  where
    keeps : Keeps
    keeps e did old new sound h =
        let kept = c.an_entity_keeps_the_truth.ensures in
        let on = c.an_entity_goes_on.ensures in
        let laws : EntityLaws = record {
          in_whole = c.a_part_has_no_more.ensures;
          put = kept.put;
          called = kept.called;
          ticked = kept.ticked;
          heard = kept.heard;
          dropped = kept.dropped;
          served_by = kept.served;
          put_on = on.put;
          called_on = on.called;
          ticked_on = on.ticked;
          heard_on = on.heard;
          dropped_on = on.dropped;
          served_on = on.served;
          sends = c.an_entity_sends_the_truth.ensures;
        } in
        let m : Moves old new = event-moves laws old new sound e did h in
        let grounds : Grounds = record { in_whole = c.a_part_has_no_more.ensures; more = kept.more; among = kept.among } in
        sound-next grounds old new sound m.sides m.puts (event-within old new (λ t. (sound t).entity.config) (λ t. (sound t).within) e did h)

    Kept : WorldState → Type 0
    Kept w = IsSound w × ((s : Side) → AreRested s w)

    sound : IsSound first
    sound = sound-first config outboxes inboxes first valid is c.an_entity_keeps_the_truth.ensures.first (first-ways config outboxes inboxes first valid is)

    kept-on : (a b : WorldState) → Kept a → Goes a b → Kept b
    kept-on a b p (inl (e, d, step)) = (keeps e d a b p.0 step, rests-kept a b p.0 p.1 e d step)
    kept-on a b p (inr (s, k)) = subst Kept (sym k) p
