use Rattle.std.proofs.Common.{◌≡◌, ◌⊎◌, List, refl, sym, ap, subst}
use Rattle.cfdp_timers.specs.declared.kind.Kind.{Kind}
use Rattle.cfdp_port.specs.Pair.{PairState}
use Rattle.cfdp_port.proofs.GainLemmas.{GoesOnLaws}
use Rattle.link_sim.specs.Waiting.{IsCompleted}
use Rattle.outages.specs.Tries.{GoesOn, HasTriesIn, MayTry, expiries}
use Rattle.outages_by_turns.proofs.ByTurns.{Outlives, outlives}
use Rattle.outages_by_turns.proofs.Seen.{either, may-try, short, waits}
use Rattle.outages_by_turns.proofs.Tries.{tries-as}
use Rattle.outages_by_turns.specs.Turns.{expiries_in, in_world, then_pair}
use Rattle.outages_by_turns.proofs.laws.turns_outlive_their_losses.Goals as goal

pub returns-clause-waits : goal.returns-clause-waits
returns-clause-waits g c config outboxes inboxes put old before after outage have are one two keeps waiting calm may =
    let on = c.an_entity_goes_on.ensures in
    let laws : GoesOnLaws = record { ticked = on.ticked; heard = on.heard; dropped = on.dropped; served = on.served } in
    let o = outlives g.W.Wire.steps laws config outboxes inboxes put old before have outage after are one two keeps in
    let new = then_pair old outage in
    either o.is (in_world put new) (sym o.is_one) (sym o.is_two) (sym o.is_puts) put.id
    (c.a_transfer_outlives_its_losses.ensures.waits config outboxes inboxes o.first o.was o.is put.id o.listed.happened have.valid o.starts o.led
    (waits (in_world put old) o.was o.was_one o.was_two o.was_puts put.id waiting) o.listed.are (o.listed.are_calm calm)
    (tries-as put.id (expiries_in put old outage) (expiries put.id o.was o.listed.happened) (λ s k. sym (o.listed.expire s k)) o.was
    (may-try (in_world put old) o.was o.was_one o.was_two o.was_puts put.id (expiries_in put old outage) may)))

pub returns-clause-lasts : goal.returns-clause-lasts
returns-clause-lasts g c config outboxes inboxes put old before after outage have are one two keeps brief =
    let on = c.an_entity_goes_on.ensures in
    let laws : GoesOnLaws = record { ticked = on.ticked; heard = on.heard; dropped = on.dropped; served = on.served } in
    let o = outlives g.W.Wire.steps laws config outboxes inboxes put old before have outage after are one two keeps in
    let new = then_pair old outage in
    may-try o.was (in_world put old) (sym o.was_one) (sym o.was_two) (sym o.was_puts) put.id (expiries_in put old outage)
    (tries-as put.id (expiries put.id o.was o.listed.happened) (expiries_in put old outage) (λ s k. o.listed.expire s k) o.was
    (c.a_transfer_outlives_its_losses.ensures.lasts config outboxes inboxes o.first o.was o.is put.id o.listed.happened have.valid o.starts o.led o.listed.are
    (short (in_world put old) o.was o.was_one o.was_two o.was_puts (in_world put new) o.is o.is_one o.is_two o.is_puts put.id brief)))
