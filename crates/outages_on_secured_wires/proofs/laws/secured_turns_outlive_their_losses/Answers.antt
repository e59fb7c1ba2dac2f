use Rattle.outages_by_turns.specs.Turns.{then_pair}
use Rattle.outages_on_secured_wires.proofs.Ordering.{runs}
use Rattle.outages_on_secured_wires.proofs.laws.secured_turns_outlive_their_losses.Goals as goal

pub returns-clause-waits : goal.returns-clause-waits
returns-clause-waits g c config outboxes inboxes put first before outage gone begun turns few one two short waiting calm may =
    let r = runs g.W.Wire.steps g.K.Keeper.calls config outboxes inboxes put first begun before outage gone turns few in
    c.turns_outlive_their_losses.ensures.waits config outboxes inboxes put (then_pair first before) r.mid r.after outage r.have r.are one two short waiting calm may

pub returns-clause-lasts : goal.returns-clause-lasts
returns-clause-lasts g c config outboxes inboxes put first before outage gone begun turns few one two short brief =
    let r = runs g.W.Wire.steps g.K.Keeper.calls config outboxes inboxes put first begun before outage gone turns few in
    c.turns_outlive_their_losses.ensures.lasts config outboxes inboxes put (then_pair first before) r.mid r.after outage r.have r.are one two short brief
