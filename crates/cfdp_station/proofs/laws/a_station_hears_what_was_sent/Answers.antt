use Rattle.cfdp_station.proofs.AnyOrder.{AnyLaws, TruthLaws, hears_sent, hears_none, stays_true}
use Rattle.cfdp_station.proofs.laws.a_station_hears_what_was_sent.Goals as goal

pub returns-clause-frame : goal.returns-clause-frame
returns-clause-frame c =
    let given = c.a_frame_gives_what_was_sent.ensures in
    let laws : AnyLaws = record { frame = given.frame; stray = given.stray } in
    hears_sent laws

pub returns-clause-stray : goal.returns-clause-stray
returns-clause-stray c =
    let given = c.a_frame_gives_what_was_sent.ensures in
    let laws : AnyLaws = record { frame = given.frame; stray = given.stray } in
    hears_none laws

pub returns-clause-truth : goal.returns-clause-truth
returns-clause-truth c =
    let kept = c.an_entity_keeps_the_truth.ensures in
    let on = c.an_entity_goes_on.ensures in
    let laws : TruthLaws = record { more = kept.more; heard = kept.heard; dropped = kept.dropped; heard_on = on.heard; dropped_on = on.dropped } in
    stays_true laws
