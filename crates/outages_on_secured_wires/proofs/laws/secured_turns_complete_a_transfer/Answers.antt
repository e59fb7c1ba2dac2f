use Rattle.ports_in_order.specs.InOrder.{Passage, nothing_passed}
use Rattle.outages_by_turns.specs.Turns.{then_pair}
use Rattle.outages_on_secured_wires.specs.Turns.{nothing_gone}
use Rattle.outages_on_secured_wires.specs.Whole.{all_passed}
use Rattle.outages_on_secured_wires.proofs.Completing.{gets-as, gets-on}
use Rattle.outages_on_secured_wires.proofs.Growing.{fewer-one, fewer-two, few-lost, gets-grow, turns-grow}
use Rattle.outages_on_secured_wires.proofs.Ordering.{have-turned, turns-on}
use Rattle.outages_on_secured_wires.proofs.Standing.{lengths, passage, stands-first}
use Rattle.outages_on_secured_wires.proofs.laws.secured_turns_complete_a_transfer.Goals as goal

pub returns : goal.returns
returns g c config outboxes inboxes put first g0 g1 g2 g3 g4 earlier before between one two later again begun are0 are1 through1 are2 through2 stand_one stand_two most_one most_two short waiting calm calm1 may =
    let S = g.W.Wire.steps in
    let K = g.K.Keeper.calls in
    let old = then_pair first earlier in
    let held = then_pair old before in
    let through = then_pair one.after later in
    let again_held = then_pair through between in
    let up3 = gets-grow S K put again_held two again g3 g4 through2 in
    let few3_one = fewer-one g3 g4 up3 most_one in
    let few3_two = fewer-two g3 g4 up3 most_two in
    let up2 = turns-grow S K between through g2 g3 are2 in
    let few2_one = fewer-one g2 g3 up2 few3_one in
    let few2_two = fewer-two g2 g3 up2 few3_two in
    let up1 = gets-grow S K put held one later g1 g2 through1 in
    let few1_one = fewer-one g1 g2 up1 few2_one in
    let few1_two = fewer-two g1 g2 up1 few2_two in
    let up0 = turns-grow S K before old g0 g1 are1 in
    let few0_one = fewer-one g0 g1 up0 few1_one in
    let few0_two = fewer-two g0 g1 up0 few1_two in
    let r0 = turns-on S K earlier first nothing_gone g0 are0 (λ lane. 0) (λ lane. 0) (few-lost S K earlier first nothing_gone g0 are0 few0_one few0_two nothing_passed) (stands-first S K first begun.openers) in
    let p0 : Passage = passage g0 r0.one_then r0.two_then in
    let r1 = turns-on S K before old g0 g1 are1 r0.one_then r0.two_then (few-lost S K before old g0 g1 are1 few1_one few1_two p0) r0.stands in
    let p1 : Passage = passage g1 r1.one_then r1.two_then in
    let s2 = gets-on S K put held one later g1 g2 through1 r1.one_then r1.two_then few2_one few2_two r1.stands in
    let r3 = turns-on S K between through g2 g3 are2 (lengths g2.left_one) (lengths g2.left_two) (few-lost S K between through g2 g3 are2 few3_one few3_two (all_passed g2)) s2 in
    let p3 : Passage = passage g3 r3.one_then r3.two_then in
    c.turns_complete_a_transfer.ensures config outboxes inboxes put old p0 p1 (all_passed g2) p3 (all_passed g4) before between one two later again
    (have-turned S K config outboxes inboxes put first begun earlier p0 r0.are) r1.are (gets-as S K put held one later g1 g2 through1 r1.one_then r1.two_then) r3.are
    (gets-as S K put again_held two again g3 g4 through2 r3.one_then r3.two_then) stand_one stand_two most_one most_two short waiting calm calm1 may
