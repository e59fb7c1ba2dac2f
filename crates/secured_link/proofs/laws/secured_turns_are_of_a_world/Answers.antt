use Rattle.secured_link.proofs.laws.secured_turns_are_of_a_world.Goals as goal

pub returns : goal.returns
returns g c = λ config outboxes inboxes source destination id count first one last valid first_one first_two puts turns begin none few stand_one stand_two.
    let order = c.secured_wires_keep_the_order.ensures id count (record first { one = one }) last turns begin none few in
    (order.0, c.turns_are_of_a_world.ensures config outboxes inboxes source destination id count first one last order.0 valid first_one first_two puts turns order.1 stand_one stand_two)
