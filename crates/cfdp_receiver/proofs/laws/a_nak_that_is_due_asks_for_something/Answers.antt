use Rattle.cfdp_receiver.proofs.FactsAsks.{step-tidy}
use Rattle.cfdp_receiver.proofs.laws.a_nak_that_is_due_asks_for_something.Goals as goal

pub returns-clause-step : goal.returns-clause-step
returns-clause-step c stored input m files r was =
    let sets = c.a_set_is_what_it_holds.ensures in
    step-tidy sets.range sets.ranges sets.difference c.the_gaps_are_those_ranges.ensures.are stored m files r was input
