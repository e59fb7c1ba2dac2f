use Rattle.cfdp_receiver.proofs.FactsKept.{step-octets, step-held}
use Rattle.cfdp_receiver.proofs.laws.what_comes_is_kept.Goals as goal

pub returns-clause-octets : goal.returns-clause-octets
returns-clause-octets c stored input m files r n =
    step-octets c.octets_held_keep_their_value.ensures.staged c.a_set_is_what_it_holds.ensures.union stored m files r n input

pub returns-clause-held : goal.returns-clause-held
returns-clause-held c stored input m files r n =
    step-held c.octets_held_keep_their_value.ensures.staged c.a_set_is_what_it_holds.ensures.union stored m files r n input
