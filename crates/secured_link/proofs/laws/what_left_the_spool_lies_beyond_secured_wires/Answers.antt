use Rattle.secured_link.proofs.laws.what_left_the_spool_lies_beyond_secured_wires.Goals as goal
use Rattle.secured_link.specs.Serving.{stations_of}

pub returns : goal.returns
returns g c = λ config files mid now more joined s went side old new chain asked none.
    c.what_left_the_spool_lies_in_the_inbox.ensures config files (stations_of mid) (stations_of now) more joined
    (c.service_over_secured_wires_is_service.ensures.so_far config files mid s) (c.service_over_secured_wires_is_service.ensures.later config files mid now more s went)
    side old new chain asked none
