use Rattle.secured_link.proofs.laws.stations_over_secured_wires_keep_the_promise.Goals as goal
use Rattle.secured_link.specs.Serving.{stations_of}

pub returns : goal.returns
returns g c = λ config files now joined s.
    c.stations_keep_the_promise_in_any_order.ensures config files (stations_of now) joined (c.service_over_secured_wires_is_service.ensures.so_far config files now s)
