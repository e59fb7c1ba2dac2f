use Rattle.std.proofs.Common.{refl}
use Rattle.promises.proofs.Restarts.{lives_with, served_with}
use Rattle.promises.proofs.resuming_in_service.stations_that_restart_are_such.Goals as goal

pub returns : goal.returns
returns g c = λ config files now served. (lives_with now, served_with g.W.Wire.steps config files now served, refl)
