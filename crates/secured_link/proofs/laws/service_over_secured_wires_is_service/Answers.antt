use Rattle.secured_link.proofs.Serving.{goes, served}
use Rattle.secured_link.proofs.laws.service_over_secured_wires_is_service.Goals as goal

pub returns-clause-so_far : goal.returns-clause-so_far
returns-clause-so_far g c = λ config files now s. (served g.W.Wire.steps g.K.Keeper.calls config files now s).0

pub returns-clause-later : goal.returns-clause-later
returns-clause-later g c = λ config files mid now more s went.
    (goes g.W.Wire.steps g.K.Keeper.calls config more mid now (served g.W.Wire.steps g.K.Keeper.calls config files mid s).1 went).0
