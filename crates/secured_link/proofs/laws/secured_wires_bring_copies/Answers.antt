use Rattle.secured_link.proofs.Copies.{copies}
use Rattle.secured_link.proofs.laws.secured_wires_bring_copies.Goals as goal

pub returns : goal.returns
returns g c = λ link theirs old new all next count before after heard kept most took accepts.
    copies g.W.Wire.steps g.K.Keeper.calls link theirs old new all next count before after heard kept most took accepts
