use Rattle.std.proofs.Common.{subst}
use Rattle.cfdp_directives.specs.Pdu.Codes.{IsCondition}
use Rattle.cfdp_entity.specs.Spelled.{StrayIsSpelled}
use Rattle.cfdp_entity.specs.Strays.{StrayAck}
use Rattle.cfdp_entity.proofs.Spelled.{stray-spelled}
use Rattle.cfdp_entity.proofs.stray.Stray.len.Goals as goal

pub returns-clause-spelled : goal.returns-clause-spelled
returns-clause-spelled c =
    let s : StrayAck = record { addressing = c.self.inside.addressing; large = c.self.inside.large; of = c.self.inside.of; condition = c.self.inside.condition; status = c.self.inside.status } in
    subst StrayIsSpelled c.self.view_is (stray-spelled s c.self.invariant (subst IsCondition c.code-any_condition_fits.ensures.value c.code-any_condition_fits.ensures.valid))
