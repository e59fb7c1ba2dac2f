use Rattle.frame_security.proofs.Ignored.{refused_change_nothing}
use Rattle.frame_security.proofs.laws.refused_octets_change_nothing.Goals as goal

pub returns : goal.returns
returns c = refused_change_nothing
