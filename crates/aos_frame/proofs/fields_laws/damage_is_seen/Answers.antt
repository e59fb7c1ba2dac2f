use Rattle.aos_frame.proofs.Intact.{damage_is_seen}
use Rattle.aos_frame.proofs.fields_laws.damage_is_seen.Goals as goal

pub returns : goal.returns
returns c = damage_is_seen
