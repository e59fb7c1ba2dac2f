use Rattle.crc.proofs.Ends.{damage_is_seen}
use Rattle.crc.proofs.damage.damage_is_seen.Goals as goal

pub returns : goal.returns
returns c = damage_is_seen
