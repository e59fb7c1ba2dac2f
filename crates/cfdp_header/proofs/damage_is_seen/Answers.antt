use Rattle.cfdp_header.proofs.Damaged.{damage_is_seen}
use Rattle.cfdp_header.proofs.damage_is_seen.Goals as goal

pub returns : goal.returns
returns c = damage_is_seen
