use Rattle.mpdu.proofs.NextZone.{written_pointer}
use Rattle.mpdu.proofs.laws.a_written_pointer_is_read.Goals as goal

pub returns : goal.returns
returns c = written_pointer
