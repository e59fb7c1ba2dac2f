use Rattle.cfd_bits.proofs.BitFields.{field_written}
use Rattle.cfd_bits.proofs.laws.what_is_written_is_read.Goals as goal

pub returns : goal.returns
returns c = field_written
