use Rattle.std.proofs.Common.{refl}
use Rattle.cfd_bits.proofs.Fields.{octets-field}
use Rattle.cfd_bits.proofs.laws.octets_read_are_written.Goals as goal

pub returns : goal.returns
returns c text start count small room = octets-field text _ start count small refl room
