use Rattle.crc.proofs.Residues.{any_gathered}
use Rattle.crc.proofs.laws.cut_file_has_its_check.Goals as goal

pub returns : goal.returns
returns c = any_gathered
