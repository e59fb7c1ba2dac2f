use Rattle.crc.proofs.Residues.{none_kept, kept_on, whole_kept}
use Rattle.crc.proofs.laws.a_file_check_goes_on.Goals as goal

pub returns-clause-none : goal.returns-clause-none
returns-clause-none c = none_kept

pub returns-clause-more : goal.returns-clause-more
returns-clause-more c = kept_on

pub returns-clause-whole : goal.returns-clause-whole
returns-clause-whole c = whole_kept
