use Rattle.cfdp_resuming.proofs.Itself.{entity-itself, opened-sums}
use Rattle.cfdp_resuming.proofs.laws.an_entity_may_resume_as_it_was.Goals as goal

pub returns : goal.returns
returns c = record { entity = entity-itself; opened = λ a m. opened-sums m (c.cut_file_has_its_checksum.ensures.none _) }
