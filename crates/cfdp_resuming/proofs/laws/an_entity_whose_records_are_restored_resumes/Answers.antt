use Rattle.cfdp_resuming.proofs.OneByOne.{all-left, resumes-one-by-one}
use Rattle.cfdp_resuming.proofs.laws.an_entity_whose_records_are_restored_resumes.Goals as goal

pub returns : goal.returns
returns c = record { resumes = resumes-one-by-one; told = all-left }
