use Rattle.frame_security.proofs.Taken.{only_sealed}
use Rattle.frame_security.proofs.laws.only_what_was_sealed_is_taken.Goals as goal

pub returns : goal.returns
returns c = only_sealed
