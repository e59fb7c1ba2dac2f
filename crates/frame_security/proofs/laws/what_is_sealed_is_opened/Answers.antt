use Rattle.frame_security.proofs.RoundTrip.{opened}
use Rattle.frame_security.proofs.laws.what_is_sealed_is_opened.Goals as goal

pub returns : goal.returns
returns c = opened
