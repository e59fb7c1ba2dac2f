use Rattle.aos_frame.proofs.RoundTrip.{opens_sealed}
use Rattle.aos_frame.proofs.fields_laws.what_is_sealed_is_opened.Goals as goal

pub returns : goal.returns
returns c = opens_sealed
