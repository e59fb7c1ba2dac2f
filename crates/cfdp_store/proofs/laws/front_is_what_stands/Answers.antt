use Rattle.cfdp_store.proofs.Octets.{length-front, slice_get-front}
use Rattle.cfdp_store.proofs.laws.front_is_what_stands.Goals as goal

pub returns : goal.returns
returns c = record { len = length-front; octets = slice_get-front }
