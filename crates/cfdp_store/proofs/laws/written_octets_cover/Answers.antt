use Rattle.cfdp_store.proofs.Octets.{Covers-written}
use Rattle.cfdp_store.proofs.laws.written_octets_cover.Goals as goal

pub returns : goal.returns
returns c = Covers-written
