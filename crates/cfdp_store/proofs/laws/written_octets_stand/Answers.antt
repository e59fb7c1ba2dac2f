use Rattle.cfdp_store.proofs.Octets.{get-written_within, get-written_below, get-written_behind}
use Rattle.cfdp_store.proofs.laws.written_octets_stand.Goals as goal

pub returns : goal.returns
returns c = record {
  written = λ m at xs n from low. get-written_within m at xs n 0 from low;
  below = get-written_below;
  behind = get-written_behind;
}
