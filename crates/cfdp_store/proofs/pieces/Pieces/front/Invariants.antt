use Rattle.std.proofs.Common.{◌≡◌, ℕ, ◌<◌, vec_len, get_or, take, unwrap_or}
use Rattle.std.specs.FinMap.{get}
use Rattle.cfdp_store.specs.Pieces.{octets_of}
use Rattle.cfdp_store.proofs.pieces.Pieces.front.Given as goal

abbrev pub invariant-loop-piece : goal.invariant-loop-piece
invariant-loop-piece l = record {
  len : vec_len l.octets ≡ l.size;
  places : (k : ℕ) → k < l.size → get_or l.octets.items k 0 ≡ unwrap_or (get (octets_of (take l.piece-index l.piece-items)) k) 0;
}
