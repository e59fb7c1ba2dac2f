-- Turns of two ports, one after another.
use Rattle.std.proofs.Common.{◌<◌, ℕ, ◌+◌, add-one}
use Rattle.cfdp_header.specs.declared.value.TransactionId.{TransactionId}
use Rattle.cfdp_port.specs.Calls.{WireCall}
use Rattle.cfdp_port.specs.Pair.{IsClosed, PairState, RunsInPart, TakesTurn, Turns, TurnsInPart}

module _ {W : Type 0} (Steps : W → WireCall → W → Type 0) (id : TransactionId) where
  pub turned_more : (count : ℕ) (first mid new : PairState W) → Turns Steps id count first mid
      → (IsClosed id mid.one.station mid.two.station → ⊥) → TakesTurn Steps (count + 1) mid new
      → Turns Steps id (count + 1) first new
  turned_more count first mid new before unclosed turn = rw add-one (mid, before, unclosed, turn)

  pub turned_in_part : (most count : ℕ) (first mid new : PairState W) → count < most → Turns Steps id count first mid
      → (IsClosed id mid.one.station mid.two.station → ⊥) → TurnsInPart Steps (count + 1) mid new
      → RunsInPart Steps id most first new
  turned_in_part most count first mid new few before unclosed turn = record {
    count = count;
    few = few;
    last = mid;
    turns = before;
    unclosed = unclosed;
    ends = turn;
  }
