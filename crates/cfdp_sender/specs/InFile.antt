-- What a sender has due is in its file.
use Rattle.std.specs.Prelude.{◌≡◌, ℕ, ◌<◌, ◌≤◌, true}
use Rattle.std.specs.FinSet as set
use Rattle.cfdp_sender.specs.State.{SenderState, IsCause}

-- A segment must have an octet, the front that was sent must be within the file, what is asked for
-- again must be within that front, and what is cancelled must have an error as its cause.
pub record IsInFile (x : SenderState) : Type 0 where
  pub some : 1 ≤ x.segment
  pub sent : x.sent ≤ x.size
  pub asked : (n : ℕ) → set.contains x.asked n ≡ true → n < x.sent
  pub cause : IsCause x.phase x.condition
