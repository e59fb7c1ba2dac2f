-- A sender after a restart, and what it was when its station was killed.
use Rattle.std.specs.Prelude.{◌≡◌, ◌<◌, ◌≤◌, ℕ, true, List, take}
use Rattle.std.specs.FinSet as set
use Rattle.cfdp_sender.specs.State.{SenderState, IsCause, transfer_of}
use Rattle.cfdp_sender.specs.Inputs.{front_sums}

-- A sender of this file was x when its station was killed, and is restored as s. It sends the same
-- file in the same way. It goes on after some front of the file, which may be shorter or longer
-- than what x had sent, with the sums of that front; only offsets in that front may be asked for
-- again. What is due, and the count, may be anything.
pub record IsRestoredSender (file : List ℕ) (x s : SenderState) : Type 0 where
  pub transfer : transfer_of s ≡ transfer_of x
  pub sent : s.sent ≤ s.size
  pub front : s.sums ≡ front_sums s.checksum_kind (take s.sent file)
  pub asked : (n : ℕ) → set.contains s.asked n ≡ true → n < s.sent
  pub cause : IsCause s.phase s.condition
