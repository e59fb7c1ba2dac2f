-- Calls of the keeper of a secured wire, each with its answer.
use Rattle.std.specs.Prelude.{◌≡◌, ⊤, ℕ, Bool, true, Option, None}
use Rattle.frame_security.specs.declared.keys.LinkKeys.{LinkKeys}
use Rattle.frame_security.specs.declared.opening.FrameRefusal.{FrameRefusal}

-- It was reported that the frame with this sequence number is accepted, and the keeper answered
-- whether it noted that; the keeper brought new keys, or none; or it was reported that octets were
-- refused for this cause.
pub data KeeperCall : Type 0 where
  Keeps : (number : ℕ) (answer : Bool) → KeeperCall
  Brings : (keys : Option LinkKeys) → KeeperCall
  Refuses : (cause : FrameRefusal) → KeeperCall

-- what is true of each call of a keeper that notes nothing: it loses no frame, and brings no keys
abbrev pub LosesNone : KeeperCall → Type 0
LosesNone (Keeps number answer) = answer ≡ true
LosesNone (Brings keys) = keys ≡ None
LosesNone (Refuses cause) = ⊤
