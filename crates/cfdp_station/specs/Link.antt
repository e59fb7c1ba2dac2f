-- What a station does to the end of the link that sends.
use Rattle.std.specs.Prelude.{◌≡◌, ℕ, ◌+◌, ◌*◌, ◌<◌, Bool, true, false, length}
use Rattle.aos_frame.specs.declared.config.Lane.{Lane}
use Rattle.aos_frame.specs.declared.config.Lane.TheVariants.{Directives, Data}
use Rattle.link_stack.specs.Downward.{DownState, LinkSenderState, Flushes, lane_down}
use Rattle.cfdp_entity.specs.Entity.{EntityState}
use Rattle.cfdp_entity.specs.Polling.{turn, turn_data}

-- the lane of a PDU: file data go on their own, directives on the other
abbrev pub lane_for : (is_data : Bool) → Lane
lane_for true = Data
lane_for false = Directives

-- the lane of the PDU whose turn it is
abbrev pub next_lane : EntityState → Lane
next_lane e = lane_for (turn_data (turn e) e)

-- Each lane's stream is longer by at most an idle packet; if it is, no packet is counted for that.
pub record FlushesBoth (old new : DownState) : Type 0 where
  pub lanes : (l : Lane) → Flushes (lane_down l old) (lane_down l new)
  pub packet_count : new.packet_count ≡ old.packet_count

-- ---- whole frames of a lane
-- Less than a zone waits in a lane.
abbrev pub IsNotWhole : LinkSenderState → Type 0
IsNotWhole down = length down.waiting < down.link.zone

-- No more than so many whole frames wait.
abbrev pub WaitAtMost : ℕ → LinkSenderState → Type 0
WaitAtMost frames d = length d.waiting < frames * d.link.zone + d.link.zone

-- No more than so many whole frames can wait, whatever is sent and flushed: there is no room for
-- the octets of one more.
abbrev pub HoldsAtMost : ℕ → LinkSenderState → Type 0
HoldsAtMost frames d = d.capacity + 2047 < frames * d.link.zone + d.link.zone
