-- What a frame that a station takes does.
use Rattle.std.specs.Prelude.{◌≡◌, ◌≤◌, ℕ, ◌⊎◌, List, [], ◌∷◌, length}
use Rattle.cfd_bits.specs.Field.{field}
use Rattle.aos_frame.specs.Frame.{other_lane}
use Rattle.aos_frame.specs.declared.config.Lane.{Lane}
use Rattle.link_stack.specs.Upward.{LaneTakes, LinkReceiverState, lane_of, lane_up}
use Rattle.cfdp_directives.specs.Pdu.Faults.{pdu_fault}
use Rattle.cfdp_entity.specs.declared.error.EntityDrop.{EntityDrop}
use Rattle.cfdp_entity.specs.Entity.{Counted}
use Rattle.cfdp_entity.specs.Hearing.{HearsOctets, DropsOctets}
use Rattle.cfdp_station.specs.Station.{StationState}

-- A PDU is heard: it is taken, or dropped and counted.
abbrev pub HearsPdu : List ℕ → (old new : Counted) → Type 0
HearsPdu pdu old new =
    HearsOctets pdu old new ⊎ ((by : EntityDrop) × DropsOctets (pdu_fault pdu) pdu by old new)

-- These PDUs are heard, each once, in this order, and nothing else happens.
abbrev pub HearsAll : List (List ℕ) → (old new : Counted) → Type 0
HearsAll [] old new = new ≡ old
HearsAll (pdu ∷ pdus) old new = (mid : Counted) × HearsPdu pdu old mid × HearsAll pdus mid new

-- The lane's end that receives took a frame, and gave these PDUs.
abbrev pub GivesPdus : List ℕ → (old new : LinkReceiverState) → List (List ℕ) → Type 0
GivesPdus frame old new pdus = LaneTakes frame old new [] pdus

-- A frame was taken by the end of its lane: the entity heard exactly the PDUs that came up, in
-- order. The other lane's end is as it was. Frames with a lane's channel come to that lane.
pub record TakesFrame (frame : List ℕ) (old new : StationState) : Type 0 where
  pub pdus : List (List ℕ)
  pub given : GivesPdus frame (lane_up (lane_of old.up frame) old.up)
      (lane_up (lane_of old.up frame) new.up) pdus
  pub heard : HearsAll pdus old.entity new.entity
  pub down : new.down ≡ old.down
  pub other : lane_up (other_lane (lane_of old.up frame)) new.up
      ≡ lane_up (other_lane (lane_of old.up frame)) old.up
  pub lane : (l : Lane) → 2 ≤ length frame →
      field frame 10 6 ≡ (lane_up l old.up).link.virtual_channel →
      lane_of old.up frame ≡ l
