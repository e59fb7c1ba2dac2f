-- What a port does in a turn if its wire says when a frame may leave.
use Rattle.std.specs.Prelude.{◌≡◌, ◌≢◌, ◌⊎◌, ◌<◌, ℕ, true, false, None}
use Rattle.link_stack.specs.Downward.{frame_lane}
use Rattle.cfdp_station.specs.Station.{StationState}
use Rattle.cfdp_station.specs.Transmitting.{PollsInPart, Pulls, Times}
use Rattle.cfdp_station.specs.declared.pumping.Until.TheVariants.{Frame}
use Rattle.cfdp_port.specs.Calls.{WireCall, Readied, Timed}
use Rattle.cfdp_port.specs.Port.{PortState}
use Rattle.cfdp_port.specs.Turn.{HearsAll, SendsFrame, TellsTime}

module _ {W : Type 0} (Steps : W → WireCall → W → Type 0) where
  -- ---- frames that leave
  -- At most 16 polls brought a frame, the wire was ready for it, and it left.
  pub record SendsNext (old new : PortState W) : Type 0 where
    pub pulled : StationState
    pub ready : W
    pub pulls : Pulls 16 old.station pulled
    pub asked : Steps old.wire (Readied true) ready
    pub sends : SendsFrame Steps (record { station = pulled; wire = ready }) new

  -- At most 16 polls brought no frame, or the wire isn't ready for the one that waits.
  pub record SendsNone (old new : PortState W) : Type 0 where
    pub pulls : Pulls 16 old.station new.station
    pub ends : ((frame_lane new.station.down ≡ None) × (new.wire ≡ old.wire))
        ⊎ ((frame_lane new.station.down ≢ None) × Steps old.wire (Readied false) new.wire)

  -- Frames left as long as there were some and the wire was ready, at most 64.
  pub record SendsSome (old new : PortState W) : Type 0 where
    pub count : ℕ
    pub last : PortState W
    pub sent : Times SendsNext count old last
    pub ends : ((count < 64) × SendsNone last new) ⊎ ((count ≡ 64) × (new ≡ last))

  -- There was no memory for one of the polls.
  pub record SendsSomeInPart (old new : PortState W) : Type 0 where
    pub count : ℕ
    pub few : count < 64
    pub last : PortState W
    pub sent : Times SendsNext count old last
    pub part : PollsInPart Frame 16 last.station new.station
    pub wire : new.wire ≡ last.wire

  -- ---- the turn
  -- The station took what came, was given the time by its wire, and sent.
  pub record TakesOne (old new : PortState W) : Type 0 where
    pub now : ℕ
    pub heard : PortState W
    pub timed : W
    pub told : StationState
    pub hears : HearsAll Steps old heard
    pub times : Steps heard.wire (Timed now) timed
    pub tells : TellsTime now heard.station told
    pub sends : SendsSome (record { station = told; wire = timed }) new

  -- There was no memory to give it the time, and nothing changed; or for one of the polls.
  pub record TakesInPart (old new : PortState W) : Type 0 where
    pub now : ℕ
    pub heard : PortState W
    pub timed : W
    pub hears : HearsAll Steps old heard
    pub times : Steps heard.wire (Timed now) timed
    pub ends : (new ≡ record heard { wire = timed })
        ⊎ ((told : StationState) × TellsTime now heard.station told
        × SendsSomeInPart (record { station = told; wire = timed }) new)
