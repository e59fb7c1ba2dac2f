-- What a port does in a turn: it is given the time, polled and flushed, frames leave it, and others
-- come.
use Rattle.std.specs.Prelude.{◌≡◌, ◌≢◌, ◌⊎◌, ◌<◌, ℕ, Bool, List, Option, Some, None, Result, Ok, Err}
use Rattle.cfdp_store.specs.Chains.{Raises}
use Rattle.cfdp_entity.specs.Entity.{with_table}
use Rattle.cfdp_entity.specs.Storing.{AsksToTick}
use Rattle.cfdp_entity.specs.Table.{Ticks}
use Rattle.aos_frame.specs.declared.config.Lane.{Lane}
use Rattle.link_stack.specs.Downward.{frame_lane}
use Rattle.cfdp_station.specs.Link.{FlushesBoth}
use Rattle.cfdp_station.specs.Station.{StationState, KeepsLink, KeepsRest}
use Rattle.cfdp_station.specs.Taking.{TakesFrame}
use Rattle.cfdp_station.specs.Transmitting.{GivesFrame, PollsInPart, PollsUntil, Times}
use Rattle.cfdp_station.specs.declared.pumping.Until.TheVariants.{Rest}
use Rattle.cfdp_station.specs.Failures.{KeepsOutbox}
use Rattle.cfdp_port.specs.Calls.{WireCall, Sent, Asked}
use Rattle.cfdp_port.specs.Port.{PortState}
use Rattle.cfdp_port.specs.declared.wire.WireFault.{WireFault}

-- ---- time
-- The time was given to a station. If what the steps of its timers asked of the inbox failed, that
-- was counted.
pub record TellsTime (now : ℕ) (old new : StationState) : Type 0 where
  pub ticked : Ticks now old.entity.state.table new.entity.state.table
  pub table : new.entity.state ≡ with_table old.entity.state new.entity.state.table
  pub failures : KeepsOutbox old.entity new.entity
  pub raises : AsksToTick Raises now old.entity.state.table old.entity.inbox_failures
      new.entity.inbox_failures
  pub link : KeepsLink old new

-- ---- frames that leave
module _ {W : Type 0} (Steps : W → WireCall → W → Type 0) where
  -- The oldest whole frame of the lane whose turn it is left the station, and the wire was asked to
  -- send it.
  pub record SendsFrame (old new : PortState W) : Type 0 where
    pub frame : List ℕ
    pub lane : Lane
    pub gives : GivesFrame lane frame old.station new.station
    pub answer : Result (Unit {0}) WireFault
    pub sent : Steps old.wire (Sent frame answer) new.wire

  -- All whole frames did.
  pub record SendsWhole (old new : PortState W) : Type 0 where
    pub count : ℕ
    pub sent : Times SendsFrame count old new
    pub none_whole : frame_lane new.station.down ≡ None

  -- A station was given the time, polled until nothing was due or nothing more had room, at most 16
  -- times, and flushed, and all whole frames left.
  pub record Sends (now : ℕ) (old new : PortState W) : Type 0 where
    pub told : StationState
    pub rests : Bool
    pub polled : StationState
    pub flushed : StationState
    pub tells : TellsTime now old.station told
    pub polls : PollsUntil Rest 16 rests told polled
    pub flushes : FlushesBoth polled.down flushed.down × KeepsRest polled flushed
    pub sends : SendsWhole (record old { station = flushed }) new

  -- ---- datagrams that come
  -- A station takes what came, whatever it is.
  abbrev pub TakesWhat : Result (Option (List ℕ)) WireFault → (old new : StationState) → Type 0
  TakesWhat (Ok (Some frame)) old new = TakesFrame frame old new
  TakesWhat (Ok None) old new = new ≡ old
  TakesWhat (Err fault) old new = new ≡ old

  -- The wire was asked what came, and the station takes it.
  pub record Asks (came : Result (Option (List ℕ)) WireFault) (old new : PortState W) : Type 0 where
    pub asked : Steps old.wire (Asked came) new.wire
    pub takes : TakesWhat came old.station new.station

  -- It was, and that was not the last: something came, or the wire failed.
  abbrev pub AsksOn : (old new : PortState W) → Type 0
  AsksOn old new =
      (came : Result (Option (List ℕ)) WireFault) × (came ≢ Ok None) × Asks came old new

  -- It was asked until nothing came, at most 4,096 times.
  pub record HearsAll (old new : PortState W) : Type 0 where
    pub count : ℕ
    pub last : PortState W
    pub heard : Times AsksOn count old last
    pub ends : ((count < 4096) × Asks (Ok None) last new) ⊎ ((count ≡ 4096) × (new ≡ last))

-- There was no memory to give a station the time, and nothing changed; or for a poll, and its
-- turn ended there. Nothing was asked of its wire.
pub record SendsInPart (now : ℕ) {W : Type 0} (old new : PortState W) : Type 0 where
  pub ends : (new.station ≡ old.station)
      ⊎ ((told : StationState) × TellsTime now old.station told
      × PollsInPart Rest 16 told new.station)
  pub wire : new.wire ≡ old.wire
