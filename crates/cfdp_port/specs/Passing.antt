-- What passes at a station in the steps of a turn: the frames that leave it, and the datagrams that
-- come to it.
use Rattle.std.specs.Prelude.{ℕ, zero, suc, List, [], ◌∷◌, ◌++◌, Option, Some, Result, Ok}
use Rattle.aos_frame.specs.declared.config.Lane.{Lane}
use Rattle.aos_frame.specs.declared.config.Lane.TheVariants.{Directives, Data}
use Rattle.cfdp_station.specs.Transmitting.{Times}
use Rattle.cfdp_port.specs.Calls.{WireCall}
use Rattle.cfdp_port.specs.Port.{PortState}
use Rattle.cfdp_port.specs.Turn.{AsksOn, SendsFrame}
use Rattle.cfdp_port.specs.declared.wire.WireFault.{WireFault}

-- the octets that came, if some did
abbrev pub what_came : Result (Option (List ℕ)) WireFault → List (List ℕ)
what_came (Ok (Some frame)) = frame ∷ []
what_came _ = []

-- a frame of a lane, if that is this one
abbrev pub in_lane : (lane its : Lane) → List ℕ → List (List ℕ)
in_lane Directives Directives frame = frame ∷ []
in_lane Directives Data frame = []
in_lane Data Directives frame = []
in_lane Data Data frame = frame ∷ []

module _ {W : Type 0} (Steps : W → WireCall → W → Type 0) where
  -- the frames that left a station in a lane, in order
  abbrev pub frames_left : (lane : Lane) → (count : ℕ) → (old new : PortState W)
      → Times (SendsFrame Steps) count old new → List (List ℕ)
  frames_left lane zero old new same = []
  frames_left lane (suc count) old new (mid, before, step) =
      frames_left lane count old mid before ++ in_lane lane step.lane step.frame

  -- the datagrams that came to a station, in order
  abbrev pub frames_came : (count : ℕ) → (old new : PortState W) → Times (AsksOn Steps) count old new
      → List (List ℕ)
  frames_came zero old new same = []
  frames_came (suc count) old new (mid, before, step) =
      frames_came count old mid before ++ what_came step.0
