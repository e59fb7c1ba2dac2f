-- The operational control field of frames (CCSDS 732.0-B-4, 4.1.5), as a caller sets and reads it.
use Rattle.std.specs.Prelude.{◌≡◌, ℕ, Bool, true, false, Option, None, Some}
use Rattle.aos_frame.specs.declared.config.Lane.{Lane}
use Rattle.aos_frame.specs.declared.config.Lane.TheVariants.{Directives, Data}
use Rattle.link_stack.specs.Downward.{both_controlled}
use Rattle.cfdp_station.specs.Station.{StationState, KeepsRest}
use Rattle.cfdp_c.specs.Codes.{ok, nothing}

-- the lane of file data, or the lane of directives
abbrev pub lane_of : (file_data : Bool) → Lane
lane_of true = Data
lane_of false = Directives

-- The frames of both lanes say this from now on, and nothing else changed.
pub record ControlsFrames (control : ℕ) (old new : StationState) : Type 0 where
  pub down : new.down ≡ both_controlled control old.down
  pub rest : KeepsRest old new

-- What was received in such a field was reported, if one was received.
abbrev pub TellsControl : Option ℕ → (answer control_before control_now : ℕ) → Type 0
TellsControl None answer control_before control_now =
    (answer ≡ nothing) × (control_now ≡ control_before)
TellsControl (Some came) answer control_before control_now =
    (answer ≡ ok) × (control_now ≡ came)
