-- What passes at a station, as one who looks on is shown it.
use Rattle.std.specs.Prelude.{◌≡◌, ℕ, Bool, true, false, List}
use Rattle.aos_frame.specs.declared.config.Lane.{Lane}
use Rattle.station_pair.specs.declared.side.Side.{Side}
use Rattle.cfdp_station.specs.declared.polled.Polled.{Polled as Answer}
use Rattle.cfdp_port.specs.declared.passed.Passed.{Passed}
use Rattle.cfdp_port.specs.declared.passed.Passed.TheVariants as passed

-- A request was accepted; the time was given; it was polled; a frame left it, and was sent or lost;
-- or a frame came.
pub data Shown : Type 0 where
  Asked : Shown
  Ticked : (now : ℕ) → Shown
  Polled : (answer : Answer) → Shown
  Left : (lane : Lane) (frame : List ℕ) (is_sent : Bool) → Shown
  Took : (frame : List ℕ) → Shown

abbrev pub shown : Passed → Shown
shown passed.Asked = Asked
shown (passed.Ticked now) = Ticked now
shown (passed.Polled answer) = Polled answer
shown (passed.Left lane frame is_sent) = Left lane frame.now is_sent
shown (passed.Took frame) = Took frame.now

-- Something that was accepted is shown, and nothing else is.
abbrev pub ShowsAsked : {L : Type 0} → (L → Side → Shown → L → Type 0) → (accepted : Bool)
    → (old new : L) → Type 0
ShowsAsked Shows true old new = (side : Side) × Shows old side Asked new
ShowsAsked Shows false old new = new ≡ old
