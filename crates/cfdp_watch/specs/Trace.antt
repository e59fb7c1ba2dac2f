-- What a trace says of what was seen at two stations.
use Rattle.std.specs.Prelude.{◌≡◌, ℕ, List, ◌++◌, codes, decimal, Option}
use Rattle.aos_frame.specs.declared.config.Lane.TheVariants.{Directives, Data}
use Rattle.station_pair.specs.Stations.{entity_of, other}
use Rattle.station_pair.specs.declared.side.Side.{Side}
use Rattle.cfdp_dump.specs.Spelled.Lines.{WritesLines}
use Rattle.cfdp_dump.specs.Spelled.Shape.{shape_from}
use Rattle.cfdp_dump.specs.Spelled.Told.{TellsAsFrame, TellsAsPdu}
use Rattle.cfdp_dump.specs.declared.spelled.form.DumpForm.TheVariants.{Short}
use Rattle.cfdp_dump.specs.declared.spelled.shape.FrameShape.{FrameShape}
use Rattle.cfdp_dump.specs.declared.spelled.shape.FrameShapes.{FrameShapes}
use Rattle.cfdp_watch.specs.declared.sighting.Deed.{Deed}
use Rattle.cfdp_watch.specs.declared.sighting.Deed.TheVariants.{SendsFrame, SendsPdu, TakesFrame, HearsPdu, LosesFrame, Ticks, Drops, Tells}
use Rattle.cfdp_watch.specs.declared.sighting.Sighting.{Sighting}

-- the word for what a station did, with the lane of a frame
abbrev pub deed_word : Deed → List ℕ
deed_word (SendsFrame Directives) = codes "sends dir"
deed_word (SendsFrame Data) = codes "sends data"
deed_word (SendsPdu lane) = codes "sends"
deed_word (TakesFrame Directives) = codes "takes dir"
deed_word (TakesFrame Data) = codes "takes data"
deed_word HearsPdu = codes "hears"
deed_word (LosesFrame Directives) = codes "loses dir"
deed_word (LosesFrame Data) = codes "loses data"
deed_word Ticks = codes "ticks"
deed_word Drops = codes "drops"
deed_word Tells = codes "tells"

-- After that stands what a dump says of the frame, which is made so, or of the PDU. Of the time, of
-- a drop and of an indication the words were noted.
abbrev pub TellsWords : Deed → FrameShape → List ℕ → List ℕ → Type 0
TellsWords (SendsFrame lane) shape octets = TellsAsFrame Short shape octets
TellsWords (SendsPdu lane) shape octets = TellsAsPdu Short octets
TellsWords (TakesFrame lane) shape octets = TellsAsFrame Short shape octets
TellsWords HearsPdu shape octets = TellsAsPdu Short octets
TellsWords (LosesFrame lane) shape octets = TellsAsFrame Short shape octets
TellsWords Ticks shape octets = λ words. words ≡ octets
TellsWords Drops shape octets = λ words. words ≡ octets
TellsWords Tells shape octets = λ words. words ≡ octets

-- the station that sent the frame with which a station did that
abbrev pub sender : Deed → Side → Side
sender (TakesFrame lane) station = other station
sender _ station = station

-- What a station did, in words.
pub record TellsDeed (shapes : FrameShapes) (s : Sighting) (text : List ℕ) : Type 0 where
  pub words : List ℕ
  pub tells : TellsWords s.deed (shape_from shapes (sender s.deed s.station)) s.octets.items words
  pub whole : text ≡ deed_word s.deed ++ codes " " ++ words

-- the line of the script and the number of the event, with a point between, and the station
abbrev pub sighting_front : Sighting → List ℕ
sighting_front s = decimal s.step ++ codes "." ++ decimal s.event ++ codes " "
    ++ decimal (entity_of s.station) ++ codes " "

-- The line of a sighting: after that, what the station did.
pub record TellsSighting (shapes : FrameShapes) (s : Sighting) (text : List ℕ) : Type 0 where
  pub deed : List ℕ
  pub tells : TellsDeed shapes s deed
  pub whole : text ≡ sighting_front s ++ deed

-- What was written from some start on is a line for each of those seen so far, in their order.
abbrev pub TracesSoFar : FrameShapes → List Sighting → (start now : Option (List ℕ)) → Type 0
TracesSoFar shapes seen start now = WritesLines (TellsSighting shapes) seen start now
