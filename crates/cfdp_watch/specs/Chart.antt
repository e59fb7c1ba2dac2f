-- A trace as a sequence diagram, in the text that Mermaid draws.
use Rattle.std.specs.Prelude.{◌≡◌, ◌-◌, ◌^◌, ◌==◌, ◌||◌, ℕ, Bool, List, [], ◌∷◌, ◌++◌, codes, decimal, if◌then◌else◌, length, min, nat_le, take, Option}
use Rattle.std.specs.Char.{is_ascii_alphanumeric}
use Rattle.std.specs.Io.KnownBytes.{Appends}
use Rattle.std.specs.List.{AllZip, flat_map, list_any}
use Rattle.station_pair.specs.declared.side.Side.{Side}
use Rattle.station_pair.specs.declared.side.Side.TheVariants.{One, Two}
use Rattle.cfdp_dump.specs.Spelled.Lines.{as_line}
use Rattle.cfdp_watch.specs.Trace.{TellsDeed}
use Rattle.cfdp_dump.specs.declared.spelled.shape.FrameShapes.{FrameShapes}
use Rattle.cfdp_watch.specs.declared.chart.ChartWriter.{ChartWriter}
use Rattle.cfdp_watch.specs.declared.sighting.Deed.{Deed}
use Rattle.cfdp_watch.specs.declared.sighting.Deed.TheVariants.{SendsFrame, SendsPdu, TakesFrame, HearsPdu, LosesFrame, Ticks, Drops, Tells}
use Rattle.cfdp_watch.specs.declared.sighting.Sighting.{Sighting}

-- letters, digits, spaces, line feeds and the signs % + - . / : = _ stand as they are
abbrev pub is_drawn : ℕ → Bool
is_drawn octet = is_ascii_alphanumeric octet || list_any (λ sign. octet == sign)
    (codes " %+-./:=_\n")

-- any other octet, in which Mermaid could see a sign of its own, by its number between # and ;
abbrev pub drawn_octet : ℕ → List ℕ
drawn_octet octet = if is_drawn octet then octet ∷ [] else codes "#" ++ (decimal octet ++ codes ";")

-- What a sighting of this station is drawn as: dotted arrows are frames and full ones PDUs, with an
-- open head as they leave and a closed one as they arrive; a cross is a frame that is lost. All
-- else is a note at the station.
abbrev pub arrow : Side → Deed → List ℕ
arrow One (SendsFrame lane) = codes "S1--)S2: "
arrow Two (SendsFrame lane) = codes "S2--)S1: "
arrow One (SendsPdu lane) = codes "S1-)S2: "
arrow Two (SendsPdu lane) = codes "S2-)S1: "
arrow One (TakesFrame lane) = codes "S2-->>S1: "
arrow Two (TakesFrame lane) = codes "S1-->>S2: "
arrow One HearsPdu = codes "S2->>S1: "
arrow Two HearsPdu = codes "S1->>S2: "
arrow One (LosesFrame lane) = codes "S1-xS2: "
arrow Two (LosesFrame lane) = codes "S2-xS1: "
arrow One Ticks = codes "Note over S1: "
arrow Two Ticks = codes "Note over S2: "
arrow One Drops = codes "Note over S1: "
arrow Two Drops = codes "Note over S2: "
arrow One Tells = codes "Note over S1: "
arrow Two Tells = codes "Note over S2: "

-- The line for one line of a trace: its arrow or note, and what the trace says except for the
-- station.
pub record ChartsSighting (shapes : FrameShapes) (s : Sighting) (text : List ℕ) : Type 0 where
  pub deed : List ℕ
  pub tells : TellsDeed shapes s deed
  pub whole : text ≡ arrow s.station s.deed ++ decimal s.step ++ codes "." ++ decimal s.event
      ++ codes " " ++ flat_map drawn_octet deed

-- a chart has so many lines of the trace at the most
abbrev pub most_lines : ℕ
most_lines = 400

abbrev pub head_text : List ℕ
head_text = codes "sequenceDiagram\nparticipant S1 as station 1\nparticipant S2 as station 2\n"

-- a line that says how many are left out, if some are
abbrev pub rest_text : ℕ → List ℕ
rest_text lines =
    if nat_le lines most_lines then []
    else codes "Note over S1,S2: " ++
    (decimal (lines - most_lines) ++ codes " lines of the trace are left out\n")

-- how many were seen, as far as a writer counts
abbrev pub counted : List Sighting → ℕ
counted seen = min (length seen) (2 ^ 64 - 1)

-- What was written from some start on is the chart of those seen so far, except for how many are
-- left out: its head, and one line for each of the first ones in their order. The writer has
-- counted all.
pub record ChartsSoFar (writer : ChartWriter) (seen : List Sighting)
    (start now : Option (List ℕ)) : Type 0 where
  pub count : writer.lines ≡ counted seen
  pub texts : List (List ℕ)
  pub each : AllZip (ChartsSighting writer.shapes) (take most_lines seen) texts
  pub written : Appends start now (head_text ++ flat_map as_line texts)

-- What was written is the chart of these: its head, one line for each of the first ones in their
-- order, and how many are left out.
pub record Charts (shapes : FrameShapes) (all : List Sighting) (old new : Option (List ℕ))
    : Type 0 where
  pub texts : List (List ℕ)
  pub each : AllZip (ChartsSighting shapes) (take most_lines all) texts
  pub written : Appends old new (head_text ++ flat_map as_line texts ++ rest_text (counted all))

-- the end that makes the chart of whatever was seen whole
abbrev pub EndsChart : ChartWriter → (old new : Option (List ℕ)) → Type 0
EndsChart writer old new = (seen : List Sighting) → (start : Option (List ℕ))
    → ChartsSoFar writer seen start old → Charts writer.shapes seen start new
