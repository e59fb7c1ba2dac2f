-- The front of a trace's line, what stands after a verb, and traces that go on.
use Rattle.std.proofs.Common.{◌≡◌, ℕ, List, ◌++◌, Option, Result, Ok, Err, codes, decimal, append_assoc, subst, sym, ◌∙◌}
use Rattle.std.specs.Io.KnownBytes.{Appends, Keeps}
use Rattle.std.specs.Result.{OnOk}
use Rattle.station_pair.specs.Stations.{entity_of}
use Rattle.cfdp_dump.specs.Spelled.Lines.{WritesLines}
use Rattle.cfdp_watch.specs.Continues.{Continues}
use Rattle.cfdp_watch.specs.Trace.{TellsSighting, TracesSoFar, sighting_front}
use Rattle.cfdp_dump.proofs.TextLines.{lines_joined, lines_kept}
use Rattle.cfdp_dump.specs.declared.spelled.shape.FrameShapes.{FrameShapes}
use Rattle.cfdp_watch.specs.declared.sighting.Sighting.{Sighting}

-- six parts in a row, grouped from the front
grouped : (a b c d e f : List ℕ) → a ++ b ++ c ++ d ++ e ++ f ≡ a ++ (b ++ (c ++ (d ++ (e ++ f))))
grouped a b c d e f =
    append_assoc (a ++ b ++ c ++ d) e f ∙ append_assoc (a ++ b ++ c) d (e ++ f) ∙ append_assoc (a ++ b) c (d ++ (e ++ f)) ∙ append_assoc a b (c ++ (d ++ (e ++ f)))

-- with the station's number the front is written
pub front_written : (s : Sighting) (old new : Option (List ℕ)) (station : ℕ) → station ≡ entity_of s.station
    → Appends old new (decimal s.step ++ (codes "." ++ (decimal s.event ++ (codes " " ++ (decimal station ++ codes " "))))) → Appends old new (sighting_front s)
front_written s old new station of written =
    subst (λ n. Appends old new (decimal s.step ++ codes "." ++ decimal s.event ++ codes " " ++ decimal n ++ codes " ")) of
    (subst (Appends old new) (sym (grouped (decimal s.step) (codes ".") (decimal s.event) (codes " ") (decimal station) (codes " "))) written)

-- after the lines of what was seen before stand those of these
pub trace_goes_on : {E : Type 0} (r : Result (Unit {0}) E) (shapes : FrameShapes) (more : List Sighting) (old mid new : Option (List ℕ))
    → WritesLines (TellsSighting shapes) more old mid → Keeps mid new → OnOk r (Continues (TracesSoFar shapes) (TracesSoFar shapes) more old new)
trace_goes_on (Ok x) shapes more old mid new wrote kept = λ seen start before.
    lines_joined (TellsSighting shapes) seen more start old new before (lines_kept (TellsSighting shapes) more old mid new wrote kept)
trace_goes_on (Err e) shapes more old mid new wrote kept = tt
