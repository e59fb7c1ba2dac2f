-- A capture that goes on.
use Rattle.std.proofs.Common.{ℕ, List, ◌++◌, Option, Result, Ok, Err, ap, append_assoc, subst, sym, ◌∙◌}
use Rattle.std.proofs.KnownBytes.{Appends-kept, Appends-trans}
use Rattle.std.proofs.lemmas.Grind.{flat_map-append}
use Rattle.std.specs.Io.KnownBytes.{Appends, Keeps}
use Rattle.std.specs.List.{flat_map}
use Rattle.std.specs.Result.{OnOk}
use Rattle.cfdp_watch.specs.Capture.{CapturesSoFar, capture_octets, header_octets, record_octets}
use Rattle.cfdp_watch.specs.Continues.{Continues}
use Rattle.cfdp_watch.specs.declared.sighting.Sighting.{Sighting}

-- after the blocks of what was seen before stand those of these
pub capture_goes_on : {E : Type 0} (r : Result (Unit {0}) E) (more : List Sighting) (old mid new : Option (List ℕ))
    → Appends old mid (flat_map record_octets more) → Keeps mid new → OnOk r (Continues CapturesSoFar CapturesSoFar more old new)
capture_goes_on (Ok x) more old mid new wrote kept = λ seen start before.
    subst (Appends start new) (append_assoc header_octets (flat_map record_octets seen) (flat_map record_octets more) ∙ sym (ap (λ blocks. header_octets ++ blocks) (flat_map-append record_octets seen more)))
    (Appends-trans start old new (capture_octets seen) (flat_map record_octets more) before (Appends-kept old mid new (flat_map record_octets more) wrote kept))
capture_goes_on (Err e) more old mid new wrote kept = tt
