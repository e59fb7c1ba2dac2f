-- Calls of a wire, each with what it answered.
use Rattle.std.specs.Prelude.{ℕ, Bool, List, take, Option, Some, None, Result, Ok, Err}
use Rattle.cfdp_port.specs.declared.wire.WireFault.{WireFault}

-- It was asked to send a frame; what came, and these octets had, or none; if a frame
-- may leave; what time it is; or if it has been silent for long enough, if a transaction is
-- open or none is.
pub data WireCall : Type 0 where
  Sent : (frame : List ℕ) (answer : Result (Unit {0}) WireFault) → WireCall
  Asked : (came : Result (Option (List ℕ)) WireFault) → WireCall
  Readied : (answer : Bool) → WireCall
  Timed : (now : ℕ) → WireCall
  Rested : (is_open answer : Bool) → WireCall

-- what came, if a buffer holds so many octets of it at its front
abbrev pub brought : Result (Option ℕ) WireFault → List ℕ → Result (Option (List ℕ)) WireFault
brought (Ok (Some len)) buffer = Ok (Some (take len buffer))
brought (Ok None) buffer = Ok None
brought (Err fault) buffer = Err fault
