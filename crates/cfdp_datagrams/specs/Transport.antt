-- Calls of a transport of datagrams, each with what it answered.
use Rattle.std.specs.Prelude.{ℕ, List, take, Result, Ok, Err}
use Rattle.std.specs.declared.io.ErrorKind.{ErrorKind}

-- It was asked to send a datagram; or for the next one that came, and these were its octets.
pub data TransportCall : Type 0 where
  Sent : (datagram : List ℕ) (answer : Result (Unit {0}) ErrorKind) → TransportCall
  Received : (came : Result (List ℕ) ErrorKind) → TransportCall

-- what came, if a buffer holds so many octets of it at its front
abbrev pub received : Result ℕ ErrorKind → List ℕ → Result (List ℕ) ErrorKind
received (Ok len) buffer = Ok (take len buffer)
received (Err why) buffer = Err why
