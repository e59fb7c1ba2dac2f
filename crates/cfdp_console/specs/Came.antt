-- What came over a connection.
use Rattle.std.specs.Prelude.{◌≡◌, ℕ, List}
use Rattle.cfdp_console.specs.Hearing.{IsGone, octets_of}
use Rattle.cfdp_console.specs.declared.caller.Caller.{Caller}

-- the most octets that a connection reads of one request
abbrev pub most_octets : ℕ
most_octets = 65536

-- The caller has heard all octets that came, in their order, unless nothing more is heard of it.
abbrev pub HasHeard : Caller → List ℕ → Type 0
HasHeard caller came = ¬ (IsGone caller) → octets_of caller ≡ came
