-- What taking a PDU came to.
use Rattle.std.specs.Prelude.{◌≡◌, ℕ, List, drop, take}
use Rattle.cfdp_store.specs.declared.stored.Stored.{Stored}
use Rattle.cfdp_store.specs.declared.stored.Stored.TheVariants.{Done, Refused}
use Rattle.cfdp_store.specs.Stores.{Counts}
use Rattle.cfdp_entity.specs.declared.record.Gave.{Gave}
use Rattle.cfdp_entity.specs.declared.record.Gave.TheVariants.{Octets, Failed}

-- how the outbox answered
abbrev pub stored_by_gave : Gave → Stored
stored_by_gave (Octets n) = Done
stored_by_gave Failed = Refused

-- If the outbox refused a step, that was counted, and otherwise its failures are as they were.
abbrev pub CountsOutbox : Stored → (before after : ℕ) → Type 0
CountsOutbox Done before after = after ≡ before
CountsOutbox Refused before after = Counts Refused before after

-- So many octets were written over the first of `out`, and the others stay.
pub record Writes (octets : List ℕ) (n : ℕ) (out_before out_now : List ℕ) : Type 0 where
  pub front : take n out_now ≡ octets
  pub behind : drop n out_now ≡ drop n out_before

-- A PDU was written, of this length; or the outbox failed, and what `out` then holds is left open.
abbrev pub Gives : List ℕ → ℕ → Gave → (out_before out_now : List ℕ) → Type 0
Gives octets len (Octets n) out_before out_now = (n ≡ len) × Writes octets n out_before out_now
Gives octets len Failed out_before out_now = Unit {0}
