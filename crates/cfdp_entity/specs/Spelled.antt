-- What is due is spelled by its octets.
use Rattle.std.specs.Prelude.{◌≡◌, ◌<◌, ℕ, Bool, List, [], ◌∷◌, Option, Some, None}
use Rattle.cfdp_header.specs.Files.{FileMap}
use Rattle.cfdp_directives.specs.declared.pdu.addressing.Addressing.{Addressing}
use Rattle.cfdp_directives.specs.Pdu.Content.{Content}
use Rattle.cfdp_entity.specs.declared.polled.EntityPolled.{EntityPolled}
use Rattle.cfdp_entity.specs.declared.polled.EntityPolled.TheVariants.{Moved, Full}
use Rattle.cfdp_entity.specs.Entity.{EntityState, Counted}
use Rattle.cfdp_entity.specs.Gives.{CountsOutbox}
use Rattle.cfdp_entity.specs.Polling.{Polls, stored_by_poll, turn}
use Rattle.cfdp_entity.specs.Seen.{Seen, addressing_of, large_of, due_content, octets_of}
use Rattle.cfdp_entity.specs.Sound.{SpellsDue, SpellsTurn, longest_pdu}
use Rattle.cfdp_entity.specs.Strays.{StrayAck, stray_says, stray_octets}
use Rattle.cfdp_entity.specs.Table.{Entry}

-- If something is due, its octets must be those of what it says.
abbrev pub IsSpelled : (large : Bool) → Addressing → Option Content → Type 0
IsSpelled large a None = Unit {0}
IsSpelled large a (Some v) = SpellsDue large (Some v) a (octets_of large a (Some v))

-- the octets of what a record has due
unfoldable pub SeenIsSpelled : FileMap → Seen → Type 0
SeenIsSpelled sources s = IsSpelled (large_of s) (addressing_of s) (due_content sources s)

abbrev pub EntryIsSpelled : FileMap → Option Entry → Type 0
EntryIsSpelled sources None = Unit {0}
EntryIsSpelled sources (Some e) = SeenIsSpelled sources e.1

-- the octets of a stray acknowledgement, and of the first that waits
abbrev pub StrayIsSpelled : StrayAck → Type 0
StrayIsSpelled s = SpellsDue s.large (Some (stray_says s)) s.addressing (stray_octets s)

abbrev pub FirstIsSpelled : List StrayAck → Type 0
FirstIsSpelled [] = Unit {0}
FirstIsSpelled (s ∷ strays) = StrayIsSpelled s

-- If a PDU was moved, its octets are those of what it says.
abbrev pub SpellsMoved : EntityPolled → EntityState → Type 0
SpellsMoved (Moved n is_data) e = SpellsTurn (turn e) e
SpellsMoved _ e = Unit {0}

-- A poll answered this: what it moved says what was due, only a PDU longer than the room is
-- refused, and if the outbox failed, that was counted.
pub record Answers (room : ℕ) (answer : EntityPolled) (old new : Counted)
    (out_before out_now : List ℕ) : Type 0 where
  pub polled : Polls room answer old new out_before out_now
  pub spells : SpellsMoved answer old.state
  pub roomy : answer ≡ Full → room < longest_pdu
  pub counts : CountsOutbox (stored_by_poll answer) old.outbox_failures new.outbox_failures
  pub inbox : new.inbox_failures ≡ old.inbox_failures
