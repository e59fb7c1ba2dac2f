-- What a PDU that an entity hears does.
use Rattle.std.specs.Prelude.{◌≡◌, ◌<◌, ◌==◌, ◌||◌, ℕ, nat_lt, not, Bool, true, false, List, [], ◌∷◌, ◌++◌, length, Option, Some, None, if◌then◌else◌}
use Rattle.cfdp_header.specs.declared.value.Header.{Header}
use Rattle.cfdp_directives.specs.declared.pdu.codes.Acknowledged.TheVariants as acknowledged
use Rattle.cfdp_directives.specs.declared.pdu.error.PduError.{PduError}
use Rattle.cfdp_directives.specs.declared.pdu.addressing.Addressing.{Addressing}
use Rattle.cfdp_directives.specs.Pdu.Addressing.{addressing_of, FitsAddressing}
use Rattle.cfdp_directives.specs.Pdu.Content.{Content, FileData, Metadata, Eof, Finished}
use Rattle.cfdp_directives.specs.Pdu.Direction.{direction_fits, is_for}
use Rattle.cfdp_directives.specs.Pdu.Grammar.{SpellsPdu}
use Rattle.cfdp_store.specs.declared.stored.Stored.{Stored}
use Rattle.cfdp_store.specs.Chains.{Raises}
use Rattle.cfdp_store.specs.Stores.{Counts}
use Rattle.cfdp_entity.specs.declared.error.EntityDrop.{EntityDrop}
use Rattle.cfdp_entity.specs.declared.error.EntityDrop.TheVariants as drops
use Rattle.cfdp_entity.specs.declared.route.Route.{Route}
use Rattle.cfdp_entity.specs.declared.route.Route.TheVariants.{Drops, Steps, Opens, Queues, Passes}
use Rattle.cfdp_entity.specs.Entity.{EntityState, Counted, dropped, is_forgotten, with_table}
use Rattle.cfdp_entity.specs.Opening.{CountsBoth}
use Rattle.cfdp_entity.specs.Storing.{AsksToHear, AsksToOpen}
use Rattle.cfdp_entity.specs.Strays.{StrayAck, most_strays, over_ack, unknown_ack}
use Rattle.cfdp_entity.specs.Table.{place_of, heard_at, opened_by, SpoiledAt, most_records}

-- `true` if a PDU is Metadata with an empty name
abbrev pub names_no_file : Content → Bool
names_no_file (Metadata kind size source destination options) =
    (length source == 0) || (length destination == 0)
names_no_file _ = false

-- ---- where a PDU goes
abbrev pub opens_record : EntityState → Route
opens_record e = if nat_lt (length e.table.records) most_records then Opens
    else Drops drops.TableFull

abbrev pub queues : StrayAck → EntityState → Route
queues s e = if nat_lt (length e.strays) most_strays then Queues s else Drops drops.TableFull

-- a PDU of no record: what a file's sender sends first opens one, and a Finished is answered
abbrev pub route_new : Header → Content → EntityState → Route
route_new h (Metadata kind size source destination options) e = opens_record e
route_new h (FileData offset bytes) e = opens_record e
route_new h (Eof condition checksum size tlvs) e = opens_record e
route_new h (Finished condition delivery status tlvs) e =
    queues (unknown_ack h condition) e
route_new h _ e = Drops drops.Unknown

-- a PDU of a transaction that was discarded: if it is an EOF or a Finished, it is acknowledged, and
-- otherwise it is passed over
abbrev pub route_over : Header → Content → EntityState → Route
route_over h (Eof condition checksum size tlvs) e = queues (over_ack h acknowledged.Eof condition) e
route_over h (Finished condition delivery status tlvs) e =
    queues (over_ack h acknowledged.Finished condition) e
route_over h _ e = Passes

-- a PDU of no record, and whether its transaction was discarded
abbrev pub route_unplaced : Bool → Header → Content → EntityState → Route
route_unplaced true h v e = route_over h v e
route_unplaced false h v e = route_new h v e

abbrev pub route_by : Option ℕ → Header → Content → EntityState → Route
route_by (Some place) h v e = Steps place
route_by None h v e = route_unplaced (is_forgotten e h.id) h v e

-- the refusals in their order; if none holds, the record of its transaction, a record that it
-- opens, or a stray acknowledgement
abbrev pub route : Header → Content → EntityState → Route
route h v e =
    if not (direction_fits h v) then Drops drops.WrongDirection
    else if not (is_for e.config.entity e.config.peer h) then Drops drops.NotForUs
    else if names_no_file v then Drops drops.NoFile
    else route_by (place_of h.id e.table.records) h v e

-- ---- what is heard
-- The record at an index made its step, by what the inbox answered.
pub record StepsAt (place : ℕ) (large : Bool) (v : Content) (old new : Counted) : Type 0 where
  pub stored : Stored
  pub steps : new.state ≡ with_table old.state (heard_at stored place large v old.state.table)
  pub counts : Counts stored old.inbox_failures new.inbox_failures
  pub raises : AsksToHear Raises stored place large v old.state.table old.inbox_failures
      new.inbox_failures
  pub outbox : new.outbox_failures ≡ old.outbox_failures

-- A PDU with this addressing may open a record: it must be the peer's.
pub record MayOpen (a : Addressing) (e : EntityState) : Type 0 where
  pub fits : FitsAddressing a
  pub from_peer : a.id.source ≡ e.config.peer
  pub absent : place_of a.id e.table.records ≡ None
  pub unforgotten : is_forgotten e a.id ≡ false
  pub not_full : length e.table.records < most_records

-- A record was opened and made its step, by what the inbox answered to each.
pub record OpensOne (a : Addressing) (large : Bool) (v : Content) (old new : Counted) : Type 0 where
  pub begun : Stored
  pub stored : Stored
  pub opens : new.state ≡ with_table old.state (opened_by begun stored a large v old.state.table)
  pub counts : CountsBoth begun stored old.inbox_failures new.inbox_failures
  pub raises : AsksToOpen Raises begun stored a large v old.state.table old.inbox_failures
      new.inbox_failures
  pub outbox : new.outbox_failures ≡ old.outbox_failures

abbrev pub queued : StrayAck → EntityState → EntityState
queued s e = record e { strays = e.strays ++ s ∷ [] }

-- The PDU was taken on this route.
abbrev pub Takes : Route → Header → Content → (old new : Counted) → Type 0
Takes (Drops d) h v old new = ⊥
Takes (Steps place) h v old new = StepsAt place h.large v old new
Takes Opens h v old new = OpensOne (addressing_of h) h.large v old new
Takes (Queues s) h v old new = new ≡ record old { state = queued s old.state }
Takes Passes h v old new = new ≡ old

-- ---- what is dropped
-- The record at an index found no memory for a PDU: it is as `SpoiledAt` says, and nothing else
-- changed. No call of a store failed.
pub record LacksAt (place : ℕ) (v : Content) (old new : Counted) : Type 0 where
  pub spoiled : SpoiledAt place v old.state.table new.state.table
  pub table : new.state ≡ with_table old.state new.state.table
  pub inbox : new.inbox_failures ≡ old.inbox_failures
  pub outbox : new.outbox_failures ≡ old.outbox_failures

-- A PDU was dropped since there was no memory: its record, if there is one, is as `SpoiledAt`
-- says, and nothing else changed except the count. No call of a store failed.
pub record FindsNoMemory (place : ℕ) (v : Content) (old new : Counted) : Type 0 where
  pub spoiled : SpoiledAt place v old.state.table new.state.table
  pub counted : new.state ≡ dropped drops.NoMemory (with_table old.state new.state.table)
  pub inbox : new.inbox_failures ≡ old.inbox_failures
  pub outbox : new.outbox_failures ≡ old.outbox_failures

-- The PDU was dropped on this route, by this cause. If it was one that opens a record, nothing
-- changed except the count.
abbrev pub DropsBy : Route → EntityDrop → Content → (old new : Counted) → Type 0
DropsBy (Drops d) by v old new = (by ≡ d) × (new ≡ record old { state = dropped d old.state })
DropsBy (Steps place) by v old new = (by ≡ drops.NoMemory) × FindsNoMemory place v old new
DropsBy Opens by v old new =
    (by ≡ drops.NoMemory) × (new ≡ record old { state = dropped drops.NoMemory old.state })
DropsBy (Queues s) by v old new = ⊥
DropsBy Passes by v old new = ⊥

-- ---- octets
-- The octets are a PDU, and it was taken.
pub record HearsOctets (octets : List ℕ) (old new : Counted) : Type 0 where
  pub header : Header
  pub content : Content
  pub spells : SpellsPdu header content octets
  pub takes : Takes (route header content old.state) header content old new

-- The octets are a PDU, and it was dropped.
pub record DropsPdu (octets : List ℕ) (by : EntityDrop) (old new : Counted) : Type 0 where
  pub header : Header
  pub content : Content
  pub spells : SpellsPdu header content octets
  pub drops : DropsBy (route header content old.state) by content old new

-- The octets were dropped: if they are no PDU, by that cause, and otherwise as a PDU.
abbrev pub DropsOctets : Option PduError → List ℕ → EntityDrop → (old new : Counted) → Type 0
DropsOctets (Some e) octets by old new =
    (by ≡ drops.Pdu e) × (new ≡ record old { state = dropped (drops.Pdu e) old.state })
DropsOctets None octets by old new = DropsPdu octets by old new
