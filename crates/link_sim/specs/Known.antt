-- Proof-only: what is known of a transaction is of an accepted put. `put_of` finds the put of a
-- transaction, `mine` is an entity, `theirs` the other one, `forth` the PDUs on their way from the
-- first one.
use Rattle.std.specs.Prelude.{◌≡◌, ◌≢◌, ◌⊎◌, ℕ, ◌≤◌, ◌==◌, ◌||◌, true, false, List, [], length, slice_get, Option, Some, IsSome}
use Rattle.std.specs.FinSet as set
use Rattle.cfdp_header.specs.declared.value.Direction.TheVariants.{TowardReceiver}
use Rattle.cfdp_header.specs.declared.value.TransactionId.{TransactionId}
use Rattle.cfdp_directives.specs.Pdu.Codes.{is_large}
use Rattle.cfdp_directives.specs.Pdu.Direction.{direction_fits, direction_of, is_for}
use Rattle.cfdp_directives.specs.User.Put.{Put}
use Rattle.cfdp_entity.specs.declared.config.EntityConfig.{EntityConfig}
use Rattle.cfdp_entity.specs.Entity.{EntityState}
use Rattle.cfdp_entity.specs.Hearing.{names_no_file}
use Rattle.cfdp_entity.specs.Seen.{Seen, Sends, Receives}
use Rattle.cfdp_entity.specs.Sound.{FindsMore}
use Rattle.cfdp_entity.specs.Table.{Entry, record_of, most_records}
use Rattle.link_sim.specs.Between.{Pdu}
use Rattle.link_sim.specs.Exchange.{AllTrue}

-- A PDU is for this entity, and of an accepted put. Toward the file's receiver it has the large
-- file flag if the file is large, and otherwise not.
pub record IsDirected (put_of : TransactionId → Option Put) (theirs : EntityState) (p : Pdu)
    : Type 0 where
  pub fits : direction_fits p.0 p.1 ≡ true
  pub addressed : is_for theirs.config.entity theirs.config.peer p.0 ≡ true
  pub named : names_no_file p.1 ≡ false
  pub of_put : IsSome (put_of p.0.id)
  pub flag : direction_of p.1 ≡ TowardReceiver → (put : Put) → put_of p.0.id ≡ Some put
      → p.0.large ≡ is_large (length put.octets)

-- There is a record, and it sends.
abbrev pub IsSending : Option Seen → Type 0
IsSending (Some (Sends x)) = Unit {0}
IsSending _ = ⊥

-- A record sends to the peer, under two names that aren't empty, or receives from the peer.
abbrev pub IsWithPeer : EntityConfig → Seen → Type 0
IsWithPeer c (Sends x) = (x.addressing.destination ≡ c.peer)
    × ((length x.source == 0) || (length x.destination == 0) ≡ false)
IsWithPeer c (Receives r m) = (r.addressing.id.source ≡ c.peer)
    × (r.addressing.destination ≡ c.entity)

-- Each put of the entity has its record, each record is one with the peer, there are no more than a
-- table may have, no acknowledgement waits that is of a transaction without a record, no record was
-- released, and each PDU on its way is for the other entity, and of an accepted put.
pub record IsKnown (put_of : TransactionId → Option Put) (mine theirs : EntityState)
    (forth : List Pdu) : Type 0 where
  pub sends : (id : TransactionId) → IsSome (put_of id) → id.source ≡ mine.config.entity
      → IsSending (record_of id mine.table.records)
  pub with_peer : (place : ℕ) (e : Entry) → slice_get mine.table.records place ≡ Some e
      → IsWithPeer mine.config e.1
  pub few : length mine.table.records ≤ most_records
  pub none_stray : mine.strays ≡ []
  pub none_forgotten : mine.forgotten ≡ set.empty
  pub directed : AllTrue (IsDirected put_of theirs) forth

-- Both ways: `back` are the PDUs on their way to the first entity.
abbrev pub AreKnown : (TransactionId → Option Put) → (mine theirs : EntityState)
    → (forth back : List Pdu) → Type 0
AreKnown put_of mine theirs forth back =
    IsKnown put_of mine theirs forth × IsKnown put_of theirs mine back

-- Each entity is the other's peer, and they are two.
pub record ArePeers (mine theirs : EntityState) : Type 0 where
  pub of_mine : mine.config.peer ≡ theirs.config.entity
  pub of_theirs : theirs.config.peer ≡ mine.config.entity
  pub apart : mine.config.entity ≢ theirs.config.entity

-- The put of this transaction was added, and no other.
pub record AddsPut (id : TransactionId) (put_of puts_then : TransactionId → Option Put)
    : Type 0 where
  pub more : FindsMore put_of puts_then
  pub only : (q : TransactionId) → IsSome (puts_then q) → (q ≡ id) ⊎ IsSome (put_of q)
