-- What a table says of files that were delivered: to the other entity, and to its user.
use Rattle.std.specs.Prelude.{◌≡◌, ℕ, List, slice_get, Some, Contains}
use Rattle.cfdp_header.specs.declared.value.TransactionId.{TransactionId}
use Rattle.cfdp_directives.specs.declared.pdu.codes.Delivery.TheVariants.{Complete}
use Rattle.cfdp_directives.specs.declared.pdu.codes.FileStatus.TheVariants.{Retained}
use Rattle.cfdp_directives.specs.declared.user.indication.Indication.{Indication}
use Rattle.cfdp_directives.specs.declared.user.telling.Outcome.{Outcome}
use Rattle.cfdp_directives.specs.Pdu.Codes.{no_error}
use Rattle.cfdp_directives.specs.User.Completions.{IsToldComplete}
use Rattle.cfdp_directives.specs.Pdu.Content.{Finished}
use Rattle.cfdp_directives.specs.User.Policy.{finished_told}
use Rattle.cfdp_directives.specs.User.Put.{SomePdu, SaysComplete}
use Rattle.cfdp_directives.specs.Pdu.Tlv.{Tlv}
use Rattle.cfdp_entity.specs.History.{TableStep, Hears}
use Rattle.cfdp_entity.specs.Seen.{Seen, Sends, Receives}
use Rattle.cfdp_entity.specs.Table.{Entry, TableState}

-- How a receiver's transaction ended is kept only if that was indicated.
abbrev pub WasIndicated : List Indication → Seen → Type 0
WasIndicated told (Sends x) = Unit {0}
WasIndicated told (Receives r m) =
    (o : Outcome) → r.outcome ≡ Some o → Contains told (finished_told r.addressing.id o)

-- A receiver says nothing of an end that wasn't indicated here, and it is indicated that a file of
-- this entity was delivered only if a Finished was heard that says so.
pub record TellsNoMore (own : ℕ) (heard : List (List ℕ)) (st : TableState) : Type 0 where
  pub indicated : (place : ℕ) (e : Entry) → slice_get st.records place ≡ Some e
      → WasIndicated st.told e.1
  pub told : (id : TransactionId) → IsToldComplete own st.told id → SomePdu (SaysComplete id) heard

-- If a record hears a Finished that says that its file was delivered, it must be among those heard.
abbrev pub HearsDelivered : List (List ℕ) → TableStep → TableState → Type 0
HearsDelivered heard (Hears stored place large v) st =
    (e : Entry) → slice_get st.records place ≡ Some e → (tlvs : List Tlv)
    → v ≡ Finished no_error Complete Retained tlvs → SomePdu (SaysComplete e.0) heard
HearsDelivered heard _ st = Unit {0}
