-- What a table sends of its puts. `put_of` finds the put of a transaction.
use Rattle.std.specs.Prelude.{◌≡◌, ℕ, ◌≤◌, length, slice_get, Option, Some}
use Rattle.cfdp_header.specs.declared.value.TransactionId.{TransactionId}
use Rattle.cfdp_header.specs.Files.{FileMap}
use Rattle.cfdp_directives.specs.User.Put.{Put}
use Rattle.cfdp_store.specs.Files.{octets_in}
use Rattle.cfdp_sender.specs.State.{SenderState}
use Rattle.cfdp_sender.specs.InFile.{IsInFile}
use Rattle.cfdp_sender.specs.Inputs as sender
use Rattle.cfdp_entity.specs.Seen.{Seen, Sends, Receives}
use Rattle.cfdp_entity.specs.Table.{Entry, TableState}
use Rattle.cfdp_entity.specs.History.{TableStep, Puts}

-- A sender must send the put of its transaction, with the octets that the outbox has under its
-- source name.
pub record SendsPut (put_of : TransactionId → Option Put) (sources : FileMap) (id : TransactionId)
    (x : SenderState) : Type 0 where
  pub put : Put
  pub is_put : put_of id ≡ Some put
  pub sender : sender.IsSenderOf put x
  pub in_file : IsInFile x
  pub octets : put.octets ≡ octets_in sources x.source

-- If a record receives, it sends nothing of a put.
abbrev pub SendsItsPut : (TransactionId → Option Put) → FileMap → TransactionId → Seen → Type 0
SendsItsPut put_of sources id (Sends x) = SendsPut put_of sources id x
SendsItsPut put_of sources id (Receives r m) = Unit {0}

-- Each record that sends must send its put.
pub record SendsTruth (put_of : TransactionId → Option Put) (st : TableState) : Type 0 where
  pub sends : (place : ℕ) (e : Entry) → slice_get st.records place ≡ Some e
      → SendsItsPut put_of st.sources e.0 e.1

-- If a step opens a put, it must be found under its transaction, with the whole file of its source
-- name.
abbrev pub FindsPut : (TransactionId → Option Put) → TableStep → TableState → Type 0
FindsPut put_of (Puts t) st =
    (1 ≤ t.segment) × (length (octets_in st.sources t.source) ≡ t.size)
    × (put_of t.addressing.id ≡ Some (sender.put_of t (octets_in st.sources t.source)))
FindsPut put_of _ st = Unit {0}
