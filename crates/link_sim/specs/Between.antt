-- Proof-only: what becomes of a put while both entities go on: its two records, its PDUs on their
-- way, and what was indicated of it. `mine` is the entity that made the put, `theirs` the other
-- one.
use Rattle.std.specs.Prelude.{◌≡◌, Bool, true, false, List, [], ◌∷◌, Option, Some, None, if◌then◌else◌, ℕ}
use Rattle.cfdp_header.specs.declared.value.Header.{Header}
use Rattle.cfdp_header.specs.declared.value.TransactionId.{TransactionId}
use Rattle.cfdp_header.specs.Ids.{same_id}
use Rattle.cfdp_directives.specs.Pdu.Content.{Content}
use Rattle.cfdp_directives.specs.User.Put.{Put}
use Rattle.cfdp_sender.specs.State.{SenderState}
use Rattle.cfdp_receiver.specs.State.{ReceiverState}
use Rattle.cfdp_entity.specs.Entity.{EntityState}
use Rattle.cfdp_entity.specs.Seen.{Seen, Sends, Receives}
use Rattle.cfdp_entity.specs.Table.{record_of}
use Rattle.link_sim.specs.Clean.{HasHeardAll}
use Rattle.link_sim.specs.Course.{IsCourse}
use Rattle.link_sim.specs.Exchange.{tells_complete, pauses}
use Rattle.link_sim.specs.Waiting.{IsUncancelled, one_tells, spoils}
use Rattle.cfdp_directives.specs.Pdu.Grammar.{SpellsPdu}

abbrev pub Pdu : Type 0
Pdu = Header × Content

-- Each text is spelled by its header and content, in order.
abbrev pub AreSpelled : List (List ℕ) → List Pdu → Type 0
AreSpelled [] [] = Unit {0}
AreSpelled (text ∷ texts) (p ∷ pdus) = SpellsPdu p.0 p.1 text × AreSpelled texts pdus
AreSpelled _ _ = ⊥

-- what those PDUs say that are of this transaction
abbrev pub of_id : TransactionId → List Pdu → List Content
of_id id [] = []
of_id id (p ∷ pdus) = if same_id id p.0.id then p.1 ∷ of_id id pdus else of_id id pdus

-- The record, if there is one, receives.
abbrev pub IsReceiverIn : Option Seen → Option ReceiverState → Type 0
IsReceiverIn (Some (Receives r m)) (Some s) = s ≡ r
IsReceiverIn None None = Unit {0}
IsReceiverIn _ _ = ⊥

-- The put is on its course: if `lossless` is set, on the course of a link that lost nothing.
-- `forth` are the PDUs on their way from its entity, `back` those on their way to it.
pub record IsOnCourse (lossless : Bool) (put : Put) (mine theirs : EntityState)
    (forth back : List Pdu) : Type 0 where
  pub sender : SenderState
  pub is_sender : record_of put.id mine.table.records ≡ Some (Sends sender)
  pub receiver : Option ReceiverState
  pub is_receiver : IsReceiverIn (record_of put.id theirs.table.records) receiver
  pub course : IsCourse put lossless lossless lossless lossless sender receiver
      (of_id put.id forth) (of_id put.id back)
      (one_tells (tells_complete put.id) mine.table.told)
      (one_tells (tells_complete put.id) theirs.table.told)

-- Nothing spoiled it; and if `lossless` is set, no PDU was dropped and it was never suspended.
pub record IsUnspoiled (lossless : Bool) (id : TransactionId) (mine theirs : EntityState)
    : Type 0 where
  pub told : one_tells (spoils id) mine.table.told ≡ false
  pub told_there : one_tells (spoils id) theirs.table.told ≡ false
  pub uncancelled : IsUncancelled (record_of id mine.table.records)
  pub heard : lossless ≡ true → HasHeardAll mine
  pub heard_there : lossless ≡ true → HasHeardAll theirs
  pub awake : lossless ≡ true → one_tells (pauses id) mine.table.told ≡ false
  pub awake_there : lossless ≡ true → one_tells (pauses id) theirs.table.told ≡ false

-- As long as nothing spoils it, it is on its course.
abbrev pub StaysOnCourse : Bool → Put → (mine theirs : EntityState) → (forth back : List Pdu)
    → Type 0
StaysOnCourse lossless put mine theirs forth back =
    IsUnspoiled lossless put.id mine theirs → IsOnCourse lossless put mine theirs forth back
