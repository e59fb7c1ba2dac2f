-- What a step asks of the inbox, said of the inbox and said of the count of its failures.
use Rattle.std.proofs.Common.{◌≡◌, ℕ, Bool, List, Option, Some, None, Result, Ok, Err, IfOk, sym, subst}
use Rattle.cfdp_directives.specs.declared.pdu.addressing.Addressing.{Addressing}
use Rattle.cfdp_directives.specs.Pdu.Content.{Content, FileData, Metadata, Eof, Finished, Ack, Nak, Prompt, KeepAlive}
use Rattle.cfdp_store.specs.declared.stored.Stored.{Stored}
use Rattle.cfdp_store.specs.declared.stored.Stored.TheVariants.{Done, Refused}
use Rattle.cfdp_store.specs.Calls.{InboxCall}
use Rattle.cfdp_store.specs.Chains.{Makes, Raises}
use Rattle.cfdp_store.specs.Staged.{OctetMap}
use Rattle.cfdp_receiver.specs.State.{ReceiverState, opened_receiver}
use Rattle.cfdp_receiver.specs.Storing.{Settles, Stages, staged_pieces}
use Rattle.cfdp_receiver.proofs.ReadOff.{settles, stages, begins}
use Rattle.cfdp_entity.specs.declared.record.Record.{Record}
use Rattle.cfdp_entity.specs.declared.record.Record.TheVariants as held
use Rattle.cfdp_entity.specs.Seen.{Seen, Sends, Receives, seen}
use Rattle.cfdp_entity.specs.Storing.{AsksHeard, AsksAs, AsksFirst}

module _ {S : Type 0} (steps : S → InboxCall → S → Type 0) (failures : S → ℕ) where
  raised : (calls : List InboxCall) (old new : S) → Makes steps failures calls old new → Raises calls (failures old) (failures new)
  raised calls old new made = made.1

  settled : (stored : Stored) (r s : ReceiverState) (old new : S) → Settles (Makes steps failures) stored r s old new → Settles Raises stored r s (failures old) (failures new)
  settled = settles (Makes steps failures) Raises failures raised

  heard : (large : Bool) (v : Content) (stored : Stored) (r s : ReceiverState) (old new : S) → AsksHeard (Makes steps failures) large v stored r s old new →
      AsksHeard Raises large v stored r s (failures old) (failures new)
  heard large (Metadata kind size source destination options) stored r s old new h = settled stored r s old new h
  heard large (FileData offset bytes) stored r s old new h = stages (Makes steps failures) Raises failures raised stored (staged_pieces large offset bytes r) r s old new h
  heard large (Eof condition checksum size tlvs) stored r s old new h = settled stored r s old new h
  heard large (Finished condition delivery status tlvs) stored r s old new h = h.1
  heard large (Ack of condition status) stored r s old new h = h.1
  heard large (Nak start end pairs) stored r s old new h = h.1
  heard large (Prompt keep_alive) stored r s old new h = h.1
  heard large (KeepAlive progress) stored r s old new h = h.1

  -- file data
  pub data-heard : {E : Type 0} (answer : Result Stored E) (large : Bool) (v : Content) (offset : ℕ) (bytes : List ℕ) → v ≡ FileData offset bytes → (r s : ReceiverState) (old new : S)
      → IfOk answer (λ stored. Stages (Makes steps failures) stored (staged_pieces large offset bytes r) r s old new)
      → IfOk answer (λ stored. AsksHeard (Makes steps failures) large v stored r s old new)
  data-heard (Ok stored) large v offset bytes is r s old new h = subst (λ w. AsksHeard (Makes steps failures) large w stored r s old new) (sym is) h
  data-heard (Err e) large v offset bytes is r s old new h = tt

  -- the record of a receiver
  module _ (k : Record) (r s : ReceiverState) (is : k ≡ held.Receives r) (staged staged_now : Option OctetMap) (old new : S) where
    here : (Asks : (r s : ReceiverState) → (old new : ℕ) → Type 0) → Asks r s (failures old) (failures new) →
        AsksAs Raises Asks (seen staged k) (seen staged_now (held.Receives s)) (failures old) (failures new)
    here Asks h = subst (λ (q : Record). AsksAs Raises Asks (seen staged q) (seen staged_now (held.Receives s)) (failures old) (failures new)) (sym is) h

    pub heard-here : {E : Type 0} (answer : Result Stored E) (large : Bool) (v : Content) → IfOk answer (λ stored. AsksHeard (Makes steps failures) large v stored r s old new)
        → IfOk answer (λ stored. AsksAs Raises (AsksHeard Raises large v stored) (seen staged k) (seen staged_now (held.Receives s)) (failures old) (failures new))
    heard-here (Ok stored) large v h = here (AsksHeard Raises large v stored) (heard large v stored r s old new h)
    heard-here (Err e) large v h = tt

  -- a record more
  pub opened : (closes : Option ℕ) (begun stored : Stored) (large : Bool) (v : Content) (a : Addressing) (s : Seen) (old new : S) →
      AsksFirst (Makes steps failures) closes begun stored large v a s old new →
      AsksFirst Raises closes begun stored large v a s (failures old) (failures new)
  opened (Some condition) begun stored large v a s old new h = h.1
  opened None Done stored large v a (Receives r m) old new h =
      (failures h.0, begins (Makes steps failures) Raises failures raised Done a.id old h.0 h.1, heard large v stored (opened_receiver a) r h.0 new h.2)
  opened None Done stored large v a (Sends x) old new h = absurd h.2
  opened None Refused stored large v a s old new h = begins (Makes steps failures) Raises failures raised Refused a.id old new h
