-- How a put or a PDU opens a record.
use Rattle.std.specs.Prelude.{◌≡◌, ℕ, Bool, ◌==◌, [], ◌∷◌, Option, Some, None, if◌then◌else◌}
use Rattle.std.specs.FinMap as map
use Rattle.cfdp_header.specs.Files.{FileMap}
use Rattle.cfdp_directives.specs.declared.pdu.addressing.Addressing.{Addressing}
use Rattle.cfdp_directives.specs.declared.user.indication.Indication.TheVariants as indication
use Rattle.cfdp_directives.specs.declared.user.limits.Times.{Times}
use Rattle.cfdp_directives.specs.Pdu.Codes.{no_error}
use Rattle.cfdp_directives.specs.Pdu.Content.{Content, Eof}
use Rattle.cfdp_store.specs.declared.stored.Stored.{Stored}
use Rattle.cfdp_store.specs.declared.stored.Stored.TheVariants.{Done, Refused}
use Rattle.cfdp_store.specs.Stores.{Counts}
use Rattle.cfdp_sender.specs.declared.transfer.Transfer.{Transfer}
use Rattle.cfdp_sender.specs.State.{opened_sender}
use Rattle.cfdp_receiver.specs.State.{opened_receiver}
use Rattle.cfdp_receiver.specs.Steps as receiver
use Rattle.cfdp_entity.specs.Seen.{Sends, Receives}
use Rattle.cfdp_entity.specs.Steps.{After, by_receiver, no_step, hears}

-- a put opens a sending record, and that is indicated
abbrev pub puts : FileMap → Transfer → After
puts files t = record {
  seen = Sends (opened_sender t);
  told = indication.Transaction t.addressing.id ∷ [];
  waits = [];
  files = files;
}

-- ---- a PDU opens a receiving record
abbrev pub error_of : ℕ → Option ℕ
error_of condition = if condition == no_error then None else Some condition

-- the condition of an EOF with an error
abbrev pub closing : Content → Option ℕ
closing (Eof condition checksum size tlvs) = error_of condition
closing _ = None

-- The inbox is asked to begin the transaction. If it does, the record hears the PDU, which sets its
-- timers. If it refuses, that is a fault, of the PDU only its large file flag counts, and no timer
-- is set.
abbrev pub begins : (begun stored : Stored) → Times → FileMap → (large : Bool) → Content →
    Addressing → After
begins Done stored times files large v a =
    hears stored times files large v (Receives (opened_receiver a) map.empty)
begins Refused stored times files large v a =
    record (by_receiver times (receiver.opens Refused large files a)) { waits = [] }

-- If an EOF has an error, it opens a record that is closed, and the inbox isn't called.
abbrev pub opens_by : Option ℕ → (begun stored : Stored) → Times → FileMap → (large : Bool) →
    Content → Addressing → After
opens_by (Some condition) begun stored times files large v a =
    no_step files (Receives (receiver.opened_closed large condition a) map.empty)
opens_by None begun stored times files large v a = begins begun stored times files large v a

abbrev pub opens : (begun stored : Stored) → Times → FileMap → (large : Bool) → Content →
    Addressing → After
opens begun stored times files large v a =
    opens_by (closing v) begun stored times files large v a

-- Both answers of the inbox were counted.
abbrev pub CountsBoth : (begun stored : Stored) → (before after : ℕ) → Type 0
CountsBoth begun stored before after = Counts begun before after × Counts stored before after

-- If the inbox is not asked, that counts as done: an EOF with an error asks nothing of it, and a
-- PDU asks no more if the inbox refuses to begin its transaction.
abbrev pub AsksInOrder : (closes : Option ℕ) → (begun stored : Stored) → Type 0
AsksInOrder (Some condition) begun stored = (begun ≡ Done) × (stored ≡ Done)
AsksInOrder None Done stored = Unit {0}
AsksInOrder None Refused stored = stored ≡ Done
