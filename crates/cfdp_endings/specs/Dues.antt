-- How many PDUs may still leave until a timer expires or a PDU is heard.
use Rattle.std.specs.Prelude.{◌≡◌, ◌≢◌, ℕ, zero, suc, ◌+◌, ◌-◌, ◌||◌, not, Bool, is_some, List, [], ◌∷◌, length, Option, Some, None, if◌then◌else◌}
use Rattle.std.specs.FinSet as set
use Rattle.cfdp_extents.specs.Offsets.{Offsets}
use Rattle.cfdp_sender.specs.declared.phase.SenderPhase.{SenderPhase}
use Rattle.cfdp_sender.specs.declared.phase.SenderPhase.TheVariants as sending
use Rattle.cfdp_sender.specs.State.{SenderState}
use Rattle.cfdp_receiver.specs.declared.state.ReceiverPhase.{ReceiverPhase}
use Rattle.cfdp_receiver.specs.declared.state.ReceiverPhase.TheVariants as receiving
use Rattle.cfdp_receiver.specs.State.{ReceiverState}
use Rattle.cfdp_receiver.specs.Missing.{scope_limit}
use Rattle.cfdp_store.specs.declared.stored.Stored.{Stored}
use Rattle.cfdp_entity.specs.Entity.{EntityState}
use Rattle.cfdp_entity.specs.Polling.{Rests, served, turn}
use Rattle.cfdp_entity.specs.Seen.{Seen, Sends, Receives}
use Rattle.cfdp_entity.specs.Table.{Entry}

-- how many offsets of a set lie below n
unfoldable pub count_below : Offsets → ℕ → ℕ
count_below offsets zero = 0
count_below offsets (suc n) = count_below offsets n + (if set.contains offsets n then 1 else 0)

abbrev pub one_if : Bool → ℕ
one_if b = if b then 1 else 0

-- of a sender: a Prompt, Metadata, at most one PDU for each octet that was asked for and for each
-- that wasn't sent yet, EOF, and the EOF that cancels if a read fails
abbrev pub file_dues : SenderState → ℕ
file_dues x = one_if (is_some x.prompt_due) + one_if x.metadata_due + count_below x.asked x.size
    + (x.size - x.sent) + one_if (x.eof_due || not x.eof_taken) + 1

abbrev pub sender_dues_in : SenderPhase → (file : ℕ) → (eof_due : Bool) → ℕ
sender_dues_in sending.Sending file eof_due = file
sender_dues_in sending.Cancelling file eof_due = one_if eof_due
sender_dues_in sending.Closed file eof_due = 0

-- and the ACK of Finished
abbrev pub sender_dues : SenderState → ℕ
sender_dues x = one_if (is_some x.ack_due) + sender_dues_in x.phase (file_dues x) x.eof_due

-- of a receiver: NAKs from an offset on; each except the last moves that offset on
abbrev pub nak_dues : Option ℕ → (limit : ℕ) → ℕ
nak_dues (Some from) limit = limit - from + 1
nak_dues None limit = 0

abbrev pub receiver_dues_in : ReceiverPhase → (asks : ℕ) → (finished_due : Bool) → ℕ
receiver_dues_in receiving.Receiving asks finished_due = asks
receiver_dues_in receiving.Finishing asks finished_due = one_if finished_due
receiver_dues_in receiving.Closed asks finished_due = 0

-- and the ACK of EOF, a Keep Alive, Finished
abbrev pub receiver_dues : ReceiverState → ℕ
receiver_dues r = one_if (is_some r.ack_due) + receiver_dues_in r.phase
    (nak_dues r.nak_cursor (scope_limit r) + one_if r.keep_alive_due) r.finished_due

abbrev pub seen_dues : Seen → ℕ
seen_dues (Sends x) = sender_dues x
seen_dues (Receives r m) = receiver_dues r

abbrev pub records_dues : List Entry → ℕ
records_dues [] = 0
records_dues (e ∷ es) = seen_dues e.1 + records_dues es

-- of an entity: of all records, and the acknowledgements of transactions that have none
abbrev pub entity_dues : EntityState → ℕ
entity_dues e = records_dues e.table.records + length e.strays

-- It was polled, once for each of these answers of its outbox, and each time something was due.
abbrev pub ArePolls : List Stored → (old new : EntityState) → Type 0
ArePolls [] old new = new ≡ old
ArePolls (stored ∷ more) old new =
    (turn old ≢ Rests) × ArePolls more (served stored (turn old) old) new
