-- What is derived of what a record has due is what its definitions say of the record.
use Rattle.std.proofs.Common.{◌≡◌, ℕ, Option, Some, None, slice_get, refl, ap, ◌∙◌}
use Rattle.cfdp_store.specs.Staged.{OctetMap}
use Rattle.cfdp_sender.specs.State.{SenderState}
use Rattle.cfdp_sender.specs.Due.{sender_due}
use Rattle.cfdp_receiver.specs.State.{ReceiverState}
use Rattle.cfdp_receiver.specs.Due.{receiver_due}
use Rattle.cfdp_entity.specs.declared.due.RecordDue.{RecordDue}
use Rattle.cfdp_entity.specs.declared.due.RecordDue.TheVariants as dues
use Rattle.cfdp_entity.specs.declared.record.Record.{Record}
use Rattle.cfdp_entity.specs.declared.record.Record.TheVariants as held
use Rattle.cfdp_entity.specs.Found.{found_due, found_in, found_at, is_data, counts_as}
use Rattle.cfdp_entity.specs.Seen.{Seen, Sends, Receives, seen, carries_data}
use Rattle.cfdp_entity.specs.Sent.{sent_of, sent_in, sent_at}
use Rattle.cfdp_entity.specs.Table.{Entry, TableState, data_due, data_at}

seen-data : (s : Seen) → is_data (found_due s) ≡ carries_data s
seen-data (Sends x) = refl
seen-data (Receives r m) = refl

entry-data : (o : Option Entry) → is_data (found_in o) ≡ data_due o
entry-data None = refl
entry-data (Some e) = seen-data e.1

pub data-found : (place : ℕ) (st : TableState) → is_data (found_at place st) ≡ data_at place st
data-found place st = entry-data (slice_get st.records place)

seen-counts : (s : Seen) → counts_as (found_due s) ≡ sent_of s
seen-counts (Sends x) = refl
seen-counts (Receives r m) = refl

entry-counts : (o : Option Entry) → counts_as (found_in o) ≡ sent_in o
entry-counts None = refl
entry-counts (Some e) = seen-counts e.1

pub counts_found : (place : ℕ) (st : TableState) → counts_as (found_at place st) ≡ sent_at place st
counts_found place st = entry-counts (slice_get st.records place)

-- what a record of either side has due
pub sender-found : (staged : Option OctetMap) (r : Record) (x : SenderState) (d : RecordDue) → r ≡ held.Sends x → d ≡ found_due (seen staged r) → d ≡ dues.Sends (sender_due x)
sender-found staged r x d is due = due ∙ ap (λ (k : Record). found_due (seen staged k)) is

pub receiver-found : (staged : Option OctetMap) (r : Record) (x : ReceiverState) (d : RecordDue) → r ≡ held.Receives x → d ≡ found_due (seen staged r) → d ≡ dues.Receives (receiver_due x)
receiver-found staged r x d is due = due ∙ ap (λ (k : Record). found_due (seen staged k)) is
