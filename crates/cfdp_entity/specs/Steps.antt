-- One step of one record: a PDU that it hears, a timer that expires, a call of its user, or a PDU
-- that it sends.
use Rattle.std.specs.Prelude.{◌≡◌, ℕ, Bool, true, List, [], ◌∷◌, take, Option, Some, None}
use Rattle.std.specs.FinMap as map
use Rattle.std.specs.FinSet as set
use Rattle.cfdp_header.specs.Files.{FileMap}
use Rattle.cfdp_header.specs.declared.value.TransactionId.{TransactionId}
use Rattle.cfdp_directives.specs.declared.pdu.codes.Acknowledged.TheVariants as acknowledged
use Rattle.cfdp_directives.specs.declared.user.indication.Indication.{Indication}
use Rattle.cfdp_directives.specs.declared.user.limits.Times.{Times}
use Rattle.cfdp_directives.specs.declared.user.policy.Policy.{Policy}
use Rattle.cfdp_directives.specs.Pdu.Content.{Content, FileData, Metadata, Eof, Finished, Ack, Nak, Prompt, KeepAlive}
use Rattle.cfdp_store.specs.declared.stored.Stored.{Stored}
use Rattle.cfdp_store.specs.Staged.{OctetMap}
use Rattle.cfdp_store.specs.Files.{octets_in}
use Rattle.cfdp_timers.specs.declared.kind.Kind.{Kind}
use Rattle.cfdp_timers.specs.declared.wait.Waits.{Waits}
use Rattle.cfdp_timers.specs.Armed.{Armed}
use Rattle.cfdp_timers.specs.Waits.{waited}
use Rattle.cfdp_sender.specs.State.{SenderState}
use Rattle.cfdp_sender.specs.declared.due.SenderDue.{SenderDue}
use Rattle.cfdp_sender.specs.Due.{sender_due}
use Rattle.cfdp_sender.specs.Does as sender_does
use Rattle.cfdp_sender.specs.Steps as sender
use Rattle.cfdp_receiver.specs.State.{ReceiverState, flagged}
use Rattle.cfdp_receiver.specs.declared.due.Due.{Due}
use Rattle.cfdp_receiver.specs.Due.{receiver_due}
use Rattle.cfdp_receiver.specs.Does as receiver_does
use Rattle.cfdp_receiver.specs.Steps as receiver
use Rattle.cfdp_entity.specs.declared.request.Request.{Request}
use Rattle.cfdp_entity.specs.declared.request.Request.TheVariants as request
use Rattle.cfdp_entity.specs.Seen.{Seen, Sends, Receives, octets_seen}

-- what a step leaves: the record, what it indicated, how it set its timers, in turn, and the
-- published files
pub record After : Type 0 where
  pub seen : Seen
  pub told : List Indication
  pub waits : List Waits
  pub files : FileMap

-- the armed timers once those of a transaction were set so, in turn
abbrev pub with_waits : ℕ → TransactionId → List Waits → Armed → Armed
with_waits now id [] armed = armed
with_waits now id (w ∷ ws) armed = with_waits now id ws (waited now id w armed)

-- a step of the sending machine: it publishes nothing
abbrev pub by_sender : Times → FileMap → sender.SenderAfter → After
by_sender times files a = record {
  seen = Sends a.sender;
  told = a.told;
  waits = sender_does.waits_of times a.anew a.sender ∷ [];
  files = files;
}

-- a step of the receiving machine
abbrev pub by_receiver : Times → receiver.ReceiverAfter → After
by_receiver times a = record {
  seen = Receives a.receiver (octets_seen a.receiver a.octets);
  told = a.told;
  waits = receiver_does.waits_of times a.anew a.receiver ∷ [];
  files = a.files;
}

-- nothing changes
abbrev pub no_step : FileMap → Seen → After
no_step files s = record { seen = s; told = []; waits = []; files = files }

-- ---- what is heard
-- by a sender: ACK of EOF, NAK, Finished and Keep Alive are for it
abbrev pub sender_after : Content → SenderState → Option sender.SenderAfter
sender_after (Ack acknowledged.Eof condition status) x = Some (sender.sender_hears_ack condition x)
sender_after (Nak start end pairs) x = Some (sender.sender_hears_nak pairs x)
sender_after (Finished condition delivery status tlvs) x =
    Some (sender.sender_hears_finished
    (record { condition = condition; delivery = delivery; status = status }) x)
sender_after (KeepAlive progress) x = Some (sender.sender_hears_keep_alive progress x)
sender_after _ x = None

abbrev pub if_sender : Times → FileMap → SenderState → Option sender.SenderAfter → After
if_sender times files x (Some a) = by_sender times files a
if_sender times files x None = no_step files (Sends x)

-- by a receiver: all others are. The large file flag counts, and then what the PDU says
abbrev pub receiver_after : Stored → (large : Bool) → Content → OctetMap → FileMap →
    ReceiverState → Option receiver.ReceiverAfter
receiver_after stored large (Metadata kind size source destination options) m files r =
    Some (receiver.hears_metadata stored kind size source destination m files (flagged large r))
receiver_after stored large (FileData offset bytes) m files r =
    Some (receiver.hears_data stored large offset bytes m files (flagged large r))
receiver_after stored large (Eof condition checksum size tlvs) m files r =
    Some (receiver.hears_eof stored large condition checksum size m files (flagged large r))
receiver_after stored large (Ack acknowledged.Finished condition status) m files r =
    Some (receiver.hears_ack m files (flagged large r))
receiver_after stored large (Prompt keep_alive) m files r =
    Some (receiver.hears_prompt keep_alive m files (flagged large r))
receiver_after stored large _ m files r = None

abbrev pub if_receiver : Times → FileMap → ReceiverState → OctetMap →
    Option receiver.ReceiverAfter → After
if_receiver times files r m (Some a) = by_receiver times a
if_receiver times files r m None = no_step files (Receives r m)

-- a sender ignores the large file flag: it knows its file
abbrev pub hears : Stored → Times → FileMap → (large : Bool) → Content → Seen → After
hears stored times files large v (Sends x) = if_sender times files x (sender_after v x)
hears stored times files large v (Receives r m) =
    if_receiver times files r m (receiver_after stored large v m files r)

-- If there was no memory for what a PDU brings, the record is as before, except for two things:
-- file data may have staged octets at offsets that are not held, and a NAK may have asked for a
-- prefix of its pairs.
abbrev pub Spoils : Content → (old new : Seen) → Type 0
Spoils (FileData offset bytes) (Receives r m) new =
    (octets : OctetMap) × ((new ≡ Receives r octets)
    × ((n : ℕ) → set.contains r.held n ≡ true → map.get octets n ≡ map.get m n))
Spoils (Nak start end pairs) (Sends x) new =
    (n : ℕ) × (new ≡ Sends (sender.asks_in x.phase (take n pairs) x))
Spoils _ old new = new ≡ old

-- ---- timers, requests of the user, and what is sent
abbrev pub expires : Policy → FileMap → Kind → Seen → After
expires policy files k (Sends x) = by_sender policy.times files (sender.sender_expires k policy x)
expires policy files k (Receives r m) =
    by_receiver policy.times (receiver.expires k policy m files r)

abbrev pub called_sender : Request → SenderState → sender.SenderAfter
called_sender request.Cancel x = sender.sender_cancels x
called_sender request.Suspend x = sender.sender_suspends x
called_sender request.Resume x = sender.sender_resumes x
called_sender (request.Prompt keep_alive) x = sender.sender_prompts keep_alive x

abbrev pub called_receiver : Request → OctetMap → FileMap → ReceiverState →
    Option receiver.ReceiverAfter
called_receiver request.Cancel m files r = Some (receiver.cancels m files r)
called_receiver request.Suspend m files r = Some (receiver.suspends m files r)
called_receiver request.Resume m files r = Some (receiver.resumes m files r)
called_receiver (request.Prompt keep_alive) m files r = None

abbrev pub calls : Times → FileMap → Request → Seen → After
calls times files c (Sends x) = by_sender times files (called_sender c x)
calls times files c (Receives r m) = if_receiver times files r m (called_receiver c m files r)

abbrev pub sender_takes : Stored → Times → FileMap → List ℕ → SenderState → Option SenderDue → After
sender_takes stored times files file x (Some d) =
    by_sender times files (sender.sender_sends stored file x d)
sender_takes stored times files file x None = no_step files (Sends x)

abbrev pub receiver_takes : Times → FileMap → ReceiverState → OctetMap → Option Due → After
receiver_takes times files r m (Some d) = by_receiver times (receiver.takes d m files r)
receiver_takes times files r m None = no_step files (Receives r m)

-- the PDU that is due is sent; `stored` is how the outbox answered, if file data were read
abbrev pub takes : Stored → Times → (sources files : FileMap) → Seen → After
takes stored times sources files (Sends x) =
    sender_takes stored times files (octets_in sources x.source) x (sender_due x)
takes stored times sources files (Receives r m) =
    receiver_takes times files r m (receiver_due r)
