-- All that may happen to a sender, as one step, and what it must do with a put.
use Rattle.std.specs.Prelude.{◌≡◌, ℕ, ◌<◌, ◌≤◌, Bool, true, false, List, take, length, Some, count_by}
use Rattle.std.specs.FinSet as set
use Rattle.cfdp_header.specs.declared.value.TransactionId.{TransactionId}
use Rattle.cfdp_header.specs.Ids.{same_id}
use Rattle.cfdp_timers.specs.declared.kind.Kind.{Kind}
use Rattle.cfdp_directives.specs.declared.user.telling.Outcome.{Outcome}
use Rattle.cfdp_directives.specs.declared.user.policy.Policy.{Policy}
use Rattle.cfdp_directives.specs.declared.pdu.codes.Delivery.TheVariants.{Complete}
use Rattle.cfdp_directives.specs.declared.pdu.codes.FileStatus.TheVariants.{Retained}
use Rattle.cfdp_directives.specs.declared.user.indication.Indication.{Indication}
use Rattle.cfdp_directives.specs.Pdu.Codes.{no_error}
use Rattle.cfdp_directives.specs.declared.pdu.sums.Checksums.{Checksums}
use Rattle.cfdp_directives.specs.Pdu.Sums.{nothing_summed, summed}
use Rattle.cfdp_directives.specs.User.Completions.{is_finished}
use Rattle.cfdp_directives.specs.User.Put.{Put}
use Rattle.cfdp_store.specs.declared.stored.Stored.{Stored}
use Rattle.cfdp_store.specs.declared.stored.Stored.TheVariants.{Refused}
use Rattle.cfdp_sender.specs.declared.phase.SenderPhase.TheVariants.{Closed}
use Rattle.cfdp_sender.specs.declared.due.SenderDue.{SenderDue}
use Rattle.cfdp_sender.specs.declared.transfer.Transfer.{Transfer}
use Rattle.cfdp_sender.specs.State.{SenderState}
use Rattle.cfdp_sender.specs.Due.{sender_due, carries}
use Rattle.cfdp_sender.specs.Steps.{SenderAfter, sender_sends, sender_hears_ack, sender_hears_nak, sender_hears_finished, sender_hears_keep_alive, sender_expires, sender_cancels, sender_suspends, sender_resumes, sender_prompts}

pub data SenderInput : Type 0 where
  -- a PDU is sent, and the outbox answered so, if data were read
  Sends : (stored : Stored) (sent : SenderDue) → SenderInput
  HearsAck : (condition : ℕ) → SenderInput
  HearsNak : (pairs : List (ℕ × ℕ)) → SenderInput
  HearsFinished : (outcome : Outcome) → SenderInput
  HearsKeepAlive : (progress : ℕ) → SenderInput
  Expires : (kind : Kind) → SenderInput
  Cancels : SenderInput
  Suspends : SenderInput
  Resumes : SenderInput
  Prompts : (keep_alive : Bool) → SenderInput

-- what it leaves; `file` is the octets that the outbox has under the source name
abbrev pub sender_step : Policy → List ℕ → SenderInput → SenderState → SenderAfter
sender_step policy file (Sends stored d) x = sender_sends stored file x d
sender_step policy file (HearsAck condition) x = sender_hears_ack condition x
sender_step policy file (HearsNak pairs) x = sender_hears_nak pairs x
sender_step policy file (HearsFinished outcome) x = sender_hears_finished outcome x
sender_step policy file (HearsKeepAlive progress) x = sender_hears_keep_alive progress x
sender_step policy file (Expires kind) x = sender_expires kind policy x
sender_step policy file Cancels x = sender_cancels x
sender_step policy file Suspends x = sender_suspends x
sender_step policy file Resumes x = sender_resumes x
sender_step policy file (Prompts keep_alive) x = sender_prompts keep_alive x

-- Only the PDU that is due may be sent.
abbrev pub MayHappen : SenderInput → SenderState → Type 0
MayHappen (Sends stored d) x = sender_due x ≡ Some d
MayHappen _ x = Unit {0}

-- If it is closed, a sender isn't suspended, and nothing of its file is asked for.
abbrev pub RestsOnceClosed : SenderState → Type 0
RestsOnceClosed x = x.phase ≡ Closed → (x.asked ≡ set.empty) × (x.suspended ≡ false)

-- what is kept of the front of a file, for its checksum of this type
abbrev pub front_sums : ℕ → List ℕ → Checksums
front_sums kind front = summed (Some kind) nothing_summed (record { offset = 0; bytes = front })

-- A sender sends this put, and what is kept for the checksum is that of the front of its file that
-- was sent.
pub record IsSenderOf (put : Put) (x : SenderState) : Type 0 where
  pub id : x.addressing.id ≡ put.id
  pub source : x.source ≡ put.source
  pub destination : x.destination ≡ put.destination
  pub kind : x.checksum_kind ≡ put.checksum_kind
  pub size : x.size ≡ length put.octets
  pub front : x.sums ≡ front_sums x.checksum_kind (take x.sent put.octets)

-- the put that a transfer carries out, of a file with these octets
abbrev pub put_of : Transfer → List ℕ → Put
put_of t file = record {
  id = t.addressing.id;
  source = t.source;
  destination = t.destination;
  octets = file;
  checksum_kind = t.checksum_kind;
}

-- how many Finished of a transaction are indicated
abbrev pub finished_count : TransactionId → List Indication → ℕ
finished_count id told = count_by (is_finished id) told

-- A step indicates at most one Finished, of its own transaction, and is closed then; if it is
-- closed already, it indicates none and stays closed. So at most one is ever indicated.
pub record FinishesOnce (x : SenderState) (a : SenderAfter) : Type 0 where
  pub once : finished_count x.addressing.id a.told ≤ 1
  pub closes : 0 < finished_count x.addressing.id a.told → a.sender.phase ≡ Closed
  pub none : x.phase ≡ Closed → finished_count x.addressing.id a.told ≡ 0
  pub stays : x.phase ≡ Closed → a.sender.phase ≡ Closed
  pub own : (other : TransactionId) → same_id x.addressing.id other ≡ false
      → finished_count other a.told ≡ 0

-- how a transaction ends if its file was delivered
abbrev pub delivered : Outcome
delivered = record { condition = no_error; delivery = Complete; status = Retained }

-- The outbox failed to give data.
abbrev pub IsFailedRead : SenderInput → Type 0
IsFailedRead (Sends Refused d) = carries d ≡ true
IsFailedRead _ = ⊥
