-- The sending machine, row by row (CCSDS 727.0-B-5, 4.6.1.1, 4.6.4, 4.7 and 4.8): what is left of a
-- sender by a PDU that it sends, one that it hears, a timer that expires, and a call of its user.
use Rattle.std.specs.Prelude.{ℕ, ◌==◌, ◌&&◌, not, min, Bool, true, false, nat_lt, List, [], ◌∷◌, Option, Some, None, if◌then◌else◌}
use Rattle.std.specs.FinSet as set
use Rattle.cfdp_header.specs.declared.value.TransactionId.{TransactionId}
use Rattle.cfdp_extents.specs.Offsets.{range}
use Rattle.cfdp_timers.specs.declared.kind.Kind.{Kind}
use Rattle.cfdp_timers.specs.declared.kind.Kind.TheVariants.{EofAck, Inactivity}
use Rattle.cfdp_directives.specs.declared.pdu.codes.Delivery.TheVariants.{Incomplete}
use Rattle.cfdp_directives.specs.declared.pdu.codes.FileStatus.TheVariants.{Unreported}
use Rattle.cfdp_directives.specs.declared.user.handler.Handler.{Handler}
use Rattle.cfdp_directives.specs.declared.user.handler.Handler.TheVariants.{Cancel, Suspend, Ignore, Abandon}
use Rattle.cfdp_directives.specs.declared.user.indication.Indication.{Indication}
use Rattle.cfdp_directives.specs.declared.user.indication.Indication.TheVariants as indication
use Rattle.cfdp_directives.specs.Pdu.Codes.{no_error, positive_ack_limit, filestore_rejection, inactivity, suspend_request, cancel_request}
use Rattle.cfdp_directives.specs.Pdu.Sums.{summed}
use Rattle.cfdp_directives.specs.declared.user.telling.Outcome.{Outcome}
use Rattle.cfdp_directives.specs.declared.user.policy.Policy.{Policy}
use Rattle.cfdp_directives.specs.User.Policy.{another_try, fault_told, finished_told}
use Rattle.cfdp_store.specs.declared.stored.Stored.{Stored}
use Rattle.cfdp_store.specs.declared.stored.Stored.TheVariants.{Done, Refused}
use Rattle.cfdp_sender.specs.declared.phase.SenderPhase.{SenderPhase}
use Rattle.cfdp_sender.specs.declared.phase.SenderPhase.TheVariants.{Sending, Cancelling, Closed}
use Rattle.cfdp_sender.specs.declared.due.SenderDue.{SenderDue}
use Rattle.cfdp_sender.specs.declared.due.SenderDue.TheVariants as due
use Rattle.cfdp_sender.specs.State.{SenderState}
use Rattle.cfdp_sender.specs.Due.{carried}

-- what a step leaves: the sender, what it indicated, and the timer that it arms again
pub record SenderAfter : Type 0 where
  pub sender : SenderState
  pub told : List Indication
  pub anew : Option Kind

abbrev pub quiet : SenderState → SenderAfter
quiet x = record { sender = x; told = []; anew = None }

-- it indicates this, and arms no timer again
abbrev pub telling : List Indication → SenderState → SenderAfter
telling told x = record { sender = x; told = told; anew = None }

-- if it is cancelled, its EOF is due, and nothing of the file any more
abbrev pub cancelling : ℕ → SenderState → SenderState
cancelling condition x = record x {
  phase = Cancelling;
  suspended = false;
  asked = set.empty;
  metadata_due = false;
  prompt_due = None;
  eof_due = true;
  condition = condition;
  count = 0;
}

-- if it is closed, it is no longer suspended, and nothing is asked for
abbrev pub closed : SenderState → SenderState
closed x = record x { phase = Closed; suspended = false; asked = set.empty }

-- what a cancelled transaction comes to
abbrev pub cancelled : SenderState → Outcome
cancelled x = record { condition = x.condition; delivery = Incomplete; status = Unreported }

-- ---- sending what is due

-- if the outbox can't read the data, that is a fault, and cancels
abbrev pub sender_reads : Stored → SenderState → SenderState → SenderAfter
sender_reads Done x read = quiet read
sender_reads Refused x read =
    telling (fault_told Cancel x.addressing.id filestore_rejection)
    (cancelling filestore_rejection x)

-- new data, which begin at the end of those sent, raise the front, and count for its checksum
abbrev pub with_new : ℕ → List ℕ → SenderState → SenderState
with_new end bytes x = record x {
  sent = end;
  sums = summed (Some x.checksum_kind) x.sums (record { offset = x.sent; bytes = bytes });
}

-- data that were sent again are asked for no more
abbrev pub without_asked : ℕ → ℕ → SenderState → SenderState
without_asked start end x = record x { asked = set.difference x.asked (range start end) }

-- EOF is indicated if it is sent for the first time, and not if it cancels
abbrev pub eof_told : SenderPhase → Bool → TransactionId → List Indication
eof_told Sending false id = indication.EofSent id ∷ []
eof_told _ _ id = []

-- a PDU is sent that carries these octets, and `stored` is how the outbox answered if it reads
-- them
abbrev pub pdu_sent : Stored → List ℕ → SenderState → SenderDue → SenderAfter
pdu_sent stored octets x (due.AckOfFinished condition) = quiet (record x { ack_due = None })
pdu_sent stored octets x (due.Prompt keep_alive) = quiet (record x { prompt_due = None })
pdu_sent stored octets x due.Metadata = quiet (record x { metadata_due = false })
pdu_sent stored octets x (due.AskedData start end) =
    sender_reads stored x (without_asked start end x)
pdu_sent stored octets x (due.NewData start end) = sender_reads stored x (with_new end octets x)
pdu_sent stored octets x due.Eof = record {
  sender = record x { eof_due = false; eof_taken = true };
  told = eof_told x.phase x.eof_taken x.addressing.id;
  anew = Some EofAck;
}

-- the PDU that is due is sent; `file` is the octets that the outbox has under the source name
abbrev pub sender_sends : Stored → List ℕ → SenderState → SenderDue → SenderAfter
sender_sends stored file x d = pdu_sent stored (carried file d) x d

-- ---- hearing a PDU

-- whatever is heard arms the timer of inactivity again
abbrev pub hearing : List Indication → SenderState → SenderAfter
hearing told x = record { sender = x; told = told; anew = Some Inactivity }

-- an ACK of an EOF without an error acknowledges it, if one was sent; if the transaction was
-- cancelled, the ACK of the EOF that said so closes it
abbrev pub hears_ack : SenderPhase → ℕ → SenderState → SenderAfter
hears_ack Sending condition x =
    hearing []
    (if x.eof_taken && (condition == no_error)
    then record x { acknowledged = true; eof_due = false }
    else x)
hears_ack Cancelling condition x =
    if condition == x.condition
    then hearing (finished_told x.addressing.id (cancelled x) ∷ []) (closed x)
    else hearing [] x
hears_ack Closed condition x = hearing [] x

abbrev pub sender_hears_ack : ℕ → SenderState → SenderAfter
sender_hears_ack condition x = hears_ack x.phase condition x

-- a pair of a NAK: (0, 0) asks for Metadata, another for the offsets of its range that were sent
abbrev pub asks : ℕ × ℕ → SenderState → SenderState
asks p x =
    if (p.0 == 0) && (p.1 == 0) then record x { metadata_due = true }
    else if nat_lt p.0 (min p.1 x.sent)
    then record x { asked = set.union x.asked (range p.0 (min p.1 x.sent)) }
    else x

abbrev pub asks_all : List (ℕ × ℕ) → SenderState → SenderState
asks_all [] x = x
asks_all (p ∷ ps) x = asks_all ps (asks p x)

abbrev pub asks_in : SenderPhase → List (ℕ × ℕ) → SenderState → SenderState
asks_in Sending pairs x = asks_all pairs x
asks_in _ pairs x = x

abbrev pub sender_hears_nak : List (ℕ × ℕ) → SenderState → SenderAfter
sender_hears_nak pairs x = hearing [] (asks_in x.phase pairs x)

-- what a Finished comes to: what it says, or, if the transaction was cancelled before, that it was
abbrev pub end_told : SenderPhase → Outcome → SenderState → List Indication
end_told Sending outcome x = finished_told x.addressing.id outcome ∷ []
end_told Cancelling outcome x = finished_told x.addressing.id (cancelled x) ∷ []
end_told Closed outcome x = []

-- a Finished closes the transaction, and is acknowledged whenever it comes
abbrev pub sender_hears_finished : Outcome → SenderState → SenderAfter
sender_hears_finished outcome x =
    hearing (end_told x.phase outcome x) (record (closed x) { ack_due = Some outcome.condition })

abbrev pub progress_told : SenderPhase → TransactionId → ℕ → List Indication
progress_told Sending id octets = indication.Progress id octets ∷ []
progress_told _ id octets = []

abbrev pub sender_hears_keep_alive : ℕ → SenderState → SenderAfter
sender_hears_keep_alive octets x = hearing (progress_told x.phase x.addressing.id octets) x

-- ---- timers

-- it waits for the ACK of an EOF that was sent and needn't be sent again
abbrev pub waits_for_eof_ack : SenderPhase → SenderState → Bool
waits_for_eof_ack Sending x = x.eof_taken && not x.eof_due && not x.acknowledged
waits_for_eof_ack Cancelling x = x.eof_taken && not x.eof_due
waits_for_eof_ack Closed x = false

-- and if that has come, for anything
abbrev pub waits_for_anything : SenderPhase → SenderState → Bool
waits_for_anything Sending x = x.acknowledged
waits_for_anything _ x = false

-- what a sender waits for; if it is suspended, it waits for nothing
abbrev pub sender_waits : Kind → SenderState → Bool
sender_waits EofAck x = not x.suspended && waits_for_eof_ack x.phase x
sender_waits Inactivity x = not x.suspended && waits_for_anything x.phase x
sender_waits _ x = false

-- what a fault leaves by its handler's decision: `ignored` is what is left if it is ignored
abbrev pub handled : Handler → ℕ → SenderState → SenderState → SenderState
handled Cancel condition ignored x = cancelling condition x
handled Suspend condition ignored x = record x { suspended = true }
handled Ignore condition ignored x = ignored
handled Abandon condition ignored x = closed x

-- EOF was sent as often as is allowed, and no ACK has come
abbrev pub unacknowledged : Handler → SenderState → SenderAfter
unacknowledged handler x =
    telling (fault_told handler x.addressing.id positive_ack_limit)
    (handled handler positive_ack_limit (record x { count = 0; eof_due = true }) x)

-- the handler decides, but if the transaction is cancelled, it is abandoned
abbrev pub unacknowledged_in : SenderPhase → Handler → SenderState → SenderAfter
unacknowledged_in Sending handler x = unacknowledged handler x
unacknowledged_in _ handler x = unacknowledged Abandon x

-- no ACK of EOF has come: EOF is sent again if it may be
abbrev pub sends_again : Option ℕ → Handler → SenderState → SenderAfter
sends_again (Some count) handler x = quiet (record x { count = count; eof_due = true })
sends_again None handler x = unacknowledged_in x.phase handler x

-- nothing has come for too long; if that is ignored, the timer runs again
abbrev pub unheard : Handler → SenderState → SenderAfter
unheard handler x = record {
  sender = handled handler inactivity (record x { count = 0 }) x;
  told = fault_told handler x.addressing.id inactivity;
  anew = Some Inactivity;
}

abbrev pub expires : Kind → Policy → SenderState → SenderAfter
expires EofAck policy x = sends_again (another_try x.count policy.limits.eof) policy.handlers.ack x
expires Inactivity policy x = unheard policy.handlers.inactivity x
expires _ policy x = quiet x

-- if an expiry isn't waited for, it does nothing
abbrev pub sender_expires : Kind → Policy → SenderState → SenderAfter
sender_expires kind policy x = if sender_waits kind x then expires kind policy x else quiet x

-- ---- calls: if a transaction is no longer Sending they do nothing

abbrev pub cancels_in : SenderPhase → SenderState → SenderAfter
cancels_in Sending x = quiet (cancelling cancel_request x)
cancels_in _ x = quiet x

abbrev pub sender_cancels : SenderState → SenderAfter
sender_cancels x = cancels_in x.phase x

abbrev pub suspends_in : SenderPhase → Bool → SenderState → SenderAfter
suspends_in Sending false x =
    telling (indication.Suspended x.addressing.id suspend_request ∷ [])
    (record x { suspended = true })
suspends_in _ _ x = quiet x

-- if it is suspended already, it stays so
abbrev pub sender_suspends : SenderState → SenderAfter
sender_suspends x = suspends_in x.phase x.suspended x

abbrev pub resumes_in : SenderPhase → Bool → SenderState → SenderAfter
resumes_in Sending true x =
    telling (indication.Resumed x.addressing.id ∷ []) (record x { suspended = false; count = 0 })
resumes_in _ _ x = quiet x

abbrev pub sender_resumes : SenderState → SenderAfter
sender_resumes x = resumes_in x.phase x.suspended x

abbrev pub prompts_in : SenderPhase → Option Bool → Bool → SenderState → SenderAfter
prompts_in Sending None keep_alive x = quiet (record x { prompt_due = Some keep_alive })
prompts_in _ _ keep_alive x = quiet x

-- if a Prompt is due already, it stays as it is
abbrev pub sender_prompts : Bool → SenderState → SenderAfter
sender_prompts keep_alive x = prompts_in x.phase x.prompt_due keep_alive x
