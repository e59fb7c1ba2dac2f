-- How a call is tied to its step: by the sender, and what it indicated and armed.
use Rattle.std.specs.Prelude.{◌≡◌, ◌++◌, ℕ, true, Bool, false, List, length, take, drop, Option, None, Some, IsSome, Vec}
use Rattle.std.specs.declared.alloc.Global.{Global}
use Rattle.std.specs.FinMap as map
use Rattle.std.specs.FinSet as set
use Rattle.cfdp_header.specs.Files.{FileMap}
use Rattle.cfdp_directives.specs.declared.user.indication.Indication.{Indication}
use Rattle.cfdp_directives.specs.declared.user.limits.Times.{Times}
use Rattle.cfdp_directives.specs.declared.pdu.addressing.Addressing.{Addressing}
use Rattle.cfdp_directives.specs.Pdu.Codes.{is_large}
use Rattle.cfdp_directives.specs.Pdu.Addressing.{header_of, written_len}
use Rattle.cfdp_directives.specs.Pdu.Written.{pdu_octets}
use Rattle.cfdp_directives.specs.Pdu.Content.{Content}
use Rattle.cfdp_store.specs.Files.{octets_in}
use Rattle.cfdp_store.specs.declared.stored.Stored.TheVariants.{Done, Refused}
use Rattle.cfdp_timers.specs.declared.kind.Kind.{Kind}
use Rattle.cfdp_timers.specs.declared.kind.Kind.TheVariants as kind
use Rattle.cfdp_timers.specs.declared.wait.Waits.{Waits}
use Rattle.cfdp_timers.specs.Armed.{TimersState}
use Rattle.cfdp_timers.specs.declared.effects.Effects.{Effects}
use Rattle.cfdp_timers.specs.Waits.{is_anew, wait_by, waited}
use Rattle.cfdp_sender.specs.declared.taken.Taken.{Taken}
use Rattle.cfdp_sender.specs.declared.taken.Taken.TheVariants.{Nothing, Moved, SourceFailed}
use Rattle.cfdp_sender.specs.declared.due.SenderDue.{SenderDue}
use Rattle.cfdp_sender.specs.State.{SenderState}
use Rattle.cfdp_sender.specs.Due.{sender_says, carries}
use Rattle.cfdp_sender.specs.declared.phase.SenderPhase.{SenderPhase}
use Rattle.cfdp_sender.specs.declared.phase.SenderPhase.TheVariants.{Sending, Cancelling, Closed}
use Rattle.cfdp_sender.specs.Steps.{SenderAfter, sender_waits, sender_sends, asks_all}

-- what a sender asks of its timers, if one of them must be armed again
abbrev pub waits_of : Times → Option Kind → SenderState → Waits
waits_of times anew x = record {
  eof_ack = wait_by (sender_waits kind.EofAck x) (is_anew anew kind.EofAck) times.eof;
  nak = wait_by (sender_waits kind.Nak x) (is_anew anew kind.Nak) times.nak;
  finished_ack =
      wait_by (sender_waits kind.FinishedAck x) (is_anew anew kind.FinishedAck) times.finished;
  inactivity =
      wait_by (sender_waits kind.Inactivity x) (is_anew anew kind.Inactivity) times.inactivity;
}

-- the timers once those of the sender are set
abbrev pub timers_set : Times → Option Kind → SenderState → TimersState → TimersState
timers_set times anew x timers =
    let waits : Waits = waits_of times anew x in
    record timers { armed = waited timers.time x.addressing.id waits timers.armed }

-- The timers of the transaction can be armed.
abbrev pub HasTimers : SenderState → TimersState → Type 0
HasTimers x timers = set.contains timers.roomy x.addressing.id ≡ true

-- A step left this sender, with what it indicated.
pub record Leaves (a : SenderAfter) (new : SenderState)
    (before now : Vec Indication Global) : Type 0 where
  pub sender : new ≡ a.sender
  pub tells : now.items ≡ before.items ++ a.told

-- A call did this step, and set the timers by it.
pub record Does (times : Times) (a : SenderAfter) (new : SenderState)
    (before now : Effects) : Type 0 where
  pub sender : new ≡ a.sender
  pub tells : now.told.items ≡ before.told.items ++ a.told
  pub timers : now.timers ≡ timers_set times a.anew a.sender before.timers

-- Some of the pairs of a NAK were asked for, from the first on, and nothing else has changed.
pub record AsksSome (pairs : List (ℕ × ℕ)) (old new : SenderState) : Type 0 where
  pub sending : old.phase ≡ Sending
  pub count : ℕ
  pub asked : new ≡ asks_all (take count pairs) old

-- The outbox has a file of this name, with so many octets.
pub record HasFile (files : FileMap) (name : List ℕ) (size : ℕ) : Type 0 where
  pub there : IsSome (map.get files name)
  pub whole : length (octets_in files name) ≡ size

-- If a file is being sent, the outbox must have it.
abbrev pub HasFileWhile : SenderPhase → FileMap → (name : List ℕ) → (size : ℕ) → Type 0
HasFileWhile Sending files name size = HasFile files name size
HasFileWhile Cancelling files name size = Unit {0}
HasFileWhile Closed files name size = Unit {0}

abbrev pub HasOwnFile : FileMap → SenderState → Type 0
HasOwnFile files x = HasFileWhile x.phase files x.source x.size

-- If nothing was due, all is as it was.
pub record Rests (old new : SenderState) (before now : Effects)
    (out_before out_now : List ℕ) : Type 0 where
  pub sender : new ≡ old
  pub effects : now ≡ before
  pub out : out_now ≡ out_before

-- So many octets were written, those of this PDU with this large file flag, and the octets after
-- stay.
pub record Writes (large : Bool) (a : Addressing) (v : Content) (octets : ℕ)
    (out_before out_now : List ℕ) : Type 0 where
  pub end : octets ≡ written_len a large v
  pub front : take octets out_now ≡ pdu_octets (header_of a large v) v
  pub behind : drop octets out_now ≡ drop octets out_before

-- What taking a PDU did, by what was due: if that is data which the outbox failed to give, no
-- PDU is there, and what `out` then holds is left open.
abbrev pub Takes : Times → List ℕ → Option SenderDue → Taken → (old new : SenderState)
    → (before now : Effects) → (out_before out_now : List ℕ) → Type 0
Takes times file None Nothing old new before now out_before out_now =
    Rests old new before now out_before out_now
Takes times file (Some d) (Moved octets) old new before now out_before out_now =
    Writes (is_large old.size) old.addressing (sender_says file old d) octets out_before out_now
    × Does times (sender_sends Done file old d) new before now
Takes times file (Some d) SourceFailed old new before now out_before out_now =
    (carries d ≡ true) × Does times (sender_sends Refused file old d) new before now
Takes times file _ _ old new before now out_before out_now = ⊥

-- `true` if the outbox gave what was asked of it
abbrev pub was_given : Taken → Bool
was_given SourceFailed = false
was_given _ = true
