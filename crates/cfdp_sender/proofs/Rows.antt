-- Rows, computed: the steps answer what was worked out by hand.
use Rattle.std.proofs.Common.{◌≡◌, ℕ, Bool, true, false, List, [], ◌∷◌, Some, None, refl}
use Rattle.std.specs.FinSet as set
use Rattle.cfdp_header.specs.declared.value.TransactionId.{TransactionId}
use Rattle.cfdp_extents.specs.Offsets.{Offsets, range}
use Rattle.cfdp_extents.specs.Terms.{front_of}
use Rattle.cfdp_extents.proofs.CallerLemmas.{front-empty}
use Rattle.cfdp_timers.specs.declared.kind.Kind.TheVariants.{EofAck, Inactivity}
use Rattle.cfdp_directives.specs.declared.pdu.addressing.Addressing.{Addressing}
use Rattle.cfdp_directives.specs.declared.pdu.codes.Acknowledged.TheVariants as acknowledged
use Rattle.cfdp_directives.specs.declared.pdu.codes.Delivery.TheVariants.{Complete, Incomplete}
use Rattle.cfdp_directives.specs.declared.pdu.codes.FileStatus.TheVariants.{Retained, Unreported}
use Rattle.cfdp_directives.specs.declared.pdu.codes.TransactionStatus.TheVariants.{Terminated}
use Rattle.cfdp_directives.specs.declared.user.handler.Handler.{Handler}
use Rattle.cfdp_directives.specs.declared.user.handler.Handler.TheVariants.{Cancel, Suspend, Ignore, Abandon}
use Rattle.cfdp_directives.specs.declared.user.indication.Indication.TheVariants as indication
use Rattle.cfdp_directives.specs.Pdu.Content.{FileData, Metadata, Eof, Ack}
use Rattle.cfdp_directives.specs.User.Limits.{default_limits, default_times}
use Rattle.cfdp_directives.specs.declared.pdu.sums.Checksums.{Checksums}
use Rattle.cfdp_directives.specs.Pdu.Sums.{nothing_summed, summed, sum_told}
use Rattle.cfdp_directives.specs.Pdu.Checksum.{added, sum_at}
use Rattle.cfdp_directives.specs.Pdu.Tlv.{fault_location}
use Rattle.cfdp_directives.specs.declared.user.telling.Outcome.{Outcome}
use Rattle.cfdp_directives.specs.declared.user.policy.Policy.{Policy}
use Rattle.cfdp_store.specs.declared.stored.Stored.TheVariants.{Done, Refused}
use Rattle.cfdp_timers.specs.declared.wait.Wait.TheVariants.{Clear, Anew}
use Rattle.cfdp_sender.specs.Does.{waits_of}
use Rattle.cfdp_sender.specs.declared.transfer.Transfer.{Transfer}
use Rattle.cfdp_sender.specs.declared.phase.SenderPhase.TheVariants.{Closed}
use Rattle.cfdp_sender.specs.declared.due.SenderDue.TheVariants as due
use Rattle.cfdp_sender.specs.State.{SenderState, opened_sender}
use Rattle.cfdp_sender.specs.Due.{sender_due, sender_says}
use Rattle.cfdp_sender.specs.Steps.{quiet, cancelling, sender_sends, sender_hears_ack, sender_hears_nak, sender_hears_finished, sender_hears_keep_alive, sender_expires, sender_cancels, sender_suspends, sender_resumes, sender_prompts}

abbrev id : TransactionId
id = record { source = 1; number = 1 }

abbrev addressing : Addressing
addressing = record { id = id; destination = 2; id_width = 2; number_width = 4; crc = false }

-- `hello`, put from `a` to `b` in segments of 4 octets
abbrev transfer : Transfer
transfer = record {
  addressing = addressing;
  checksum_kind = 0;
  segment = 4;
  source = 97 ∷ [];
  destination = 98 ∷ [];
  size = 5;
}

abbrev x : SenderState
x = opened_sender transfer

abbrev file : List ℕ
file = 104 ∷ 101 ∷ 108 ∷ 108 ∷ 111 ∷ []

abbrev words : ℕ → Checksums
words n = record nothing_summed { modular = n }

-- all of it was sent: Metadata, data and EOF
abbrev sent : SenderState
sent = record x { metadata_due = false; sent = 5; sums = words 3613748332; eof_taken = true }

abbrev policy : Handler → Policy
policy handler = record {
  limits = default_limits;
  times = default_times;
  handlers = record { ack = handler; nak = handler; inactivity = handler };
  most_gaps = None;
}

abbrev delivered : Outcome
delivered = record { condition = 0; delivery = Complete; status = Retained }

none_asked : (n : ℕ) → front_of set.empty n ≡ None
none_asked n = front-empty set.empty n refl

-- ---- what is due

metadata_first : sender_due x ≡ Some due.Metadata
metadata_first = refl

metadata_says : sender_says file x due.Metadata ≡ Metadata 0 5 (97 ∷ []) (98 ∷ []) []
metadata_says = refl

prompt_ahead : sender_due (sender_prompts true x).sender ≡ Some (due.Prompt true)
prompt_ahead = refl

data_next : sender_due (record x { metadata_due = false }) ≡ Some (due.NewData 0 4)
data_next = rw (none_asked 4) refl

data_says : sender_says file x (due.NewData 0 4) ≡ FileData 0 (104 ∷ 101 ∷ 108 ∷ 108 ∷ [])
data_says = refl

last_data_next : sender_due (record x { metadata_due = false; sent = 4 }) ≡ Some (due.NewData 4 5)
last_data_next = rw (none_asked 4) refl

last_data_says : sender_says file x (due.NewData 4 5) ≡ FileData 4 (111 ∷ [])
last_data_says = refl

eof_last : sender_due (record x { metadata_due = false; sent = 5 }) ≡ Some due.Eof
eof_last = rw (none_asked 4) refl

eof_says : sender_says file sent due.Eof ≡ Eof 0 3613748332 5 []
unfolding sum_told nothing_summed
eof_says = refl

null_checksum : sender_says file (record sent { checksum_kind = 15 }) due.Eof ≡ Eof 0 0 5 []
unfolding sum_told nothing_summed
null_checksum = refl

nothing_then : sender_due sent ≡ None
nothing_then = rw (none_asked 4) refl

-- asked data come before new data, and before EOF
asked_first : (asked : Offsets) → front_of asked 4 ≡ Some (1, 3)
    → sender_due (record x { metadata_due = false; sent = 4; asked = asked })
    ≡ Some (due.AskedData 1 3)
asked_first asked e = rw e refl

metadata_before_asked : (asked : Offsets) → sender_due (record sent { metadata_due = true; asked = asked })
    ≡ Some due.Metadata
metadata_before_asked asked = refl

suspended_sends_nothing : sender_due (sender_suspends x).sender ≡ None
suspended_sends_nothing = refl

-- ---- sending

new_data_sent : (sender_sends Done file x (due.NewData 0 4)).sender
    ≡ record x { sent = 4; sums = words (added 0 (record { offset = 0; bytes = 104 ∷ 101 ∷ 108 ∷ 108 ∷ [] })) }
unfolding summed nothing_summed
new_data_sent = refl

front_checksum : added 0 (record { offset = 0; bytes = 104 ∷ 101 ∷ 108 ∷ 108 ∷ [] }) ≡ 1751477356
unfolding sum_at
front_checksum = refl

whole_checksum : added 1751477356 (record { offset = 4; bytes = 111 ∷ [] }) ≡ 3613748332
unfolding sum_at
whole_checksum = refl

asked_data_sent : (sender_sends Done file sent (due.AskedData 1 3)).sender
    ≡ record sent { asked = set.difference set.empty (range 1 3) }
asked_data_sent = refl

read_refused : sender_sends Refused file x (due.NewData 0 4)
    ≡ record { sender = cancelling 4 x; told = indication.Fault id 4 ∷ []; anew = None }
read_refused = refl

eof_told_once : (sender_sends Done file (record sent { eof_taken = false }) due.Eof).told
    ≡ indication.EofSent id ∷ []
eof_told_once = refl

eof_not_told_again : sender_sends Done file (record sent { eof_due = true }) due.Eof
    ≡ record { sender = sent; told = []; anew = Some EofAck }
eof_not_told_again = refl

-- ---- cancelling

cancelled_says : (sender_says file (sender_cancels (record x { sent = 4; sums = words 1751477356 })).sender due.Eof)
    ≡ Eof 15 1751477356 4 (fault_location 1 2 ∷ [])
unfolding sum_told nothing_summed
cancelled_says = refl

cancelled_sends_eof_alone : (keep_alive : Bool)
    → sender_due (sender_cancels (sender_prompts keep_alive x).sender).sender ≡ Some due.Eof
cancelled_sends_eof_alone keep_alive = refl

cancelled_eof_not_told : (sender_sends Done file (sender_cancels x).sender due.Eof).told ≡ []
cancelled_eof_not_told = refl

cancel_acknowledged : (sender_hears_ack 15 (sender_cancels x).sender).told
    ≡ indication.Finished id 15 Incomplete Unreported ∷ []
cancel_acknowledged = refl

late_ack : (sender_hears_ack 0 (sender_cancels sent).sender).sender ≡ (sender_cancels sent).sender
late_ack = refl

cancelled_twice : sender_cancels (cancelling 4 x) ≡ quiet (cancelling 4 x)
cancelled_twice = refl

finished_while_cancelling : (sender_hears_finished delivered (sender_cancels sent).sender).told
    ≡ indication.Finished id 15 Incomplete Unreported ∷ []
finished_while_cancelling = refl

-- ---- hearing

acknowledged_once_sent : (sender_hears_ack 0 sent).sender ≡ record sent { acknowledged = true }
acknowledged_once_sent = refl

acknowledged_too_early : (sender_hears_ack 0 x).sender ≡ x
acknowledged_too_early = refl

told_nothing_at_ack : (sender_hears_ack 0 sent).told ≡ []
told_nothing_at_ack = refl

told_complete : sender_hears_finished delivered sent
    ≡ record { sender = record sent { phase = Closed; ack_due = Some 0 }; told = indication.Finished id 0 Complete Retained ∷ []; anew = Some Inactivity }
told_complete = refl

closed_asks_nothing : (sender_hears_finished delivered (record sent { asked = range 0 4 })).sender.asked ≡ set.empty
closed_asks_nothing = refl

finished_again : (sender_hears_finished delivered (record sent { phase = Closed })).told ≡ []
finished_again = refl

finished_acknowledged : sender_due (sender_hears_finished delivered (record sent { phase = Closed })).sender
    ≡ Some (due.AckOfFinished 0)
finished_acknowledged = refl

ack_says : sender_says file sent (due.AckOfFinished 0) ≡ Ack acknowledged.Finished 0 Terminated
ack_says = refl

metadata_asked : (sender_hears_nak ((0, 0) ∷ []) sent).sender ≡ record sent { metadata_due = true }
metadata_asked = refl

-- only what was sent is asked for: of a file of which 4 octets were sent, 2 and 3
data_asked : (sender_hears_nak ((2, 9) ∷ []) (record x { sent = 4 })).sender
    ≡ record x { sent = 4; asked = set.union set.empty (range 2 4) }
data_asked = refl

nothing_asked : (sender_hears_nak ((3, 3) ∷ (4, 2) ∷ (7, 9) ∷ []) (record x { sent = 4 })).sender
    ≡ record x { sent = 4 }
nothing_asked = refl

progress : (sender_hears_keep_alive 100 sent).told ≡ indication.Progress id 100 ∷ []
progress = refl

-- ---- timers

waits_for_ack : waits_of default_times (Some EofAck) sent
    ≡ record { eof_ack = Anew 10; nak = Clear; finished_ack = Clear; inactivity = Clear }
waits_for_ack = refl

waits_for_anything : waits_of default_times (Some Inactivity) (record sent { acknowledged = true })
    ≡ record { eof_ack = Clear; nak = Clear; finished_ack = Clear; inactivity = Anew 100 }
waits_for_anything = refl

suspended_waits_for_nothing : waits_of default_times None (sender_suspends sent).sender
    ≡ record { eof_ack = Clear; nak = Clear; finished_ack = Clear; inactivity = Clear }
suspended_waits_for_nothing = refl

sent_again : (handler : Handler) → sender_expires EofAck (policy handler) sent
    ≡ quiet (record sent { count = 1; eof_due = true })
sent_again handler = refl

at_limit_cancels : sender_expires EofAck (policy Cancel) (record sent { count = 3 })
    ≡ record { sender = cancelling 1 sent; told = indication.Fault id 1 ∷ []; anew = None }
at_limit_cancels = refl

at_limit_suspends : sender_expires EofAck (policy Suspend) (record sent { count = 3 })
    ≡ record { sender = record sent { count = 3; suspended = true }; told = indication.Fault id 1 ∷ indication.Suspended id 1 ∷ []; anew = None }
at_limit_suspends = refl

at_limit_goes_on : sender_expires EofAck (policy Ignore) (record sent { count = 3 })
    ≡ record { sender = record sent { eof_due = true }; told = indication.Fault id 1 ∷ []; anew = None }
at_limit_goes_on = refl

at_limit_abandons : sender_expires EofAck (policy Abandon) (record sent { count = 3 })
    ≡ record { sender = record sent { count = 3; phase = Closed }; told = indication.Fault id 1 ∷ indication.Abandoned id 1 ∷ []; anew = None }
at_limit_abandons = refl

-- whatever the handler is
cancelled_at_limit : (handler : Handler)
    → (sender_expires EofAck (policy handler) (record (cancelling 15 sent) { eof_due = false; count = 3 })).told
    ≡ indication.Fault id 1 ∷ indication.Abandoned id 1 ∷ []
cancelled_at_limit handler = refl

unheard_cancels : sender_expires Inactivity (policy Cancel) (record sent { acknowledged = true })
    ≡ record { sender = cancelling 8 (record sent { acknowledged = true }); told = indication.Fault id 8 ∷ []; anew = Some Inactivity }
unheard_cancels = refl

not_waited_for : (handler : Handler) → sender_expires Inactivity (policy handler) sent ≡ quiet sent
not_waited_for handler = refl

resumed : sender_resumes (sender_suspends (record sent { count = 2 })).sender
    ≡ record { sender = sent; told = indication.Resumed id ∷ []; anew = None }
resumed = refl

suspended_hears : (sender_hears_finished delivered (sender_suspends sent).sender).sender
    ≡ record sent { phase = Closed; ack_due = Some 0 }
suspended_hears = refl
