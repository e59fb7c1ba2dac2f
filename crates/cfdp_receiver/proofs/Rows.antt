-- What the steps come to, row by row.
use Rattle.std.proofs.Common.{◌≡◌, ℕ, zero, suc, ◌+◌, Bool, true, false, not, List, [], ◌∷◌, Some, None, refl, ap, ◌∙◌, arith, if◌then◌else◌}
use Rattle.std.proofs.lemmas.Bool.{eq-eqb}
use Rattle.std.specs.FinMap as map
use Rattle.std.specs.FinSet as set
use Rattle.std.specs.Ordering.{nat_cmp}
use Rattle.cfdp_header.specs.Files.{FileMap}
use Rattle.cfdp_directives.specs.declared.pdu.addressing.Addressing.{Addressing}
use Rattle.cfdp_directives.specs.declared.pdu.codes.Acknowledged.TheVariants as acknowledged
use Rattle.cfdp_directives.specs.declared.pdu.codes.Delivery.TheVariants.{Complete, Incomplete}
use Rattle.cfdp_directives.specs.declared.pdu.codes.FileStatus.TheVariants.{Discarded, Rejected, Retained}
use Rattle.cfdp_directives.specs.declared.pdu.codes.TransactionStatus.TheVariants.{Terminated}
use Rattle.cfdp_directives.specs.declared.user.handler.Handler.{Handler}
use Rattle.cfdp_directives.specs.declared.user.handler.Handler.TheVariants as handler
use Rattle.cfdp_directives.specs.declared.user.indication.Indication.TheVariants as indication
use Rattle.cfdp_directives.specs.declared.user.policy.Policy.{Policy}
use Rattle.cfdp_directives.specs.Pdu.Codes.{size_limit, is_known}
use Rattle.cfdp_directives.specs.Pdu.Sums.{nothing_summed, sum_told}
use Rattle.cfdp_directives.specs.Pdu.Content.{Nak, Ack, Finished}
use Rattle.cfdp_directives.specs.User.Policy.{default_policy}
use Rattle.cfdp_directives.specs.Pdu.Tlv.{fault_location}
use Rattle.cfdp_extents.specs.Offsets.{Offsets, range}
use Rattle.cfdp_extents.specs.Terms.{ranges_in, gaps_of, joined, end_of}
use Rattle.cfdp_store.specs.declared.stored.Stored.TheVariants.{Done, Refused}
use Rattle.cfdp_store.specs.Staged.{OctetMap, front}
use Rattle.cfdp_timers.specs.declared.kind.Kind.TheVariants as kind
use Rattle.cfdp_receiver.specs.declared.due.Due.TheVariants as due
use Rattle.cfdp_receiver.specs.declared.state.ReceiverPhase.TheVariants.{Finishing, Closed}
use Rattle.cfdp_receiver.specs.declared.state.Ending.{Ending}
use Rattle.cfdp_receiver.specs.State.{ReceiverState, opened_receiver}
use Rattle.cfdp_receiver.specs.Missing.{missing_pairs, scope_end, asked, next_cursor}
use Rattle.cfdp_receiver.specs.Due.{receiver_due, receiver_says, receiver_taken}
use Rattle.cfdp_receiver.specs.Steps.{complete, closed, finishing, completed, hears_metadata, hears_data, hears_eof, hears_ack, opens, opened_closed, expires, waits, cancels, suspends, resumes}

-- the transaction 1:1, from entity 1 to entity 2
abbrev a : Addressing
a = record {
  id = record { source = 1; number = 1 };
  destination = 2;
  id_width = 2;
  number_width = 4;
  crc = false;
}

-- a receiver that has heard nothing yet
abbrev x : ReceiverState
x = opened_receiver a

abbrev five : Ending
five = record { checksum = 0; size = 5 }

-- ---- what is asked for
all_pass : (passes : ℕ → Bool) (at n : ℕ) → ((k : ℕ) → passes k ≡ true) →
    ranges_in passes at (suc n) ≡ (at, at + suc n) ∷ []
unfolding ranges_in
all_pass passes at zero h = ap (λ b. if b then joined at [] else []) (h at)
all_pass passes at (suc n) h =
    let end : at + 1 + suc n ≡ at + suc (suc n) = omega arith in
    ap (λ b. if b then joined at (ranges_in passes (at + 1) (suc n)) else ranges_in passes
    (at + 1) (suc n)) (h at)
    ∙ ap (joined at) (all_pass passes (at + 1) n h)
    ∙ ap (λ b. if b then (at, at + 1 + suc n) ∷ [] else (at, at + 1) ∷ (at + 1, at + 1 + suc n) ∷
    []) (eq-eqb (at + 1) (at + 1) refl)
    ∙ ap (λ e. (at, e) ∷ []) end

none_held : gaps_of set.empty 0 5 ≡ (0, 5) ∷ []
unfolding gaps_of
none_held = all_pass (λ k. not (set.contains (set.empty {R = nat_cmp}) k)) 0 4
    (λ k. ap not (set.contains-empty nat_cmp k))

-- the EOF alone was heard: Metadata and all five octets are missing
abbrev eof_alone : ReceiverState
eof_alone = record x { ending = Some five; nak_cursor = Some 0 }

asks_for_all : missing_pairs 0 eof_alone ≡ (0, 0) ∷ (0, 5) ∷ []
asks_for_all = rw none_held refl

first_nak : receiver_says eof_alone (due.Nak 0) ≡ Nak 0 5 ((0, 0) ∷ (0, 5) ∷ [])
first_nak = rw none_held refl

none_due_then : (receiver_taken (due.Nak 0) eof_alone).nak_cursor ≡ None
none_due_then = rw none_held refl

-- forty gaps: 32 pairs, and then 8
unfoldable pairs_from : ℕ → ℕ → List (ℕ × ℕ)
pairs_from at zero = []
pairs_from at (suc n) = (at + 100, at + 200) ∷ pairs_from (at + 200) n

forty_asked : asked (pairs_from 0 40) ≡ pairs_from 0 32
unfolding pairs_from
forty_asked = refl

forty_scope : scope_end 8100 (pairs_from 0 40) ≡ 6400
unfolding pairs_from
forty_scope = refl

forty_next : next_cursor (pairs_from 0 40) ≡ Some 6400
unfolding pairs_from
forty_next = refl

eight_scope : scope_end 8100 (pairs_from 6400 8) ≡ 8100
unfolding pairs_from
eight_scope = refl

eight_last : next_cursor (pairs_from 6400 8) ≡ None
unfolding pairs_from
eight_last = refl

-- ---- the completion test
abbrev whole : Offsets → ℕ → ℕ → ReceiverState
whole held kind sum = record x {
  metadata = Some (record { checksum_kind = kind; destination = 98 ∷ [] });
  ending = Some (record { checksum = 7; size = 5 });
  held = held;
  sums = record nothing_summed { modular = sum };
}

publishes : (held : Offsets) (m : OctetMap) (files : FileMap) →
    set.is_subset (range 0 5) held ≡ true →
    completed Done m files (whole held 0 7)
    ≡ record {
      receiver = finishing complete (whole held 0 7);
      told = indication.Finished a.id 0 Complete Retained ∷ [];
      anew = None;
      octets = m;
      files = map.insert files (98 ∷ []) (front m 5);
    }
unfolding sum_told nothing_summed
publishes held m files all = rw all refl

refused : (held : Offsets) (m : OctetMap) (files : FileMap) →
    set.is_subset (range 0 5) held ≡ true →
    (completed Refused m files (whole held 0 7)).told
    ≡ indication.Fault a.id 4 ∷ indication.Finished a.id 4 Incomplete Rejected ∷ []
unfolding sum_told nothing_summed
refused held m files all = rw all refl

another_sum : (held : Offsets) (m : OctetMap) (files : FileMap) →
    set.is_subset (range 0 5) held ≡ true →
    (completed Done m files (whole held 0 6)).told
    ≡ indication.Fault a.id 5 ∷ indication.Finished a.id 5 Incomplete Discarded ∷ []
unfolding sum_told nothing_summed
another_sum held m files all = rw all refl

-- the null checksum isn't compared
null_checksum : (held : Offsets) (m : OctetMap) (files : FileMap) →
    set.is_subset (range 0 5) held ≡ true →
    (completed Done m files (whole held 15 6)).told
    ≡ indication.Finished a.id 0 Complete Retained ∷ []
unfolding sum_told nothing_summed
null_checksum held m files all = rw all refl

-- an offset below the EOF's size is missing
goes_on : (held : Offsets) (m : OctetMap) (files : FileMap) →
    set.is_subset (range 0 5) held ≡ false →
    (completed Done m files (whole held 0 7)).told ≡ []
unfolding sum_told nothing_summed
goes_on held m files some_missing = rw some_missing refl

unsupported : (m : OctetMap) (files : FileMap) →
    (hears_metadata Done 4 5 (97 ∷ []) (98 ∷ []) m files x).told
    ≡ indication.MetadataRecv a.id (97 ∷ []) (98 ∷ []) 5 ∷ indication.Fault a.id 11
    ∷ indication.Finished a.id 11 Incomplete Discarded ∷ []
unfolding is_known
unsupported m files = refl

-- file data beyond the EOF's size
behind_the_end : (m : OctetMap) (files : FileMap) →
    (hears_data Done false 4 (1 ∷ 2 ∷ []) m files (record x { ending = Some five })).told
    ≡ indication.Fault a.id 6 ∷ indication.Finished a.id 6 Incomplete Discarded ∷ []
behind_the_end m files = refl

-- ---- Finished is sent three times
abbrev sent_twice_more : ReceiverState
sent_twice_more =
    record (finishing complete x) {
      finished_due =
          false;
      finished_taken = true;
      finished_count = 2;
    }

abbrev two_more : Policy
two_more = record default_policy { limits = record default_policy.limits { finished = 2 } }

third_expiry : (m : OctetMap) (files : FileMap) →
    (expires kind.FinishedAck two_more m files sent_twice_more).told
    ≡ indication.Fault a.id 1 ∷ indication.Abandoned a.id 1 ∷ []
third_expiry m files = refl

second_expiry : (m : OctetMap) (files : FileMap) →
    receiver_due (expires kind.FinishedAck default_policy m files sent_twice_more).receiver
    ≡ Some (due.Finished complete)
second_expiry m files = refl

acknowledged_closes : (m : OctetMap) (files : FileMap) →
    (hears_ack m files sent_twice_more).receiver.phase ≡ Closed
acknowledged_closes m files = refl

-- one that comes before Finished was sent closes nothing
too_early : (m : OctetMap) (files : FileMap) →
    (hears_ack m files (finishing complete x)).receiver.phase ≡ Finishing
too_early m files = refl

-- ---- an EOF after the close
eof_after_close : (m : OctetMap) (files : FileMap) →
    receiver_due (hears_eof Done false 0 0 5 m files (closed sent_twice_more)).receiver
    ≡ Some (due.AckOfEof 0)
eof_after_close m files = refl

ack_after_close : receiver_says (closed x) (due.AckOfEof 0) ≡ Ack acknowledged.Eof 0 Terminated
ack_after_close = refl

opened_by_a_cancel : receiver_due (opened_closed false 15 a) ≡ Some (due.AckOfEof 15)
opened_by_a_cancel = refl

cancelled_by_its_sender : (m : OctetMap) (files : FileMap) →
    (hears_eof Done false 15 0 4 m files x).told ≡ indication.Finished a.id 15 Incomplete Discarded ∷ []
cancelled_by_its_sender m files = refl

-- ---- faults that have handlers
abbrev waiting : ReceiverState
waiting = record x { ending = Some five; nak_count = 3 }

abbrev by : (nak inactivity : Handler) → Policy
by nak inactivity = record default_policy {
  handlers = record { ack = handler.Cancel; nak = nak; inactivity = inactivity };
}

nak_at_limit : (m : OctetMap) (files : FileMap) →
    (expires kind.Nak default_policy m files waiting).told
    ≡ indication.Fault a.id 7 ∷ indication.Finished a.id 7 Incomplete Discarded ∷ []
nak_at_limit m files = refl

nak_suspends : (m : OctetMap) (files : FileMap) →
    (expires kind.Nak (by handler.Suspend handler.Cancel) m files waiting).told
    ≡ indication.Fault a.id 7 ∷ indication.Suspended a.id 7 ∷ []
nak_suspends m files = refl

nak_ignored : (m : OctetMap) (files : FileMap) →
    let r : ReceiverState =
    (expires kind.Nak (by handler.Ignore handler.Cancel) m files waiting).receiver in
    (r.nak_count ≡ 0) × (r.nak_cursor ≡ Some 0)
nak_ignored m files = (refl, refl)

inactivity_ignored : (m : OctetMap) (files : FileMap) →
    (expires kind.Inactivity (by handler.Cancel handler.Ignore) m files waiting).anew
    ≡ Some kind.Inactivity
inactivity_ignored m files = refl

inactivity_abandons : (m : OctetMap) (files : FileMap) →
    (expires kind.Inactivity (by handler.Cancel handler.Abandon) m files waiting).told
    ≡ indication.Fault a.id 8 ∷ indication.Abandoned a.id 8 ∷ []
inactivity_abandons m files = refl

-- ---- suspension
nothing_due : (m : OctetMap) (files : FileMap) →
    receiver_due (suspends m files (record x { ack_due = Some 0 })).receiver ≡ None
nothing_due m files = refl

waits_for_none : (m : OctetMap) (files : FileMap) →
    waits kind.Inactivity (suspends m files waiting).receiver ≡ false
waits_for_none m files = refl

waits_again : (m : OctetMap) (files : FileMap) →
    let r : ReceiverState = (resumes m files (suspends m files waiting).receiver).receiver in
    (waits kind.Inactivity r ≡ true) × (waits kind.Nak r ≡ true) × (r.nak_count ≡ 0)
waits_again m files = (refl, refl, refl)

over_once_cancelled : (m : OctetMap) (files : FileMap) →
    (cancels m files (suspends m files waiting).receiver).receiver.suspended ≡ false
over_once_cancelled m files = refl

-- ---- PDUs by what they say
finished_says : receiver_says x (due.Finished complete) ≡ Finished 0 Complete Retained []
finished_says = refl

cancel_says : receiver_says x
    (due.Finished (record { condition = 15; delivery = Incomplete; status = Discarded }))
    ≡ Finished 15 Incomplete Discarded (fault_location 2 2 ∷ [])
cancel_says = refl

-- ---- sizes that don't fit
-- an EOF whose size is before the end of what is held
smaller_size : (held : Offsets) (m : OctetMap) (files : FileMap) → end_of held ≡ 7 →
    (hears_eof Done false 0 0 5 m files (record x { held = held })).told
    ≡ indication.EofRecv a.id ∷ indication.Fault a.id 6 ∷ indication.Finished a.id 6 Incomplete Discarded ∷ []
smaller_size held m files seven = rw seven refl

-- file data beyond the greatest size there is
behind_all : (m : OctetMap) (files : FileMap) →
    (hears_data Done false 4294967295 (1 ∷ []) m files x).told
    ≡ indication.Fault a.id 6 ∷ indication.Finished a.id 6 Incomplete Discarded ∷ []
unfolding size_limit
behind_all m files = refl

-- the same with the large file flag, from the greatest offset that a field holds, and from 2^48
behind_all_large : (m : OctetMap) (files : FileMap) →
    (hears_data Done true 18446744073709551615 (1 ∷ []) m files x).told
    ≡ indication.Fault a.id 6 ∷ indication.Finished a.id 6 Incomplete Discarded ∷ []
unfolding size_limit
behind_all_large m files = refl

behind_2_48 : (m : OctetMap) (files : FileMap) →
    (hears_data Done true 281474976710656 (1 ∷ []) m files x).told
    ≡ indication.Fault a.id 6 ∷ indication.Finished a.id 6 Incomplete Discarded ∷ []
unfolding size_limit
behind_2_48 m files = refl

-- and an EOF of one octet more than 2^48
too_large : (held : Offsets) (m : OctetMap) (files : FileMap) → end_of held ≡ 7 →
    (hears_eof Done true 0 0 281474976710657 m files (record x { held = held })).told
    ≡ indication.EofRecv a.id ∷ indication.Fault a.id 6 ∷ indication.Finished a.id 6 Incomplete Discarded ∷ []
unfolding size_limit
too_large held m files seven = rw seven refl

-- ---- forty gaps in 8,100 octets
abbrev gapped : Offsets → ReceiverState
gapped held = record x {
  metadata = Some (record { checksum_kind = 0; destination = 98 ∷ [] });
  ending = Some (record { checksum = 7; size = 8100 });
  held = held;
  nak_cursor = Some 0;
}

gapped_asks : (held : Offsets) → gaps_of held 0 8100 ≡ pairs_from 0 40 →
    receiver_says (gapped held) (due.Nak 0) ≡ Nak 0 6400 (pairs_from 0 32)
unfolding pairs_from
gapped_asks held gaps = rw gaps refl

gapped_next : (held : Offsets) → gaps_of held 0 8100 ≡ pairs_from 0 40 →
    (receiver_taken (due.Nak 0) (gapped held)).nak_cursor ≡ Some 6400
unfolding pairs_from
gapped_next held gaps = rw gaps refl

-- ---- an inbox that can't begin
not_begun : (files : FileMap) →
    (opens Refused false files a).told
    ≡ indication.Fault a.id 4 ∷ indication.Finished a.id 4 Incomplete Rejected ∷ []
not_begun files = refl
