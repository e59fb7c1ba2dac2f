-- Every step of an entity keeps the bounds that its work needs.
use Rattle.std.proofs.Common.{◌≡◌, ℕ, zero, suc, ◌+◌, ◌<◌, ◌≤◌, min, Bool, true, false, not, List, [], ◌∷◌, ◌++◌, length, take, slice_get, Option, Some, None, is_none, is_some, refl, sym, ap, subst, ◌∙◌, arith, inl, inr, ◌==◌, ◌&&◌, nat_lt, nat_le, if◌then◌else◌}
use Rattle.std.specs.FinMap as map
use Rattle.std.specs.FinSet as set
use Rattle.std.specs.Option.{option_or}
use Rattle.std.specs.Ordering.{nat_cmp}
use Rattle.std.specs.Cmp.{nat_cmp_total}
use Rattle.std.specs.Prelude.{unwrap_or}
use Rattle.std.proofs.lemmas.Bool.{both_ways, leb-true, ltb-true, ltb-false, and_parts, cond_both, or_cases, or_parts}
use Rattle.cfdp_header.specs.declared.value.Header.{Header}
use Rattle.cfdp_header.specs.declared.value.TransactionId.{TransactionId}
use Rattle.cfdp_header.specs.Files.{FileMap}
use Rattle.cfdp_extents.specs.Offsets.{Offsets, range}
use Rattle.cfdp_extents.specs.Terms.{end_of}
use Rattle.cfdp_extents.proofs.CallerLemmas.{contains-range}
use Rattle.cfdp_directives.specs.declared.pdu.addressing.Addressing.{Addressing}
use Rattle.cfdp_directives.specs.declared.pdu.codes.Acknowledged.TheVariants as acknowledged
use Rattle.cfdp_directives.specs.declared.pdu.error.PduError.{PduError}
use Rattle.cfdp_directives.specs.declared.user.handler.Handler.{Handler}
use Rattle.cfdp_directives.specs.declared.user.handler.Handler.TheVariants.{Cancel, Suspend, Ignore, Abandon}
use Rattle.cfdp_directives.specs.declared.user.indication.Indication.TheVariants as indication
use Rattle.cfdp_directives.specs.declared.user.policy.Policy.{Policy}
use Rattle.cfdp_directives.specs.declared.user.telling.Outcome.{Outcome}
use Rattle.cfdp_directives.specs.Pdu.Codes.{size_limit, no_error, positive_ack_limit, nak_limit, inactivity, filestore_rejection, file_checksum_failure, file_size_error, unsupported_checksum_type, suspend_request, cancel_request}
use Rattle.cfdp_directives.specs.Pdu.Content.{Content, FileData, Metadata, Eof, Finished, Ack, Nak, Prompt, KeepAlive}
use Rattle.cfdp_directives.specs.User.Policy.{another_try}
use Rattle.cfdp_directives.proofs.FileSizes.{limit_most}
use Rattle.cfdp_store.specs.declared.stored.Stored.{Stored}
use Rattle.cfdp_store.specs.declared.stored.Stored.TheVariants.{Done, Refused}
use Rattle.cfdp_store.specs.Files.{octets_in}
use Rattle.cfdp_store.specs.Staged.{OctetMap}
use Rattle.cfdp_timers.specs.declared.kind.Kind.{Kind}
use Rattle.cfdp_timers.specs.declared.kind.Kind.TheVariants as kind
use Rattle.cfdp_timers.specs.Order.{Timer}
use Rattle.cfdp_sender.specs.declared.due.SenderDue.{SenderDue}
use Rattle.cfdp_sender.specs.declared.phase.SenderPhase.{SenderPhase}
use Rattle.cfdp_sender.specs.declared.phase.SenderPhase.TheVariants as sending
use Rattle.cfdp_sender.specs.declared.transfer.Transfer.{Transfer}
use Rattle.cfdp_sender.specs.State.{SenderState, transfer_of}
use Rattle.cfdp_sender.specs.Due.{sender_due}
use Rattle.cfdp_sender.specs.Steps.{asks, asks_all, asks_in}
use Rattle.cfdp_sender.specs.Inputs.{SenderInput, sender_step}
use Rattle.cfdp_sender.specs.Inputs as inputs
use Rattle.cfdp_sender.proofs.KeepsPut.{step-same}
use Rattle.cfdp_receiver.specs.declared.due.Due.{Due}
use Rattle.cfdp_receiver.specs.declared.due.Due.TheVariants as due
use Rattle.cfdp_receiver.specs.declared.state.FileInfo.{FileInfo}
use Rattle.cfdp_receiver.specs.declared.state.Ending.{Ending}
use Rattle.cfdp_receiver.specs.State.{ReceiverState, opened_receiver, flagged, is_receiving, is_finishing}
use Rattle.cfdp_receiver.specs.Due.{receiver_due, receiver_taken}
use Rattle.cfdp_receiver.specs.Pieces.{new_pieces, staged_with}
use Rattle.cfdp_receiver.specs.Steps.{ReceiverAfter, leaving, telling, heard, tidying, ended, finishing, closed, ends, failed, complete, faulted, agrees, published_by, completed_by, completed, is_supported, receives_metadata, exceeds, with_data, receives_new, receives_data, contradicts, first_eof, cancelled_by, receives_eof, acknowledged_by, prompted_for, opened_closed, waits, handled, asking_again, nak_expires, finished_expires, expires_by, cancels, suspends, resumes}
use Rattle.cfdp_receiver.specs.Steps as receiver
use Rattle.cfdp_receiver.specs.Sound.{ReceiverInput, hears_content, receiver_hears, receiver_step, opens_hearing}
use Rattle.cfdp_receiver.specs.Sound as machine
use Rattle.cfdp_entity.specs.declared.request.Request.{Request}
use Rattle.cfdp_entity.specs.declared.request.Request.TheVariants as call
use Rattle.cfdp_entity.specs.declared.config.EntityConfig.{EntityConfig}
use Rattle.cfdp_entity.specs.declared.error.EntityDrop.{EntityDrop}
use Rattle.cfdp_entity.specs.declared.error.PutError.TheVariants as puts
use Rattle.cfdp_entity.specs.Refusing.{called_in}
use Rattle.cfdp_entity.specs.Requests.{IsCalled}
use Rattle.cfdp_entity.specs.Config.{IsConfig}
use Rattle.cfdp_entity.specs.Entity.{EntityState, Counted, first_entity, own_id}
use Rattle.cfdp_entity.specs.Hearing.{HearsOctets, DropsOctets}
use Rattle.cfdp_entity.specs.Opening.{opens_by, begins, closing}
use Rattle.cfdp_entity.specs.Polling.{Turn, Stray, Place, Rests, served}
use Rattle.cfdp_entity.specs.Putting.{Accepts, early_refusal, asked, file_refusal}
use Rattle.cfdp_entity.specs.Seen.{Seen, Sends, Receives}
use Rattle.cfdp_entity.specs.Steps.{After, Spoils, no_step, hears, expires, calls, takes, sender_takes, receiver_takes}
use Rattle.cfdp_entity.specs.Table.{Entry, TableState, place_of, stepped, step_of, heard_at, taken_at, opened_by, expired_in, expired, all_expired, at_time, Ticks, SpoiledAt}
use Rattle.cfdp_entity.proofs.Sparing.{spoils-receives}
use Rattle.link_sim.proofs.Work.Routes.{Taken, Steps, Opens, Queues, Passes, Dropped, Counts, is-taken, is-dropped}
use Rattle.link_sim.proofs.Work.Routes as routes
use Rattle.link_sim.specs.Work.{IsReceiverWithin, IsSenderWithin, IsSeenWithin, AreWithin}

-- ---- a sender
-- what must be sent stays
pub sender-within : (most : ℕ) (x y : SenderState) → transfer_of y ≡ transfer_of x → IsSenderWithin most x → IsSenderWithin most y
sender-within most x y same w = record {
  segment = subst (λ n. 1 ≤ n) (sym (ap (λ (t : Transfer). t.segment) same)) w.segment;
  size = subst (λ n. n ≤ most) (sym (ap (λ (t : Transfer). t.size) same)) w.size;
}

pub sender-step-within : (most : ℕ) (policy : Policy) (file : List ℕ) (input : SenderInput) (x : SenderState) → IsSenderWithin most x → IsSenderWithin most (sender_step policy file input x).sender
sender-step-within most policy file input x w = sender-within most x (sender_step policy file input x).sender (step-same policy file input x) w

-- ---- a receiver
abbrev Within : ℕ → ReceiverAfter → Type 0
Within most a = IsReceiverWithin most a.receiver

abbrev no_offsets : Offsets
no_offsets = set.empty

none-held : (n most : ℕ) → set.contains no_offsets n ≡ true → n < most
none-held n most h = absurd (both_ways _ (set.contains-empty nat_cmp n) h)

module _ (most : ℕ) where
  ends-within : (o : Outcome) (r : ReceiverState) → IsReceiverWithin most (finishing o r)
  ends-within o r = record { held = λ n h. none-held n most h; ending = λ e. cc }

  closed-within : (r : ReceiverState) → IsReceiverWithin most (closed r)
  closed-within r = record { held = λ n h. none-held n most h; ending = λ e. cc }

  pub opened-within : (addressing : Addressing) → IsReceiverWithin most (opened_receiver addressing)
  opened-within addressing = record { held = λ n h. none-held n most h; ending = λ _. tt }

  pub opened_closed-within : (large : Bool) (condition : ℕ) (addressing : Addressing) → IsReceiverWithin most (opened_closed large condition addressing)
  opened_closed-within large condition addressing = record { held = λ n h. none-held n most h; ending = λ e. cc }

  heard-within : (a : ReceiverAfter) → Within most a → Within most (heard a)
  heard-within a w = record { held = w.held; ending = w.ending }

  by-phase : (r : ReceiverState) (a b : ReceiverAfter) → Within most a → Within most b → Within most (heard (if is_receiving r.phase then a else b))
  by-phase r a b f g = heard-within (if is_receiving r.phase then a else b) (cond_both (is_receiving r.phase) a b (Within most) (λ _. f) (λ _. g))

  published_by-within : (stored : Stored) (info : FileInfo) (ending : Ending) (m : OctetMap) (files : FileMap) (r : ReceiverState) → Within most (published_by stored info ending m files r)
  published_by-within Done info ending m files r = ends-within complete r
  published_by-within Refused info ending m files r = ends-within (failed filestore_rejection) r

  completed_by-within : (stored : Stored) (info : Option FileInfo) (ending : Option Ending) (m : OctetMap) (files : FileMap) (r : ReceiverState) → IsReceiverWithin most r →
      Within most (completed_by stored info ending m files r)
  completed_by-within stored (Some info) (Some ending) m files r w =
      cond_both (set.is_subset (range 0 ending.size) r.held) (if agrees info ending r.sums then published_by stored info ending m files r else faulted file_checksum_failure m files r)
      (leaving m files r) (Within most)
      (λ _. cond_both (agrees info ending r.sums) (published_by stored info ending m files r) (faulted file_checksum_failure m files r) (Within most)
      (λ _. published_by-within stored info ending m files r)
      (λ _. ends-within (failed file_checksum_failure) r))
      (λ _. w)
  completed_by-within stored (Some info) None m files r w = w
  completed_by-within stored None ending m files r w = w

  metadata-within : (stored : Stored) (kind size : ℕ) (source destination : List ℕ) (m : OctetMap) (files : FileMap) (r : ReceiverState) → IsReceiverWithin most r →
      Within most (receives_metadata stored kind size source destination m files r)
  metadata-within stored kind size source destination m files r w =
      let r1 : ReceiverState = record r { metadata = Some (record { checksum_kind = kind; destination = destination }); nak_count = 0 } in
      let w1 : IsReceiverWithin most r1 = record { held = w.held; ending = w.ending } in
      cond_both (is_some r.metadata) (leaving m files r) (telling (indication.MetadataRecv r.addressing.id source destination size ∷ [])
      (if is_supported kind then completed stored m files r1 else faulted unsupported_checksum_type m files r1)) (Within most)
      (λ _. w)
      (λ _. cond_both (is_supported kind) (completed stored m files r1) (faulted unsupported_checksum_type m files r1) (Within most)
      (λ _. completed_by-within stored r1.metadata r1.ending m files r1 w1) (λ _. ends-within (failed unsupported_checksum_type) r1))

  prompt-within : (keep_alive : Bool) (r : ReceiverState) → IsReceiverWithin most r → IsReceiverWithin most (prompted_for keep_alive r)
  prompt-within true r w = record { held = w.held; ending = w.ending }
  prompt-within false r w = record { held = w.held; ending = w.ending }

  -- no PDU brings an offset or a size above the greatest one
  module _ (limit : size_limit true ≤ most) where
    allowed-within : (large : Bool) (n : ℕ) → n ≤ size_limit large → n ≤ most
    allowed-within large n l = omega (arith, l, limit_most large, limit)

    exceeds-limit : (large : Bool) (ending : Option Ending) (end : ℕ) → exceeds large ending end ≡ false → end ≤ most
    exceeds-limit large (Some ending) end h =
        allowed-within large end (ltb-false (size_limit large) end (or_parts (nat_lt ending.size end) (nat_lt (size_limit large) end) h).1)
    exceeds-limit large None end h = allowed-within large end (ltb-false (size_limit large) end h)

    more-held : (r : ReceiverState) (offset end : ℕ) → IsReceiverWithin most r → end ≤ most → (n : ℕ) → set.contains (set.union r.held (range offset end)) n ≡ true → n < most
    more-held r offset end w within n h = elim (or_cases (set.contains r.held n) (set.contains (range offset end) n) (sym (set.contains-union nat_cmp_total r.held (range offset end) n) ∙ h)) [
      | inl old ↦ w.held n old
      | inr new ↦ let b : n < end = ltb-true n end (and_parts (nat_le offset n) (nat_lt n end) (sym (contains-range offset end n) ∙ new)).1 in omega arith
    ]

    new-within : (stored : Stored) (offset : ℕ) (bytes : List ℕ) (m : OctetMap) (files : FileMap) (r : ReceiverState) → IsReceiverWithin most r → offset + length bytes ≤ most →
        Within most (receives_new stored offset bytes m files r)
    new-within Done offset bytes m files r w small =
        completed_by-within Done r.metadata r.ending (staged_with m (new_pieces r.held offset bytes)) files (with_data offset bytes r)
        (record { held = more-held r offset (offset + length bytes) w small; ending = w.ending })
    new-within Refused offset bytes m files r w small = ends-within (failed filestore_rejection) r

    data-within : (stored : Stored) (large : Bool) (offset : ℕ) (bytes : List ℕ) (m : OctetMap) (files : FileMap) (r : ReceiverState) → IsReceiverWithin most r →
        Within most (receives_data stored large offset bytes m files r)
    data-within stored large offset bytes m files r w =
        cond_both (exceeds large r.ending (offset + length bytes)) (faulted file_size_error m files r)
        (if set.is_subset (range offset (offset + length bytes)) r.held then completed stored m files r else receives_new stored offset bytes m files r) (Within most)
        (λ _. ends-within (failed file_size_error) r)
        (λ small. cond_both (set.is_subset (range offset (offset + length bytes)) r.held) (completed stored m files r) (receives_new stored offset bytes m files r) (Within most)
        (λ _. completed_by-within stored r.metadata r.ending m files r w)
        (λ _. new-within stored offset bytes m files r w (exceeds-limit large r.ending (offset + length bytes) small)))

    eof-within : (stored : Stored) (large : Bool) (condition checksum size : ℕ) (m : OctetMap) (files : FileMap) (r : ReceiverState) → IsReceiverWithin most r →
        Within most (receives_eof stored large condition checksum size m files r)
    eof-within stored large condition checksum size m files r w =
        let r1 : ReceiverState = record r { ending = Some (record { checksum = checksum; size = size }); ack_due = Some no_error; nak_cursor = Some 0 } in
        let r2 : ReceiverState = record r { ack_due = Some no_error; nak_cursor = Some 0 } in
        cond_both (not (condition == no_error)) (cancelled_by condition m files r) (if is_none r.ending then first_eof stored large checksum size m files r else leaving m files r2) (Within most)
        (λ _. record { held = λ n h. none-held n most h; ending = λ e. cc })
        (λ _. cond_both (is_none r.ending) (first_eof stored large checksum size m files r) (leaving m files r2) (Within most)
        (λ _. cond_both (contradicts large size r) (faulted file_size_error m files r1) (completed stored m files r1) (Within most)
        (λ _. ends-within (failed file_size_error) r1)
        (λ small. completed_by-within stored r1.metadata r1.ending m files r1 (record { held = w.held; ending = λ _. fits small })))
        (λ _. record { held = w.held; ending = w.ending }))
      where
        fits : contradicts large size r ≡ false → size ≤ most
        fits small = allowed-within large size (ltb-false (size_limit large) size (or_parts (nat_lt size (end_of r.held)) (nat_lt (size_limit large) size) small).1)

    content-within : (stored : Stored) (large : Bool) (v : Content) (m : OctetMap) (files : FileMap) (r : ReceiverState) → IsReceiverWithin most r →
        Within most (hears_content stored large v m files r)
    content-within stored large (Metadata kind size source destination options) m files r w =
        by-phase r (receives_metadata stored kind size source destination m files r) (leaving m files r) (metadata-within stored kind size source destination m files r w) w
    content-within stored large (FileData offset bytes) m files r w =
        by-phase r (receives_data stored large offset bytes m files r) (leaving m files r) (data-within stored large offset bytes m files r w) w
    content-within stored large (Eof condition checksum size tlvs) m files r w =
        by-phase r (receives_eof stored large condition checksum size m files r) (leaving m files (record r { ack_due = Some condition })) (eof-within stored large condition checksum size m files r w)
        (record { held = w.held; ending = w.ending })
    content-within stored large (Ack acknowledged.Finished condition status) m files r w =
        heard-within (leaving m files (acknowledged_by r)) (cond_both (is_finishing r.phase && r.finished_taken) (closed r) r (IsReceiverWithin most) (λ _. closed-within r) (λ _. w))
    content-within stored large (Prompt keep_alive) m files r w =
        heard-within (leaving m files (if is_receiving r.phase then prompted_for keep_alive r else r))
        (cond_both (is_receiving r.phase) (prompted_for keep_alive r) r (IsReceiverWithin most) (λ _. prompt-within keep_alive r w) (λ _. w))
    content-within stored large (Ack acknowledged.Eof condition status) m files r w = w
    content-within stored large (Finished condition delivery status tlvs) m files r w = w
    content-within stored large (Nak start end pairs) m files r w = w
    content-within stored large (KeepAlive progress) m files r w = w

    pub receiver-hears-within : (stored : Stored) (large : Bool) (v : Content) (m : OctetMap) (files : FileMap) (r : ReceiverState) → IsReceiverWithin most r →
        Within most (receiver_hears stored large v m files r)
    receiver-hears-within stored large v m files r w = content-within stored large v m files (flagged large r) (record { held = w.held; ending = w.ending })

    pub opens-hearing-within : (begun stored : Stored) (large : Bool) (v : Content) (files : FileMap) (addressing : Addressing) → Within most (opens_hearing begun stored large v files addressing)
    opens-hearing-within Done stored large v files addressing = receiver-hears-within stored large v map.empty files (opened_receiver addressing) (opened-within addressing)
    opens-hearing-within Refused stored large v files addressing = ends-within (failed filestore_rejection) (flagged large (opened_receiver addressing))

  -- ---- timers and calls
  handled-within : (handler : Handler) (condition : ℕ) (m : OctetMap) (files : FileMap) (r : ReceiverState) → IsReceiverWithin most r → Within most (handled handler condition m files r)
  handled-within Cancel condition m files r w = ends-within (failed condition) r
  handled-within Suspend condition m files r w = record { held = w.held; ending = w.ending }
  handled-within Ignore condition m files r w = record { held = w.held; ending = w.ending }
  handled-within Abandon condition m files r w = closed-within r

  asking-within : (handler : Handler) (a : ReceiverAfter) → Within most a → Within most (asking_again handler a)
  asking-within Ignore a w = record { held = w.held; ending = w.ending }
  asking-within Cancel a w = w
  asking-within Suspend a w = w
  asking-within Abandon a w = w

  nak-expires-within : (count : Option ℕ) (handler : Handler) (m : OctetMap) (files : FileMap) (r : ReceiverState) → IsReceiverWithin most r → Within most (nak_expires count handler m files r)
  nak-expires-within (Some count) handler m files r w = record { held = w.held; ending = w.ending }
  nak-expires-within None handler m files r w = asking-within handler (handled handler nak_limit m files r) (handled-within handler nak_limit m files r w)

  finished-expires-within : (count : Option ℕ) (m : OctetMap) (files : FileMap) (r : ReceiverState) → IsReceiverWithin most r → Within most (finished_expires count m files r)
  finished-expires-within (Some count) m files r w = record { held = w.held; ending = w.ending }
  finished-expires-within None m files r w = handled-within Abandon positive_ack_limit m files r w

  expires-by-within : (k : Kind) (policy : Policy) (m : OctetMap) (files : FileMap) (r : ReceiverState) → IsReceiverWithin most r → Within most (expires_by k policy m files r)
  expires-by-within kind.Nak policy m files r w = nak-expires-within (another_try r.nak_count policy.limits.nak) policy.handlers.nak m files r w
  expires-by-within kind.FinishedAck policy m files r w = finished-expires-within (another_try r.finished_count policy.limits.finished) m files r w
  expires-by-within kind.Inactivity policy m files r w = handled-within policy.handlers.inactivity inactivity m files r w
  expires-by-within kind.EofAck policy m files r w = w

  pub receiver-expires-within : (k : Kind) (policy : Policy) (m : OctetMap) (files : FileMap) (r : ReceiverState) → IsReceiverWithin most r → Within most (receiver.expires k policy m files r)
  receiver-expires-within k policy m files r w =
      let g : Within most (expires_by k policy m files r) = expires-by-within k policy m files r w in
      cond_both (waits k r) (record (tidying (expires_by k policy m files r)) { anew = receiver.anew_once_expired k }) (leaving m files r) (Within most)
      (λ _. record { held = g.held; ending = g.ending }) (λ _. w)

  pub cancels-within : (m : OctetMap) (files : FileMap) (r : ReceiverState) → IsReceiverWithin most r → Within most (cancels m files r)
  cancels-within m files r w = cond_both (is_receiving r.phase) (ends (failed cancel_request) m files r) (leaving m files r) (Within most) (λ _. ends-within (failed cancel_request) r) (λ _. w)

  pub suspends-within : (m : OctetMap) (files : FileMap) (r : ReceiverState) → IsReceiverWithin most r → Within most (suspends m files r)
  suspends-within m files r w =
      cond_both (is_receiving r.phase && not r.suspended) (telling (indication.Suspended r.addressing.id suspend_request ∷ []) (leaving m files (record r { suspended = true }))) (leaving m files r)
      (Within most)
      (λ _. record { held = w.held; ending = w.ending }) (λ _. w)

  pub resumes-within : (m : OctetMap) (files : FileMap) (r : ReceiverState) → IsReceiverWithin most r → Within most (resumes m files r)
  resumes-within m files r w =
      cond_both r.suspended (telling (indication.Resumed r.addressing.id ∷ []) (leaving m files (record r { suspended = false; nak_count = 0; finished_count = 0 }))) (leaving m files r) (Within most)
      (λ _. record { held = w.held; ending = w.ending }) (λ _. w)

  pub taken-within : (d : Due) (r : ReceiverState) → IsReceiverWithin most r → IsReceiverWithin most (receiver_taken d r)
  taken-within (due.AckOfEof condition) r w = record { held = w.held; ending = w.ending }
  taken-within (due.Nak from) r w = record { held = w.held; ending = w.ending }
  taken-within due.KeepAlive r w = record { held = w.held; ending = w.ending }
  taken-within (due.Finished o) r w = record { held = w.held; ending = w.ending }

  pub receiver-step-within : size_limit true ≤ most → (stored : Stored) (input : ReceiverInput) (m : OctetMap) (files : FileMap) (r : ReceiverState) → IsReceiverWithin most r →
      Within most (receiver_step stored input m files r)
  receiver-step-within limit stored (machine.Hears large v) m files r w = receiver-hears-within limit stored large v m files r w
  receiver-step-within limit stored (machine.Takes d) m files r w = taken-within d r w
  receiver-step-within limit stored (machine.Expires k policy) m files r w = receiver-expires-within k policy m files r w
  receiver-step-within limit stored machine.Cancels m files r w = cancels-within m files r w
  receiver-step-within limit stored machine.Suspends m files r w = suspends-within m files r w
  receiver-step-within limit stored machine.Resumes m files r w = resumes-within m files r w

-- ---- a record
abbrev Kept : ℕ → Seen → After → Type 0
Kept most s a = IsSeenWithin most s → IsSeenWithin most a.seen

module _ (most : ℕ) (limit : size_limit true ≤ most) (policy : Policy) (files : FileMap) where
  by-sender : (file : List ℕ) (input : SenderInput) (x : SenderState) → IsSenderWithin most x → IsSenderWithin most (sender_step policy file input x).sender
  by-sender file input x w = sender-step-within most policy file input x w

  by-receiver : (stored : Stored) (input : ReceiverInput) (m : OctetMap) (r : ReceiverState) → IsReceiverWithin most r → IsReceiverWithin most (receiver_step stored input m files r).receiver
  by-receiver stored input m r w = receiver-step-within most limit stored input m files r w

  hears-within : (stored : Stored) (large : Bool) (v : Content) (s : Seen) → Kept most s (hears stored policy.times files large v s)
  hears-within stored large (Ack acknowledged.Eof condition status) (Sends x) w = by-sender [] (inputs.HearsAck condition) x w
  hears-within stored large (Nak start end pairs) (Sends x) w = by-sender [] (inputs.HearsNak pairs) x w
  hears-within stored large (Finished condition delivery status tlvs) (Sends x) w = by-sender [] (inputs.HearsFinished (record { condition = condition; delivery = delivery; status = status })) x w
  hears-within stored large (KeepAlive progress) (Sends x) w = by-sender [] (inputs.HearsKeepAlive progress) x w
  hears-within stored large (Ack acknowledged.Finished condition status) (Sends x) w = w
  hears-within stored large (Metadata kind size source destination options) (Sends x) w = w
  hears-within stored large (FileData offset bytes) (Sends x) w = w
  hears-within stored large (Eof condition checksum size tlvs) (Sends x) w = w
  hears-within stored large (Prompt keep_alive) (Sends x) w = w
  hears-within stored large (Metadata kind size source destination options) (Receives r m) w = by-receiver stored (machine.Hears large (Metadata kind size source destination options)) m r w
  hears-within stored large (FileData offset bytes) (Receives r m) w = by-receiver stored (machine.Hears large (FileData offset bytes)) m r w
  hears-within stored large (Eof condition checksum size tlvs) (Receives r m) w = by-receiver stored (machine.Hears large (Eof condition checksum size tlvs)) m r w
  hears-within stored large (Ack acknowledged.Finished condition status) (Receives r m) w = by-receiver stored (machine.Hears large (Ack acknowledged.Finished condition status)) m r w
  hears-within stored large (Prompt keep_alive) (Receives r m) w = by-receiver stored (machine.Hears large (Prompt keep_alive)) m r w
  hears-within stored large (Ack acknowledged.Eof condition status) (Receives r m) w = w
  hears-within stored large (Finished condition delivery status tlvs) (Receives r m) w = w
  hears-within stored large (Nak start end pairs) (Receives r m) w = w
  hears-within stored large (KeepAlive progress) (Receives r m) w = w

  expires-within : (k : Kind) (s : Seen) → Kept most s (expires policy files k s)
  expires-within k (Sends x) w = by-sender [] (inputs.Expires k) x w
  expires-within k (Receives r m) w = by-receiver Done (machine.Expires k policy) m r w

  calls-within : (c : Request) (s : Seen) → Kept most s (calls policy.times files c s)
  calls-within call.Cancel (Sends x) w = by-sender [] inputs.Cancels x w
  calls-within call.Suspend (Sends x) w = by-sender [] inputs.Suspends x w
  calls-within call.Resume (Sends x) w = by-sender [] inputs.Resumes x w
  calls-within (call.Prompt keep_alive) (Sends x) w = by-sender [] (inputs.Prompts keep_alive) x w
  calls-within call.Cancel (Receives r m) w = by-receiver Done machine.Cancels m r w
  calls-within call.Suspend (Receives r m) w = by-receiver Done machine.Suspends m r w
  calls-within call.Resume (Receives r m) w = by-receiver Done machine.Resumes m r w
  calls-within (call.Prompt keep_alive) (Receives r m) w = w

  sender-takes-within : (stored : Stored) (file : List ℕ) (x : SenderState) (o : Option SenderDue) → Kept most (Sends x) (sender_takes stored policy.times files file x o)
  sender-takes-within stored file x (Some d) w = by-sender file (inputs.Sends stored d) x w
  sender-takes-within stored file x None w = w

  receiver-takes-within : (r : ReceiverState) (m : OctetMap) (o : Option Due) → Kept most (Receives r m) (receiver_takes policy.times files r m o)
  receiver-takes-within r m (Some d) w = by-receiver Done (machine.Takes d) m r w
  receiver-takes-within r m None w = w

  takes-within : (stored : Stored) (sources : FileMap) (s : Seen) → Kept most s (takes stored policy.times sources files s)
  takes-within stored sources (Sends x) w = sender-takes-within stored (octets_in sources x.source) x (sender_due x) w
  takes-within stored sources (Receives r m) w = receiver-takes-within r m (receiver_due r) w

  -- a PDU opens a receiver
  begins-within : (begun stored : Stored) (large : Bool) (v : Content) (a : Addressing) → IsSeenWithin most (begins begun stored policy.times files large v a).seen
  begins-within Done stored large v a = hears-within stored large v (Receives (opened_receiver a) map.empty) (opened-within most a)
  begins-within Refused stored large v a = opens-hearing-within most limit Refused stored large v files a

  opens-by-within : (o : Option ℕ) (begun stored : Stored) (large : Bool) (v : Content) (a : Addressing) → IsSeenWithin most (opens_by o begun stored policy.times files large v a).seen
  opens-by-within (Some condition) begun stored large v a = opened_closed-within most large condition a
  opens-by-within None begun stored large v a = begins-within begun stored large v a

same-within : (most : ℕ) (s t : Seen) → t ≡ s → IsSeenWithin most s → IsSeenWithin most t
same-within most s t is w = subst (IsSeenWithin most) (sym is) w

-- what a NAK asks for changes nothing of what must be sent
ask-same : (p : ℕ × ℕ) (x : SenderState) → transfer_of (asks p x) ≡ transfer_of x
ask-same p x =
    let more : SenderState = record x { asked = set.union x.asked (range p.0 (min p.1 x.sent)) } in
    cond_both ((p.0 == 0) && (p.1 == 0)) (record x { metadata_due = true }) (if nat_lt p.0 (min p.1 x.sent) then more else x) (λ y. transfer_of y ≡ transfer_of x)
    (λ _. refl) (λ _. cond_both (nat_lt p.0 (min p.1 x.sent)) more x (λ y. transfer_of y ≡ transfer_of x) (λ _. refl) (λ _. refl))

asks-same : (ps : List (ℕ × ℕ)) (x : SenderState) → transfer_of (asks_all ps x) ≡ transfer_of x
asks-same [] x = refl
asks-same (p ∷ ps) x = asks-same ps (asks p x) ∙ ask-same p x

asked-same : (p : SenderPhase) (ps : List (ℕ × ℕ)) (x : SenderState) → transfer_of (asks_in p ps x) ≡ transfer_of x
asked-same sending.Sending ps x = asks-same ps x
asked-same sending.Cancelling ps x = refl
asked-same sending.Closed ps x = refl

-- if there was no memory
pub spoils-within : (most : ℕ) (v : Content) (s t : Seen) → Spoils v s t → IsSeenWithin most s → IsSeenWithin most t
spoils-within most v (Receives r m) t h w = subst (IsSeenWithin most) (sym (spoils-receives v r m t h).1.0) w
spoils-within most (Nak start end pairs) (Sends x) t h w =
    subst (IsSeenWithin most) (sym h.1) (sender-within most x (asks_in x.phase (take h.0 pairs) x) (asked-same x.phase (take h.0 pairs) x) w)
spoils-within most (Ack of condition status) (Sends x) t h w = same-within most (Sends x) t h w
spoils-within most (Finished condition delivery status tlvs) (Sends x) t h w = same-within most (Sends x) t h w
spoils-within most (KeepAlive progress) (Sends x) t h w = same-within most (Sends x) t h w
spoils-within most (Metadata kind size source destination options) (Sends x) t h w = same-within most (Sends x) t h w
spoils-within most (FileData offset bytes) (Sends x) t h w = same-within most (Sends x) t h w
spoils-within most (Eof condition checksum size tlvs) (Sends x) t h w = same-within most (Sends x) t h w
spoils-within most (Prompt keep_alive) (Sends x) t h w = same-within most (Sends x) t h w

-- ---- records by their places
pub within-at : (most : ℕ) (es : List Entry) (n : ℕ) (e : Entry) → AreWithin most es → slice_get es n ≡ Some e → IsSeenWithin most e.1
unfolding AreWithin
within-at most [] n e s at = absurd cc
within-at most (x ∷ xs) zero e s at = let is : x ≡ e = cc in subst (λ (y : Entry). IsSeenWithin most y.1) is s.0
within-at most (x ∷ xs) (suc n) e s at = within-at most xs n e s.1 at

-- the records with another one at a place, as a step of a table writes it
abbrev pub written : TableState → TransactionId → List Entry → ℕ → Seen → List Entry
written st id es place s = (stepped place id (no_step st.files s) (record st { records = es })).records

module _ (most : ℕ) (st : TableState) (id : TransactionId) where
  within-set : (es : List Entry) (n : ℕ) (r : Seen) → AreWithin most es → IsSeenWithin most r → AreWithin most (written st id es n r)
  unfolding AreWithin
  within-set [] n r s h = s
  within-set (x ∷ xs) zero r s h = (h, s.1)
  within-set (x ∷ xs) (suc n) r s h = (s.0, within-set xs n r s.1 h)

  -- if no record is, none is written
  within-beyond : (es : List Entry) (n : ℕ) (r : Seen) → slice_get es n ≡ None → AreWithin most es → AreWithin most (written st id es n r)
  unfolding AreWithin
  within-beyond [] n r at s = s
  within-beyond (x ∷ xs) zero r at s = absurd cc
  within-beyond (x ∷ xs) (suc n) r at s = (s.0, within-beyond xs n r at s.1)

within-push : (most : ℕ) (es : List Entry) (e : Entry) → AreWithin most es → IsSeenWithin most e.1 → AreWithin most (es ++ e ∷ [])
unfolding AreWithin
within-push most [] e s h = (h, tt)
within-push most (x ∷ xs) e s h = (s.0, within-push most xs e s.1 h)

within-none : (most : ℕ) → AreWithin most []
unfolding AreWithin
within-none most = tt

-- ---- a table
module _ (most : ℕ) (limit : size_limit true ≤ most) where
  stepped-within : (f : Entry → After) → ((e : Entry) → Kept most e.1 (f e)) → (st : TableState) (place : ℕ) (o : Option Entry) → slice_get st.records place ≡ o → AreWithin most st.records →
      AreWithin most (step_of f place o st).records
  stepped-within f k st place None at h = h
  stepped-within f k st place (Some e) at h = within-set most st e.0 st.records place (f e).seen h (k e (within-at most st.records place e h at))

  table-heard : (stored : Stored) (place : ℕ) (large : Bool) (v : Content) (st : TableState) → AreWithin most st.records → AreWithin most (heard_at stored place large v st).records
  table-heard stored place large v st h = stepped-within (λ e. hears stored st.policy.times st.files large v e.1) (λ e. hears-within most limit st.policy st.files stored large v e.1) st place
      (slice_get st.records place) refl h

  table-taken : (stored : Stored) (place : ℕ) (st : TableState) → AreWithin most st.records → AreWithin most (taken_at stored place st).records
  table-taken stored place st h = stepped-within (λ e. takes stored st.policy.times st.sources st.files e.1) (λ e. takes-within most limit st.policy st.files stored st.sources e.1) st place
      (slice_get st.records place) refl h

  table-called : (c : Request) (o : Option ℕ) (st : TableState) → AreWithin most st.records → AreWithin most (called_in c o st).records
  table-called c (Some place) st h = stepped-within (λ e. calls st.policy.times st.files c e.1) (λ e. calls-within most limit st.policy st.files c e.1) st place (slice_get st.records place) refl h
  table-called c None st h = h

  table-opened : (begun stored : Stored) (a : Addressing) (large : Bool) (v : Content) (st : TableState) → AreWithin most st.records → AreWithin most (opened_by begun stored a large v st).records
  table-opened begun stored a large v st h = within-push most st.records _ h (opens-by-within most limit st.policy st.files (closing v) begun stored large v a)

  expired-in-within : (o : Option ℕ) (k : Kind) (st : TableState) → AreWithin most st.records → AreWithin most (expired_in o k st).records
  expired-in-within (Some place) k st h = stepped-within (λ e. expires st.policy st.files k e.1) (λ e. expires-within most limit st.policy st.files k e.1) st place (slice_get st.records place) refl h
  expired-in-within None k st h = h

  all-expired-within : (fired : List Timer) (st : TableState) → AreWithin most st.records → AreWithin most (all_expired fired st).records
  unfolding all_expired
  all-expired-within [] st h = h
  all-expired-within (t ∷ fired) st h = all-expired-within fired (expired t st) (expired-in-within (place_of t.0 st.records) t.1 st h)

  spoiled-within : (place : ℕ) (v : Content) (old new : TableState) → SpoiledAt place v old new → AreWithin most old.records → AreWithin most new.records
  spoiled-within place v old new s h = subst (λ (t : TableState). AreWithin most t.records) (sym s.table) (by (slice_get old.records place) refl)
    where
      by : (o : Option Entry) → slice_get old.records place ≡ o → AreWithin most (written old (own_id 0 0) old.records place s.seen)
      by (Some e) at = within-set most old (own_id 0 0) old.records place s.seen h (spoils-within most v e.1 s.seen (s.spoils e at) (within-at most old.records place e h at))
      by None at = within-beyond most old (own_id 0 0) old.records place s.seen at h

  -- ---- an entity
  pub within-called : (c : Request) (id : TransactionId) (old new : EntityState) → IsCalled c id old new → AreWithin most old.table.records → AreWithin most new.table.records
  within-called c id old new is h = subst (λ (e : EntityState). AreWithin most e.table.records) (sym is.called) (table-called c (place_of id old.table.records) old.table h)

  pub within-ticked : (now : ℕ) (old new : TableState) → Ticks now old new → AreWithin most old.records → AreWithin most new.records
  within-ticked now old new t h = subst (λ (s : TableState). AreWithin most s.records) (sym t.ticked) (all-expired-within t.fired (at_time _ old) h)

  pub within-served : (stored : Stored) (t : Turn) (e : EntityState) → AreWithin most e.table.records → AreWithin most (served stored t e).table.records
  within-served stored (Stray s strays) e h = h
  within-served stored (Place place) e h = table-taken stored place e.table h
  within-served stored Rests e h = h

  taken-route-within : (h : Header) (v : Content) (old new : Counted) → Taken h v old new → AreWithin most old.state.table.records → AreWithin most new.state.table.records
  taken-route-within h v old new (Steps place t) w = subst (λ (e : EntityState). AreWithin most e.table.records) (sym t.steps) (table-heard t.stored place h.large v old.state.table w)
  taken-route-within h v old new (Opens a may t) w = subst (λ (e : EntityState). AreWithin most e.table.records) (sym t.opens) (table-opened t.begun t.stored a h.large v old.state.table w)
  taken-route-within h v old new (Queues s of_end t) w = subst (λ (e : EntityState). AreWithin most e.table.records) (sym t) w
  taken-route-within h v old new (Passes is) w = subst (λ (c : Counted). AreWithin most c.state.table.records) (sym is) w

  pub within-heard : (octets : List ℕ) (old new : Counted) → HearsOctets octets old new → AreWithin most old.state.table.records → AreWithin most new.state.table.records
  within-heard octets old new h w = taken-route-within h.header h.content old new (is-taken h.header old new h.content h.takes) w

  dropped-route-within : (v : Content) (old new : Counted) → Dropped v old new → AreWithin most old.state.table.records → AreWithin most new.state.table.records
  dropped-route-within v old new (Counts d t) w = subst (λ (e : EntityState). AreWithin most e.table.records) (sym t) w
  dropped-route-within v old new (routes.Spoils place t) w = spoiled-within place v old.state.table new.state.table t.spoiled w

  pub within-dropped : (fault : Option PduError) (octets : List ℕ) (by : EntityDrop) (old new : Counted) → DropsOctets fault octets by old new → AreWithin most old.state.table.records →
      AreWithin most new.state.table.records
  within-dropped (Some e) octets by old new d w = subst (λ (c : Counted). AreWithin most c.state.table.records) (sym d.1) w
  within-dropped None octets by old new d w = dropped-route-within d.content old new (is-dropped d.header old new d.content by d.drops) w

  -- a put: of a file that isn't larger than a large one may be
  second-none : {X : Type 0} (x y : Option X) → option_or x y ≡ None → y ≡ None
  second-none None y h = h
  second-none (Some a) y h = absurd (cc)

  file-fits : (o : Option (List ℕ)) → file_refusal o ≡ None → length (unwrap_or o []) ≤ most
  file-fits None h = absurd cc
  file-fits (Some octets) h = elim (nat_le (length octets) (size_limit true)) as (λ b. nat_le (length octets) (size_limit true) ≡ b → (if b then None else Some puts.TooLarge) ≡ None →
      length octets ≤ most) [
        | true ↦ λ t g. let l : length octets ≤ size_limit true = leb-true (length octets) (size_limit true) t in omega (arith, l, limit)
        | false ↦ λ f g. absurd cc
      ] refl h

  pub within-put : (source destination : List ℕ) (id : TransactionId) (old new : EntityState) → IsConfig old.config → Accepts source destination id old new → AreWithin most old.table.records →
      AreWithin most new.table.records
  within-put source destination id old new config a h =
      let fits : length (octets_in old.table.sources source) ≤ most = file-fits (map.get old.table.sources source)
      (second-none (early_refusal source destination old) (asked Done (map.get old.table.sources source)) a.allowed) in
      subst (λ (e : EntityState). AreWithin most e.table.records) (sym a.opened) (within-push most old.table.records _ h (record { segment = config.sending.some; size = fits }))

pub within-first : (most : ℕ) (sources files : FileMap) (config : EntityConfig) → AreWithin most (first_entity sources files config).table.records
within-first most sources files config = within-none most
