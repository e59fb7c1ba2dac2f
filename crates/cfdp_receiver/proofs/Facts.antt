-- Exported: what any step of a receiver may do: end a transaction with what it indicates, and
-- publish its file.
use Rattle.std.proofs.Common.{◌≡◌, ◌⊎◌, inl, inr, ℕ, ◌+◌, ◌<◌, ◌≤◌, true, false, not, ◌&&◌, ◌||◌, ◌==◌, List, [], ◌∷◌, ◌++◌, length, Option, Some, None, is_none, is_some, refl, sym, ap, subst, ◌∙◌, arith, nat_lt, nat_le, if◌then◌else◌, Bool}
use Rattle.std.specs.Prelude.{Contains}
use Rattle.std.specs.FinSet as set
use Rattle.std.specs.Cmp.{nat_cmp_total}
use Rattle.std.proofs.lemmas.Bool.{false≢true, cond_both, le-leb, lt-ltb, and_from, or_left}
use Rattle.cfdp_header.specs.declared.value.TransactionId.{TransactionId}
use Rattle.cfdp_header.specs.Files.{FileMap}
use Rattle.cfdp_directives.specs.declared.pdu.addressing.Addressing.{Addressing}
use Rattle.cfdp_directives.specs.declared.pdu.codes.Acknowledged.TheVariants as acknowledged
use Rattle.cfdp_directives.specs.declared.pdu.codes.Delivery.TheVariants.{Incomplete}
use Rattle.cfdp_directives.specs.declared.pdu.codes.FileStatus.TheVariants.{Discarded}
use Rattle.cfdp_directives.specs.declared.user.handler.Handler.{Handler}
use Rattle.cfdp_directives.specs.declared.user.handler.Handler.TheVariants.{Cancel, Suspend, Ignore, Abandon}
use Rattle.cfdp_directives.specs.declared.user.indication.Indication.{Indication}
use Rattle.cfdp_directives.specs.declared.user.indication.Indication.TheVariants as indication
use Rattle.cfdp_directives.specs.declared.user.policy.Policy.{Policy}
use Rattle.cfdp_directives.specs.declared.user.telling.Outcome.{Outcome}
use Rattle.cfdp_directives.specs.Pdu.Codes.{no_error, positive_ack_limit, filestore_rejection, file_checksum_failure, file_size_error, nak_limit, inactivity, unsupported_checksum_type, suspend_request, cancel_request, size_limit}
use Rattle.cfdp_directives.specs.User.Completions.{completions}
use Rattle.cfdp_directives.specs.Pdu.Content.{Content, FileData, Metadata, Eof, Finished, Ack, Nak, Prompt, KeepAlive}
use Rattle.cfdp_directives.specs.User.Policy.{another_try, finished_told, fault_told}
use Rattle.cfdp_directives.proofs.Puts.{completions-append, Contains-append_right}
use Rattle.cfdp_extents.specs.Offsets.{Offsets, range, is_within}
use Rattle.cfdp_extents.specs.Terms.{end_of}
use Rattle.cfdp_store.specs.declared.stored.Stored.{Stored}
use Rattle.cfdp_store.specs.declared.stored.Stored.TheVariants.{Done, Refused}
use Rattle.cfdp_store.specs.Staged.{OctetMap}
use Rattle.cfdp_timers.specs.declared.kind.Kind.{Kind}
use Rattle.cfdp_timers.specs.declared.kind.Kind.TheVariants as kind
use Rattle.cfdp_receiver.specs.declared.due.Due.{Due}
use Rattle.cfdp_receiver.specs.declared.due.Due.TheVariants as due
use Rattle.cfdp_receiver.specs.declared.state.ReceiverPhase.{ReceiverPhase}
use Rattle.cfdp_receiver.specs.declared.state.ReceiverPhase.TheVariants.{Receiving, Finishing, Closed}
use Rattle.cfdp_receiver.specs.declared.state.FileInfo.{FileInfo}
use Rattle.cfdp_receiver.specs.declared.state.Ending.{Ending}
use Rattle.cfdp_receiver.specs.State.{ReceiverState, flagged, is_receiving, is_finishing}
use Rattle.cfdp_receiver.specs.Due.{receiver_taken}
use Rattle.cfdp_receiver.specs.Missing.{tidied}
use Rattle.cfdp_receiver.specs.Pieces.{new_pieces, staged_with}
use Rattle.cfdp_receiver.specs.Steps.{ReceiverAfter, leaving, telling, closed, ends, complete, failed, faulted, agrees, published_by, completed_by, completed, is_supported, receives_metadata, exceeds, with_data, receives_new, receives_data, first_eof, cancelled_by, receives_eof, heard, acknowledged_by, prompted_for, takes, waits, handled, asking_again, nak_expires, finished_expires, expires_by, tidying, anew_once_expired}
use Rattle.cfdp_receiver.specs.Sound.{ReceiverInput, Hears, Takes, Expires, Cancels, Suspends, Resumes, receiver_hears, receiver_step, held_after, PublishesNone, Publishes, hears_content}

pub is_receiving-is : (p : ReceiverPhase) → is_receiving p ≡ true → p ≡ Receiving
is_receiving-is Receiving h = refl
is_receiving-is Finishing h = absurd (false≢true h)
is_receiving-is Closed h = absurd (false≢true h)

-- what a range holds, as the law of sets says it
abbrev pub RangesHold : Type 0
RangesHold = (start end n : ℕ) → set.contains (range start end) n ≡ is_within start end n

pub in_range : RangesHold → (start end n : ℕ) → start ≤ n → n < end → set.contains (range start end) n ≡ true
in_range ranges start end n low high = ranges start end n ∙ and_from (nat_le start n) (nat_lt n end) (le-leb start n low) (lt-ltb n end high)

-- An outcome is the one that was there, or indicated; and the file is published, or it isn't.
pub record MayEnd (stored : Stored) (addressing : Addressing) (phase : ReceiverPhase) (outcome : Option Outcome) (offsets : Offsets) (files : FileMap) (a : ReceiverAfter) : Type 0 where
  pub ends : (o : Outcome) → a.receiver.outcome ≡ Some o → (outcome ≡ Some o) ⊎ Contains a.told (finished_told addressing.id o)
  pub publishes : PublishesNone files a ⊎ Publishes stored addressing.id phase offsets files a

only_one : (o p : Outcome) → Some o ≡ Some p → o ≡ p
only_one o p e = cc

module _ (stored : Stored) (files : FileMap) where
  -- after a step of the receiver r
  abbrev After : ReceiverState → ReceiverAfter → Type 0
  After r a = MayEnd stored r.addressing r.phase r.outcome r.held files a

  -- nothing ends
  keeps : (r : ReceiverState) (a : ReceiverAfter) → a.receiver.outcome ≡ r.outcome → a.files ≡ files → ((own : ℕ) → completions own a.told ≡ []) → After r a
  keeps r a same still none = record {
    ends = λ o e. inl (sym same ∙ e);
    publishes = inl (record { same_files = still; no_completion = none });
  }

  -- a Finished is indicated last, and nothing is published
  told_over : (r : ReceiverState) (a : ReceiverAfter) (o : Outcome) → a.receiver.outcome ≡ Some o → a.files ≡ files → ((own : ℕ) → completions own a.told ≡ [])
      → Contains a.told (finished_told r.addressing.id o) → After r a
  told_over r a o is still none told = record {
    ends = λ p e. inr (subst (λ (x : Outcome). Contains a.told (finished_told r.addressing.id x)) (only_one o p (sym is ∙ e)) told);
    publishes = inl (record { same_files = still; no_completion = none });
  }

  faults : (condition : ℕ) (m : OctetMap) (r : ReceiverState) → After r (faulted condition m files r)
  faults condition m r = told_over r (faulted condition m files r) (failed condition) refl refl (λ own. refl) (1, omega arith, refl)

  -- an indication first that ends nothing
  telling-first : (i : Indication) (r : ReceiverState) (a : ReceiverAfter) → ((own : ℕ) → completions own (i ∷ []) ≡ []) → After r a → After r (telling (i ∷ []) a)
  telling-first i r a none f = record {
    ends = λ o e. elim (f.ends o e) [ inl was ↦ inl was | inr told ↦ inr (Contains-append_right (i ∷ []) a.told (finished_told r.addressing.id o) told) ];
    publishes = elim f.publishes [
      | inl n ↦ inl (record { same_files = n.same_files; no_completion = λ own. more own ∙ n.no_completion own })
      | inr p ↦ inr (record {
        info = p.info;
        ending = p.ending;
        metadata_known = p.metadata_known;
        ending_known = p.ending_known;
        all_held = p.all_held;
        done = p.done;
        receiving = p.receiving;
        finishing = p.finishing;
        written_over = p.written_over;
        one_completion = λ own. more own ∙ p.one_completion own;
      })
    ];
  }
    where
      more : (own : ℕ) → completions own (i ∷ a.told) ≡ completions own a.told
      more own = completions-append own (i ∷ []) a.told ∙ ap (λ (ids : List TransactionId). ids ++ completions own a.told) (none own)

  -- a timer and the NAK cursor say nothing of all this
  timed : (anew : Option Kind) (r : ReceiverState) (a : ReceiverAfter) → After r a → After r (record a { receiver = tidied a.receiver; anew = anew })
  timed anew r a f = record {
    ends = f.ends;
    publishes = elim f.publishes [
      | inl n ↦ inl (record { same_files = n.same_files; no_completion = n.no_completion })
      | inr p ↦ inr (record {
        info = p.info;
        ending = p.ending;
        metadata_known = p.metadata_known;
        ending_known = p.ending_known;
        all_held = p.all_held;
        done = p.done;
        receiving = p.receiving;
        finishing = p.finishing;
        written_over = p.written_over;
        one_completion = p.one_completion;
      })
    ];
  }

publication : RangesHold → (stored : Stored) (files : FileMap) (info : FileInfo) (ending : Ending) (m : OctetMap) (r : ReceiverState) → r.phase ≡ Receiving → r.metadata ≡ Some info → r.ending
    ≡ Some ending
    → set.is_subset (range 0 ending.size) r.held ≡ true → After stored files r (published_by stored info ending m files r)
publication ranges Done files info ending m r is named ended whole = record {
  ends = λ o e. inr (subst (λ (x : Outcome). Contains (finished_told r.addressing.id complete ∷ []) (finished_told r.addressing.id x)) (only_one complete o e) (0, omega arith, refl));
  publishes = inr (record {
    info = info;
    ending = ending;
    metadata_known = named;
    ending_known = ended;
    all_held = λ n low. set.is_subset-contains nat_cmp_total (range 0 ending.size) r.held whole n (in_range ranges 0 ending.size n (omega arith) low);
    done = refl;
    receiving = is;
    finishing = refl;
    written_over = refl;
    one_completion = λ own. refl;
  });
}
publication ranges Refused files info ending m r is named ended whole = faults Refused files filestore_rejection m r

module _ (ranges : RangesHold) (stored : Stored) (files : FileMap) (m : OctetMap) (r : ReceiverState) (is : r.phase ≡ Receiving) where
  completes-by : (metadata : Option FileInfo) (ending : Option Ending) → r.metadata ≡ metadata → r.ending ≡ ending → After stored files r (completed_by stored metadata ending m files r)
  completes-by (Some info) (Some ending) named ended =
      cond_both (set.is_subset (range 0 ending.size) r.held)
      (if agrees info ending r.sums then published_by stored info ending m files r else faulted file_checksum_failure m files r) (leaving m files r) (After stored files r)
      (λ whole. cond_both (agrees info ending r.sums) (published_by stored info ending m files r) (faulted file_checksum_failure m files r) (After stored files r)
      (λ _. publication ranges stored files info ending m r is named ended whole)
      (λ _. faults stored files file_checksum_failure m r))
      (λ _. keeps stored files r (leaving m files r) refl refl (λ own. refl))
  completes-by (Some info) None named ended = keeps stored files r (leaving m files r) refl refl (λ own. refl)
  completes-by None ending named ended = keeps stored files r (leaving m files r) refl refl (λ own. refl)

completes : RangesHold → (stored : Stored) (files : FileMap) (m : OctetMap) (r : ReceiverState) → r.phase ≡ Receiving → After stored files r (completed stored m files r)
completes ranges stored files m r is = completes-by ranges stored files m r is r.metadata r.ending refl refl

-- with more held than before
wider : (stored : Stored) (files : FileMap) (r : ReceiverState) (offsets : Offsets) (a : ReceiverAfter) → ((n : ℕ) → set.contains r.held n ≡ true → set.contains offsets n ≡ true)
    → After stored files r a → MayEnd stored r.addressing r.phase r.outcome offsets files a
wider stored files r offsets a more f = record {
  ends = f.ends;
  publishes = elim f.publishes [
    | inl n ↦ inl n
    | inr p ↦ inr (record {
      info = p.info;
      ending = p.ending;
      metadata_known = p.metadata_known;
      ending_known = p.ending_known;
      all_held = λ n low. more n (p.all_held n low);
      done = p.done;
      receiving = p.receiving;
      finishing = p.finishing;
      written_over = p.written_over;
      one_completion = p.one_completion;
    })
  ];
}

new_data : RangesHold → (stored : Stored) (files : FileMap) (m : OctetMap) (r : ReceiverState) (offset : ℕ) (bytes : List ℕ) → r.phase ≡ Receiving
    → MayEnd stored r.addressing r.phase r.outcome (set.union r.held (range offset (offset + length bytes))) files (receives_new stored offset bytes m files r)
new_data ranges Done files m r offset bytes is = completes ranges Done files (staged_with m (new_pieces r.held offset bytes)) (with_data offset bytes r) is
new_data ranges Refused files m r offset bytes is = faults Refused files filestore_rejection m (with_data offset bytes r)

-- ---- what is heard
module _ (ranges : RangesHold) (stored : Stored) (files : FileMap) (m : OctetMap) (r : ReceiverState) where
  abbrev Ends : ReceiverAfter → Type 0
  Ends a = After stored files r a

  same : Ends (leaving m files r)
  same = keeps stored files r (leaving m files r) refl refl (λ own. refl)

  -- only while it receives
  receiving-only : (offsets : Offsets) (step other : ReceiverAfter) → (r.phase ≡ Receiving → MayEnd stored r.addressing r.phase r.outcome offsets files step)
      → MayEnd stored r.addressing r.phase r.outcome offsets files other → MayEnd stored r.addressing r.phase r.outcome offsets files (if is_receiving r.phase then step else other)
  receiving-only offsets step other does not =
      cond_both (is_receiving r.phase) step other (MayEnd stored r.addressing r.phase r.outcome offsets files) (λ is. does (is_receiving-is r.phase is)) (λ _. not)

  metadata-ends : (checksum_kind size : ℕ) (source destination : List ℕ) → r.phase ≡ Receiving → Ends (receives_metadata stored checksum_kind size source destination m files r)
  metadata-ends checksum_kind size source destination is =
      let i : Indication = indication.MetadataRecv r.addressing.id source destination size in
      let info : FileInfo = record { checksum_kind = checksum_kind; destination = destination } in
      let r1 : ReceiverState = record r { metadata = Some info; nak_count = 0 } in
      let tested : ReceiverAfter = if is_supported checksum_kind then completed stored m files r1 else faulted unsupported_checksum_type m files r1 in
      cond_both (is_some r.metadata) (leaving m files r) (telling (i ∷ []) tested) Ends
      (λ _. same)
      (λ _. telling-first stored files i r tested (λ own. refl)
      (cond_both (is_supported checksum_kind) (completed stored m files r1) (faulted unsupported_checksum_type m files r1) Ends
      (λ _. completes ranges stored files m r1 is)
      (λ _. faults stored files unsupported_checksum_type m r1)))

  data-ends : (large : Bool) (offset : ℕ) (bytes : List ℕ) → r.phase ≡ Receiving
      → MayEnd stored r.addressing r.phase r.outcome (set.union r.held (range offset (offset + length bytes))) files (receives_data stored large offset bytes m files r)
  data-ends large offset bytes is =
      let end : ℕ = offset + length bytes in
      let all : Offsets = set.union r.held (range offset end) in
      let P : ReceiverAfter → Type 0 = MayEnd stored r.addressing r.phase r.outcome all files in
      let more : (n : ℕ) → set.contains r.held n ≡ true → set.contains all n ≡ true = λ n was. set.contains-union nat_cmp_total r.held (range offset end) n
      ∙ or_left (set.contains r.held n) (set.contains (range offset end) n) was in
      cond_both (exceeds large r.ending end) (faulted file_size_error m files r)
      (if set.is_subset (range offset end) r.held then completed stored m files r else receives_new stored offset bytes m files r) P
      (λ _. wider stored files r all (faulted file_size_error m files r) more (faults stored files file_size_error m r))
      (λ _. cond_both (set.is_subset (range offset end) r.held) (completed stored m files r) (receives_new stored offset bytes m files r) P
      (λ _. wider stored files r all (completed stored m files r) more (completes ranges stored files m r is))
      (λ _. new_data ranges stored files m r offset bytes is))

  eof-ends : (large : Bool) (condition checksum size : ℕ) → r.phase ≡ Receiving → Ends (receives_eof stored large condition checksum size m files r)
  eof-ends large condition checksum size is =
      let again : ReceiverAfter = leaving m files (record r { ack_due = Some no_error; nak_cursor = Some 0 }) in
      let ending : Ending = record { checksum = checksum; size = size } in
      let r1 : ReceiverState = record r { ending = Some ending; ack_due = Some no_error; nak_cursor = Some 0 } in
      let tested : ReceiverAfter = if nat_lt size (end_of r.held) || nat_lt (size_limit large) size then faulted file_size_error m files r1 else completed stored m files r1 in
      cond_both (not (condition == no_error)) (cancelled_by condition m files r) (if is_none r.ending then first_eof stored large checksum size m files r else again) Ends
      (λ _. told_over stored files r (cancelled_by condition m files r) (record { condition = condition; delivery = Incomplete; status = Discarded }) refl refl (λ own. refl) (0, omega arith, refl))
      (λ _. cond_both (is_none r.ending) (first_eof stored large checksum size m files r) again Ends
      (λ _. telling-first stored files (indication.EofRecv r.addressing.id) r tested (λ own. refl)
      (cond_both (nat_lt size (end_of r.held) || nat_lt (size_limit large) size) (faulted file_size_error m files r1) (completed stored m files r1) Ends
      (λ _. faults stored files file_size_error m r1)
      (λ _. completes ranges stored files m r1 is)))
      (λ _. keeps stored files r again refl refl (λ own. refl)))

  -- a receiver that differs in nothing but what is due, or is closed
  quiet : (r1 : ReceiverState) → r1.outcome ≡ r.outcome → Ends (leaving m files r1)
  quiet r1 e = keeps stored files r (leaving m files r1) e refl (λ own. refl)

  heard-quiet : (r1 : ReceiverState) → r1.outcome ≡ r.outcome → Ends (heard (leaving m files r1))
  heard-quiet r1 e = timed stored files (Some kind.Inactivity) r (leaving m files r1) (quiet r1 e)

  content-ends : (large : Bool) (v : Content) → MayEnd stored r.addressing r.phase r.outcome (held_after (Hears large v) r.held) files (hears_content stored large v m files r)
  content-ends large (Metadata checksum_kind size source destination options) =
      let step : ReceiverAfter = receives_metadata stored checksum_kind size source destination m files r in
      timed stored files (Some kind.Inactivity) r (if is_receiving r.phase then step else leaving m files r)
      (receiving-only r.held step (leaving m files r) (metadata-ends checksum_kind size source destination) same)
  content-ends large (FileData offset bytes) =
      let step : ReceiverAfter = receives_data stored large offset bytes m files r in
      let all : Offsets = set.union r.held (range offset (offset + length bytes)) in
      let more : (n : ℕ) → set.contains r.held n ≡ true → set.contains all n ≡ true = λ n was. set.contains-union nat_cmp_total r.held (range offset (offset + length bytes)) n
      ∙ or_left (set.contains r.held n) (set.contains (range offset (offset + length bytes)) n) was in
      timed stored files (Some kind.Inactivity) (record r { held = all }) (if is_receiving r.phase then step else leaving m files r)
      (receiving-only all step (leaving m files r) (data-ends large offset bytes) (wider stored files r all (leaving m files r) more same))
  content-ends large (Eof condition checksum size tlvs) =
      let step : ReceiverAfter = receives_eof stored large condition checksum size m files r in
      let over : ReceiverState = record r { ack_due = Some condition } in
      timed stored files (Some kind.Inactivity) r (if is_receiving r.phase then step else leaving m files over)
      (receiving-only r.held step (leaving m files over) (eof-ends large condition checksum size) (quiet over refl))
  content-ends large (Ack acknowledged.Finished condition status) =
      heard-quiet (acknowledged_by r) (cond_both (is_finishing r.phase && r.finished_taken) (closed r) r (λ (x : ReceiverState). x.outcome ≡ r.outcome) (λ _. refl) (λ _. refl))
  content-ends large (Ack acknowledged.Eof condition status) = same
  content-ends large (Prompt true) =
      heard-quiet (if is_receiving r.phase then prompted_for true r else r)
      (cond_both (is_receiving r.phase) (prompted_for true r) r (λ (x : ReceiverState). x.outcome ≡ r.outcome) (λ _. refl) (λ _. refl))
  content-ends large (Prompt false) =
      heard-quiet (if is_receiving r.phase then prompted_for false r else r)
      (cond_both (is_receiving r.phase) (prompted_for false r) r (λ (x : ReceiverState). x.outcome ≡ r.outcome) (λ _. refl) (λ _. refl))
  content-ends large (Finished condition delivery status tlvs) = same
  content-ends large (Nak start end pairs) = same
  content-ends large (KeepAlive progress) = same

  -- ---- what expires
  -- indications that end nothing
  tells-quiet : (r1 : ReceiverState) (told : List Indication) → r1.outcome ≡ r.outcome → ((own : ℕ) → completions own (told ++ []) ≡ []) → Ends (telling told (leaving m files r1))
  tells-quiet r1 told e none = keeps stored files r (telling told (leaving m files r1)) e refl none

  handled-ends : (h : Handler) (condition : ℕ) → Ends (handled h condition m files r)
  handled-ends Cancel condition = faults stored files condition m r
  handled-ends Suspend condition = tells-quiet (record r { suspended = true }) (fault_told Suspend r.addressing.id condition) refl (λ own. refl)
  handled-ends Ignore condition = tells-quiet (record r { nak_count = 0; finished_count = 0 }) (fault_told Ignore r.addressing.id condition) refl (λ own. refl)
  handled-ends Abandon condition = tells-quiet (closed r) (fault_told Abandon r.addressing.id condition) refl (λ own. refl)

  asks-ends : (h : Handler) → Ends (asking_again h (handled h nak_limit m files r))
  asks-ends Cancel = handled-ends Cancel nak_limit
  asks-ends Suspend = handled-ends Suspend nak_limit
  asks-ends Ignore = tells-quiet (record r { nak_count = 0; finished_count = 0; nak_cursor = Some 0 }) (fault_told Ignore r.addressing.id nak_limit) refl (λ own. refl)
  asks-ends Abandon = handled-ends Abandon nak_limit

  nak-ends : (count : Option ℕ) (h : Handler) → Ends (nak_expires count h m files r)
  nak-ends (Some count) h = quiet (record r { nak_count = count; nak_cursor = Some 0 }) refl
  nak-ends None h = asks-ends h

  finished-ends : (count : Option ℕ) → Ends (finished_expires count m files r)
  finished-ends (Some count) = quiet (record r { finished_count = count; finished_due = true }) refl
  finished-ends None = handled-ends Abandon positive_ack_limit

  expires-ends : (k : Kind) (policy : Policy) → Ends (expires_by k policy m files r)
  expires-ends kind.Nak policy = nak-ends (another_try r.nak_count policy.limits.nak) policy.handlers.nak
  expires-ends kind.FinishedAck policy = finished-ends (another_try r.finished_count policy.limits.finished)
  expires-ends kind.Inactivity policy = handled-ends policy.handlers.inactivity inactivity
  expires-ends kind.EofAck policy = same

  takes-ends : (d : Due) → Ends (takes d m files r)
  takes-ends (due.AckOfEof condition) = quiet (receiver_taken (due.AckOfEof condition) r) refl
  takes-ends (due.Nak cursor) = quiet (receiver_taken (due.Nak cursor) r) refl
  takes-ends due.KeepAlive = quiet (receiver_taken due.KeepAlive r) refl
  takes-ends (due.Finished o) = keeps stored files r (takes (due.Finished o) m files r) refl refl (λ own. refl)

  -- Any step may end so, if one may that hears a PDU.
  step-by : ((large : Bool) (v : Content) → MayEnd stored r.addressing r.phase r.outcome (held_after (Hears large v) r.held) files (receiver_hears stored large v m files r)) →
      (input : ReceiverInput) → MayEnd stored r.addressing r.phase r.outcome (held_after input r.held) files (receiver_step stored input m files r)
  step-by heard (Hears large v) = heard large v
  step-by heard (Takes d) = takes-ends d
  step-by heard (Expires k policy) =
      let a : ReceiverAfter = expires_by k policy m files r in
      cond_both (waits k r) (record (tidying a) { anew = anew_once_expired k }) (leaving m files r) Ends (λ _. timed stored files (anew_once_expired k) r a (expires-ends k policy)) (λ _. same)
  step-by heard Cancels =
      cond_both (is_receiving r.phase) (ends (failed cancel_request) m files r) (leaving m files r) Ends
      (λ _. told_over stored files r (ends (failed cancel_request) m files r) (failed cancel_request) refl refl (λ own. refl) (0, omega arith, refl)) (λ _. same)
  step-by heard Suspends =
      let r1 : ReceiverState = record r { suspended = true } in
      let a : ReceiverAfter = telling (indication.Suspended r.addressing.id suspend_request ∷ []) (leaving m files r1) in
      cond_both (is_receiving r.phase && not r.suspended) a (leaving m files r) Ends (λ _. keeps stored files r a refl refl (λ own. refl)) (λ _. same)
  step-by heard Resumes =
      let r1 : ReceiverState = record r { suspended = false; nak_count = 0; finished_count = 0 } in
      let a : ReceiverAfter = telling (indication.Resumed r.addressing.id ∷ []) (leaving m files r1) in
      cond_both r.suspended a (leaving m files r) Ends (λ _. keeps stored files r a refl refl (λ own. refl)) (λ _. same)

-- Any step may end so.
pub step-ends : (ranges : RangesHold) (stored : Stored) (files : FileMap) (m : OctetMap) (r : ReceiverState) (input : ReceiverInput) →
    MayEnd stored r.addressing r.phase r.outcome (held_after input r.held) files (receiver_step stored input m files r)
step-ends ranges stored files m r = step-by ranges stored files m r (λ large v. content-ends ranges stored files m (flagged large r) large v)
