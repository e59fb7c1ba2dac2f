-- What was committed of a receiver comes back as one of what it has come to.
use Rattle.std.proofs.Common.{◌≡◌, inl, inr, ℕ, ◌+◌, ◌≤◌, ◌==◌, ◌&&◌, ◌||◌, not, Bool, true, false, List, [], ◌∷◌, length, Option, Some, None, is_some, is_none, refl, ap, ◌∙◌, arith, if◌then◌else◌}
use Rattle.std.specs.Prelude.{count_by}
use Rattle.std.proofs.lemmas.Bool.{false≢true}
use Rattle.std.specs.FinMap as map
use Rattle.std.specs.FinSet as set
use Rattle.cfdp_header.specs.declared.value.TransactionId.{TransactionId}
use Rattle.cfdp_header.specs.Files.{FileMap}
use Rattle.cfdp_directives.specs.declared.pdu.codes.Acknowledged.TheVariants as acknowledged
use Rattle.cfdp_directives.specs.declared.pdu.sums.Checksums.{Checksums}
use Rattle.cfdp_directives.specs.declared.user.handler.Handler.{Handler}
use Rattle.cfdp_directives.specs.declared.user.handler.Handler.TheVariants.{Cancel, Suspend, Ignore, Abandon}
use Rattle.cfdp_directives.specs.declared.user.indication.Indication.TheVariants as indication
use Rattle.cfdp_directives.specs.declared.user.policy.Policy.{Policy}
use Rattle.cfdp_directives.specs.Pdu.Codes.{no_error, file_checksum_failure, file_size_error, inactivity, nak_limit, positive_ack_limit, unsupported_checksum_type}
use Rattle.cfdp_directives.specs.Pdu.Content.{Content, FileData, Metadata, Eof, Finished, Ack, Nak, Prompt, KeepAlive}
use Rattle.cfdp_directives.specs.User.Completions.{is_finished}
use Rattle.cfdp_directives.specs.User.Policy.{another_try}
use Rattle.cfdp_extents.specs.Offsets.{Offsets, range}
use Rattle.cfdp_store.specs.declared.stored.Stored.{Stored}
use Rattle.cfdp_store.specs.declared.stored.Stored.TheVariants.{Done, Refused}
use Rattle.cfdp_store.specs.Staged.{OctetMap}
use Rattle.cfdp_timers.specs.declared.kind.Kind.{Kind}
use Rattle.cfdp_timers.specs.declared.kind.Kind.TheVariants as kind
use Rattle.cfdp_receiver.specs.declared.due.Due.{Due}
use Rattle.cfdp_receiver.specs.declared.due.Due.TheVariants as due
use Rattle.cfdp_receiver.specs.declared.state.Ending.{Ending}
use Rattle.cfdp_receiver.specs.declared.state.FileInfo.{FileInfo}
use Rattle.cfdp_receiver.specs.declared.state.ReceiverPhase.{ReceiverPhase}
use Rattle.cfdp_receiver.specs.declared.state.ReceiverPhase.TheVariants as receiving
use Rattle.cfdp_receiver.specs.Pieces.{new_pieces, staged_with}
use Rattle.cfdp_receiver.specs.State.{ReceiverState, kind_told, is_receiving, is_finishing, flagged}
use Rattle.cfdp_receiver.specs.Steps.{ReceiverAfter, leaving, agrees, published_by, completed_by, completed, is_supported, receives_metadata, exceeds, with_data, receives_new, receives_data, contradicts, first_eof, receives_eof, takes, waits, handled, asking_again, nak_expires, finished_expires, expires_by, faulted, telling, prompted_for, acknowledged_by, closed}
use Rattle.cfdp_receiver.specs.Sound.{ReceiverInput, Hears, Takes, Expires, Cancels, Suspends, Resumes, receiver_step, hears_content, held_after, open_count}
use Rattle.cfdp_receiver.specs.Back.{received_back}
use Rattle.cfdp_resuming.specs.Later.{IsLater}
use Rattle.cfdp_resuming.specs.Receiver.{IsKeptOf, IsRestoredReceiver, SumsStaged}
use Rattle.cfdp_resuming.proofs.Back.{back-as}

-- ---- what is known stays known
abbrev Stays : Option FileInfo → Option Ending → ReceiverAfter → Type 0
Stays info ending a = IsKeptOf a.receiver.metadata info × IsKeptOf a.receiver.ending ending

either : (test : Bool) (i : Option FileInfo) (e : Option Ending) (a b : ReceiverAfter) → Stays i e a → Stays i e b → Stays i e (if test then a else b)
either true i e a b h k = h
either false i e a b h k = k

module _ (files : FileMap) where
  published : (stored : Stored) (info : FileInfo) (ending : Ending) (m : OctetMap) (r : ReceiverState) → Stays r.metadata r.ending (published_by stored info ending m files r)
  published Done info ending m r = (inr refl, inr refl)
  published Refused info ending m r = (inr refl, inr refl)

  completes : (stored : Stored) (metadata : Option FileInfo) (ending : Option Ending) (m : OctetMap) (r : ReceiverState) → Stays r.metadata r.ending (completed_by stored metadata ending m files r)
  completes stored (Some info) (Some ending) m r =
      either (set.is_subset (range 0 ending.size) r.held) r.metadata r.ending _ (leaving m files r)
      (either (agrees info ending r.sums) r.metadata r.ending (published_by stored info ending m files r) (faulted file_checksum_failure m files r) (published stored info ending m r) (inr refl, inr refl))
      (inr refl, inr refl)
  completes stored (Some info) None m r = (inr refl, inr refl)
  completes stored None ending m r = (inr refl, inr refl)

  metadata-in : (o : Option FileInfo) → (stored : Stored) (checksum_kind size : ℕ) (source destination : List ℕ) (m : OctetMap) (r : ReceiverState) → o ≡ r.metadata → Stays o r.ending
      (if is_some o then leaving m files r else telling (indication.MetadataRecv r.addressing.id source destination size ∷ [])
      (let info : FileInfo = record { checksum_kind = checksum_kind; destination = destination } in
      let r1 : ReceiverState = record r { metadata = Some info; nak_count = 0 } in
      if is_supported checksum_kind then completed stored m files r1 else faulted unsupported_checksum_type m files r1))
  metadata-in (Some old) stored checksum_kind size source destination m r is = (inr is, inr refl)
  metadata-in None stored checksum_kind size source destination m r is =
      let info : FileInfo = record { checksum_kind = checksum_kind; destination = destination } in
      let r1 : ReceiverState = record r { metadata = Some info; nak_count = 0 } in
      let h : Stays (Some info) r.ending (if is_supported checksum_kind then completed stored m files r1 else faulted unsupported_checksum_type m files r1) =
      either (is_supported checksum_kind) (Some info) r.ending (completed stored m files r1) (faulted unsupported_checksum_type m files r1) (completes stored (Some info) r.ending m r1) (inr refl, inr refl) in
      (inl refl, h.1)

  on-new : (stored : Stored) (offset : ℕ) (bytes : List ℕ) (m : OctetMap) (r : ReceiverState) → Stays r.metadata r.ending (receives_new stored offset bytes m files r)
  on-new Done offset bytes m r = completes Done r.metadata r.ending (staged_with m (new_pieces r.held offset bytes)) (with_data offset bytes r)
  on-new Refused offset bytes m r = (inr refl, inr refl)

  on-data : (stored : Stored) (large : Bool) (offset : ℕ) (bytes : List ℕ) (m : OctetMap) (r : ReceiverState) → Stays r.metadata r.ending (receives_data stored large offset bytes m files r)
  on-data stored large offset bytes m r =
      either (exceeds large r.ending (offset + length bytes)) r.metadata r.ending (faulted file_size_error m files r) _ (inr refl, inr refl)
      (either (set.is_subset (range offset (offset + length bytes)) r.held) r.metadata r.ending (completed stored m files r) (receives_new stored offset bytes m files r)
      (completes stored r.metadata r.ending m r) (on-new stored offset bytes m r))

  ending-in : (o : Option Ending) → (stored : Stored) (large : Bool) (checksum size : ℕ) (m : OctetMap) (r : ReceiverState) → o ≡ r.ending → Stays r.metadata o
      (if is_none o then first_eof stored large checksum size m files r else leaving m files (record r { ack_due = Some no_error; nak_cursor = Some 0 }))
  ending-in (Some old) stored large checksum size m r is = (inr refl, inr is)
  ending-in None stored large checksum size m r is =
      let ending : Ending = record { checksum = checksum; size = size } in
      let r1 : ReceiverState = record r { ending = Some ending; ack_due = Some no_error; nak_cursor = Some 0 } in
      let h : Stays r.metadata (Some ending) (if contradicts large size r then faulted file_size_error m files r1 else completed stored m files r1) =
      either (contradicts large size r) r.metadata (Some ending) (faulted file_size_error m files r1) (completed stored m files r1) (inr refl, inr refl) (completes stored r.metadata (Some ending) m r1) in
      (h.0, inl refl)

  on-eof : (stored : Stored) (large : Bool) (condition checksum size : ℕ) (m : OctetMap) (r : ReceiverState) → Stays r.metadata r.ending (receives_eof stored large condition checksum size m files r)
  on-eof stored large condition checksum size m r = either (not (condition == no_error)) r.metadata r.ending _ _ (inr refl, inr refl) (ending-in r.ending stored large checksum size m r refl)

  prompted : (keep_alive : Bool) (m : OctetMap) (r : ReceiverState) → Stays r.metadata r.ending (leaving m files (if is_receiving r.phase then prompted_for keep_alive r else r))
  prompted keep_alive m r = elim (is_receiving r.phase) as (λ b. Stays r.metadata r.ending (leaving m files (if b then prompted_for keep_alive r else r))) [ true ↦ asked keep_alive | false ↦ (inr refl, inr refl) ]
    where
      asked : (keep_alive : Bool) → Stays r.metadata r.ending (leaving m files (prompted_for keep_alive r))
      asked true = (inr refl, inr refl)
      asked false = (inr refl, inr refl)

  acked : (m : OctetMap) (r : ReceiverState) → Stays r.metadata r.ending (leaving m files (acknowledged_by r))
  acked m r = elim (is_finishing r.phase && r.finished_taken) as (λ b. Stays r.metadata r.ending (leaving m files (if b then closed r else r))) [ true ↦ (inr refl, inr refl) | false ↦ (inr refl, inr refl) ]

  hears : (stored : Stored) (large : Bool) (v : Content) (m : OctetMap) (r : ReceiverState) → Stays r.metadata r.ending (hears_content stored large v m files r)
  hears stored large (Metadata kind size source destination options) m r =
      either (is_receiving r.phase) r.metadata r.ending (receives_metadata stored kind size source destination m files r) (leaving m files r)
      (metadata-in r.metadata stored kind size source destination m r refl) (inr refl, inr refl)
  hears stored large (FileData offset bytes) m r =
      either (is_receiving r.phase) r.metadata r.ending (receives_data stored large offset bytes m files r) (leaving m files r) (on-data stored large offset bytes m r) (inr refl, inr refl)
  hears stored large (Eof condition checksum size tlvs) m r =
      either (is_receiving r.phase) r.metadata r.ending (receives_eof stored large condition checksum size m files r) (leaving m files (record r { ack_due = Some condition }))
      (on-eof stored large condition checksum size m r) (inr refl, inr refl)
  hears stored large (Ack acknowledged.Finished condition status) m r = acked m r
  hears stored large (Ack acknowledged.Eof condition status) m r = (inr refl, inr refl)
  hears stored large (Prompt keep_alive) m r = prompted keep_alive m r
  hears stored large (Finished condition delivery status tlvs) m r = (inr refl, inr refl)
  hears stored large (Nak start end pairs) m r = (inr refl, inr refl)
  hears stored large (KeepAlive progress) m r = (inr refl, inr refl)

  on-fault : (handler : Handler) (condition : ℕ) (m : OctetMap) (r : ReceiverState) → Stays r.metadata r.ending (handled handler condition m files r)
  on-fault Cancel condition m r = (inr refl, inr refl)
  on-fault Suspend condition m r = (inr refl, inr refl)
  on-fault Ignore condition m r = (inr refl, inr refl)
  on-fault Abandon condition m r = (inr refl, inr refl)

  asks-again : (handler : Handler) (i : Option FileInfo) (e : Option Ending) (a : ReceiverAfter) → Stays i e a → Stays i e (asking_again handler a)
  asks-again Ignore i e a h = h
  asks-again Cancel i e a h = h
  asks-again Suspend i e a h = h
  asks-again Abandon i e a h = h

  on-nak : (count : Option ℕ) (handler : Handler) (m : OctetMap) (r : ReceiverState) → Stays r.metadata r.ending (nak_expires count handler m files r)
  on-nak (Some count) handler m r = (inr refl, inr refl)
  on-nak None handler m r = asks-again handler r.metadata r.ending (handled handler nak_limit m files r) (on-fault handler nak_limit m r)

  on-finished : (count : Option ℕ) (m : OctetMap) (r : ReceiverState) → Stays r.metadata r.ending (finished_expires count m files r)
  on-finished (Some count) m r = (inr refl, inr refl)
  on-finished None m r = on-fault Abandon positive_ack_limit m r

  on-expiry : (k : Kind) (policy : Policy) (m : OctetMap) (r : ReceiverState) → Stays r.metadata r.ending (expires_by k policy m files r)
  on-expiry kind.Nak policy m r = on-nak (another_try r.nak_count policy.limits.nak) policy.handlers.nak m r
  on-expiry kind.FinishedAck policy m r = on-finished (another_try r.finished_count policy.limits.finished) m r
  on-expiry kind.Inactivity policy m r = on-fault policy.handlers.inactivity inactivity m r
  on-expiry kind.EofAck policy m r = (inr refl, inr refl)

  on-taken : (d : Due) (m : OctetMap) (r : ReceiverState) → Stays r.metadata r.ending (takes d m files r)
  on-taken (due.AckOfEof condition) m r = (inr refl, inr refl)
  on-taken (due.Nak cursor) m r = (inr refl, inr refl)
  on-taken due.KeepAlive m r = (inr refl, inr refl)
  on-taken (due.Finished o) m r = (inr refl, inr refl)

  step-stays : (stored : Stored) (input : ReceiverInput) (m : OctetMap) (r : ReceiverState) → Stays r.metadata r.ending (receiver_step stored input m files r)
  step-stays stored (Hears large v) m r = hears stored large v m (flagged large r)
  step-stays stored (Takes d) m r = on-taken d m r
  step-stays stored (Expires k policy) m r = either (waits k r) r.metadata r.ending _ (leaving m files r) (on-expiry k policy m r) (inr refl, inr refl)
  step-stays stored Cancels m r = either (is_receiving r.phase) r.metadata r.ending _ (leaving m files r) (inr refl, inr refl) (inr refl, inr refl)
  step-stays stored Suspends m r = either (is_receiving r.phase && not r.suspended) r.metadata r.ending _ (leaving m files r) (inr refl, inr refl) (inr refl, inr refl)
  step-stays stored Resumes m r = either r.suspended r.metadata r.ending _ (leaving m files r) (inr refl, inr refl) (inr refl, inr refl)

-- ---- what is held stays held
or-held : (a b : Bool) → a ≡ true → (a || b) ≡ true
or-held true b h = refl
or-held false b h = absurd (false≢true h)

module _ (unions : (a b : Offsets) (n : ℕ) → set.contains (set.union a b) n ≡ (set.contains a n || set.contains b n)) where
  still-held : (input : ReceiverInput) (held : Offsets) (k : ℕ) → set.contains held k ≡ true → set.contains (held_after input held) k ≡ true
  still-held (Hears large (FileData offset bytes)) held k h = unions held (range offset (offset + length bytes)) k ∙ or-held (set.contains held k) _ h
  still-held (Hears large (Metadata kind size source destination options)) held k h = h
  still-held (Hears large (Eof condition checksum size tlvs)) held k h = h
  still-held (Hears large (Ack of condition status)) held k h = h
  still-held (Hears large (Prompt keep_alive)) held k h = h
  still-held (Hears large (Finished condition delivery status tlvs)) held k h = h
  still-held (Hears large (Nak start end pairs)) held k h = h
  still-held (Hears large (KeepAlive progress)) held k h = h
  still-held (Takes d) held k h = h
  still-held (Expires k2 policy) held k h = h
  still-held Cancels held k h = h
  still-held Suspends held k h = h
  still-held Resumes held k h = h

open-is : (p : ReceiverPhase) → 1 ≤ open_count p → p ≡ receiving.Receiving
open-is receiving.Receiving h = refl
open-is receiving.Finishing h = absurd (omega (arith, h))
open-is receiving.Closed h = absurd (omega (arith, h))

-- ---- laws of the receiver
pub record KeptLaws : Type 0 where
  pub same : (stored : Stored) (input : ReceiverInput) (m : OctetMap) (files : FileMap) (r : ReceiverState) → (receiver_step stored input m files r).receiver.addressing ≡ r.addressing
  pub once : (stored : Stored) (input : ReceiverInput) (m : OctetMap) (files : FileMap) (r : ReceiverState) (id : TransactionId) →
      count_by (is_finished id) (receiver_step stored input m files r).told + open_count (receiver_step stored input m files r).receiver.phase ≤ open_count r.phase
  pub octets : (stored : Stored) (input : ReceiverInput) (m : OctetMap) (files : FileMap) (r : ReceiverState) (n : ℕ) → set.contains r.held n ≡ true → map.get (receiver_step stored input m files r).octets n ≡ map.get m n
  pub held : (stored : Stored) (input : ReceiverInput) (m : OctetMap) (files : FileMap) (r : ReceiverState) (n : ℕ) → (receiver_step stored input m files r).receiver.phase ≡ receiving.Receiving →
      set.contains (receiver_step stored input m files r).receiver.held n ≡ set.contains (held_after input r.held) n
  pub unions : (a b : Offsets) (n : ℕ) → set.contains (set.union a b) n ≡ (set.contains a n || set.contains b n)

pub step-later : KeptLaws → (stored : Stored) (input : ReceiverInput) (m : OctetMap) (files : FileMap) (r : ReceiverState) → IsLater r m (receiver_step stored input m files r).receiver (receiver_step stored input m files r).octets
step-later laws stored input m files r =
    let stays = step-stays files stored input m r in
    record {
      addressing = laws.same stored input m files r;
      metadata = stays.0;
      ending = stays.1;
      receives = λ now.
          (let once = laws.once stored input m files r r.addressing.id in
          let one : open_count (receiver_step stored input m files r).receiver.phase ≡ 1 = ap open_count now in
          open-is r.phase (omega (arith, once, one)));
      held = λ now k h. (laws.held stored input m files r k now ∙ still-held laws.unions input r.held k h, laws.octets stored input m files r k h);
    }

kept-both : {A : Type 0} (a b c : Option A) → IsKeptOf b a → IsKeptOf c b → IsKeptOf c a
kept-both a b c (inl none) h = inl none
kept-both a b c (inr same) (inl none) = inl (same ∙ none)
kept-both a b c (inr same) (inr now) = inr (same ∙ now)

pub later-both : (r s t : ReceiverState) (m n o : OctetMap) → IsLater r m s n → IsLater s n t o → IsLater r m t o
later-both r s t m n o one two = record {
  addressing = two.addressing ∙ one.addressing;
  metadata = kept-both r.metadata s.metadata t.metadata one.metadata two.metadata;
  ending = kept-both r.ending s.ending t.ending one.ending two.ending;
  receives = λ now. one.receives (two.receives now);
  held = λ now k h. (let a = one.held (two.receives now) k h in let b = two.held now k a.0 in (b.0, b.1 ∙ a.1));
}

pub back-later : (r s : ReceiverState) (m n o : OctetMap) (held : Offsets) (sums : Checksums) → IsLater r m s n →
    ((k : ℕ) → set.contains held k ≡ true → (s.phase ≡ receiving.Receiving) × (set.contains r.held k ≡ true) × (map.get o k ≡ map.get n k)) → SumsStaged (kind_told r.metadata) held o sums →
    IsRestoredReceiver s n (received_back held sums r) o
back-later r s m n o held sums later there summed = back-as r s n o held sums later.addressing later.metadata later.ending
    (λ k has. (let t = there k has in (t.0, (later.held t.0 k t.1).0, t.2))) summed r.phase refl
