-- Steps with other files published before.
use Rattle.std.proofs.Common.{◌≡◌, ◌∙◌, ℕ, ◌+◌, ◌==◌, ◌&&◌, Bool, true, false, not, List, [], ◌∷◌, length, Option, Some, None, is_some, is_none, refl, ap, if◌then◌else◌}
use Rattle.std.specs.FinSet as set
use Rattle.cfdp_header.specs.Files.{FileMap}
use Rattle.cfdp_directives.specs.declared.pdu.addressing.Addressing.{Addressing}
use Rattle.cfdp_directives.specs.declared.pdu.codes.Acknowledged.TheVariants as acknowledged
use Rattle.cfdp_directives.specs.declared.user.handler.Handler.{Handler}
use Rattle.cfdp_directives.specs.declared.user.handler.Handler.TheVariants.{Cancel, Suspend, Ignore, Abandon}
use Rattle.cfdp_directives.specs.declared.user.indication.Indication.TheVariants as indication
use Rattle.cfdp_directives.specs.declared.user.policy.Policy.{Policy}
use Rattle.cfdp_directives.specs.Pdu.Codes.{no_error, positive_ack_limit, filestore_rejection, file_checksum_failure, file_size_error, nak_limit, inactivity, unsupported_checksum_type, suspend_request, cancel_request}
use Rattle.cfdp_directives.specs.Pdu.Content.{Content, FileData, Metadata, Eof, Finished, Ack, Nak, Prompt, KeepAlive}
use Rattle.cfdp_directives.specs.User.Policy.{another_try}
use Rattle.cfdp_extents.specs.Offsets.{range}
use Rattle.cfdp_store.specs.declared.stored.Stored.{Stored}
use Rattle.cfdp_store.specs.declared.stored.Stored.TheVariants.{Done, Refused}
use Rattle.cfdp_store.specs.Staged.{OctetMap, front}
use Rattle.cfdp_timers.specs.declared.kind.Kind.{Kind}
use Rattle.cfdp_timers.specs.declared.kind.Kind.TheVariants as kind
use Rattle.cfdp_receiver.specs.declared.state.FileInfo.{FileInfo}
use Rattle.cfdp_receiver.specs.declared.state.Ending.{Ending}
use Rattle.cfdp_receiver.specs.State.{ReceiverState, flagged, is_receiving}
use Rattle.cfdp_receiver.specs.Pieces.{new_pieces, staged_with}
use Rattle.cfdp_receiver.specs.Steps.{ReceiverAfter, leaving, telling, tidying, ends, failed, faulted, complete, agrees, published_by, completed_by, is_supported, receives_metadata, exceeds, with_data, receives_new, receives_data, contradicts, cancelled_by, receives_eof, heard, hears_ack, hears_prompt, opens, takes, waits, handled, asking_again, nak_expires, finished_expires, expires_by, anew_once_expired}
use Rattle.cfdp_receiver.specs.Sound.{ReceiverInput, Hears, Takes, Expires, Cancels, Suspends, Resumes, hears_content, receiver_step}
use Rattle.cfdp_receiver.specs.Alike.{with_documents, PublishesAlike}

module _ (files other : FileMap) where
  -- ---- of what steps are made
  adds : (documents : List (List ℕ × List ℕ)) (a : ReceiverAfter) →
      PublishesAlike files other (record a { files = with_documents documents files }) (record a { files = with_documents documents other })
  adds documents a = record { documents = documents; publishes = refl; alike = refl }

  rests : (a : ReceiverAfter) → PublishesAlike files other (record a { files = files }) (record a { files = other })
  rests a = adds [] a

  either : (test : Bool) {a b x y : ReceiverAfter} → PublishesAlike files other a b → PublishesAlike files other x y →
      PublishesAlike files other (if test then a else x) (if test then b else y)
  either test {a} {b} {x} {y} h k = elim test as (λ t. PublishesAlike files other (if t then a else x) (if t then b else y)) [ true ↦ h | false ↦ k ]

  -- what is done about all that a step leaves, except for the files
  through : (f : ReceiverAfter → ReceiverAfter) → ((a : ReceiverAfter) (published : FileMap) → f (record a { files = published }) ≡ record (f a) { files = published }) → {a b : ReceiverAfter} →
      PublishesAlike files other a b → PublishesAlike files other (f a) (f b)
  through f keeps {a} {b} h = record {
    documents = h.documents;
    publishes = ap (λ (x : ReceiverAfter). x.files) (keeps a a.files) ∙ h.publishes;
    alike = ap f h.alike ∙ keeps a (with_documents h.documents other);
  }

  -- ---- what is heard while it receives
  published : (stored : Stored) (info : FileInfo) (ending : Ending) (m : OctetMap) (r : ReceiverState) →
      PublishesAlike files other (published_by stored info ending m files r) (published_by stored info ending m other r)
  published Done info ending m r = adds ((info.destination, front m ending.size) ∷ []) (ends complete m files r)
  published Refused info ending m r = rests (faulted filestore_rejection m files r)

  completes : (stored : Stored) (metadata : Option FileInfo) (ending : Option Ending) (m : OctetMap) (r : ReceiverState) →
      PublishesAlike files other (completed_by stored metadata ending m files r) (completed_by stored metadata ending m other r)
  completes stored (Some info) (Some ending) m r =
      either (set.is_subset (range 0 ending.size) r.held)
      (either (agrees info ending r.sums) (published stored info ending m r) (rests (faulted file_checksum_failure m files r)))
      (rests (leaving m files r))
  completes stored (Some info) None m r = rests (leaving m files r)
  completes stored None ending m r = rests (leaving m files r)

  on-metadata : (stored : Stored) (checksum_kind size : ℕ) (source destination : List ℕ) (m : OctetMap) (r : ReceiverState) →
      PublishesAlike files other (receives_metadata stored checksum_kind size source destination m files r) (receives_metadata stored checksum_kind size source destination m other r)
  on-metadata stored checksum_kind size source destination m r =
      let info : FileInfo = record { checksum_kind = checksum_kind; destination = destination } in
      let r1 : ReceiverState = record r { metadata = Some info; nak_count = 0 } in
      either (is_some r.metadata) (rests (leaving m files r))
      (through (telling (indication.MetadataRecv r.addressing.id source destination size ∷ [])) (λ a f. refl)
      (either (is_supported checksum_kind) (completes stored (Some info) r.ending m r1) (rests (faulted unsupported_checksum_type m files r1))))

  on-new : (stored : Stored) (offset : ℕ) (bytes : List ℕ) (m : OctetMap) (r : ReceiverState) →
      PublishesAlike files other (receives_new stored offset bytes m files r) (receives_new stored offset bytes m other r)
  on-new Done offset bytes m r = completes Done r.metadata r.ending (staged_with m (new_pieces r.held offset bytes)) (with_data offset bytes r)
  on-new Refused offset bytes m r = rests (faulted filestore_rejection m files r)

  on-data : (stored : Stored) (large : Bool) (offset : ℕ) (bytes : List ℕ) (m : OctetMap) (r : ReceiverState) →
      PublishesAlike files other (receives_data stored large offset bytes m files r) (receives_data stored large offset bytes m other r)
  on-data stored large offset bytes m r =
      either (exceeds large r.ending (offset + length bytes)) (rests (faulted file_size_error m files r))
      (either (set.is_subset (range offset (offset + length bytes)) r.held) (completes stored r.metadata r.ending m r) (on-new stored offset bytes m r))

  on-eof : (stored : Stored) (large : Bool) (condition checksum size : ℕ) (m : OctetMap) (r : ReceiverState) →
      PublishesAlike files other (receives_eof stored large condition checksum size m files r) (receives_eof stored large condition checksum size m other r)
  on-eof stored large condition checksum size m r =
      let ending : Ending = record { checksum = checksum; size = size } in
      let r1 : ReceiverState = record r { ending = Some ending; ack_due = Some no_error; nak_cursor = Some 0 } in
      either (not (condition == no_error)) (rests (cancelled_by condition m files r))
      (either (is_none r.ending)
      (through (telling (indication.EofRecv r.addressing.id ∷ [])) (λ a f. refl)
      (either (contradicts large size r) (rests (faulted file_size_error m files r1)) (completes stored r.metadata (Some ending) m r1)))
      (rests (leaving m files (record r { ack_due = Some no_error; nak_cursor = Some 0 }))))

  -- ---- what is heard
  hears : (stored : Stored) (large : Bool) (v : Content) (m : OctetMap) (r : ReceiverState) →
      PublishesAlike files other (hears_content stored large v m files r) (hears_content stored large v m other r)
  hears stored large (Metadata kind size source destination options) m r =
      through heard (λ a f. refl) (either (is_receiving r.phase) (on-metadata stored kind size source destination m r) (rests (leaving m files r)))
  hears stored large (FileData offset bytes) m r = through heard (λ a f. refl) (either (is_receiving r.phase) (on-data stored large offset bytes m r) (rests (leaving m files r)))
  hears stored large (Eof condition checksum size tlvs) m r =
      through heard (λ a f. refl)
      (either (is_receiving r.phase) (on-eof stored large condition checksum size m r) (rests (leaving m files (record r { ack_due = Some condition }))))
  hears stored large (Ack acknowledged.Finished condition status) m r = rests (hears_ack m files r)
  hears stored large (Ack acknowledged.Eof condition status) m r = rests (leaving m files r)
  hears stored large (Prompt keep_alive) m r = rests (hears_prompt keep_alive m files r)
  hears stored large (Finished condition delivery status tlvs) m r = rests (leaving m files r)
  hears stored large (Nak start end pairs) m r = rests (leaving m files r)
  hears stored large (KeepAlive progress) m r = rests (leaving m files r)

  -- ---- timers
  on-fault : (handler : Handler) (condition : ℕ) (m : OctetMap) (r : ReceiverState) →
      PublishesAlike files other (handled handler condition m files r) (handled handler condition m other r)
  on-fault Cancel condition m r = rests (handled Cancel condition m files r)
  on-fault Suspend condition m r = rests (handled Suspend condition m files r)
  on-fault Ignore condition m r = rests (handled Ignore condition m files r)
  on-fault Abandon condition m r = rests (handled Abandon condition m files r)

  asks-again : (handler : Handler) {a b : ReceiverAfter} → PublishesAlike files other a b → PublishesAlike files other (asking_again handler a) (asking_again handler b)
  asks-again Ignore h = through (asking_again Ignore) (λ a f. refl) h
  asks-again Cancel h = h
  asks-again Suspend h = h
  asks-again Abandon h = h

  on-nak : (count : Option ℕ) (handler : Handler) (m : OctetMap) (r : ReceiverState) →
      PublishesAlike files other (nak_expires count handler m files r) (nak_expires count handler m other r)
  on-nak (Some count) handler m r = rests (nak_expires (Some count) handler m files r)
  on-nak None handler m r = asks-again handler (on-fault handler nak_limit m r)

  on-finished : (count : Option ℕ) (m : OctetMap) (r : ReceiverState) → PublishesAlike files other (finished_expires count m files r) (finished_expires count m other r)
  on-finished (Some count) m r = rests (finished_expires (Some count) m files r)
  on-finished None m r = on-fault Abandon positive_ack_limit m r

  on-expiry : (k : Kind) (policy : Policy) (m : OctetMap) (r : ReceiverState) → PublishesAlike files other (expires_by k policy m files r) (expires_by k policy m other r)
  on-expiry kind.Nak policy m r = on-nak (another_try r.nak_count policy.limits.nak) policy.handlers.nak m r
  on-expiry kind.FinishedAck policy m r = on-finished (another_try r.finished_count policy.limits.finished) m r
  on-expiry kind.Inactivity policy m r = on-fault policy.handlers.inactivity inactivity m r
  on-expiry kind.EofAck policy m r = rests (leaving m files r)

  -- ---- every step
  pub step-alike : (stored : Stored) (input : ReceiverInput) (m : OctetMap) (r : ReceiverState) →
      PublishesAlike files other (receiver_step stored input m files r) (receiver_step stored input m other r)
  step-alike stored (Hears large v) m r = hears stored large v m (flagged large r)
  step-alike stored (Takes d) m r = rests (takes d m files r)
  step-alike stored (Expires k policy) m r =
      either (waits k r) (through (λ a. record (tidying a) { anew = anew_once_expired k }) (λ a f. refl) (on-expiry k policy m r)) (rests (leaving m files r))
  step-alike stored Cancels m r = either (is_receiving r.phase) (rests (ends (failed cancel_request) m files r)) (rests (leaving m files r))
  step-alike stored Suspends m r =
      either (is_receiving r.phase && not r.suspended)
      (rests (telling (indication.Suspended r.addressing.id suspend_request ∷ []) (leaving m files (record r { suspended = true })))) (rests (leaving m files r))
  step-alike stored Resumes m r =
      either r.suspended
      (rests (telling (indication.Resumed r.addressing.id ∷ []) (leaving m files (record r { suspended = false; nak_count = 0; finished_count = 0 })))) (rests (leaving m files r))

  pub opens-alike : (stored : Stored) (large : Bool) (addressing : Addressing) → PublishesAlike files other (opens stored large files addressing) (opens stored large other addressing)
  opens-alike Done large addressing = rests (opens Done large files addressing)
  opens-alike Refused large addressing = rests (opens Refused large files addressing)
