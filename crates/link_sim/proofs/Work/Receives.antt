-- Each PDU that a receiver sends or hears, or that opens one, lowers the work that remains.
use Rattle.std.proofs.Common.{◌≡◌, ℕ, ◌+◌, ◌-◌, ◌*◌, ◌<◌, ◌≤◌, Bool, true, false, not, List, [], ◌∷◌, length, Option, Some, None, IfSome, is_none, is_some, refl, sym, subst, arith, ◌==◌, ◌&&◌, if◌then◌else◌}
use Rattle.std.specs.FinMap as map
use Rattle.std.specs.FinSet as set
use Rattle.std.proofs.Math.Nat.{mul-le-mul_right, add-mul}
use Rattle.std.proofs.lemmas.Bool.{cond_both}
use Rattle.cfdp_header.specs.Files.{FileMap}
use Rattle.cfdp_extents.specs.Offsets.{Offsets, range}
use Rattle.cfdp_extents.proofs.CallerLemmas.{end-within}
use Rattle.cfdp_directives.specs.declared.pdu.addressing.Addressing.{Addressing}
use Rattle.cfdp_directives.specs.declared.pdu.codes.Acknowledged.TheVariants as acknowledged
use Rattle.cfdp_directives.specs.declared.user.indication.Indication.TheVariants as indication
use Rattle.cfdp_directives.specs.declared.user.telling.Outcome.{Outcome}
use Rattle.cfdp_directives.specs.Pdu.Codes.{no_error, file_checksum_failure, file_size_error, unsupported_checksum_type}
use Rattle.cfdp_directives.specs.Pdu.Content.{Content, FileData, Metadata, Eof, Finished, Ack, Nak, Prompt, KeepAlive}
use Rattle.cfdp_store.specs.declared.stored.Stored.{Stored}
use Rattle.cfdp_store.specs.declared.stored.Stored.TheVariants.{Done, Refused}
use Rattle.cfdp_store.specs.Staged.{OctetMap}
use Rattle.cfdp_receiver.specs.declared.due.Due.{Due}
use Rattle.cfdp_receiver.specs.declared.due.Due.TheVariants as due
use Rattle.cfdp_receiver.specs.declared.state.ReceiverPhase.{ReceiverPhase}
use Rattle.cfdp_receiver.specs.declared.state.ReceiverPhase.TheVariants.{Receiving, Finishing, Closed}
use Rattle.cfdp_receiver.specs.declared.state.FileInfo.{FileInfo}
use Rattle.cfdp_receiver.specs.declared.state.Ending.{Ending}
use Rattle.cfdp_receiver.specs.State.{ReceiverState, opened_receiver, flagged, is_receiving, is_finishing}
use Rattle.cfdp_receiver.specs.Missing.{limit_by, scope_limit, missing_pairs, is_empty, asked, has_more, last_end, next_cursor, cursor_by, tidied}
use Rattle.cfdp_receiver.specs.Due.{keep_alive_first, pairs_first, nak_first, finished_by, phase_due, ack_first, receiver_due, receiver_says, receiver_taken}
use Rattle.cfdp_receiver.specs.Pieces.{new_pieces, staged_with}
use Rattle.cfdp_receiver.specs.Steps.{ReceiverAfter, leaving, telling, heard, closed, faulted, agrees, published_by, completed_by, completed, is_supported, receives_metadata, exceeds, with_data, receives_new, receives_data, contradicts, first_eof, cancelled_by, receives_eof, acknowledged_by, prompted_for, opened_closed}
use Rattle.cfdp_receiver.specs.Sound.{hears_content, receiver_hears, opens_hearing}
use Rattle.cfdp_endings.proofs.Cursor.{cursor-moves}
use Rattle.cfdp_entity.specs.Steps.{receiver_after}
use Rattle.link_sim.specs.Work.{nak_work, nak_due_work, heard_work, opening_work, content_work, ack_work, cursor_work, receiving_work, receiver_work, IsReceiverWithin}
use Rattle.link_sim.proofs.Course.Receives.{after-is}

some_is : {X : Type 0} (x y : X) → Some x ≡ Some y → y ≡ x
some_is x y e = cc

-- ---- a NAK that is due
more-times : (a b k : ℕ) → a + 1 ≤ b → a * k + k ≤ b * k
more-times a b k h =
    let up : (a + 1) * k ≤ b * k = mul-le-mul_right k h in
    let split : (a + 1) * k ≡ a * k + 1 * k = add-mul a 1 k in
    omega (arith, up, split)

nak-moves : (most from next : ℕ) → from < next → next ≤ most → nak_due_work most next + nak_work most < nak_due_work most from
unfolding nak_due_work
nak-moves most from next some within =
    omega (arith, more-times (most - next + 1) (most - from + 1) (nak_work most + 1) (omega arith))

nak-ends : (most from : ℕ) → nak_work most < nak_due_work most from
unfolding nak_due_work
nak-ends most from = omega (arith, more-times 0 (most - from + 1) (nak_work most + 1) (omega arith))

limit-by-within : (most : ℕ) (ending : Option Ending) (held : Offsets) → ((n : ℕ) → set.contains held n ≡ true → n < most) → ((e : Ending) → ending ≡ Some e → e.size ≤ most) → limit_by ending held
    ≤ most
limit-by-within most (Some ending) held h e = e ending refl
limit-by-within most None held h e = end-within held most h

limit-within : (most : ℕ) (r : ReceiverState) → r.phase ≡ Receiving → IsReceiverWithin most r → scope_limit r ≤ most
limit-within most r is w = limit-by-within most r.ending r.held w.held (λ e same. by r.ending e same (w.ending is))
  where
    by : (o : Option Ending) (e : Ending) → o ≡ Some e → IfSome o (λ e. e.size ≤ most) → e.size ≤ most
    by (Some x) e same h = let is : x ≡ e = cc in subst (λ (y : Ending). y.size ≤ most) is h
    by None e same h = absurd cc

-- ---- what is sent
-- Sending what is due lowers the receiver's work by more than the PDU that is then on its way.
abbrev pub ReceiverFalls : ℕ → ReceiverState → Due → Type 0
ReceiverFalls most r d = receiver_work most (receiver_taken d r) + content_work most (receiver_says r d) < receiver_work most r

abbrev FallsIf : ℕ → ReceiverState → Due → Option Due → Type 0
FallsIf most r d o = o ≡ Some d → ReceiverFalls most r d

module _ (most : ℕ) (r : ReceiverState) where
  cursor-falls : (from : ℕ) (pairs : List (ℕ × ℕ)) → (has_more pairs ≡ true → (from < last_end 0 (asked pairs)) × (last_end 0 (asked pairs) ≤ most)) → cursor_work most (next_cursor pairs)
      + nak_work most < nak_due_work most from
  cursor-falls from pairs moves =
      cond_both (has_more pairs) (Some (last_end 0 (asked pairs))) None (λ o. cursor_work most o + nak_work most < nak_due_work most from)
      (λ more. let b = moves more in nak-moves most from (last_end 0 (asked pairs)) b.0 b.1)
      (λ _. omega (arith, nak-ends most from))

  nak-falls : (from : ℕ) → IsReceiverWithin most r → r.phase ≡ Receiving → r.nak_cursor ≡ Some from → ReceiverFalls most r (due.Nak from)
  nak-falls from within is cursor =
      let limit : scope_limit r ≤ most = limit-within most r is within in
      let moves : has_more (missing_pairs from r) ≡ true → (from < last_end 0 (asked (missing_pairs from r))) × (last_end 0 (asked (missing_pairs from r)) ≤ most) =
      λ more. (let b = cursor-moves r from more in let high : last_end 0 (asked (missing_pairs from r)) ≤ scope_limit r = b.1 in (b.0, omega arith)) in
      rw (is, cursor) (omega (arith, cursor-falls from (missing_pairs from r) moves))

  keep-alive-falls : (d : Due) (b : Bool) → r.phase ≡ Receiving → r.keep_alive_due ≡ b → FallsIf most r d (keep_alive_first b)
  keep-alive-falls d true is waits e = rw (some_is due.KeepAlive d e, is, waits) (omega arith)
  keep-alive-falls d false is waits e = cc

  pairs-falls : (d : Due) (from : ℕ) (pairs : List (ℕ × ℕ)) → IsReceiverWithin most r → r.phase ≡ Receiving → r.nak_cursor ≡ Some from → FallsIf most r d (pairs_first from pairs r)
  pairs-falls d from [] within is cursor e = keep-alive-falls d r.keep_alive_due is refl e
  pairs-falls d from (p ∷ ps) within is cursor e = subst (ReceiverFalls most r) (sym (some_is (due.Nak from) d e)) (nak-falls from within is cursor)

  nak-first-falls : (d : Due) (cursor : Option ℕ) → IsReceiverWithin most r → r.phase ≡ Receiving → r.nak_cursor ≡ cursor → FallsIf most r d (nak_first cursor r)
  nak-first-falls d (Some from) within is cursor e = pairs-falls d from (missing_pairs from r) within is cursor e
  nak-first-falls d None within is cursor e = keep-alive-falls d r.keep_alive_due is refl e

  finished-falls : (d : Due) (waits : Bool) (outcome : Option Outcome) → r.phase ≡ Finishing → r.finished_due ≡ waits → FallsIf most r d (finished_by waits outcome)
  finished-falls d true (Some o) is waits e = rw (some_is (due.Finished o) d e, is, waits) (omega arith)
  finished-falls d true None is waits e = cc
  finished-falls d false o is waits e = cc

  phase-falls : (d : Due) (phase : ReceiverPhase) → IsReceiverWithin most r → r.phase ≡ phase → FallsIf most r d (phase_due phase r)
  phase-falls d Receiving within is e = nak-first-falls d r.nak_cursor within is refl e
  phase-falls d Finishing within is e = finished-falls d r.finished_due r.outcome is refl e
  phase-falls d Closed within is e = cc

  ack-falls : (d : Due) (ack : Option ℕ) → IsReceiverWithin most r → r.ack_due ≡ ack → FallsIf most r d (ack_first ack r)
  ack-falls d (Some condition) within is e = rw (some_is (due.AckOfEof condition) d e, is) (omega arith)
  ack-falls d None within is e = phase-falls d r.phase within refl e

  pub receiver-falls : (d : Due) → IsReceiverWithin most r → receiver_due r ≡ Some d → ReceiverFalls most r d
  receiver-falls d within e = cond_both r.suspended None (ack_first r.ack_due r) (FallsIf most r d) (λ _ e. cc) (λ _ e. ack-falls d r.ack_due within refl e) e

-- ---- what is heard
-- a step leaves a receiver with at most so much
abbrev LeavesWithin : ℕ → ℕ → ReceiverAfter → Type 0
LeavesWithin most n a = receiver_work most a.receiver ≤ n

-- the work of a receiver that receives
abbrev open_work : ℕ → ReceiverState → ℕ
open_work most r = ack_work r.ack_due + (cursor_work most r.nak_cursor + (if r.keep_alive_due then 2 else 0) + 5)

receiving-works : (most : ℕ) (r : ReceiverState) → r.phase ≡ Receiving → receiver_work most r ≡ open_work most r
receiving-works most r is = rw is refl

-- a NAK with nothing to ask for is over
cursor_by-works : (most : ℕ) (cursor : Option ℕ) (r : ReceiverState) → cursor_work most (cursor_by cursor r) ≤ cursor_work most cursor
cursor_by-works most None r = omega arith
cursor_by-works most (Some from) r = cond_both (is_empty (missing_pairs from r)) None (Some from) (λ o. cursor_work most o ≤ nak_due_work most from) (λ _. omega arith) (λ _. omega arith)

receiving_mono : (phase : ReceiverPhase) (a b : ℕ) (waits : Bool) → a ≤ b → receiving_work phase a waits ≤ receiving_work phase b waits
receiving_mono Receiving a b waits h = omega arith
receiving_mono Finishing a b waits h = omega arith
receiving_mono Closed a b waits h = omega arith

tidied-works : (most : ℕ) (r : ReceiverState) → receiver_work most (tidied r) ≤ receiver_work most r
tidied-works most r =
    let less : cursor_work most (cursor_by r.nak_cursor r) ≤ cursor_work most r.nak_cursor = cursor_by-works most r.nak_cursor r in
    let h : receiving_work r.phase (cursor_work most (cursor_by r.nak_cursor r) + (if r.keep_alive_due then 2 else 0)) r.finished_due
    ≤ receiving_work r.phase (cursor_work most r.nak_cursor + (if r.keep_alive_due then 2 else 0)) r.finished_due =
    receiving_mono r.phase _ _ r.finished_due (omega (arith, less)) in
    omega (arith, h)

heard-works : (most n : ℕ) (a : ReceiverAfter) → LeavesWithin most n a → LeavesWithin most n (heard a)
heard-works most n a h = omega (arith, h, tidied-works most a.receiver)

receives : (p : ReceiverPhase) → is_receiving p ≡ true → p ≡ Receiving
receives Receiving h = refl
receives Finishing h = cc
receives Closed h = cc

-- a step that is taken while it receives, and another one otherwise
by-phase : (most n : ℕ) (r : ReceiverState) (a b : ReceiverAfter) → (r.phase ≡ Receiving → LeavesWithin most n a) → LeavesWithin most n b →
    LeavesWithin most n (heard (if is_receiving r.phase then a else b))
by-phase most n r a b h g = heard-works most n (if is_receiving r.phase then a else b)
    (cond_both (is_receiving r.phase) a b (LeavesWithin most n) (λ is. h (receives r.phase is)) (λ _. g))

module _ (most : ℕ) (files : FileMap) where
  quiet-works : (m : OctetMap) (r : ReceiverState) → r.phase ≡ Receiving → LeavesWithin most (open_work most r) (leaving m files r)
  quiet-works m r is = rw is (omega arith)

  published_by-works : (stored : Stored) (info : FileInfo) (ending : Ending) (m : OctetMap) (r : ReceiverState) → LeavesWithin most (open_work most r) (published_by stored info ending m files r)
  published_by-works Done info ending m r = omega arith
  published_by-works Refused info ending m r = omega arith

  completed_by-works : (stored : Stored) (info : Option FileInfo) (ending : Option Ending) (m : OctetMap) (r : ReceiverState) → r.phase ≡ Receiving →
      LeavesWithin most (open_work most r) (completed_by stored info ending m files r)
  completed_by-works stored (Some info) (Some ending) m r is =
      cond_both (set.is_subset (range 0 ending.size) r.held) (if agrees info ending r.sums then published_by stored info ending m files r else faulted file_checksum_failure m files r)
      (leaving m files r) (LeavesWithin most (open_work most r))
      (λ _. cond_both (agrees info ending r.sums) (published_by stored info ending m files r) (faulted file_checksum_failure m files r) (LeavesWithin most (open_work most r))
      (λ _. published_by-works stored info ending m r)
      (λ _. omega arith))
      (λ _. quiet-works m r is)
  completed_by-works stored (Some info) None m r is = quiet-works m r is
  completed_by-works stored None ending m r is = quiet-works m r is

  metadata-works : (stored : Stored) (kind size : ℕ) (source destination : List ℕ) (m : OctetMap) (r : ReceiverState) → r.phase ≡ Receiving →
      LeavesWithin most (open_work most r) (receives_metadata stored kind size source destination m files r)
  metadata-works stored kind size source destination m r is =
      let r1 : ReceiverState = record r { metadata = Some (record { checksum_kind = kind; destination = destination }); nak_count = 0 } in
      cond_both (is_some r.metadata) (leaving m files r) (telling (indication.MetadataRecv r.addressing.id source destination size ∷ [])
      (if is_supported kind then completed stored m files r1 else faulted unsupported_checksum_type m files r1)) (LeavesWithin most (open_work most r))
      (λ _. quiet-works m r is)
      (λ _. cond_both (is_supported kind) (completed stored m files r1) (faulted unsupported_checksum_type m files r1) (LeavesWithin most (open_work most r))
      (λ _. completed_by-works stored r1.metadata r1.ending m r1 is) (λ _. omega arith))

  new-works : (stored : Stored) (offset : ℕ) (bytes : List ℕ) (m : OctetMap) (r : ReceiverState) → r.phase ≡ Receiving →
      LeavesWithin most (open_work most r) (receives_new stored offset bytes m files r)
  new-works Done offset bytes m r is = completed_by-works Done r.metadata r.ending (staged_with m (new_pieces r.held offset bytes)) (with_data offset bytes r) is
  new-works Refused offset bytes m r is = omega arith

  data-works : (stored : Stored) (large : Bool) (offset : ℕ) (bytes : List ℕ) (m : OctetMap) (r : ReceiverState) → r.phase ≡ Receiving →
      LeavesWithin most (open_work most r) (receives_data stored large offset bytes m files r)
  data-works stored large offset bytes m r is =
      cond_both (exceeds large r.ending (offset + length bytes)) (faulted file_size_error m files r)
      (if set.is_subset (range offset (offset + length bytes)) r.held then completed stored m files r else receives_new stored offset bytes m files r) (LeavesWithin most (open_work most r))
      (λ _. omega arith)
      (λ _. cond_both (set.is_subset (range offset (offset + length bytes)) r.held) (completed stored m files r) (receives_new stored offset bytes m files r) (LeavesWithin most (open_work most r))
      (λ _. completed_by-works stored r.metadata r.ending m r is)
      (λ _. new-works stored offset bytes m r is))

  first_eof-works : (stored : Stored) (large : Bool) (checksum size : ℕ) (m : OctetMap) (r : ReceiverState) → r.phase ≡ Receiving →
      LeavesWithin most (open_work most r + nak_due_work most 0 + 2) (first_eof stored large checksum size m files r)
  first_eof-works stored large checksum size m r is =
      let r1 : ReceiverState = record r { ending = Some (record { checksum = checksum; size = size }); ack_due = Some no_error; nak_cursor = Some 0 } in
      cond_both (contradicts large size r) (faulted file_size_error m files r1) (completed stored m files r1) (LeavesWithin most (open_work most r + nak_due_work most 0 + 2))
      (λ _. omega arith) (λ _. let h : LeavesWithin most (open_work most r1) (completed stored m files r1) = completed_by-works stored r1.metadata r1.ending m r1 is in omega (arith, h))

  eof-works : (stored : Stored) (large : Bool) (condition checksum size : ℕ) (m : OctetMap) (r : ReceiverState) → r.phase ≡ Receiving →
      LeavesWithin most (open_work most r + nak_due_work most 0 + 2) (receives_eof stored large condition checksum size m files r)
  eof-works stored large condition checksum size m r is =
      cond_both (not (condition == no_error)) (cancelled_by condition m files r)
      (if is_none r.ending then first_eof stored large checksum size m files r else leaving m files (record r { ack_due = Some no_error; nak_cursor = Some 0 }))
      (LeavesWithin most (open_work most r + nak_due_work most 0 + 2))
      (λ _. omega arith)
      (λ _. cond_both (is_none r.ending) (first_eof stored large checksum size m files r) (leaving m files (record r { ack_due = Some no_error; nak_cursor = Some 0 }))
      (LeavesWithin most (open_work most r + nak_due_work most 0 + 2))
      (λ _. first_eof-works stored large checksum size m r is)
      (λ _. rw is (omega arith)))

  prompt-works : (keep_alive : Bool) (m : OctetMap) (r : ReceiverState) → r.phase ≡ Receiving →
      LeavesWithin most (open_work most r + nak_due_work most 0 + 2) (leaving m files (prompted_for keep_alive r))
  prompt-works true m r is = rw is (omega arith)
  prompt-works false m r is = rw is (omega arith)

-- A PDU that is heard leaves less than the receiver and the PDU had.
abbrev pub Lowers : ℕ → Content → ReceiverState → ReceiverAfter → Type 0
Lowers most v r a = receiver_work most a.receiver + 1 ≤ receiver_work most r + heard_work most v

content-works : (most : ℕ) (stored : Stored) (large : Bool) (v : Content) (m : OctetMap) (files : FileMap) (r : ReceiverState) → Lowers most v r (hears_content stored large v m files r)
content-works most stored large (Metadata kind size source destination options) m files r =
    let h : LeavesWithin most (receiver_work most r) (hears_content stored large (Metadata kind size source destination options) m files r) =
    by-phase most (receiver_work most r) r (receives_metadata stored kind size source destination m files r) (leaving m files r)
    (λ is. omega (arith, metadata-works most files stored kind size source destination m r is, receiving-works most r is)) (omega arith) in
    omega (arith, h)
content-works most stored large (FileData offset bytes) m files r =
    let h : LeavesWithin most (receiver_work most r) (hears_content stored large (FileData offset bytes) m files r) =
    by-phase most (receiver_work most r) r (receives_data stored large offset bytes m files r) (leaving m files r)
    (λ is. omega (arith, data-works most files stored large offset bytes m r is, receiving-works most r is)) (omega arith) in
    omega (arith, h)
content-works most stored large (Eof condition checksum size tlvs) m files r =
    let h : LeavesWithin most (receiver_work most r + nak_due_work most 0 + 2) (hears_content stored large (Eof condition checksum size tlvs) m files r) =
    by-phase most (receiver_work most r + nak_due_work most 0 + 2) r (receives_eof stored large condition checksum size m files r) (leaving m files (record r { ack_due = Some condition }))
    (λ is. omega (arith, eof-works most files stored large condition checksum size m r is, receiving-works most r is)) (omega arith) in
    omega (arith, h)
content-works most stored large (Ack acknowledged.Finished condition status) m files r =
    let g : LeavesWithin most (receiver_work most r) (leaving m files (acknowledged_by r)) =
    cond_both (is_finishing r.phase && r.finished_taken) (closed r) r (λ (r1 : ReceiverState). receiver_work most r1 ≤ receiver_work most r) (λ _. omega arith) (λ _. omega arith) in
    let h : LeavesWithin most (receiver_work most r) (hears_content stored large (Ack acknowledged.Finished condition status) m files r) =
    heard-works most (receiver_work most r) (leaving m files (acknowledged_by r)) g in
    omega (arith, h)
content-works most stored large (Prompt keep_alive) m files r =
    let g : LeavesWithin most (receiver_work most r + nak_due_work most 0 + 2) (leaving m files (if is_receiving r.phase then prompted_for keep_alive r else r)) =
    cond_both (is_receiving r.phase) (prompted_for keep_alive r) r (λ (r1 : ReceiverState). receiver_work most r1 ≤ receiver_work most r + nak_due_work most 0 + 2)
    (λ is. omega (arith, prompt-works most files keep_alive m r (receives r.phase is), receiving-works most r (receives r.phase is))) (λ _. omega arith) in
    let h : LeavesWithin most (receiver_work most r + nak_due_work most 0 + 2) (hears_content stored large (Prompt keep_alive) m files r) =
    heard-works most (receiver_work most r + nak_due_work most 0 + 2) (leaving m files (if is_receiving r.phase then prompted_for keep_alive r else r)) g in
    omega (arith, h)
content-works most stored large (Ack acknowledged.Eof condition status) m files r = omega arith
content-works most stored large (Finished condition delivery status tlvs) m files r = omega arith
content-works most stored large (Nak start end pairs) m files r = omega arith
content-works most stored large (KeepAlive progress) m files r = omega arith

pub receiver-hears-works : (most : ℕ) (stored : Stored) (large : Bool) (v : Content) (m : OctetMap) (files : FileMap) (r : ReceiverState) → Lowers most v r (receiver_hears stored large v m files r)
receiver-hears-works most stored large v m files r = content-works most stored large v m files (flagged large r)

pub receiver-after-works : (most : ℕ) (stored : Stored) (large : Bool) (v : Content) (m : OctetMap) (files : FileMap) (r : ReceiverState) (a : ReceiverAfter) →
    receiver_after stored large v m files r ≡ Some a →
    Lowers most v r a
receiver-after-works most stored large v m files r a e = subst (Lowers most v r) (sym (after-is stored large v m files r a e)) (receiver-hears-works most stored large v m files r)

-- ---- opening
pub heard-some : (most : ℕ) (v : Content) → 1 ≤ heard_work most v
heard-some most (FileData offset bytes) = omega arith
heard-some most (Metadata kind size source destination options) = omega arith
heard-some most (Eof condition checksum size tlvs) = omega arith
heard-some most (Finished condition delivery status tlvs) = omega arith
heard-some most (Ack of condition status) = omega arith
heard-some most (Nak start end pairs) = omega arith
heard-some most (Prompt keep_alive) = omega arith
heard-some most (KeepAlive progress) = omega arith

-- a PDU that opens a receiver counted it
pub opens-hearing-works : (most : ℕ) (begun stored : Stored) (large : Bool) (v : Content) (files : FileMap) (addressing : Addressing) → opening_work v ≡ 5 →
    receiver_work most (opens_hearing begun stored large v files addressing).receiver + 1 ≤ content_work most v
opens-hearing-works most Done stored large v files addressing may =
    let h : Lowers most v (opened_receiver addressing) (receiver_hears stored large v map.empty files (opened_receiver addressing)) =
    receiver-hears-works most stored large v map.empty files (opened_receiver addressing) in
    omega (arith, h, may)
opens-hearing-works most Refused stored large v files addressing may = omega (arith, heard-some most v, may)

pub opened-closed-works : (most : ℕ) (large : Bool) (condition : ℕ) (v : Content) (addressing : Addressing) → opening_work v ≡ 5 →
    receiver_work most (opened_closed large condition addressing) + 1 ≤ content_work most v
opened-closed-works most large condition v addressing may = omega (arith, heard-some most v, may)
