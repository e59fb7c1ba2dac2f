-- What a true PDU leaves of a receiver that knows nothing but the truth of a put.
use Rattle.std.proofs.Common.{◌≡◌, ◌⊎◌, inl, inr, ℕ, ◌+◌, ◌&&◌, ◌||◌, not, Bool, true, false, List, [], ◌∷◌, length, Option, Some, None, is_none, is_some, refl, sym, ap, subst, ◌∙◌, if◌then◌else◌}
use Rattle.std.specs.Prelude.{IfSome}
use Rattle.std.specs.FinSet as set
use Rattle.std.specs.Cmp.{nat_cmp_total}
use Rattle.std.proofs.lemmas.Bool.{false≢true, true≢false, both_ways, cond_both, or_left, or_right}
use Rattle.cfdp_header.specs.Files.{FileMap}
use Rattle.cfdp_directives.specs.declared.pdu.codes.Acknowledged.TheVariants as acknowledged
use Rattle.cfdp_directives.specs.declared.pdu.codes.TransactionStatus.{TransactionStatus}
use Rattle.cfdp_directives.specs.declared.user.indication.Indication.{Indication}
use Rattle.cfdp_directives.specs.declared.user.indication.Indication.TheVariants as indication
use Rattle.cfdp_directives.specs.Pdu.Codes.{no_error, filestore_rejection, file_size_error, unsupported_checksum_type}
use Rattle.cfdp_directives.specs.Pdu.Content.{Content, FileData, Metadata, Eof, Finished, Ack, Nak, Prompt, KeepAlive}
use Rattle.cfdp_directives.specs.User.Put.{Put}
use Rattle.cfdp_directives.specs.Pdu.Tlv.{Tlv}
use Rattle.cfdp_extents.specs.Offsets.{range}
use Rattle.cfdp_store.specs.declared.stored.Stored.{Stored}
use Rattle.cfdp_store.specs.declared.stored.Stored.TheVariants.{Done, Refused}
use Rattle.cfdp_store.specs.Staged.{OctetMap}
use Rattle.cfdp_receiver.specs.declared.state.ReceiverPhase.{ReceiverPhase}
use Rattle.cfdp_receiver.specs.declared.state.ReceiverPhase.TheVariants.{Receiving, Finishing, Closed}
use Rattle.cfdp_receiver.specs.declared.state.FileInfo.{FileInfo}
use Rattle.cfdp_receiver.specs.declared.state.Ending.{Ending}
use Rattle.cfdp_receiver.specs.Missing.{tidied}
use Rattle.cfdp_receiver.specs.Pieces.{new_pieces, staged_with}
use Rattle.cfdp_receiver.specs.Sound.{is_whole, is_done, asks_from, hears_content, receiver_hears}
use Rattle.cfdp_receiver.specs.State.{ReceiverState, flagged, is_receiving, is_finishing}
use Rattle.cfdp_receiver.specs.Steps.{ReceiverAfter, leaving, telling, closed, faulted, completed, is_supported, receives_metadata, exceeds, with_data, receives_new, receives_data, contradicts, first_eof, receives_eof, acknowledged_by, prompted_for}
use Rattle.cfdp_receiver.proofs.Facts.{is_receiving-is}
use Rattle.cfdp_extents.proofs.Members.{contains-range}
use Rattle.link_sim.specs.Course.{IsReceiverTrue}
use Rattle.link_sim.specs.Exchange.{is_metadata, is_eof, is_ack_of_finished, brings, IsTrueForth, once_ended, if_ended, has_finished, is_closed_in, is_closed, is_no_error, owes_ack}
use Rattle.link_sim.specs.Waiting.{spoils, one_tells}
use Rattle.link_sim.proofs.Course.Steps.{Advances}
use Rattle.link_sim.proofs.Course.Gains.{Gains, After, gains-waits, faults-not, completes, telling-first, tidied-tidy}

-- ---- while it receives
module _ (put : Put) (stored : Stored) (m : OctetMap) (files : FileMap) (r : ReceiverState) (c : IsReceiverTrue put r) (own : r.addressing.id ≡ put.id) (is : r.phase ≡ Receiving) where
  abbrev To : Content → ReceiverAfter → Type 0
  To v a = After put v r is a

  -- a PDU with nothing that is wanted, and a change of what is due alone
  record Same (r1 : ReceiverState) : Type 0 where
    pub addressing : r1.addressing ≡ r.addressing
    pub phase : r1.phase ≡ r.phase
    pub suspended : r1.suspended ≡ r.suspended
    pub metadata : r1.metadata ≡ r.metadata
    pub ending : r1.ending ≡ r.ending
    pub held : r1.held ≡ r.held

  stays : (v : Content) (r1 : ReceiverState) → Same r1 → (is_metadata v ≡ true → is_some r.metadata ≡ true) → (is_eof v ≡ true → is_some r.ending ≡ true) →
      ((n : ℕ) → brings n v ≡ true → set.contains r.held n ≡ true)
      → ((owes_ack r ≡ true) ⊎ (is_eof v ≡ true) → owes_ack r1 ≡ true) → (owes_ack r1 ≡ true → (owes_ack r ≡ true) ⊎ (is_eof v ≡ true)) → Gains put v r r1
  stays v r1 s m e d acks ack_new = record {
    phase = s.phase ∙ is;
    own = ap (λ a. a.id) s.addressing ∙ own;
    active = λ h. s.suspended ∙ h;
    heard = λ h. inl (sym (ap is_some s.ending) ∙ h);
    acks = acks;
    ack_new = ack_new;
    ending_is = subst (λ (o : Option Ending). IfSome o (λ e. e.size ≡ length put.octets)) (sym s.ending) (c.ending is);
    metadata = λ h. ap is_some s.metadata ∙ elim h [ inl was ↦ was | inr now ↦ m now ];
    ending = λ h. ap is_some s.ending ∙ elim h [ inl was ↦ was | inr now ↦ e now ];
    held = λ n h. ap (λ o. set.contains o n) s.held ∙ elim h [ inl was ↦ was | inr now ↦ d n now ];
  }

  lacks : is_whole r.metadata r.ending r.held ≡ false
  lacks = not-out (is_receiving r.phase) (is_whole r.metadata r.ending r.held) (ap is_receiving is) c.lacking
    where
      not-out : (a b : Bool) → a ≡ true → (not a || not b) ≡ true → b ≡ false
      not-out a false t h = refl
      not-out true true t h = absurd (false≢true h)
      not-out false true t h = absurd (false≢true t)

  stays-waits : (v : Content) (r1 : ReceiverState) → Same r1 → (is_metadata v ≡ true → is_some r.metadata ≡ true) → (is_eof v ≡ true → is_some r.ending ≡ true) →
      ((n : ℕ) → brings n v ≡ true → set.contains r.held n ≡ true)
      → ((owes_ack r ≡ true) ⊎ (is_eof v ≡ true) → owes_ack r1 ≡ true) → (owes_ack r1 ≡ true → (owes_ack r ≡ true) ⊎ (is_eof v ≡ true)) → To v (leaving m files r1)
  stays-waits v r1 s meta e d acks ack_new = gains-waits put v r is m files r1 (stays v r1 s meta e d acks ack_new)
      (ap (λ i. is_whole i r1.ending r1.held) s.metadata ∙ ap (λ e. is_whole r.metadata e r1.held) s.ending ∙ ap (λ o. is_whole r.metadata r.ending o) s.held ∙ lacks)

  itself : Same r
  itself = record { addressing = refl; phase = refl; suspended = refl; metadata = refl; ending = refl; held = refl }

  was_owed : (v : Content) → is_eof v ≡ false → (owes_ack r ≡ true) ⊎ (is_eof v ≡ true) → owes_ack r ≡ true
  was_owed v other (inl h) = h
  was_owed v other (inr h) = absurd (both_ways (is_eof v) other h)

  -- a test of a PDU of another kind
  not_so : {X : Type 0} → false ≡ true → X
  not_so e = absurd (false≢true e)

  -- Metadata
  metadata-advances : (checksum_kind size : ℕ) (source destination : List ℕ) (options : List Tlv) →
      To (Metadata checksum_kind size source destination options) (receives_metadata stored checksum_kind size source destination m files r)
  metadata-advances checksum_kind size source destination options =
      let v : Content = Metadata checksum_kind size source destination options in
      let i : Indication = indication.MetadataRecv r.addressing.id source destination size in
      let info : FileInfo = record { checksum_kind = checksum_kind; destination = destination } in
      let r1 : ReceiverState = record r { metadata = Some info; nak_count = 0 } in
      let tested : ReceiverAfter = if is_supported checksum_kind then completed stored m files r1 else faulted unsupported_checksum_type m files r1 in
      let g : Gains put v r r1 = record {
        phase = is;
        own = own;
        active = λ h. h;
        heard = λ h. inl h;
        acks = was_owed v refl;
        ack_new = λ h. inl h;
        ending_is = c.ending is;
        metadata = λ _. refl;
        ending = λ h. elim h [ inl was ↦ was | inr now ↦ not_so now ];
        held = λ n h. elim h [ inl was ↦ was | inr now ↦ not_so now ];
      } in
      cond_both (is_some r.metadata) (leaving m files r) (telling (i ∷ []) tested) (To v)
      (λ known. stays-waits v r itself (λ _. known) (λ e. not_so e) (λ n e. not_so e) (was_owed v refl) (λ h. inl h))
      (λ _. telling-first put v r is i tested refl
      (cond_both (is_supported checksum_kind) (completed stored m files r1) (faulted unsupported_checksum_type m files r1) (To v)
      (λ _. completes put v r is stored m files r1 g)
      (λ _. faults-not put v r is unsupported_checksum_type m files r1 own refl)))

  -- file data
  new-advances : (stored : Stored) (offset : ℕ) (bytes : List ℕ) → To (FileData offset bytes) (receives_new stored offset bytes m files r)
  new-advances Done offset bytes =
      let v : Content = FileData offset bytes in
      let r1 : ReceiverState = with_data offset bytes r in
      completes put v r is Done (staged_with m (new_pieces r.held offset bytes)) files r1 (record {
        phase = is;
        own = own;
        active = λ h. h;
        heard = λ h. inl h;
        acks = was_owed v refl;
        ack_new = λ h. inl h;
        ending_is = c.ending is;
        metadata = λ h. elim h [ inl was ↦ was | inr now ↦ not_so now ];
        ending = λ h. elim h [ inl was ↦ was | inr now ↦ not_so now ];
        held = λ n h. set.contains-union nat_cmp_total r.held (range offset (offset + length bytes)) n ∙ elim h [
          | inl old ↦ or_left (set.contains r.held n) (set.contains (range offset (offset + length bytes)) n) old
          | inr new ↦ or_right (set.contains r.held n) (set.contains (range offset (offset + length bytes)) n) (contains-range offset (offset + length bytes) n ∙ new)
        ];
      })
  new-advances Refused offset bytes = faults-not put (FileData offset bytes) r is filestore_rejection m files r own refl

  data-advances : (large : Bool) (offset : ℕ) (bytes : List ℕ) → To (FileData offset bytes) (receives_data stored large offset bytes m files r)
  data-advances large offset bytes =
      let v : Content = FileData offset bytes in
      let end : ℕ = offset + length bytes in
      cond_both (exceeds large r.ending end) (faulted file_size_error m files r)
      (if set.is_subset (range offset end) r.held then completed stored m files r else receives_new stored offset bytes m files r)
      (To v)
      (λ _. faults-not put v r is file_size_error m files r own refl)
      (λ _. cond_both (set.is_subset (range offset end) r.held) (completed stored m files r) (receives_new stored offset bytes m files r) (To v)
      (λ all. completes put v r is stored m files r (stays v r itself (λ e. not_so e) (λ e. not_so e)
      (λ n e. set.is_subset-contains nat_cmp_total (range offset end) r.held all n (contains-range offset end n ∙ e)) (was_owed v refl) (λ h. inl h)))
      (λ _. new-advances stored offset bytes))

  -- EOF
  some-since : {X : Type 0} (o : Option X) → is_none o ≡ false → is_some o ≡ true
  some-since (Some e) h = refl
  some-since None h = absurd (true≢false h)

  eof-advances : (large : Bool) (checksum size : ℕ) (tlvs : List Tlv) → size ≡ length put.octets → To (Eof no_error checksum size tlvs) (receives_eof stored large no_error checksum size m files r)
  eof-advances large checksum size tlvs right =
      let v : Content = Eof no_error checksum size tlvs in
      let ending : Ending = record { checksum = checksum; size = size } in
      let r1 : ReceiverState = record r { ending = Some ending; ack_due = Some no_error; nak_cursor = Some 0 } in
      let r2 : ReceiverState = record r { ack_due = Some no_error; nak_cursor = Some 0 } in
      let tested : ReceiverAfter = if contradicts large size r then faulted file_size_error m files r1 else completed stored m files r1 in
      let g : Gains put v r r1 = record {
        phase = is;
        own = own;
        active = λ h. h;
        heard = λ _. inr refl;
        acks = λ _. refl;
        ack_new = λ _. inr refl;
        ending_is = right;
        metadata = λ h. elim h [ inl was ↦ was | inr now ↦ not_so now ];
        ending = λ _. refl;
        held = λ n h. elim h [ inl was ↦ was | inr now ↦ not_so now ];
      } in
      cond_both (is_none r.ending) (first_eof stored large checksum size m files r) (leaving m files r2) (To v)
      (λ _. telling-first put v r is (indication.EofRecv r.addressing.id) tested refl
      (cond_both (contradicts large size r) (faulted file_size_error m files r1) (completed stored m files r1) (To v)
      (λ _. faults-not put v r is file_size_error m files r1 own refl)
      (λ _. completes put v r is stored m files r1 g)))
      (λ again. stays-waits v r2 (record { addressing = refl; phase = refl; suspended = refl; metadata = refl; ending = refl; held = refl })
      (λ e. not_so e) (λ _. some-since r.ending again) (λ n e. not_so e) (λ _. refl) (λ _. inr refl))

  quiet-advances : (v : Content) (r1 : ReceiverState) → Same r1 → r1.ack_due ≡ r.ack_due → is_metadata v ≡ false → is_eof v ≡ false → ((n : ℕ) → brings n v ≡ false) → To v (leaving m files r1)
  quiet-advances v r1 s acks meta e d = stays-waits v r1 s (λ h. absurd (both_ways (is_metadata v) meta h)) (λ h. absurd (both_ways (is_eof v) e h)) (λ n h. absurd (both_ways (brings n v) (d n) h))
      (λ h. ap is_no_error acks ∙ was_owed v e h) (λ h. inl (sym (ap is_no_error acks) ∙ h))

  prompt-advances : (keep_alive : Bool) → To (Prompt keep_alive) (leaving m files (prompted_for keep_alive r))
  prompt-advances true = quiet-advances (Prompt true) (record r { keep_alive_due = true })
      (record { addressing = refl; phase = refl; suspended = refl; metadata = refl; ending = refl; held = refl }) refl refl refl (λ n. refl)
  prompt-advances false = quiet-advances (Prompt false) (record r { nak_cursor = Some 0 })
      (record { addressing = refl; phase = refl; suspended = refl; metadata = refl; ending = refl; held = refl }) refl refl refl (λ n. refl)

  ack-waits : (condition : ℕ) (status : TransactionStatus) → To (Ack acknowledged.Finished condition status) (leaving m files (acknowledged_by r))
  ack-waits condition status =
      subst (λ (r1 : ReceiverState). To (Ack acknowledged.Finished condition status) (leaving m files r1)) (sym (ap (λ p. if is_finishing p && r.finished_taken then closed r else r) is))
      (quiet-advances (Ack acknowledged.Finished condition status) r itself refl refl refl (λ n. refl))

-- ---- once it ended
module _ (put : Put) (r : ReceiverState) (c : IsReceiverTrue put r) (over : r.phase ≡ Receiving → ⊥) where
  past : (phase : ReceiverPhase) (b : Bool) → (phase ≡ Receiving → ⊥) → once_ended phase b ≡ true
  past Receiving b h = absurd (h refl)
  past Finishing b h = refl
  past Closed b h = refl

  -- a change of what is due alone
  kept-true : (due : Option ℕ) → IsReceiverTrue put (tidied (record r { ack_due = due }))
  kept-true due = record { ending = c.ending; lacking = c.lacking; tidy = tidied-tidy (record r { ack_due = due }); well = c.well; owes = c.owes }

  -- the ACK of an EOF is due
  same-advances : (v : Content) (due : Option ℕ) → is_ack_of_finished v ≡ false → is_eof v ≡ true → is_no_error due ≡ true → Advances put v r (tidied (record r { ack_due = due })) []
  same-advances v due other eof none = record {
    clean = kept-true due;
    metadata = λ _. past r.phase (is_some r.metadata) over;
    ending = λ _. past r.phase (is_some r.ending) over;
    held = λ n _. past r.phase (set.contains r.held n) over;
    ended = λ h. h;
    finished = λ h. h;
    due = λ h. inr (h, refl);
    closes = λ h. inl h;
    closed = λ h. elim h [ inl was ↦ was | inr now ↦ absurd (both_ways (is_ack_of_finished v) other now.0) ];
    tells = λ h. inl h;
    active = λ h. h;
    heard = λ _. inl (past r.phase (is_some r.ending) over);
    acks = λ _. none;
    ack_new = λ _. inr eof;
  }

  -- nothing changes, as what closes it doesn't come, no Finished was sent, or it is closed
  itself-advances : (v : Content) → ((is_ack_of_finished v ≡ true) × (has_finished r ≡ true) → is_closed r ≡ true) → is_eof v ≡ false → Advances put v r (tidied r) []
  itself-advances v closing no_eof = record {
    clean = kept-true r.ack_due;
    metadata = λ _. past r.phase (is_some r.metadata) over;
    ending = λ _. past r.phase (is_some r.ending) over;
    held = λ n _. past r.phase (set.contains r.held n) over;
    ended = λ h. h;
    finished = λ h. h;
    due = λ h. inr (h, refl);
    closes = λ h. inl h;
    closed = λ h. elim h [ inl was ↦ was | inr now ↦ closing now ];
    tells = λ h. inl h;
    active = λ h. h;
    heard = λ _. inl (past r.phase (is_some r.ending) over);
    acks = λ h. elim h [ inl was ↦ was | inr new ↦ absurd (both_ways (is_eof v) no_eof new) ];
    ack_new = λ h. inl h;
  }

  well-past : (phase : ReceiverPhase) (b : Bool) → (phase ≡ Receiving → ⊥) → (is_receiving phase || b) ≡ true → b ≡ true
  well-past Receiving b h w = absurd (h refl)
  well-past Finishing b h w = w
  well-past Closed b h w = w

  closed-advances : (v : Content) → is_ack_of_finished v ≡ true → is_eof v ≡ false → Advances put v r (tidied (closed r)) []
  closed-advances v here no_eof = record {
    clean = record { ending = λ e. cc; lacking = refl; tidy = refl; well = well-past r.phase (is_done r.outcome) over c.well; owes = refl };
    metadata = λ _. refl;
    ending = λ _. refl;
    held = λ n _. refl;
    ended = λ _. refl;
    finished = λ _. refl;
    due = λ h. absurd (false≢true h);
    closes = λ _. inr here;
    closed = λ _. refl;
    tells = λ _. inl (past r.phase false over);
    active = λ _. refl;
    heard = λ _. inl (past r.phase (is_some r.ending) over);
    acks = λ h. elim h [ inl was ↦ was | inr new ↦ absurd (both_ways (is_eof v) no_eof new) ];
    ack_new = λ h. inl h;
  }

  -- it is closed again, or waits for its Finished to be sent
  ack-over : (phase : ReceiverPhase) (taken : Bool) → r.phase ≡ phase → r.finished_taken ≡ taken → (v : Content) → is_ack_of_finished v ≡ true → is_eof v ≡ false
      → Advances put v r (tidied (if is_finishing phase && taken then closed r else r)) []
  ack-over Receiving taken is was v here no_eof = absurd (over is)
  ack-over Finishing true is was v here no_eof = closed-advances v here no_eof
  ack-over Finishing false is was v here no_eof = itself-advances v (λ now. absurd (both_ways (has_finished r) (ap (λ p. if_ended p r.finished_taken) is ∙ was) now.1)) no_eof
  ack-over Closed taken is was v here no_eof = itself-advances v (λ _. ap is_closed_in is) no_eof

  ack-advances : (condition : ℕ) (status : TransactionStatus) → Advances put (Ack acknowledged.Finished condition status) r (tidied (acknowledged_by r)) []
  ack-advances condition status = ack-over r.phase r.finished_taken refl refl (Ack acknowledged.Finished condition status) refl refl

  other-advances : (v : Content) → is_ack_of_finished v ≡ false → is_eof v ≡ false → Advances put v r (tidied r) []
  other-advances v other no_eof = itself-advances v (λ now. absurd (both_ways (is_ack_of_finished v) other now.0)) no_eof

-- ---- in any phase
not-receiving : (phase : ReceiverPhase) → is_receiving phase ≡ false → phase ≡ Receiving → ⊥
not-receiving phase other is = both_ways (is_receiving phase) other (ap is_receiving is)

module _ (put : Put) (stored : Stored) (large : Bool) (m : OctetMap) (files : FileMap) (r : ReceiverState) (c : IsReceiverTrue put r) (own : r.addressing.id ≡ put.id) where
  abbrev Heard : Content → ReceiverAfter → Type 0
  Heard v a = one_tells (spoils put.id) a.told ≡ false → Advances put v r (tidied a.receiver) a.told

  by-phase : (v : Content) (step other : ReceiverAfter) → (r.phase ≡ Receiving → Heard v step) → ((r.phase ≡ Receiving → ⊥) → Heard v other) → Heard v (if is_receiving r.phase then step else other)
  by-phase v step other first second = cond_both (is_receiving r.phase) step other (Heard v) (λ is. first (is_receiving-is r.phase is)) (λ over. second (not-receiving r.phase over))

  prompt-heard : (keep_alive : Bool) → Heard (Prompt keep_alive) (leaving m files (if is_receiving r.phase then prompted_for keep_alive r else r))
  prompt-heard keep_alive = cond_both (is_receiving r.phase) (prompted_for keep_alive r) r (λ (x : ReceiverState). Heard (Prompt keep_alive) (leaving m files x))
      (λ is. prompt-advances put stored m files r c own (is_receiving-is r.phase is) keep_alive)
      (λ over _. other-advances put r c (not-receiving r.phase over) (Prompt keep_alive) refl refl)

  ack-heard : (condition : ℕ) (status : TransactionStatus) (phase : ReceiverPhase) → r.phase ≡ phase → Heard (Ack acknowledged.Finished condition status) (leaving m files (acknowledged_by r))
  ack-heard condition status Receiving is = ack-waits put stored m files r c own is condition status
  ack-heard condition status Finishing is = λ _. ack-advances put r c (λ e. let both : Finishing ≡ Receiving = sym is ∙ e in cc) condition status
  ack-heard condition status Closed is = λ _. ack-advances put r c (λ e. let both : Closed ≡ Receiving = sym is ∙ e in cc) condition status

  eof-heard : (checksum size : ℕ) (tlvs : List Tlv) → size ≡ length put.octets
      → Heard (Eof no_error checksum size tlvs) (if is_receiving r.phase then receives_eof stored large no_error checksum size m files r else leaving m files (record r { ack_due = Some no_error }))
  eof-heard checksum size tlvs right = by-phase (Eof no_error checksum size tlvs) (receives_eof stored large no_error checksum size m files r) (leaving m files (record r { ack_due = Some no_error }))
      (λ is. eof-advances put stored m files r c own is large checksum size tlvs right)
      (λ over _. same-advances put r c over (Eof no_error checksum size tlvs) (Some no_error) refl refl refl)

  content-advances : (v : Content) → IsTrueForth put v → one_tells (spoils put.id) (hears_content stored large v m files r).told ≡ false →
      Advances put v r (hears_content stored large v m files r).receiver (hears_content stored large v m files r).told
  content-advances (Metadata checksum_kind size source destination options) t good =
      by-phase (Metadata checksum_kind size source destination options) (receives_metadata stored checksum_kind size source destination m files r) (leaving m files r)
      (λ is. metadata-advances put stored m files r c own is checksum_kind size source destination options)
      (λ over _. other-advances put r c over (Metadata checksum_kind size source destination options) refl refl) good
  content-advances (FileData offset bytes) t good =
      by-phase (FileData offset bytes) (receives_data stored large offset bytes m files r) (leaving m files r)
      (λ is. data-advances put stored m files r c own is large offset bytes)
      (λ over _. other-advances put r c over (FileData offset bytes) refl refl) good
  content-advances (Eof condition checksum size tlvs) t good =
      subst (λ n. Heard (Eof n checksum size tlvs) (if is_receiving r.phase then receives_eof stored large n checksum size m files r else leaving m files (record r { ack_due = Some n })))
      (sym t.0) (eof-heard checksum size tlvs t.1) good
  content-advances (Ack acknowledged.Finished condition status) t good = ack-heard condition status r.phase refl good
  content-advances (Ack acknowledged.Eof condition status) t good = absurd t
  content-advances (Prompt keep_alive) t good = prompt-heard keep_alive good
  content-advances (Finished condition delivery status tlvs) t good = absurd t
  content-advances (Nak start end pairs) t good = absurd t
  content-advances (KeepAlive progress) t good = absurd t

-- ---- the large file flag of a PDU changes nothing of this
flag-asks : (cursor : Option ℕ) (large : Bool) (r : ReceiverState) → asks_from cursor (flagged large r) ≡ asks_from cursor r
flag-asks (Some at) large r = refl
flag-asks None large r = refl

flag-true : (put : Put) (large : Bool) (r : ReceiverState) → IsReceiverTrue put r → IsReceiverTrue put (flagged large r)
flag-true put large r c = record { ending = c.ending; lacking = c.lacking; tidy = flag-asks r.nak_cursor large r ∙ c.tidy; well = c.well; owes = c.owes }

flag-advances : (put : Put) (v : Content) (large : Bool) (r r1 : ReceiverState) (told : List Indication) → Advances put v (flagged large r) r1 told → Advances put v r r1 told
flag-advances put v large r r1 told a = record {
  clean = a.clean;
  metadata = a.metadata;
  ending = a.ending;
  held = a.held;
  ended = a.ended;
  finished = a.finished;
  due = a.due;
  closes = a.closes;
  closed = a.closed;
  tells = a.tells;
  active = a.active;
  heard = a.heard;
  acks = a.acks;
  ack_new = a.ack_new;
}

-- A true PDU that spoils nothing moves a receiver on.
pub hears-advances : (put : Put) (stored : Stored) (large : Bool) (m : OctetMap) (files : FileMap) (r : ReceiverState) → IsReceiverTrue put r → r.addressing.id ≡ put.id → (v : Content) →
    IsTrueForth put v → one_tells (spoils put.id) (receiver_hears stored large v m files r).told ≡ false →
    Advances put v r (receiver_hears stored large v m files r).receiver (receiver_hears stored large v m files r).told
hears-advances put stored large m files r c own v t good =
    let a : ReceiverAfter = receiver_hears stored large v m files r in
    flag-advances put v large r a.receiver a.told (content-advances put stored large m files (flagged large r) (flag-true put large r c) own v t good)
