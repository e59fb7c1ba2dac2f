-- What is indicated if nothing goes wrong: nothing bad.
use Rattle.std.proofs.Common.{◌≡◌, ◌≢◌, ℕ, ◌+◌, length, Bool, true, false, ◌||◌, ◌&&◌, ◌==◌, nat_lt, min, List, [], ◌∷◌, Option, Some, None, refl, sym, ap, subst, ◌∙◌, if◌then◌else◌, is_some, is_none}
use Rattle.std.specs.List.{list_any}
use Rattle.std.specs.FinSet as set
use Rattle.std.proofs.lemmas.Bool.{false≢true, cond_both}
use Rattle.cfdp_header.specs.Files.{FileMap}
use Rattle.cfdp_directives.specs.declared.pdu.codes.Acknowledged.TheVariants as acknowledged
use Rattle.cfdp_directives.specs.declared.pdu.codes.Delivery.TheVariants.{Complete}
use Rattle.cfdp_directives.specs.declared.pdu.codes.FileStatus.TheVariants.{Retained}
use Rattle.cfdp_directives.specs.declared.user.indication.Indication.{Indication}
use Rattle.cfdp_directives.specs.declared.user.indication.Indication.TheVariants as indication
use Rattle.cfdp_directives.specs.declared.user.telling.Outcome.{Outcome}
use Rattle.cfdp_directives.specs.Pdu.Codes.{no_error, file_checksum_failure, file_size_error, unsupported_checksum_type}
use Rattle.cfdp_directives.specs.Pdu.Content.{Content, FileData, Metadata, Eof, Finished, Ack, Nak, Prompt, KeepAlive}
use Rattle.cfdp_directives.specs.User.Put.{Put}
use Rattle.cfdp_extents.specs.Offsets.{range}
use Rattle.cfdp_store.specs.declared.stored.Stored.TheVariants.{Done}
use Rattle.cfdp_store.specs.Staged.{OctetMap}
use Rattle.cfdp_sender.specs.declared.phase.SenderPhase.{SenderPhase}
use Rattle.cfdp_sender.specs.declared.phase.SenderPhase.TheVariants as sending
use Rattle.cfdp_sender.specs.declared.due.SenderDue.{SenderDue}
use Rattle.cfdp_sender.specs.declared.due.SenderDue.TheVariants as dues
use Rattle.cfdp_sender.specs.State.{SenderState}
use Rattle.cfdp_sender.specs.Steps.{SenderAfter, sender_sends, sender_hears_ack, sender_hears_nak, sender_hears_finished, sender_hears_keep_alive, hears_ack, end_told, eof_told, progress_told, asks, asks_all, asks_in}
use Rattle.cfdp_receiver.specs.declared.state.Ending.{Ending}
use Rattle.cfdp_receiver.specs.declared.state.FileInfo.{FileInfo}
use Rattle.cfdp_receiver.specs.Pieces.{new_pieces, staged_with}
use Rattle.cfdp_receiver.specs.Sound.{hears_content, receiver_hears, is_file_fault}
use Rattle.cfdp_receiver.specs.State.{ReceiverState, flagged, is_receiving}
use Rattle.cfdp_receiver.specs.Steps.{ReceiverAfter, leaving, telling, ends, failed, faulted, agrees, published_by, completed_by, completed, is_supported, receives_metadata, exceeds, with_data, receives_new, receives_data, contradicts, first_eof, receives_eof}
use Rattle.cfdp_entity.specs.Steps.{sender_after}
use Rattle.link_sim.specs.Clean.{is_bad}
use Rattle.link_sim.specs.Exchange.{IsTrueForth, IsTrueBack}

-- ---- a receiver: no fault of the file is indicated, and the inbox did as it was asked
-- so nothing bad is indicated
abbrev Well : ReceiverAfter → Type 0
Well a = list_any is_file_fault a.told ≡ false → list_any is_bad a.told ≡ false

module _ (m : OctetMap) (files : FileMap) where
  module _ (r : ReceiverState) where
    by-fault : (condition : ℕ) → is_file_fault (indication.Fault r.addressing.id condition) ≡ true → Well (faulted condition m files r)
    by-fault condition of_file none = absurd (false≢true (sym none ∙ ap (λ b. b || list_any is_file_fault (ends (failed condition) m files r).told) of_file))

    completes-by : (info : Option FileInfo) (ending : Option Ending) → Well (completed_by Done info ending m files r)
    completes-by (Some info) (Some ending) =
        cond_both (set.is_subset (range 0 ending.size) r.held)
        (if agrees info ending r.sums then published_by Done info ending m files r else faulted file_checksum_failure m files r) (leaving m files r) Well
        (λ _. cond_both (agrees info ending r.sums) (published_by Done info ending m files r) (faulted file_checksum_failure m files r) Well (λ _ none. refl)
        (λ _. by-fault file_checksum_failure refl))
        (λ _ none. refl)
    completes-by (Some info) None = λ none. refl
    completes-by None ending = λ none. refl

    completes : Well (completed Done m files r)
    completes = completes-by r.metadata r.ending

  telling-well : (i : Indication) (a : ReceiverAfter) → is_bad i ≡ false → is_file_fault i ≡ false → Well a → Well (telling (i ∷ []) a)
  telling-well i a good fine w none = ap (λ b. b || list_any is_bad a.told) good ∙ w (sym (ap (λ b. b || list_any is_file_fault a.told) fine) ∙ none)

module _ (m : OctetMap) (files : FileMap) (r : ReceiverState) where
  metadata-well : (kind size : ℕ) (source destination : List ℕ) → Well (receives_metadata Done kind size source destination m files r)
  metadata-well kind size source destination =
      let i : Indication = indication.MetadataRecv r.addressing.id source destination size in
      let info : FileInfo = record { checksum_kind = kind; destination = destination } in
      let r1 : ReceiverState = record r { metadata = Some info; nak_count = 0 } in
      let tested : ReceiverAfter = if is_supported kind then completed Done m files r1 else faulted unsupported_checksum_type m files r1 in
      cond_both (is_some r.metadata) (leaving m files r) (telling (i ∷ []) tested) Well (λ _ none. refl)
      (λ _. telling-well m files i tested refl refl
      (cond_both (is_supported kind) (completed Done m files r1) (faulted unsupported_checksum_type m files r1) Well (λ _. completes m files r1)
      (λ _. by-fault m files r1 unsupported_checksum_type refl)))

  data-well : (large : Bool) (offset : ℕ) (bytes : List ℕ) → Well (receives_data Done large offset bytes m files r)
  data-well large offset bytes =
      let end : ℕ = offset + length bytes in
      cond_both (exceeds large r.ending end) (faulted file_size_error m files r)
      (if set.is_subset (range offset end) r.held then completed Done m files r else receives_new Done offset bytes m files r) Well
      (λ _. by-fault m files r file_size_error refl)
      (λ _. cond_both (set.is_subset (range offset end) r.held) (completed Done m files r) (receives_new Done offset bytes m files r) Well
      (λ _. completes m files r)
      (λ _. completes (staged_with m (new_pieces r.held offset bytes)) files (with_data offset bytes r)))

  eof-well : (large : Bool) (checksum size : ℕ) → Well (receives_eof Done large no_error checksum size m files r)
  eof-well large checksum size =
      let r1 : ReceiverState = record r { ending = Some (record { checksum = checksum; size = size }); ack_due = Some no_error; nak_cursor = Some 0 } in
      let tested : ReceiverAfter = if contradicts large size r then faulted file_size_error m files r1 else completed Done m files r1 in
      cond_both (is_none r.ending) (first_eof Done large checksum size m files r) (leaving m files (record r { ack_due = Some no_error; nak_cursor = Some 0 })) Well
      (λ _. telling-well m files (indication.EofRecv r.addressing.id) tested refl refl
      (cond_both (contradicts large size r) (faulted file_size_error m files r1) (completed Done m files r1) Well (λ _. by-fault m files r1 file_size_error refl) (λ _. completes m files r1)))
      (λ _ none. refl)

  content-well : (large : Bool) (put : Put) (v : Content) → IsTrueForth put v → Well (hears_content Done large v m files r)
  content-well large put (Metadata kind size source destination options) true_ =
      cond_both (is_receiving r.phase) (receives_metadata Done kind size source destination m files r) (leaving m files r) Well (λ _. metadata-well kind size source destination) (λ _ none. refl)
  content-well large put (FileData offset bytes) true_ =
      cond_both (is_receiving r.phase) (receives_data Done large offset bytes m files r) (leaving m files r) Well (λ _. data-well large offset bytes) (λ _ none. refl)
  content-well large put (Eof condition checksum size tlvs) true_ =
      subst (λ (c : ℕ). Well (hears_content Done large (Eof c checksum size tlvs) m files r)) (sym true_.0)
      (cond_both (is_receiving r.phase) (receives_eof Done large no_error checksum size m files r) (leaving m files (record r { ack_due = Some no_error })) Well (λ _. eof-well large checksum size)
      (λ _ none. refl))
  content-well large put (Ack acknowledged.Finished condition status) true_ = λ none. refl
  content-well large put (Ack acknowledged.Eof condition status) true_ = λ none. absurd true_
  content-well large put (Prompt keep_alive) true_ = λ none. refl
  content-well large put (Finished condition delivery status tlvs) true_ = λ none. absurd true_
  content-well large put (Nak start end pairs) true_ = λ none. absurd true_
  content-well large put (KeepAlive progress) true_ = λ none. absurd true_

-- what is heard of a transaction that goes well indicates nothing bad
pub hears-well : (m : OctetMap) (files : FileMap) (r : ReceiverState) (large : Bool) (put : Put) (v : Content) → IsTrueForth put v → Well (receiver_hears Done large v m files r)
hears-well m files r large put v true_ = content-well m files (flagged large r) large put v true_

-- ---- a sender that isn't cancelled
-- it indicated nothing bad, and isn't cancelled now
pub record GoesWell (a : SenderAfter) : Type 0 where
  pub told : list_any is_bad a.told ≡ false
  pub uncancelled : a.sender.phase ≢ sending.Cancelling

pub sends-well : (file : List ℕ) (x : SenderState) (d : SenderDue) → x.phase ≢ sending.Cancelling → GoesWell (sender_sends Done file x d)
sends-well file x (dues.AckOfFinished condition) not_ = record { told = refl; uncancelled = not_ }
sends-well file x (dues.Prompt keep_alive) not_ = record { told = refl; uncancelled = not_ }
sends-well file x dues.Metadata not_ = record { told = refl; uncancelled = not_ }
sends-well file x (dues.AskedData start end) not_ = record { told = refl; uncancelled = not_ }
sends-well file x (dues.NewData start end) not_ = record { told = refl; uncancelled = not_ }
sends-well file x dues.Eof not_ = record { told = first x.phase x.eof_taken; uncancelled = not_ }
  where
    first : (p : SenderPhase) (taken : Bool) → list_any is_bad (eof_told p taken x.addressing.id) ≡ false
    first sending.Sending false = refl
    first sending.Sending true = refl
    first sending.Cancelling taken = refl
    first sending.Closed taken = refl

-- what a NAK asks for leaves the phase
asks-phase : (pairs : List (ℕ × ℕ)) (x : SenderState) → (asks_all pairs x).phase ≡ x.phase
asks-phase [] x = refl
asks-phase (p ∷ ps) x = asks-phase ps (asks p x) ∙ one
  where
    one : (asks p x).phase ≡ x.phase
    one = cond_both ((p.0 == 0) && (p.1 == 0)) (record x { metadata_due = true })
        (if nat_lt p.0 (min p.1 x.sent) then record x { asked = set.union x.asked (range p.0 (min p.1 x.sent)) } else x) (λ (y : SenderState). y.phase ≡ x.phase) (λ _. refl)
        (λ _. cond_both (nat_lt p.0 (min p.1 x.sent)) (record x { asked = set.union x.asked (range p.0 (min p.1 x.sent)) }) x (λ (y : SenderState). y.phase ≡ x.phase) (λ _. refl) (λ _. refl))

pub asks-in-phase : (phase : SenderPhase) (pairs : List (ℕ × ℕ)) (x : SenderState) → (asks_in phase pairs x).phase ≡ x.phase
asks-in-phase sending.Sending pairs x = asks-phase pairs x
asks-in-phase sending.Cancelling pairs x = refl
asks-in-phase sending.Closed pairs x = refl

-- the ACK of an EOF
acks-well : (phase : SenderPhase) (condition : ℕ) (x : SenderState) → x.phase ≡ phase → x.phase ≢ sending.Cancelling → GoesWell (hears_ack phase condition x)
acks-well sending.Sending condition x is not_ = record {
  told = refl;
  uncancelled = cond_both (x.eof_taken && (condition == no_error)) (record x { acknowledged = true; eof_due = false }) x (λ (y : SenderState). y.phase ≢ sending.Cancelling) (λ _. not_) (λ _. not_);
}
acks-well sending.Cancelling condition x is not_ = absurd (not_ is)
acks-well sending.Closed condition x is not_ = record { told = refl; uncancelled = not_ }

-- a Finished that says that the file was delivered
ends-well : (phase : SenderPhase) (x : SenderState) → x.phase ≡ phase → x.phase ≢ sending.Cancelling →
    list_any is_bad (end_told phase (record { condition = no_error; delivery = Complete; status = Retained }) x) ≡ false
ends-well sending.Sending x is not_ = refl
ends-well sending.Cancelling x is not_ = absurd (not_ is)
ends-well sending.Closed x is not_ = refl

progress-well : (phase : SenderPhase) (x : SenderState) (octets : ℕ) → list_any is_bad (progress_told phase x.addressing.id octets) ≡ false
progress-well sending.Sending x octets = refl
progress-well sending.Cancelling x octets = refl
progress-well sending.Closed x octets = refl

hears-one : (a b : SenderAfter) → Some a ≡ Some b → a ≡ b
hears-one a b e = cc

closed-not : sending.Closed ≡ sending.Cancelling → ⊥
closed-not e = cc

-- what comes back of a transaction that goes well indicates nothing bad
pub hears-back-well : (v : Content) (x : SenderState) (a : SenderAfter) → IsTrueBack v → sender_after v x ≡ Some a → x.phase ≢ sending.Cancelling → GoesWell a
hears-back-well (Finished condition delivery status tlvs) x a true_ e not_ =
    subst GoesWell (hears-one (sender_hears_finished (record { condition = condition; delivery = delivery; status = status }) x) a e) (record {
      told =
          let said : Outcome = record { condition = condition; delivery = delivery; status = status } in
          let is : said ≡ record { condition = no_error; delivery = Complete; status = Retained } = (let one = true_.0 in let two = true_.1 in let three = true_.2 in cc) in
          subst (λ (o : Outcome). list_any is_bad (end_told x.phase o x) ≡ false) (sym is) (ends-well x.phase x refl not_);
      uncancelled = λ c. absurd (closed-not c);
    })
hears-back-well (Ack acknowledged.Eof condition status) x a true_ e not_ = subst GoesWell (hears-one (sender_hears_ack condition x) a e) (acks-well x.phase condition x refl not_)
hears-back-well (Nak start end pairs) x a true_ e not_ =
    subst GoesWell (hears-one (sender_hears_nak pairs x) a e) (record { told = refl; uncancelled = λ c. not_ (sym (asks-in-phase x.phase pairs x) ∙ c) })
hears-back-well (KeepAlive progress) x a true_ e not_ = subst GoesWell (hears-one (sender_hears_keep_alive progress x) a e) (record { told = progress-well x.phase x progress; uncancelled = not_ })
hears-back-well (Ack acknowledged.Finished condition status) x a true_ e not_ = absurd true_
hears-back-well (FileData offset bytes) x a true_ e not_ = absurd true_
hears-back-well (Metadata kind size source destination options) x a true_ e not_ = absurd true_
hears-back-well (Eof condition checksum size tlvs) x a true_ e not_ = absurd true_
hears-back-well (Prompt keep_alive) x a true_ e not_ = absurd true_
