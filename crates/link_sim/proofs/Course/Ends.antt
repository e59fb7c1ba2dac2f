-- What is true of a put stays so if a PDU is lost; and what its debts come to once nothing is due
-- and nothing is on its way: it is complete.
use Rattle.std.proofs.Common.{◌≡◌, inl, inr, ℕ, ◌+◌, ◌<◌, ◌≤◌, min, Bool, true, false, not, List, [], ◌∷◌, ◌++◌, length, Option, Some, None, is_some, refl, sym, ap, subst, ◌∙◌, arith, ◌||◌, nat_lt, nat_le, if◌then◌else◌}
use Rattle.std.specs.Prelude.{IfSome}
use Rattle.std.specs.FinSet as set
use Rattle.std.specs.Ordering.{nat_cmp}
use Rattle.std.specs.Cmp.{nat_cmp_total}
use Rattle.std.proofs.lemmas.Bool.{false≢true, both_ways, and_parts, or_parts, cond_both, not-false, ltb-true, ltb-false}
use Rattle.cfdp_directives.specs.declared.user.telling.Outcome.{Outcome}
use Rattle.cfdp_directives.specs.Pdu.Content.{Content}
use Rattle.cfdp_directives.specs.User.Put.{Put}
use Rattle.cfdp_extents.specs.Offsets.{Offsets, range}
use Rattle.cfdp_extents.specs.Terms.{front_of}
use Rattle.cfdp_extents.proofs.CallerLemmas.{contains-range, front-none}
use Rattle.cfdp_sender.specs.declared.due.SenderDue.TheVariants as sender_due_is
use Rattle.cfdp_sender.specs.declared.phase.SenderPhase.{SenderPhase}
use Rattle.cfdp_sender.specs.declared.phase.SenderPhase.TheVariants as sending
use Rattle.cfdp_sender.specs.Due.{sender_due, rest_due, data_due, file_due, prompt_first}
use Rattle.cfdp_sender.specs.Due as sender
use Rattle.cfdp_sender.specs.InFile.{IsInFile}
use Rattle.cfdp_sender.specs.Inputs.{IsSenderOf}
use Rattle.cfdp_sender.specs.State.{SenderState}
use Rattle.cfdp_receiver.specs.declared.state.Ending.{Ending}
use Rattle.cfdp_receiver.specs.declared.state.FileInfo.{FileInfo}
use Rattle.cfdp_receiver.specs.declared.state.ReceiverPhase.{ReceiverPhase}
use Rattle.cfdp_receiver.specs.declared.state.ReceiverPhase.TheVariants.{Receiving, Finishing, Closed}
use Rattle.cfdp_receiver.specs.Due.{receiver_due, ack_first, phase_due, nak_first, pairs_first, finished_by}
use Rattle.cfdp_receiver.specs.Missing.{missing_pairs, is_empty}
use Rattle.cfdp_receiver.specs.Sound.{is_whole, is_done, goes_well, asks_from, is_tidy}
use Rattle.cfdp_receiver.specs.State.{ReceiverState, is_receiving, is_finishing}
use Rattle.link_sim.specs.Course.{IsReceiverTrue, IsMaybeTrue, IsTrueBetween, IsActive, EofComes, Maybe, Comes, AsksFirst, AsksFrom, owes_metadata, owes_octet, FileComes, AckComes, EndComes, IsCourse}
use Rattle.link_sim.specs.Exchange.{is_metadata, brings, names, names_metadata, once_ended, knows_metadata, knows_ending, holds, has_ended, if_ended, has_finished, finishes, is_closed_in, is_closed, finished_is_due, is_no_error, owes_ack, maybe}
use Rattle.link_sim.proofs.Course.Laws.{NothingDue}
use Rattle.link_sim.proofs.Course.Truth as truths

-- ---- a PDU is lost
pub lost-forth : (put : Put) (x : SenderState) (o : Option ReceiverState) (before after back : List Content) (v : Content) (b c : Bool)
    → IsCourse put false false false false x o (before ++ v ∷ after) back b c → IsCourse put false false false false x o (before ++ after) back b c
lost-forth put x o before after back v b c h = record {
  truth = truths.lost-forth put x o before after back v b c h.truth;
  active = λ e. absurd (false≢true e);
  ack_comes = λ e. absurd (false≢true e);
  file_comes = λ e. absurd (false≢true e);
  end_comes = λ e. absurd (false≢true e);
}

pub lost-back : (put : Put) (x : SenderState) (o : Option ReceiverState) (forth before after : List Content) (v : Content) (b c : Bool)
    → IsCourse put false false false false x o forth (before ++ v ∷ after) b c → IsCourse put false false false false x o forth (before ++ after) b c
lost-back put x o forth before after v b c h = record {
  truth = truths.lost-back put x o forth before after v b c h.truth;
  active = λ e. absurd (false≢true e);
  ack_comes = λ e. absurd (false≢true e);
  file_comes = λ e. absurd (false≢true e);
  end_comes = λ e. absurd (false≢true e);
}

-- ---- a sender with nothing due
pub sender-none : (x : SenderState) → x.suspended ≡ false → sender_due x ≡ None → (is_some x.ack_due ≡ false) × (sender.phase_due x.phase x ≡ None)
sender-none x active e = from x.ack_due (sym (ap (λ b. if b then None else sender.ack_first x.ack_due x) active) ∙ e)
  where
    from : (ack : Option ℕ) → sender.ack_first ack x ≡ None → (is_some ack ≡ false) × (sender.phase_due x.phase x ≡ None)
    from (Some condition) e = cc
    from None e = (refl, e)

-- what a sender that sends has done then
pub record HasSent (x : SenderState) : Type 0 where
  pub metadata : owes_metadata x ≡ false
  pub asked : 1 ≤ x.segment → (n : ℕ) → owes_octet n x ≡ false
  pub all : x.size ≤ x.sent
  pub taken : x.eof_taken ≡ true
  pub due : x.eof_due ≡ false

module _ (x : SenderState) where
  none-asked : front_of x.asked x.segment ≡ None → 1 ≤ x.segment → (n : ℕ) → owes_octet n x ≡ false
  none-asked e some n = elim (front-none x.asked x.segment e) [
    | inl nothing ↦ absurd (omega (arith, nothing, some))
    | inr empty ↦ ap (λ s. set.contains s n) empty ∙ set.contains-empty nat_cmp n
  ]

  rest-none : x.metadata_due ≡ false → front_of x.asked x.segment ≡ None → rest_due x ≡ None → HasSent x
  rest-none sent unasked = cond_both (nat_lt x.sent x.size) (Some (sender_due_is.NewData x.sent (min x.size (x.sent + x.segment))))
      (if x.eof_due || not x.eof_taken then Some sender_due_is.Eof else None) (λ o. o ≡ None → HasSent x)
      (λ _ e. cc)
      (λ all. cond_both (x.eof_due || not x.eof_taken) (Some sender_due_is.Eof) None (λ o. o ≡ None → HasSent x)
      (λ _ e. cc)
      (λ none _. let parts = or_parts x.eof_due (not x.eof_taken) none in
      record { metadata = sent; asked = none-asked unasked; all = ltb-false x.sent x.size all; taken = not-false x.eof_taken parts.1; due = parts.0 }))

  data-none : (front : Option (ℕ × ℕ)) → front_of x.asked x.segment ≡ front → x.metadata_due ≡ false → data_due front x ≡ None → HasSent x
  data-none None same sent e = rest-none sent same e
  data-none (Some r) same sent e = cc

  prompt-none : (prompt : Option Bool) → prompt_first prompt x ≡ None → HasSent x
  prompt-none (Some keep_alive) e = cc
  prompt-none None e = cond_both x.metadata_due (Some sender_due_is.Metadata) (data_due (front_of x.asked x.segment) x) (λ o. o ≡ None → HasSent x)
      (λ _ e. cc) (λ sent e. data-none (front_of x.asked x.segment) refl sent e) e

  pub has-sent : x.suspended ≡ false → x.phase ≡ sending.Sending → sender_due x ≡ None → HasSent x
  has-sent active is e = prompt-none x.prompt_due (sym (ap (λ p. sender.phase_due p x) is) ∙ (sender-none x active e).1)

-- ---- a receiver with nothing due
pub ack-none : (r : ReceiverState) → r.suspended ≡ false → receiver_due r ≡ None → (r.ack_due ≡ None) × (phase_due r.phase r ≡ None)
ack-none r active e = from r.ack_due refl (sym (ap (λ b. if b then None else ack_first r.ack_due r) active) ∙ e)
  where
    from : (ack : Option ℕ) → r.ack_due ≡ ack → ack_first ack r ≡ None → (r.ack_due ≡ None) × (phase_due r.phase r ≡ None)
    from (Some condition) is e = cc
    from None is e = (is, e)

-- a NAK that is tidy would be due
pub cursor-none : (r : ReceiverState) → is_tidy r ≡ true → r.phase ≡ Receiving → phase_due r.phase r ≡ None → r.nak_cursor ≡ None
cursor-none r tidy is e = from r.nak_cursor refl (sym (ap (λ p. phase_due p r) is) ∙ e)
  where
    never : (at : ℕ) (pairs : List (ℕ × ℕ)) → not (is_empty pairs) ≡ true → pairs_first at pairs r ≡ None → ⊥
    never at [] h e = false≢true h
    never at (p ∷ ps) h e = cc

    from : (cursor : Option ℕ) → r.nak_cursor ≡ cursor → nak_first cursor r ≡ None → r.nak_cursor ≡ None
    from (Some at) has e = absurd (never at (missing_pairs at r) (sym (ap (λ c. asks_from c r) has) ∙ tidy) e)
    from None has e = has

-- one that is complete would have its Finished due
pub finishing-none : (r : ReceiverState) → r.phase ≡ Finishing → goes_well r ≡ true → phase_due r.phase r ≡ None → r.finished_due ≡ false
finishing-none r is well e = owes r.finished_due r.outcome (sym (ap (λ p. is_receiving p || is_done r.outcome) is) ∙ well) (sym (ap (λ p. phase_due p r) is) ∙ e)
  where
    owes : (due : Bool) (o : Option Outcome) → is_done o ≡ true → finished_by due o ≡ None → due ≡ false
    owes true (Some o) h e = cc
    owes true None h e = absurd (false≢true h)
    owes false o h e = refl

-- what has sent a Finished has ended
pub finished-ended : (o : Option ReceiverState) → maybe has_finished o ≡ true → maybe has_ended o ≡ true
finished-ended None h = h
finished-ended (Some r) h = from r.phase h
  where
    from : (phase : ReceiverPhase) → if_ended phase r.finished_taken ≡ true → once_ended phase false ≡ true
    from Receiving h = h
    from Finishing h = refl
    from Closed h = refl

-- ---- nothing is on its way
come-known : (due : SenderState → Bool) (brings : Content → Bool) (known : ReceiverState → Bool) (named : Content → Bool) (Asks : ReceiverState → Type 0) (x : SenderState) (o : Option ReceiverState)
    → (EofComes x o [] [] → ⊥) → due x ≡ false → (Maybe Asks o → ⊥) → Comes due brings known named Asks x o [] [] → maybe known o ≡ true
come-known due brings known named Asks x o no_eof no_due no_asks (inl e) = absurd (no_eof e)
come-known due brings known named Asks x o no_eof no_due no_asks (inr (inl d)) = absurd (both_ways (due x) no_due d)
come-known due brings known named Asks x o no_eof no_due no_asks (inr (inr (inl w))) = absurd (false≢true w)
come-known due brings known named Asks x o no_eof no_due no_asks (inr (inr (inr (inl k)))) = k
come-known due brings known named Asks x o no_eof no_due no_asks (inr (inr (inr (inr (inl n))))) = absurd (false≢true n)
come-known due brings known named Asks x o no_eof no_due no_asks (inr (inr (inr (inr (inr a))))) = absurd (no_asks a)

never-some : (o : Option ℕ) (n : ℕ) → o ≡ Some n → o ≡ None → ⊥
never-some o n e f = false≢true (sym (ap is_some f) ∙ ap is_some e)

-- all of a file that is known is whole
pub whole : (put : Put) (metadata : Option FileInfo) (ending : Option Ending) (held : Offsets) → is_some metadata ≡ true → is_some ending ≡ true → IfSome ending (λ e. e.size ≡ length put.octets)
    → ((n : ℕ) → n < length put.octets → set.contains held n ≡ true) → is_whole metadata ending held ≡ true
whole put (Some info) (Some ending) held m e size all =
    set.contains-is_subset nat_cmp_total (range 0 ending.size) held (λ n h. let low : n < ending.size = below n h in let same : ending.size ≡ length put.octets = size in
    all n (omega (arith, low, same)))
  where
    below : (n : ℕ) → set.contains (range 0 ending.size) n ≡ true → n < ending.size
    below n h = ltb-true n ending.size (and_parts (nat_le 0 n) (nat_lt n ending.size) (sym (contains-range 0 ending.size n) ∙ h)).1
whole put None ending held m e size all = absurd (false≢true m)
whole put (Some info) None held m e size all = absurd (false≢true e)

module _ (put : Put) (x : SenderState) (o : Option ReceiverState) (b c : Bool) (some : 1 ≤ x.segment)
    (t : IsTrueBetween put x o [] [] b c) (awake : IsActive x o) (quiet_sender : sender_due x ≡ None) (nothing : NothingDue o) where
  sent : x.phase ≡ sending.Sending → HasSent x
  sent is = has-sent x awake.sender is quiet_sender

  no-eof : x.phase ≡ sending.Sending → EofComes x o [] [] → ⊥
  no-eof is (inl not_taken) = both_ways x.eof_taken not_taken (sent is).taken
  no-eof is (inr (inl w)) = false≢true w
  no-eof is (inr (inr again)) = both_ways x.eof_due (sent is).due again.due

  -- the acknowledgement has come
  pub ack-came : AckComes x o [] [] → x.phase ≡ sending.Sending → x.acknowledged ≡ true
  ack-came a is = elim (a is) [
    | inl acknowledged ↦ acknowledged
    | inr rest ↦ elim rest [
      | inl e ↦ absurd (no-eof is e)
      | inr later ↦ elim later [ inl due ↦ absurd (none-due o nothing awake.receiver due) | inr w ↦ absurd (false≢true w) ]
    ]
  ]
    where
      none-due : (o : Option ReceiverState) → NothingDue o → maybe (λ r. r.suspended) o ≡ false → maybe owes_ack o ≡ true → ⊥
      none-due (Some r) n a h = both_ways (owes_ack r) (ap is_no_error (ack-none r a n).0) h
      none-due None n a h = false≢true h

  -- of the receiver, if there is one
  active : (r : ReceiverState) → o ≡ Some r → r.suspended ≡ false
  active r is = sym (ap (maybe (λ r. r.suspended)) is) ∙ awake.receiver

  is-true : (r : ReceiverState) → o ≡ Some r → IsReceiverTrue put r
  is-true r is = subst (IsMaybeTrue put) is t.receiver

  -- no NAK is due
  cursor : (r : ReceiverState) → o ≡ Some r → r.phase ≡ Receiving → r.nak_cursor ≡ None
  cursor r is phase = cursor-none r (is-true r is).tidy phase (ack-none r (active r is) (subst NothingDue is nothing)).1

  no-first : (o1 : Option ReceiverState) → o ≡ o1 → Maybe AsksFirst o1 → ⊥
  no-first (Some r) is a = never-some r.nak_cursor 0 a.cursor (cursor r is a.phase)
  no-first None is a = absurd a

  no-from : (n : ℕ) (o1 : Option ReceiverState) → o ≡ o1 → Maybe (AsksFrom n) o1 → ⊥
  no-from n (Some r) is a = never-some r.nak_cursor a.cursor a.is_cursor (cursor r is a.phase)
  no-from n None is a = absurd a

  -- the file has come
  file-sent : x.phase ≡ sending.Sending → FileComes put x o [] [] → (o1 : Option ReceiverState) → o ≡ o1 → maybe has_ended o1 ≡ true
  file-sent sends f None is = absurd (false≢true (sym (ap (maybe knows_metadata) is)
      ∙ come-known owes_metadata is_metadata knows_metadata names_metadata AsksFirst x o (no-eof sends) (sent sends).metadata (no-first o refl) f.metadata))
  file-sent sends f (Some r) is = from r.phase refl
    where
      ending : maybe knows_ending o ≡ true
      ending = elim f.ending [ inl e ↦ absurd (no-eof sends e) | inr known ↦ known ]

      from : (phase : ReceiverPhase) → r.phase ≡ phase → has_ended r ≡ true
      from Receiving phase =
          let receiving : (d : Bool) → once_ended r.phase d ≡ true → d ≡ true = λ d h. sym (ap (λ p. once_ended p d) phase) ∙ h in
          let m : is_some r.metadata ≡ true = receiving (is_some r.metadata)
          (sym (ap (maybe knows_metadata) is) ∙ come-known owes_metadata is_metadata knows_metadata names_metadata AsksFirst x o (no-eof sends) (sent sends).metadata (no-first o refl) f.metadata)
          in
          let e : is_some r.ending ≡ true = receiving (is_some r.ending) (sym (ap (maybe knows_ending) is) ∙ ending) in
          let truth : IsReceiverTrue put r = is-true r is in
          let all : is_whole r.metadata r.ending r.held ≡ true = whole put r.metadata r.ending r.held m e (truth.ending phase) octet in
          let lacks : not (is_whole r.metadata r.ending r.held) ≡ true = sym (ap (λ p. not (is_receiving p) || not (is_whole r.metadata r.ending r.held)) phase) ∙ truth.lacking in
          absurd (false≢true (sym (ap not all) ∙ lacks))
        where
          octet : (n : ℕ) → n < length put.octets → set.contains r.held n ≡ true
          octet n below =
              let known : maybe (holds n) o ≡ true = come-known (owes_octet n) (brings n) (holds n) (names n) (AsksFrom n) x o (no-eof sends) ((sent sends).asked some n) (no-from n o refl)
              (f.octets n below) in
              sym (ap (λ p. once_ended p (set.contains r.held n)) phase) ∙ sym (ap (maybe (holds n)) is) ∙ known
      from Finishing phase = ap (λ p. once_ended p false) phase
      from Closed phase = ap (λ p. once_ended p false) phase

  pub file-came : FileComes put x o [] [] → maybe has_ended o ≡ true
  file-came f = from x.phase refl
    where
      from : (phase : SenderPhase) → x.phase ≡ phase → maybe has_ended o ≡ true
      from sending.Sending is = file-sent is f o refl
      from sending.Cancelling is = absurd (t.not_cancelled is)
      from sending.Closed is = finished-ended o (t.over is)

  -- the end has come
  pub end-came : EndComes x o [] [] → maybe has_ended o ≡ true → maybe is_closed o ≡ true
  end-came e ended = from o refl ended
    where
      from : (o1 : Option ReceiverState) → o ≡ o1 → maybe has_ended o1 ≡ true → maybe is_closed o1 ≡ true
      from None is h = h
      from (Some r) is h = phase-from r.phase refl
        where
          phase-from : (phase : ReceiverPhase) → r.phase ≡ phase → is_closed r ≡ true
          phase-from Receiving phase = absurd (false≢true (sym (ap (λ p. once_ended p false) phase) ∙ h))
          phase-from Finishing phase =
              let owes : r.finished_due ≡ false = finishing-none r phase (is-true r is).well (ack-none r (active r is) (subst NothingDue is nothing)).1 in
              elim (e (ap (maybe finishes) is ∙ ap is_finishing phase)) [
                | inl due ↦ absurd (both_ways r.finished_due owes (sym (ap (maybe finished_is_due) is) ∙ due))
                | inr rest ↦ elim rest [
                  | inl w ↦ absurd (false≢true w)
                  | inr later ↦ elim later [ inl due ↦ absurd (both_ways (is_some x.ack_due) (sender-none x awake.sender quiet_sender).0 due) | inr w ↦ absurd (false≢true w) ]
                ]
              ]
          phase-from Closed phase = ap is_closed_in phase

-- with all debts, nothing due and nothing on its way, both are closed, and both indicated that it
-- is complete
pub completes : (put : Put) (x : SenderState) (o : Option ReceiverState) (b c : Bool) → IsSenderOf put x → IsInFile x → IsCourse put true true true true x o [] [] b c → sender_due x ≡ None →
    NothingDue o
    → (x.phase ≡ sending.Closed) × ((maybe is_closed o ≡ true) × ((b ≡ true) × (c ≡ true)))
completes put x o b c of inside h quiet_sender nothing =
    let t : IsTrueBetween put x o [] [] b c = h.truth in
    let ended : maybe has_ended o ≡ true = file-came put x o b c inside.some t (h.active refl) quiet_sender nothing (h.file_comes refl) in
    let closed : maybe is_closed o ≡ true = end-came put x o b c inside.some t (h.active refl) quiet_sender nothing (h.end_comes refl) ended in
    let over : x.phase ≡ sending.Closed = t.closed closed in
    (over, (closed, (t.sender_told over, t.receiver_told ended)))
