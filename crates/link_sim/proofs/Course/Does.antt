-- What a receiver sends, and all that happens to it except a PDU, keeps a put on its course.
use Rattle.std.proofs.Common.{◌≡◌, ◌⊎◌, inl, inr, ℕ, ◌<◌, ◌≤◌, ◌==◌, ◌&&◌, ◌||◌, not, Bool, true, false, List, [], ◌∷◌, ◌++◌, length, Option, Some, None, refl, sym, ap, subst, ◌∙◌, arith}
use Rattle.std.proofs.lemmas.List.{append-nil}
use Rattle.std.specs.Cmp.{nat_cmp_total}
use Rattle.std.specs.FinSet.{contains-difference}
use Rattle.std.proofs.lemmas.Bool.{false≢true, both_ways, cond_both, or_cases, or_parts, or_left, and_from, eqb-true}
use Rattle.cfdp_header.specs.Files.{FileMap}
use Rattle.cfdp_header.specs.declared.value.TransactionId.{TransactionId}
use Rattle.cfdp_header.specs.Ids.{same_id}
use Rattle.cfdp_directives.specs.declared.pdu.codes.Delivery.{Delivery}
use Rattle.cfdp_directives.specs.declared.pdu.codes.Delivery.TheVariants.{Complete, Incomplete}
use Rattle.cfdp_directives.specs.declared.pdu.codes.FileStatus.{FileStatus}
use Rattle.cfdp_directives.specs.declared.pdu.codes.FileStatus.TheVariants.{Discarded, Rejected, Retained, Unreported}
use Rattle.cfdp_directives.specs.declared.user.handler.Handler.{Handler}
use Rattle.cfdp_directives.specs.declared.user.handler.Handler.TheVariants.{Cancel, Suspend, Ignore, Abandon}
use Rattle.cfdp_directives.specs.declared.user.indication.Indication.{Indication}
use Rattle.cfdp_directives.specs.declared.user.indication.Indication.TheVariants as indication
use Rattle.cfdp_directives.specs.declared.user.policy.Policy.{Policy}
use Rattle.cfdp_directives.specs.declared.user.telling.Outcome.{Outcome}
use Rattle.cfdp_directives.specs.Pdu.Codes.{no_error, positive_ack_limit, nak_limit, inactivity, suspend_request, cancel_request}
use Rattle.cfdp_directives.specs.User.Completions.{is_complete}
use Rattle.cfdp_directives.specs.Pdu.Content.{Content}
use Rattle.cfdp_directives.specs.User.Policy.{another_try, finished_told}
use Rattle.cfdp_directives.specs.User.Put.{Put}
use Rattle.cfdp_extents.proofs.Members.{contains-range, contains-more}
use Rattle.cfdp_extents.proofs.CallerLemmas.{gaps-are}
use Rattle.cfdp_store.specs.declared.stored.Stored.TheVariants.{Done}
use Rattle.cfdp_store.specs.Staged.{OctetMap}
use Rattle.cfdp_timers.specs.declared.kind.Kind.{Kind}
use Rattle.cfdp_timers.specs.declared.kind.Kind.TheVariants as kind
use Rattle.cfdp_sender.specs.State.{SenderState}
use Rattle.cfdp_receiver.specs.declared.due.Due.{Due}
use Rattle.cfdp_receiver.specs.declared.due.Due.TheVariants as due
use Rattle.cfdp_receiver.specs.declared.state.ReceiverPhase.{ReceiverPhase}
use Rattle.cfdp_receiver.specs.declared.state.ReceiverPhase.TheVariants.{Receiving, Finishing, Closed}
use Rattle.cfdp_receiver.specs.Due.{keep_alive_first, pairs_first, nak_first, finished_by, phase_due, ack_first, receiver_due, receiver_says, receiver_taken}
use Rattle.cfdp_receiver.specs.Missing.{missing_pairs, is_empty, next_cursor, cursor_by, tidied}
use Rattle.cfdp_receiver.specs.Sound.{Takes, is_done, asks_from, is_tidy}
use Rattle.cfdp_receiver.specs.State.{ReceiverState, is_receiving}
use Rattle.cfdp_receiver.specs.Steps.{ReceiverAfter, leaving, telling, tidying, ends, failed, takes, waits, handled, asking_again, nak_expires, finished_expires, expires_by, anew_once_expired, expires, cancels, suspends, resumes, status_after}
use Rattle.cfdp_receiver.specs.Steps as closing
use Rattle.cfdp_receiver.proofs.FactsAsks.{step-tidy}
use Rattle.cfdp_entity.specs.declared.request.Request.{Request}
use Rattle.cfdp_entity.specs.declared.request.Request.TheVariants as call
use Rattle.cfdp_entity.specs.Steps.{called_receiver}
use Rattle.cfdp_entity.proofs.Entries.{same_id-itself}
use Rattle.link_sim.specs.Course.{AsksFirst, AsksFrom, IsCourse}
use Rattle.link_sim.specs.Exchange.{names, names_metadata, one_says, if_ended, is_no_error, tells_complete}
use Rattle.link_sim.specs.Waiting.{spoils, one_tells}
use Rattle.link_sim.proofs.Course.Laws.{TellsWell, told_with}
use Rattle.link_sim.proofs.Course.Asks.{nak-sends-metadata, nak-sends-owed, tidied-metadata, tidied-owes}
use Rattle.link_sim.proofs.Course.Debts.{OwesMetadata, OwesOctet, does-file, does-ack, does-end}
use Rattle.link_sim.proofs.Course.Gains.{tidied-tidy, fault-spoils}
use Rattle.link_sim.proofs.Course.Steps.{changed, Does}
use Rattle.link_sim.proofs.Course.Truth.{does-true}

some_is : {X : Type 0} (p q : X) → Some p ≡ Some q → q ≡ p
some_is p q e = cc

-- a Finished of a file that was delivered
complete-is : (condition : ℕ) (delivery : Delivery) (status : FileStatus) → is_complete condition delivery status ≡ true → (condition ≡ no_error) × (delivery ≡ Complete) × (status ≡ Retained)
complete-is condition Complete Retained h = (eqb-true condition 0 h, refl, refl)
complete-is condition Complete Discarded h = absurd (false≢true h)
complete-is condition Complete Rejected h = absurd (false≢true h)
complete-is condition Complete Unreported h = absurd (false≢true h)
complete-is condition Incomplete status h = absurd (false≢true h)

-- an end that isn't good spoils the transaction
finished-spoils : (id of : TransactionId) (o : Outcome) (more : List Indication) → of ≡ id → (o.condition == no_error) ≡ false → one_tells (spoils id) (finished_told of o ∷ more) ≡ false → ⊥
finished-spoils id of o more own bad good =
    both_ways (same_id id of && not (o.condition == no_error)) (or_parts (same_id id of && not (o.condition == no_error)) (one_tells (spoils id) more) good).0
    (and_from (same_id id of) (not (o.condition == no_error)) (same_id-itself id of (sym own)) (ap not bad))

-- ---- all that isn't a PDU heard
module _ (put : Put) (awake acks files ends : Bool) (x : SenderState) (r : ReceiverState) (forth back : List Content) (b c : Bool) (own : r.addressing.id ≡ put.id)
    (k : IsCourse put awake acks files ends x (Some r) forth back b c) where
  abbrev CourseOf : ReceiverState → List Content → Bool → Type 0
  CourseOf r1 back1 c1 = IsCourse put awake acks files ends x (Some r1) forth back1 b c1

  does-course : (suspended : Bool) (ack cursor : Option ℕ) (keep_alive due taken : Bool) (naks finisheds : ℕ) (more : List Content) (c1 : Bool) → Does r ack due taken more →
      (awake ≡ true → suspended ≡ false)
      → is_tidy (changed r suspended ack cursor keep_alive due taken naks finisheds) ≡ true → (c ≡ true → c1 ≡ true)
      → (AsksFirst r → (one_says names_metadata more ≡ true) ⊎ OwesMetadata (changed r suspended ack cursor keep_alive due taken naks finisheds))
      → ((n : ℕ) → n < length put.octets → AsksFrom n r → (one_says (names n) more ≡ true) ⊎ OwesOctet n (changed r suspended ack cursor keep_alive due taken naks finisheds))
      → CourseOf (changed r suspended ack cursor keep_alive due taken naks finisheds) (back ++ more) c1
  does-course suspended ack cursor keep_alive due taken naks finisheds more c1 d wakes tidy told m a =
      let r1 : ReceiverState = changed r suspended ack cursor keep_alive due taken naks finisheds in
      record {
        truth = does-true put x r forth back b c c1 suspended ack cursor keep_alive due taken naks finisheds more k.truth d tidy told;
        active = λ f. record { sender = (k.active f).sender; receiver = wakes f };
        ack_comes = λ f. does-ack put x r r1 forth back more d.ack_due d.acks d.kept (k.ack_comes f);
        file_comes = λ f. does-file put x r r1 forth back more d.ack_due d.acks (λ h. h) (λ n h. h) (λ h. h) m a (k.file_comes f);
        end_comes = λ f. does-end put x r r1 forth back more (λ h. h) d.owes (k.end_comes f);
      }

  as-awake : awake ≡ true → r.suspended ≡ false
  as-awake f = (k.active f).receiver

  -- ---- it sends what is due
  module _ (m : OctetMap) (published : FileMap) where
    abbrev SendsDue : Due → Type 0
    SendsDue d = CourseOf (receiver_taken d r) (back ++ receiver_says r d ∷ []) (told_with put c [])

    abbrev SendsIf : Due → Option Due → Type 0
    SendsIf d o = o ≡ Some d → SendsDue d

    taken-tidy : (d : Due) → is_tidy (receiver_taken d r) ≡ true
    taken-tidy d = step-tidy contains-range contains-more (contains-difference nat_cmp_total) gaps-are Done m published r k.truth.receiver.tidy (Takes d)

    told-same : c ≡ true → told_with put c [] ≡ true
    told-same h = or_left c false h

    ack-sends : (condition : ℕ) → r.ack_due ≡ Some condition → SendsDue (due.AckOfEof condition)
    ack-sends condition is = does-course r.suspended None r.nak_cursor r.keep_alive_due r.finished_due r.finished_taken r.nak_count r.finished_count (receiver_says r (due.AckOfEof condition) ∷ [])
        (told_with put c [])
        (record {
          truth = (tt, tt);
          owes = λ h. inl h;
          still = λ h. h;
          new = λ h. absurd (false≢true h);
          ack_due = λ h. absurd (false≢true h);
          acks = λ h. elim (or_cases (condition == no_error) false h) [ inl none ↦ ap is_no_error is ∙ none | inr other ↦ absurd (false≢true other) ];
          kept = λ h. inr (or_left (condition == no_error) false (sym (ap is_no_error is) ∙ h));
        })
        as-awake (taken-tidy (due.AckOfEof condition)) told-same
        (λ a. inr (inr (record { phase = a.phase; cursor = a.cursor })))
        (λ n below a. inr (inr (record { phase = a.phase; cursor = a.cursor; is_cursor = a.is_cursor; low = a.low; below = a.below })))

    nak-sends : (at : ℕ) → r.nak_cursor ≡ Some at → r.phase ≡ Receiving → SendsDue (due.Nak at)
    nak-sends at is phase = does-course r.suspended r.ack_due (next_cursor (missing_pairs at r)) r.keep_alive_due r.finished_due r.finished_taken r.nak_count r.finished_count
        (receiver_says r (due.Nak at) ∷ []) (told_with put c [])
        (record { truth = (tt, tt); owes = λ h. inl h; still = λ h. h; new = λ h. absurd (false≢true h); ack_due = λ h. h; acks = λ h. absurd (false≢true h); kept = λ h. inl h })
        as-awake (taken-tidy (due.Nak at)) told-same
        (λ a. elim (nak-sends-metadata r at a is) [ inl now ↦ inl (or_left (names_metadata (receiver_says r (due.Nak at))) false now) | inr still ↦ inr still ])
        (λ n below a. elim (nak-sends-owed n r at phase (let low : a.cursor ≤ n = a.low in let e : at ≡ a.cursor = some_is a.cursor at (sym a.is_cursor ∙ is) in omega (arith, low, e)) a.below) [
          | inl now ↦ inl (or_left (names n (receiver_says r (due.Nak at))) false now)
          | inr still ↦ inr still
        ])

    keep-alive-sends : SendsDue due.KeepAlive
    keep-alive-sends = does-course r.suspended r.ack_due r.nak_cursor false r.finished_due r.finished_taken r.nak_count r.finished_count (receiver_says r due.KeepAlive ∷ []) (told_with put c [])
        (record { truth = (tt, tt); owes = λ h. inl h; still = λ h. h; new = λ h. absurd (false≢true h); ack_due = λ h. h; acks = λ h. absurd (false≢true h); kept = λ h. inl h })
        as-awake (taken-tidy due.KeepAlive) told-same
        (λ a. inr (inr (record { phase = a.phase; cursor = a.cursor })))
        (λ n below a. inr (inr (record { phase = a.phase; cursor = a.cursor; is_cursor = a.is_cursor; low = a.low; below = a.below })))

    finished-sends : (outcome : Outcome) → r.phase ≡ Finishing → r.outcome ≡ Some outcome → SendsDue (due.Finished outcome)
    finished-sends outcome is has =
        let well : is_done r.outcome ≡ true = sym (ap (λ p. is_receiving p || is_done r.outcome) is) ∙ k.truth.receiver.well in
        let good : is_complete outcome.condition outcome.delivery outcome.status ≡ true = sym (ap is_done has) ∙ well in
        let taken : if_ended r.phase true ≡ true = ap (λ p. if_ended p true) is in
        does-course r.suspended r.ack_due r.nak_cursor r.keep_alive_due false true r.nak_count r.finished_count (receiver_says r (due.Finished outcome) ∷ []) (told_with put c [])
        (record {
          truth = (complete-is outcome.condition outcome.delivery outcome.status good, tt);
          owes = λ _. inr refl;
          still = λ _. taken;
          new = λ _. taken;
          ack_due = λ h. h;
          acks = λ h. absurd (false≢true h);
          kept = λ h. inl h;
        })
        as-awake (taken-tidy (due.Finished outcome)) told-same
        (λ a. inr (inr (record { phase = a.phase; cursor = a.cursor })))
        (λ n below a. inr (inr (record { phase = a.phase; cursor = a.cursor; is_cursor = a.is_cursor; low = a.low; below = a.below })))

    keep-alive-first : (d : Due) → SendsIf d (keep_alive_first r.keep_alive_due)
    keep-alive-first d = by r.keep_alive_due
      where
        by : (is_due : Bool) → SendsIf d (keep_alive_first is_due)
        by true e = subst SendsDue (sym (some_is due.KeepAlive d e)) keep-alive-sends
        by false e = cc

    pairs-first : (d : Due) (at : ℕ) (pairs : List (ℕ × ℕ)) → r.nak_cursor ≡ Some at → r.phase ≡ Receiving → SendsIf d (pairs_first at pairs r)
    pairs-first d at [] is phase e = keep-alive-first d e
    pairs-first d at (p ∷ ps) is phase e = subst SendsDue (sym (some_is (due.Nak at) d e)) (nak-sends at is phase)

    nak-first : (d : Due) (cursor : Option ℕ) → r.nak_cursor ≡ cursor → r.phase ≡ Receiving → SendsIf d (nak_first cursor r)
    nak-first d (Some at) is phase e = pairs-first d at (missing_pairs at r) is phase e
    nak-first d None is phase e = keep-alive-first d e

    finished-first : (d : Due) (is_due : Bool) (outcome : Option Outcome) → r.phase ≡ Finishing → r.outcome ≡ outcome → SendsIf d (finished_by is_due outcome)
    finished-first d true (Some outcome) is has e = subst SendsDue (sym (some_is (due.Finished outcome) d e)) (finished-sends outcome is has)
    finished-first d true None is has e = cc
    finished-first d false outcome is has e = cc

    phase-sends : (d : Due) (phase : ReceiverPhase) → r.phase ≡ phase → SendsIf d (phase_due phase r)
    phase-sends d Receiving is e = nak-first d r.nak_cursor refl is e
    phase-sends d Finishing is e = finished-first d r.finished_due r.outcome is refl e
    phase-sends d Closed is e = cc

    ack-first : (d : Due) (ack : Option ℕ) → r.ack_due ≡ ack → SendsIf d (ack_first ack r)
    ack-first d (Some condition) is e = subst SendsDue (sym (some_is (due.AckOfEof condition) d e)) (ack-sends condition is)
    ack-first d None is e = phase-sends d r.phase refl e

    pub takes-course : (d : Due) → receiver_due r ≡ Some d → SendsDue d
    takes-course d e = cond_both r.suspended None (ack_first r.ack_due r) (SendsIf d) (λ _ e. cc) (λ _ e. ack-first d r.ack_due refl e) e

  -- ---- it sends nothing
  -- the course after a step that spoils nothing
  abbrev Now : ReceiverAfter → Type 0
  Now a = TellsWell put awake a.told → CourseOf a.receiver back (told_with put c a.told)

  -- what may change then, except for what is asked for: it is suspended or resumed, a Finished is
  -- due, or counts begin again
  quietly : (suspended : Bool) (cursor : Option ℕ) (is_due : Bool) (naks finisheds : ℕ) (told : List Indication) → (awake ≡ true → suspended ≡ false) → (r.finished_due ≡ true → is_due ≡ true)
      → is_tidy (changed r suspended r.ack_due cursor r.keep_alive_due is_due r.finished_taken naks finisheds) ≡ true
      → (AsksFirst r → OwesMetadata (changed r suspended r.ack_due cursor r.keep_alive_due is_due r.finished_taken naks finisheds))
      → ((n : ℕ) → AsksFrom n r → OwesOctet n (changed r suspended r.ack_due cursor r.keep_alive_due is_due r.finished_taken naks finisheds))
      → CourseOf (changed r suspended r.ack_due cursor r.keep_alive_due is_due r.finished_taken naks finisheds) back (told_with put c told)
  quietly suspended cursor is_due naks finisheds told wakes still tidy m a =
      subst (λ (l : List Content). CourseOf (changed r suspended r.ack_due cursor r.keep_alive_due is_due r.finished_taken naks finisheds) l (told_with put c told)) (append-nil back)
      (does-course suspended r.ack_due cursor r.keep_alive_due is_due r.finished_taken naks finisheds [] (told_with put c told)
      (record { truth = tt; owes = λ h. inl (still h); still = λ h. h; new = λ h. absurd (false≢true h); ack_due = λ h. h; acks = λ h. absurd (false≢true h); kept = λ h. inl h })
      wakes tidy (λ h. or_left c (one_tells (tells_complete put.id) told) h)
      (λ f. inr (m f)) (λ n below f. inr (a n f)))

  -- the cursor of the NAK stays, or goes to 0
  recounted : (suspended : Bool) (cursor : Option ℕ) (is_due : Bool) (naks finisheds : ℕ) (told : List Indication) → (awake ≡ true → suspended ≡ false) → (r.finished_due ≡ true → is_due ≡ true)
      → (AsksFirst r → cursor ≡ Some 0) → ((n : ℕ) → AsksFrom n r → (at : ℕ) × ((cursor ≡ Some at) × (at ≤ n)))
      → CourseOf (tidied (changed r suspended r.ack_due cursor r.keep_alive_due is_due r.finished_taken naks finisheds)) back (told_with put c told)
  recounted suspended cursor is_due naks finisheds told wakes still first from =
      let r1 : ReceiverState = changed r suspended r.ack_due cursor r.keep_alive_due is_due r.finished_taken naks finisheds in
      quietly suspended (cursor_by cursor r1) is_due naks finisheds told wakes still (tidied-tidy r1)
      (λ a. tidied-metadata r1 (inr (record { phase = a.phase; cursor = first a })))
      (λ n a. let at = from n a in tidied-owes n r1 (inr (record { phase = a.phase; cursor = at.0; is_cursor = at.1.0; low = at.1.1; below = a.below })))

  tidy-still : (r1 : ReceiverState) → r1.nak_cursor ≡ r.nak_cursor → ((from : ℕ) → missing_pairs from r1 ≡ missing_pairs from r) → is_tidy r1 ≡ true
  tidy-still r1 cursor same = ap (λ o. asks_from o r1) cursor ∙ by r.nak_cursor ∙ k.truth.receiver.tidy
    where
      by : (o : Option ℕ) → asks_from o r1 ≡ asks_from o r
      by (Some from) = ap (λ (pairs : List (ℕ × ℕ)). not (is_empty pairs)) (same from)
      by None = refl

  -- it is suspended or resumed
  pauses-course : (suspended : Bool) (naks finisheds : ℕ) (told : List Indication) → (awake ≡ true → suspended ≡ false)
      → CourseOf (record r { suspended = suspended; nak_count = naks; finished_count = finisheds }) back (told_with put c told)
  pauses-course suspended naks finisheds told wakes =
      quietly suspended r.nak_cursor r.finished_due naks finisheds told wakes (λ h. h)
      (tidy-still (record r { suspended = suspended; nak_count = naks; finished_count = finisheds }) refl (λ from. refl))
      (λ a. inr (record { phase = a.phase; cursor = a.cursor }))
      (λ n a. inr (record { phase = a.phase; cursor = a.cursor; is_cursor = a.is_cursor; low = a.low; below = a.below }))

  -- nothing changes
  pub same-course : (told : List Indication) → CourseOf r back (told_with put c told)
  same-course told = pauses-course r.suspended r.nak_count r.finished_count told as-awake

  -- ---- a timer expires
  module _ (m : OctetMap) (published : FileMap) where
    -- that it is suspended is indicated of nothing that stays awake
    paused : TellsWell put awake (indication.Fault r.addressing.id inactivity ∷ indication.Suspended r.addressing.id inactivity ∷ []) → awake ≡ true → true ≡ false
    paused w f =
        let none : (same_id put.id r.addressing.id || false) ≡ false = w.unpaused f in
        absurd (both_ways (same_id put.id r.addressing.id) (or_parts (same_id put.id r.addressing.id) false none).0 (same_id-itself put.id r.addressing.id (sym own)))

    no-abandon : (condition : ℕ) (first : Indication) → one_tells (spoils put.id) (first ∷ indication.Abandoned r.addressing.id condition ∷ []) ≡ false → ⊥
    no-abandon condition first good =
        both_ways (same_id put.id r.addressing.id) (or_parts (same_id put.id r.addressing.id) false (or_parts (spoils put.id first) (same_id put.id r.addressing.id || false) good).1).0
        (same_id-itself put.id r.addressing.id (sym own))

    -- Inactivity, by its handler
    inactive : (h : Handler) → Now (tidying (handled h inactivity m published r))
    inactive Cancel w =
        absurd (finished-spoils put.id r.addressing.id (failed inactivity) [] own refl
        (or_parts (spoils put.id (indication.Fault r.addressing.id inactivity)) (one_tells (spoils put.id) (finished_told r.addressing.id (failed inactivity) ∷ [])) w.good).1)
    inactive Suspend w = recounted true r.nak_cursor r.finished_due r.nak_count r.finished_count (handled Suspend inactivity m published r).told (paused w) (λ h. h) (λ a. a.cursor)
        (λ n a. (a.cursor, (a.is_cursor, a.low)))
    inactive Ignore w = recounted r.suspended r.nak_cursor r.finished_due 0 0 (handled Ignore inactivity m published r).told as-awake (λ h. h) (λ a. a.cursor) (λ n a. (a.cursor, (a.is_cursor, a.low)))
    inactive Abandon w = absurd (no-abandon inactivity (indication.Fault r.addressing.id inactivity) w.good)

    -- a limit that is reached is a fault
    nak-limit : (h : Handler) → Now (tidying (asking_again h (handled h nak_limit m published r)))
    nak-limit Cancel w = absurd (fault-spoils put.id r.addressing.id nak_limit (finished_told r.addressing.id (failed nak_limit) ∷ []) own refl w.good)
    nak-limit Suspend w = absurd (fault-spoils put.id r.addressing.id nak_limit (indication.Suspended r.addressing.id nak_limit ∷ []) own refl w.good)
    nak-limit Ignore w = absurd (fault-spoils put.id r.addressing.id nak_limit [] own refl w.good)
    nak-limit Abandon w = absurd (fault-spoils put.id r.addressing.id nak_limit (indication.Abandoned r.addressing.id nak_limit ∷ []) own refl w.good)

    nak-course : (count : Option ℕ) (h : Handler) → Now (tidying (nak_expires count h m published r))
    nak-course (Some count) h w = recounted r.suspended (Some 0) r.finished_due count r.finished_count [] as-awake (λ h. h) (λ _. refl) (λ n a. (0, (refl, omega arith)))
    nak-course None h w = nak-limit h w

    finished-course : (count : Option ℕ) → Now (tidying (finished_expires count m published r))
    finished-course (Some count) w = recounted r.suspended r.nak_cursor true r.nak_count count [] as-awake (λ _. refl) (λ a. a.cursor) (λ n a. (a.cursor, (a.is_cursor, a.low)))
    finished-course None w = absurd (fault-spoils put.id r.addressing.id positive_ack_limit (indication.Abandoned r.addressing.id positive_ack_limit ∷ []) own refl w.good)

    by-timer : (t : Kind) (policy : Policy) → Now (tidying (expires_by t policy m published r))
    by-timer kind.Nak policy = nak-course (another_try r.nak_count policy.limits.nak) policy.handlers.nak
    by-timer kind.FinishedAck policy = finished-course (another_try r.finished_count policy.limits.finished)
    by-timer kind.Inactivity policy = inactive policy.handlers.inactivity
    by-timer kind.EofAck policy = λ w. recounted r.suspended r.nak_cursor r.finished_due r.nak_count r.finished_count [] as-awake (λ h. h) (λ a. a.cursor) (λ n a. (a.cursor, (a.is_cursor, a.low)))

    pub expires-course : (t : Kind) (policy : Policy) → Now (expires t policy m published r)
    expires-course t policy =
        let a : ReceiverAfter = expires_by t policy m published r in
        cond_both (waits t r) (record (tidying a) { anew = anew_once_expired t }) (leaving m published r) Now (λ _ w. by-timer t policy w) (λ _ w. same-course [])

    -- ---- its user calls
    cancel-course : Now (cancels m published r)
    cancel-course = cond_both (is_receiving r.phase) (closing.ends (failed cancel_request) m published r) (leaving m published r) Now
        (λ _ w. absurd (finished-spoils put.id r.addressing.id (failed cancel_request) [] own refl w.good))
        (λ _ w. same-course [])

    suspend-course : Now (suspends m published r)
    suspend-course =
        let told : List Indication = indication.Suspended r.addressing.id suspend_request ∷ [] in
        cond_both (is_receiving r.phase && not r.suspended) (telling told (leaving m published (record r { suspended = true }))) (leaving m published r) Now
        (λ _ w. pauses-course true r.nak_count r.finished_count told (λ f. absurd
        (both_ways (same_id put.id r.addressing.id) (or_parts (same_id put.id r.addressing.id) false (w.unpaused f)).0 (same_id-itself put.id r.addressing.id (sym own)))))
        (λ _ w. same-course [])

    resume-course : Now (resumes m published r)
    resume-course =
        let told : List Indication = indication.Resumed r.addressing.id ∷ [] in
        cond_both r.suspended (telling told (leaving m published (record r { suspended = false; nak_count = 0; finished_count = 0 }))) (leaving m published r) Now
        (λ _ w. pauses-course false 0 0 told (λ _. refl))
        (λ _ w. same-course [])

    pub called-course : (call : Request) (a : ReceiverAfter) → called_receiver call m published r ≡ Some a → Now a
    called-course call.Cancel a is = subst Now (sym (some_is (cancels m published r) a is)) cancel-course
    called-course call.Suspend a is = subst Now (sym (some_is (suspends m published r) a is)) suspend-course
    called-course call.Resume a is = subst Now (sym (some_is (resumes m published r) a is)) resume-course
    called-course (call.Prompt keep_alive) a is = cc
