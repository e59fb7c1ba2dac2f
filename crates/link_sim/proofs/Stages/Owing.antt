-- A timer of a receiver that expires and is waited for: what is missing is asked for again, or the
-- Finished falls due again, and so all debts are paid; a timer more changes nothing of it.
use Rattle.std.proofs.Common.{◌≡◌, ◌⊎◌, inl, inr, ℕ, ◌+◌, ◌<◌, ◌&&◌, ◌||◌, not, Bool, true, false, List, [], length, Option, Some, None, is_some, is_none, refl, sym, ap, subst, ◌∙◌, if◌then◌else◌}
use Rattle.std.specs.FinSet as set
use Rattle.std.proofs.lemmas.Bool.{false≢true, cond_both, and_parts, and_right, or_from, lt-ltb, not-true}
use Rattle.cfdp_header.specs.Files.{FileMap}
use Rattle.cfdp_header.specs.Ids.{same_id}
use Rattle.cfdp_directives.specs.declared.user.handler.Handler.{Handler}
use Rattle.cfdp_directives.specs.declared.user.handler.Handler.TheVariants.{Ignore}
use Rattle.cfdp_directives.specs.declared.user.policy.Policy.{Policy}
use Rattle.cfdp_directives.specs.Pdu.Codes.{inactivity}
use Rattle.cfdp_directives.specs.Pdu.Content.{Content}
use Rattle.cfdp_directives.specs.User.Policy.{another_try}
use Rattle.cfdp_directives.specs.User.Put.{Put}
use Rattle.cfdp_store.specs.Staged.{OctetMap}
use Rattle.cfdp_timers.specs.declared.kind.Kind.{Kind}
use Rattle.cfdp_timers.specs.declared.kind.Kind.TheVariants.{EofAck, Nak, FinishedAck, Inactivity}
use Rattle.cfdp_sender.specs.State.{SenderState}
use Rattle.cfdp_receiver.specs.declared.state.ReceiverPhase.{ReceiverPhase}
use Rattle.cfdp_receiver.specs.declared.state.ReceiverPhase.TheVariants as receiving
use Rattle.cfdp_receiver.specs.Missing.{missing_pairs, is_empty, cursor_by, tidied}
use Rattle.cfdp_receiver.specs.Sound.{is_whole, asks_from, is_tidy}
use Rattle.cfdp_receiver.specs.State.{ReceiverState, is_receiving, is_finishing}
use Rattle.cfdp_receiver.specs.Steps.{ReceiverAfter, leaving, tidying, handled, nak_expires, finished_expires, expires_by, anew_once_expired, waits_in, waits, expires}
use Rattle.link_sim.specs.Course.{IsCourse}
use Rattle.link_sim.specs.Exchange.{once_ended, if_ended}
use Rattle.link_sim.proofs.Course.All.{course-laws}
use Rattle.link_sim.proofs.Course.Asks.{OwesAll, all-metadata, all-octets, limit-is}
use Rattle.link_sim.proofs.Course.Ends.{whole}
use Rattle.link_sim.proofs.Course.Laws.{CourseLaws, TellsWell, told_with}
use Rattle.link_sim.proofs.Course.SenderStays.{finished-file}

-- nothing is indicated
silent : (put : Put) (awake : Bool) → TellsWell put awake []
silent put awake = record { good = refl; unpaused = λ _. refl }

some-not-none : {X : Type 0} (o : Option X) → is_some o ≡ true → is_none o ≡ false
some-not-none (Some e) h = refl
some-not-none None h = absurd (false≢true h)

-- an expiry that isn't waited for
pub unwaited : (k : Kind) (policy : Policy) (m : OctetMap) (files : FileMap) (q : ReceiverState) → waits k q ≡ false → expires k policy m files q ≡ leaving m files q
unwaited k policy m files q none = ap (λ b. if b then record (tidying (expires_by k policy m files q)) { anew = anew_once_expired k } else leaving m files q) none

-- one that is
pub waited-for : (k : Kind) (policy : Policy) (m : OctetMap) (files : FileMap) (q : ReceiverState) → waits k q ≡ true → expires k policy m files q
    ≡ record (tidying (expires_by k policy m files q)) { anew = anew_once_expired k }
waited-for k policy m files q is = ap (λ b. if b then record (tidying (expires_by k policy m files q)) { anew = anew_once_expired k } else leaving m files q) is

-- Inactivity that is ignored
pub ignored-told : (put : Put) (policy : Policy) (m : OctetMap) (files : FileMap) (q : ReceiverState) → TellsWell put true (handled Ignore inactivity m files q).told
ignored-told put policy m files q = record { good = or_from (same_id put.id q.addressing.id && false) false (and_right (same_id put.id q.addressing.id) false refl) refl; unpaused = λ _. refl }

-- ---- a NAK is due that asks for something, or a Finished is
abbrev pub IsCalm : ReceiverState → Type 0
IsCalm q = ((q.phase ≡ receiving.Receiving) × (is_some q.nak_cursor ≡ true)) ⊎ ((q.phase ≡ receiving.Finishing) × (q.finished_due ≡ true))

-- what a timer more leaves then
pub record Calmly (put : Put) (q : ReceiverState) (p : ReceiverAfter) : Type 0 where
  pub told : TellsWell put true p.told
  pub calm : IsCalm p.receiver
  pub addressing : p.receiver.addressing ≡ q.addressing

module _ (put : Put) (policy : Policy) (ignores : policy.handlers.inactivity ≡ Ignore) (m : OctetMap) (files : FileMap) (q : ReceiverState) where
  leaves : (k : Kind) → IsCalm q → waits k q ≡ false → Calmly put q (expires k policy m files q)
  leaves k calm none = subst (Calmly put q) (sym (unwaited k policy m files q none)) (record { told = silent put true; calm = calm; addressing = refl })

  in-phase : (phase : ReceiverPhase) (k : Kind) → q.phase ≡ phase → waits_in phase k q ≡ false → waits k q ≡ false
  in-phase phase k is none = and_right (not q.suspended) (waits_in q.phase k q) (ap (λ p. waits_in p k q) is ∙ none)

  keeps-cursor : (cursor : Option ℕ) → is_some cursor ≡ true → asks_from cursor q ≡ true → is_some (cursor_by cursor (record q { nak_count = 0; finished_count = 0 })) ≡ true
  keeps-cursor (Some at) some asks = ap (λ b. is_some (if b then None else Some at)) (not-true (is_empty (missing_pairs at q)) asks)
  keeps-cursor None some asks = absurd (false≢true some)

  inactive : q.phase ≡ receiving.Receiving → is_some q.nak_cursor ≡ true → is_tidy q ≡ true → Calmly put q (expires Inactivity policy m files q)
  inactive phase some tidy = cond_both (waits Inactivity q) (record (tidying (handled policy.handlers.inactivity inactivity m files q)) { anew = anew_once_expired Inactivity }) (leaving m files q)
      (Calmly put q)
      (λ _. subst (λ (h : Handler). Calmly put q (record (tidying (handled h inactivity m files q)) { anew = anew_once_expired Inactivity })) (sym ignores)
      (record { told = ignored-told put policy m files q; calm = inl (phase, keeps-cursor q.nak_cursor some tidy); addressing = refl }))
      (λ _. record { told = silent put true; calm = inl (phase, some); addressing = refl })

  pub calm-expires : (k : Kind) → is_tidy q ≡ true → IsCalm q → Calmly put q (expires k policy m files q)
  calm-expires Inactivity tidy (inl c) = inactive c.0 c.1 tidy
  calm-expires Nak tidy (inl c) = leaves Nak (inl c) (in-phase receiving.Receiving Nak c.0 (and_right (is_some q.ending) (is_none q.nak_cursor) (some-not-none q.nak_cursor c.1)))
  calm-expires EofAck tidy (inl c) = leaves EofAck (inl c) (in-phase receiving.Receiving EofAck c.0 refl)
  calm-expires FinishedAck tidy (inl c) = leaves FinishedAck (inl c) (in-phase receiving.Receiving FinishedAck c.0 refl)
  calm-expires FinishedAck tidy (inr c) = leaves FinishedAck (inr c) (in-phase receiving.Finishing FinishedAck c.0 (and_right q.finished_taken (not q.finished_due) (ap not c.1)))
  calm-expires Inactivity tidy (inr c) = leaves Inactivity (inr c) (in-phase receiving.Finishing Inactivity c.0 refl)
  calm-expires Nak tidy (inr c) = leaves Nak (inr c) (in-phase receiving.Finishing Nak c.0 refl)
  calm-expires EofAck tidy (inr c) = leaves EofAck (inr c) (in-phase receiving.Finishing EofAck c.0 refl)

-- ---- the timer that makes it so
-- the debts of the file and of the end are paid
pub record Owes (put : Put) (x : SenderState) (forth back : List Content) (b c : Bool) (q : ReceiverState) (p : ReceiverAfter) : Type 0 where
  pub course : IsCourse put true false true true x (Some p.receiver) forth back b (told_with put c p.told)
  pub calm : IsCalm p.receiver
  pub addressing : p.receiver.addressing ≡ q.addressing

module _ (put : Put) (x : SenderState) (forth back : List Content) (b c : Bool) (policy : Policy) (m : OctetMap) (files : FileMap) (q : ReceiverState) (size : x.size ≡ length put.octets)
    (id : q.addressing.id ≡ put.id)
    (h : IsCourse put true false false false x (Some q) forth back b c) where
  laws : CourseLaws
  laws = course-laws

  -- the same with the truth alone
  abbrev Course : ReceiverAfter → Type 0
  Course p = IsCourse put true false false false x (Some p.receiver) forth back b (told_with put c p.told)

  another : (count limit : ℕ) → count < limit → another_try count limit ≡ Some (count + 1)
  another count limit low = ap (λ b. if b then Some (count + 1) else None) (lt-ltb count limit low)

  -- Nak
  abbrev asking : ReceiverState
  asking = record q { nak_count = q.nak_count + 1; nak_cursor = Some 0 }

  nak-phase : (phase : ReceiverPhase) → waits_in phase Nak q ≡ true → (phase ≡ receiving.Receiving) × (is_some q.ending ≡ true)
  nak-phase receiving.Receiving w = (refl, (and_parts (is_some q.ending) (is_none q.nak_cursor) w).0)
  nak-phase receiving.Finishing w = absurd (false≢true w)
  nak-phase receiving.Closed w = absurd (false≢true w)

  module _ (phase : q.phase ≡ receiving.Receiving) (known : is_some q.ending ≡ true) where
    asks-all : OwesAll (length put.octets) asking
    asks-all = inr (record { phase = phase; cursor = refl; limit = limit-is put q.ending q.held (some-not-none q.ending known) (h.truth.receiver.ending phase) })

    -- something is missing, so the NAK is still due once it is tidied
    still-asks : (cursor : Option ℕ) → (tidied asking).nak_cursor ≡ cursor → is_some cursor ≡ true
    still-asks (Some at) is = refl
    still-asks None is =
        let receives : (d : Bool) → once_ended q.phase d ≡ true → d ≡ true = λ d e. sym (ap (λ p. once_ended p d) phase) ∙ e in
        let never : (at : ℕ) → (tidied asking).nak_cursor ≡ Some at → ⊥ = λ at e. (let both : None ≡ Some at = sym is ∙ e in cc) in
        let metadata : is_some q.metadata ≡ true = elim (all-metadata (length put.octets) asking asks-all) [ inl k ↦ receives (is_some q.metadata) k | inr a ↦ absurd (never 0 a.cursor) ] in
        let octets : (n : ℕ) → n < length put.octets → set.contains q.held n ≡ true =
        λ n below. elim (all-octets (length put.octets) n asking below asks-all) [ inl k ↦ receives (set.contains q.held n) k | inr a ↦ absurd (never a.cursor a.is_cursor) ] in
        let all : is_whole q.metadata q.ending q.held ≡ true = whole put q.metadata q.ending q.held metadata known (h.truth.receiver.ending phase) octets in
        let lacks : not (is_whole q.metadata q.ending q.held) ≡ true = sym (ap (λ p. not (is_receiving p) || not (is_whole q.metadata q.ending q.held)) phase) ∙ h.truth.receiver.lacking in
        absurd (false≢true (sym (ap not all) ∙ lacks))

  pub nak-owes : waits Nak q ≡ true → q.nak_count < policy.limits.nak → Owes put x forth back b c q (expires Nak policy m files q)
  nak-owes waiting low =
      let parts = nak-phase q.phase (and_parts (not q.suspended) (waits_in q.phase Nak q) waiting).1 in
      let is : expires Nak policy m files q ≡ record (tidying (leaving m files asking)) { anew = None } = waited-for Nak policy m files q waiting
      ∙ ap (λ (t : Option ℕ). record (tidying (nak_expires t policy.handlers.nak m files q)) { anew = None }) (another q.nak_count policy.limits.nak low) in
      let base : Course (record (tidying (leaving m files asking)) { anew = None }) =
      subst (λ (p : ReceiverAfter). TellsWell put true p.told → Course p) is (laws.receiver_expires put true false false false x q forth back b c Nak policy m files id size h) (silent put true) in
      subst (Owes put x forth back b c q) (sym is) (record {
        course = record {
          truth = base.truth;
          active = base.active;
          ack_comes = base.ack_comes;
          file_comes = λ _. record {
            metadata = elim (all-metadata (length put.octets) asking (asks-all parts.0 parts.1)) [ inl k ↦ inr (inr (inr (inl k))) | inr a ↦ inr (inr (inr (inr (inr a)))) ];
            octets = λ n below. elim (all-octets (length put.octets) n asking below (asks-all parts.0 parts.1)) [ inl k ↦ inr (inr (inr (inl k))) | inr a ↦ inr (inr (inr (inr (inr a)))) ];
            ending = inr (ap (λ p. once_ended p (is_some q.ending)) parts.0 ∙ parts.1);
          };
          end_comes = λ _ f. absurd (false≢true (sym (ap is_finishing parts.0) ∙ f));
        };
        calm = inl (parts.0, still-asks parts.0 parts.1 (tidied asking).nak_cursor refl);
        addressing = refl;
      })

  -- FinishedAck
  abbrev again : ReceiverState
  again = record q { finished_count = q.finished_count + 1; finished_due = true }

  end-phase : (phase : ReceiverPhase) → waits_in phase FinishedAck q ≡ true → (phase ≡ receiving.Finishing) × (q.finished_taken ≡ true)
  end-phase receiving.Receiving w = absurd (false≢true w)
  end-phase receiving.Finishing w = (refl, (and_parts q.finished_taken (not q.finished_due) w).0)
  end-phase receiving.Closed w = absurd (false≢true w)

  pub end-owes : waits FinishedAck q ≡ true → q.finished_count < policy.limits.finished → Owes put x forth back b c q (expires FinishedAck policy m files q)
  end-owes waiting low =
      let parts = end-phase q.phase (and_parts (not q.suspended) (waits_in q.phase FinishedAck q) waiting).1 in
      let is : expires FinishedAck policy m files q ≡ record (tidying (leaving m files again)) { anew = None } = waited-for FinishedAck policy m files q waiting
      ∙ ap (λ (t : Option ℕ). record (tidying (finished_expires t m files q)) { anew = None }) (another q.finished_count policy.limits.finished low) in
      let base : Course (record (tidying (leaving m files again)) { anew = None }) =
      subst (λ (p : ReceiverAfter). TellsWell put true p.told → Course p) is (laws.receiver_expires put true false false false x q forth back b c FinishedAck policy m files id size h)
      (silent put true) in
      subst (Owes put x forth back b c q) (sym is) (record {
        course = record {
          truth = base.truth;
          active = base.active;
          ack_comes = base.ack_comes;
          file_comes = λ _. finished-file put x (Some (tidied again)) forth back (ap (λ p. if_ended p q.finished_taken) parts.0 ∙ parts.1);
          end_comes = λ _ _. inl refl;
        };
        calm = inr (parts.0, refl);
        addressing = refl;
      })
