-- If timers of a receiver expire in a transaction that stands still: once it has settled it stands
-- still again, and it is complete if what they waited for was more than that something comes.
use Rattle.std.proofs.Common.{◌≡◌, ◌⊎◌, inl, inr, ℕ, ◌<◌, ◌≤◌, ◌&&◌, not, Bool, true, false, List, [], ◌∷◌, Option, Some, None, is_some, is_none, Contains, refl, sym, ap, subst, ◌∙◌, arith, if◌then◌else◌}
use Rattle.std.proofs.lemmas.Bool.{false≢true, both_ways, cond_both, and_parts}
use Rattle.cfdp_header.specs.Files.{FileMap}
use Rattle.cfdp_directives.specs.declared.pdu.addressing.Addressing.{Addressing}
use Rattle.cfdp_directives.specs.declared.user.handler.Handler.{Handler}
use Rattle.cfdp_directives.specs.declared.user.handler.Handler.TheVariants.{Ignore}
use Rattle.cfdp_directives.specs.declared.user.limits.Limits.{Limits}
use Rattle.cfdp_directives.specs.declared.user.policy.Policy.{Policy}
use Rattle.cfdp_directives.specs.Pdu.Codes.{inactivity}
use Rattle.cfdp_directives.specs.User.Put.{Put}
use Rattle.cfdp_store.specs.Staged.{OctetMap}
use Rattle.cfdp_timers.specs.declared.kind.Kind.{Kind}
use Rattle.cfdp_timers.specs.declared.kind.Kind.TheVariants.{EofAck, Nak, FinishedAck, Inactivity}
use Rattle.cfdp_sender.specs.declared.phase.SenderPhase.TheVariants as sending
use Rattle.cfdp_receiver.specs.declared.state.ReceiverPhase.{ReceiverPhase}
use Rattle.cfdp_receiver.specs.declared.state.ReceiverPhase.TheVariants as receiving
use Rattle.cfdp_receiver.specs.Due.{receiver_due, ack_first, phase_due, nak_first, pairs_first}
use Rattle.cfdp_receiver.specs.Missing.{missing_pairs, cursor_by}
use Rattle.cfdp_receiver.specs.State.{ReceiverState}
use Rattle.cfdp_receiver.specs.Steps.{ReceiverAfter, leaving, tidying, handled, anew_once_expired, waits_in, waits, expires}
use Rattle.link_sim.specs.Course.{IsCourse}
use Rattle.link_sim.specs.Exchange.{is_closed_in, is_closed, maybe}
use Rattle.link_sim.specs.Runs.{Exchange, IsItsSender, Runs, told_then, ReceiverExpires}
use Rattle.link_sim.specs.Stages.{NothingDue, IsAtRest, IsReceiverBelowNow, Stands, IsCompleteExchange, is_answered_in, is_answered, AreWaitedByReceiver}
use Rattle.link_sim.proofs.Course.All.{course-laws}
use Rattle.link_sim.proofs.Course.Ends.{cursor-none}
use Rattle.link_sim.proofs.Course.Laws.{CourseLaws, TellsWell}
use Rattle.link_sim.proofs.Stages.Below.{closed-below}
use Rattle.link_sim.proofs.Stages.Ends.{course-completes}
use Rattle.link_sim.proofs.Stages.Keep.{ExchangeKeeps, runs-keep, done-runs}
use Rattle.link_sim.proofs.Stages.Owing.{IsCalm, Calmly, calm-expires, Owes, nak-owes, end-owes, ignored-told}
use Rattle.link_sim.proofs.Stages.Rest.{rest-runs, closed-waits}
use Rattle.link_sim.proofs.Stages.Rounds.{contains-first, contains-later, contains-which, contains-none, stands-told}
use Rattle.link_sim.proofs.Stages.Runs.{CourseIn, truth-alone, runs-course}
use Rattle.link_sim.proofs.Stages.Stand.{is-true, due-none}

-- what is due doesn't depend on the counts
due-counts : (r : ReceiverState) (naks finisheds : ℕ) → receiver_due (record r { nak_count = naks; finished_count = finisheds }) ≡ receiver_due r
due-counts r naks finisheds = ap (λ o. if r.suspended then None else o) (ack r.ack_due)
  where
    q : ReceiverState
    q = record r { nak_count = naks; finished_count = finisheds }

    pairs : (at : ℕ) (ps : List (ℕ × ℕ)) → pairs_first at ps q ≡ pairs_first at ps r
    pairs at [] = refl
    pairs at (p ∷ ps) = refl

    nak : (cursor : Option ℕ) → nak_first cursor q ≡ nak_first cursor r
    nak (Some at) = pairs at (missing_pairs at r)
    nak None = refl

    phase : (p : ReceiverPhase) → phase_due p q ≡ phase_due p r
    phase receiving.Receiving = nak r.nak_cursor
    phase receiving.Finishing = refl
    phase receiving.Closed = refl

    ack : (a : Option ℕ) → ack_first a q ≡ ack_first a r
    ack (Some condition) = refl
    ack None = phase r.phase

one-of : {X : Type 0} (x y : X) → Some x ≡ Some y → x ≡ y
one-of x y e = cc

-- what is complete stands still
complete-stands : (here there : Limits) (put : Put) (b : Exchange) → CourseIn put true false false false b → IsAtRest b → IsCompleteExchange b → Stands here there put b
complete-stands here there put b c rests d = record {
  course = c;
  below = record { sender = λ is _. (let both : sending.Sending ≡ sending.Closed = sym is ∙ d.sender in absurd cc); receiver = closed-below there b.receiver d.receiver };
  rests = rests;
}

module _ (here there : Limits) (policy : Policy) (put : Put) (a : Exchange) (limits : policy.limits ≡ there) (ignores : policy.handlers.inactivity ≡ Ignore)
    (own : IsItsSender put a.sender) (s : Stands here there put a) where
  laws : CourseLaws
  laws = course-laws

  -- ---- the exchange with another receiver, and more indicated there
  abbrev at : ReceiverState → Bool → Exchange
  at q told = record a { receiver = Some q; told_there = told }

  abbrev CourseAt : Bool → ReceiverState → Bool → Type 0
  CourseAt all q told = IsCourse put true false all all a.sender (Some q) a.forth a.back a.told told

  abbrev after : Kind → OctetMap → FileMap → ReceiverState → Exchange → Exchange
  after k m files q e = let p = expires k policy m files q in record e { receiver = Some p.receiver; told_there = told_then put e.told_there p.told }

  expires-at : (all : Bool) (q : ReceiverState) (told : Bool) (k : Kind) (m : OctetMap) (files : FileMap) → q.addressing.id ≡ put.id → CourseAt all q told
      → let p = expires k policy m files q in TellsWell put true p.told → CourseAt all p.receiver (told_then put told p.told)
  expires-at all q told k m files id c w = laws.receiver_expires put true false all all a.sender q a.forth a.back a.told told k policy m files id own.is_sender.size c w

  -- ---- all debts are paid
  record Owing (e : Exchange) : Type 0 where
    pub receiver : ReceiverState
    pub told : Bool
    pub is : e ≡ at receiver told
    pub course : CourseAt true receiver told
    pub calm : IsCalm receiver
    pub id : receiver.addressing.id ≡ put.id

  owing-step : (k : Kind) (m : OctetMap) (files : FileMap) (q : ReceiverState) (e : Exchange) → e.receiver ≡ Some q → Owing e → Owing (after k m files q e)
  owing-step k m files q e has g =
      let same : g.receiver ≡ q = one-of g.receiver q (sym (ap (λ (e : Exchange). e.receiver) g.is) ∙ has) in
      let p : ReceiverAfter = expires k policy m files g.receiver in
      let calmly : Calmly put g.receiver p = calm-expires put policy ignores m files g.receiver k g.course.truth.receiver.tidy g.calm in
      subst (λ q. Owing (after k m files q e)) same (record {
        receiver = p.receiver;
        told = told_then put g.told p.told;
        is = ap (after k m files g.receiver) g.is;
        course = expires-at true g.receiver g.told k m files g.id g.course calmly.told;
        calm = calmly.calm;
        id = ap (λ (d : Addressing). d.id) calmly.addressing ∙ g.id;
      })

  owing-all : (ks : List Kind) (e e1 : Exchange) → Owing e → ReceiverExpires policy put ks e e1 → Owing e1
  unfolding ReceiverExpires
  owing-all [] e e1 g x = subst Owing (sym x) g
  owing-all (k ∷ ks) e e1 g x = owing-all ks (after k x.1.1.0 x.1.1.1.0 x.0 e) e1 (owing-step k x.1.1.0 x.1.1.1.0 x.0 e x.1.0 g) x.1.1.1.1

  -- it is so once the timer of a NAK, or of a Finished, expired
  owes-step : (k : Kind) (m : OctetMap) (files : FileMap) (r q : ReceiverState) (told : Bool) (e : Exchange) → e ≡ at r told → e.receiver ≡ Some q → r.addressing.id ≡ put.id
      → Owes put a.sender a.forth a.back a.told told r (expires k policy m files r) → Owing (after k m files q e)
  owes-step k m files r q told e is has id o =
      let same : r ≡ q = one-of r q (sym (ap (λ (e : Exchange). e.receiver) is) ∙ has) in
      let p : ReceiverAfter = expires k policy m files r in
      subst (λ q. Owing (after k m files q e)) same (record {
        receiver = p.receiver;
        told = told_then put told p.told;
        is = ap (after k m files r) is;
        course = o.course;
        calm = o.calm;
        id = ap (λ (d : Addressing). d.id) o.addressing ∙ id;
      })

  -- ---- what the timers come to of a receiver
  module _ (r : ReceiverState) (found : a.receiver ≡ Some r) (id : r.addressing.id ≡ put.id) where
    at-first : a ≡ at r a.told_there
    at-first = ap (λ o. record a { receiver = o }) found

    course-first : CourseAt false r a.told_there
    course-first = subst (λ o. IsCourse put true false false false a.sender o a.forth a.back a.told a.told_there) found s.course

    under : IsReceiverBelowNow there (Some r)
    under = subst (IsReceiverBelowNow there) found s.below.receiver

    abbrev Waited : List Kind → Type 0
    Waited ks = (k : Kind) → Contains ks k → waits k r ≡ true

    waited-phase : (phase : ReceiverPhase) (k : Kind) → r.phase ≡ phase → waits k r ≡ true → waits_in phase k r ≡ true
    waited-phase phase k phase_is w = sym (ap (λ p. waits_in p k r) phase_is) ∙ (and_parts (not r.suspended) (waits_in r.phase k r) w).1

    -- the kinds that it is complete with
    abbrev Completes : List Kind → Type 0
    Completes ks = Contains ks Nak ⊎ Contains ks FinishedAck

    -- while it receives, Inactivity alone: its counts begin again
    abbrev recounted : ℕ → ℕ → ReceiverState
    recounted naks finisheds = record r { nak_count = naks; finished_count = finisheds }

    record Still (e : Exchange) : Type 0 where
      pub naks : ℕ
      pub finisheds : ℕ
      pub told : Bool
      pub is : e ≡ at (recounted naks finisheds) told
      pub course : CourseAt false (recounted naks finisheds) told
      pub low : is_some r.ending ≡ true → naks < there.nak

    module _ (phase : r.phase ≡ receiving.Receiving) where
      no-cursor : r.nak_cursor ≡ None
      no-cursor = cursor-none r (is-true put a s.course s.rests r found).tidy phase (due-none put a s.course s.rests r found).1

      -- what is left by Inactivity
      record Recounts (p : ReceiverAfter) : Type 0 where
        pub naks : ℕ
        pub finisheds : ℕ
        pub is : p.receiver ≡ recounted naks finisheds
        pub low : is_some r.ending ≡ true → naks < there.nak
        pub told : TellsWell put true p.told

      recounts : (m : OctetMap) (files : FileMap) (naks finisheds : ℕ) → (is_some r.ending ≡ true → naks < there.nak) → Recounts (expires Inactivity policy m files (recounted naks finisheds))
      recounts m files naks finisheds low =
          let q : ReceiverState = recounted naks finisheds in
          cond_both (waits Inactivity q) (record (tidying (handled policy.handlers.inactivity inactivity m files q)) { anew = anew_once_expired Inactivity }) (leaving m files q) Recounts
          (λ _. subst (λ (h : Handler). Recounts (record (tidying (handled h inactivity m files q)) { anew = anew_once_expired Inactivity })) (sym ignores) (record {
            naks = 0;
            finisheds = 0;
            is = ap (λ c. record (recounted 0 0) { nak_cursor = cursor_by c (recounted 0 0) }) no-cursor ∙ ap (λ c. record (recounted 0 0) { nak_cursor = c }) (sym no-cursor);
            low = λ known. (let l : r.nak_count < there.nak = under.0 phase known in omega (arith, l));
            told = ignored-told put policy m files q;
          }))
          (λ _. record { naks = naks; finisheds = finisheds; is = refl; low = low; told = record { good = refl; unpaused = λ _. refl } })

      still-step : (m : OctetMap) (files : FileMap) (q : ReceiverState) (e : Exchange) → e.receiver ≡ Some q → Still e → Still (after Inactivity m files q e)
      still-step m files q e has g =
          let q0 : ReceiverState = recounted g.naks g.finisheds in
          let same : q0 ≡ q = one-of q0 q (sym (ap (λ (e : Exchange). e.receiver) g.is) ∙ has) in
          let p : ReceiverAfter = expires Inactivity policy m files q0 in
          let told : Bool = told_then put g.told p.told in
          let new : Recounts p = recounts m files g.naks g.finisheds g.low in
          subst (λ q. Still (after Inactivity m files q e)) same (record {
            naks = new.naks;
            finisheds = new.finisheds;
            told = told;
            is = ap (after Inactivity m files q0) g.is ∙ ap (λ q. at q told) new.is;
            course = subst (λ q. CourseAt false q told) new.is (expires-at false q0 g.told Inactivity m files id g.course new.told);
            low = new.low;
          })

      still-waits : (naks finisheds : ℕ) → waits Nak r ≡ true → waits Nak (recounted naks finisheds) ≡ true
      still-waits naks finisheds w = ap (λ p. not r.suspended && waits_in p Nak (recounted naks finisheds)) phase ∙ sym (ap (λ p. not r.suspended && waits_in p Nak r) phase) ∙ w

      nak-step : (m : OctetMap) (files : FileMap) (q : ReceiverState) (e : Exchange) → e.receiver ≡ Some q → waits Nak r ≡ true → Still e → Owing (after Nak m files q e)
      nak-step m files q e has w g =
          let q0 : ReceiverState = recounted g.naks g.finisheds in
          let known : is_some r.ending ≡ true = (and_parts (is_some r.ending) (is_none r.nak_cursor) (waited-phase receiving.Receiving Nak phase w)).0 in
          let low : g.naks < policy.limits.nak = subst (λ (l : Limits). g.naks < l.nak) (sym limits) (g.low known) in
          owes-step Nak m files q0 q g.told e g.is has id
          (nak-owes put a.sender a.forth a.back a.told g.told policy m files q0 own.is_sender.size id g.course (still-waits g.naks g.finisheds w) low)

      abbrev Result : List Kind → Exchange → Type 0
      Result ks e = Owing e ⊎ (Still e × (Completes ks → ⊥))

      not-first : (ks : List Kind) (e : Exchange) → Result ks e → Result (Inactivity ∷ ks) e
      not-first ks e (inl g) = inl g
      not-first ks e (inr g) = inr (
        g.0,
        λ h. elim h [
          | inl nak ↦ elim (contains-which Inactivity Nak ks nak) [ inl first ↦ absurd cc | inr later ↦ g.1 (inl later) ]
          | inr fin ↦ elim (contains-which Inactivity FinishedAck ks fin) [ inl first ↦ absurd cc | inr later ↦ g.1 (inr later) ]
        ],
      )

      never : (k : Kind) (ks : List Kind) → Waited (k ∷ ks) → waits_in receiving.Receiving k r ≡ false → ⊥
      never k ks w none = both_ways (waits_in receiving.Receiving k r) none (waited-phase receiving.Receiving k phase (w k (contains-first k ks)))

      still-all : (ks : List Kind) (e e1 : Exchange) → Waited ks → Still e → ReceiverExpires policy put ks e e1 → Result ks e1
      unfolding ReceiverExpires
      still-all [] e e1 w g x = inr (subst Still (sym x) g, λ h. elim h [ inl nak ↦ contains-none Nak nak | inr fin ↦ contains-none FinishedAck fin ])
      still-all (Inactivity ∷ ks) e e1 w g x = not-first ks e1 (still-all ks (after Inactivity x.1.1.0 x.1.1.1.0 x.0 e) e1 (λ k h. w k (contains-later Inactivity k ks h))
          (still-step x.1.1.0 x.1.1.1.0 x.0 e x.1.0 g) x.1.1.1.1)
      still-all (Nak ∷ ks) e e1 w g x = inl (owing-all ks (after Nak x.1.1.0 x.1.1.1.0 x.0 e) e1 (nak-step x.1.1.0 x.1.1.1.0 x.0 e x.1.0 (w Nak (contains-first Nak ks)) g) x.1.1.1.1)
      still-all (EofAck ∷ ks) e e1 w g x = absurd (never EofAck ks w refl)
      still-all (FinishedAck ∷ ks) e e1 w g x = absurd (never FinishedAck ks w refl)

    -- while it is finishing, FinishedAck alone
    abbrev Ends : List Kind → Exchange → Type 0
    Ends ks e = Owing e ⊎ ((e ≡ a) × (Completes ks → ⊥))

    ends-all : (phase : r.phase ≡ receiving.Finishing) (ks : List Kind) (e1 : Exchange) → Waited ks → ReceiverExpires policy put ks a e1 → Ends ks e1
    unfolding ReceiverExpires
    ends-all phase [] e1 w x = inr (x, λ h. elim h [ inl nak ↦ contains-none Nak nak | inr fin ↦ contains-none FinishedAck fin ])
    ends-all phase (FinishedAck ∷ ks) e1 w x =
        let low : r.finished_count < policy.limits.finished = subst (λ (l : Limits). r.finished_count < l.finished) (sym limits) (under.1 phase) in
        inl (owing-all ks (after FinishedAck x.1.1.0 x.1.1.1.0 x.0 a) e1
        (owes-step FinishedAck x.1.1.0 x.1.1.1.0 r x.0 a.told_there a at-first x.1.0 id
        (end-owes put a.sender a.forth a.back a.told a.told_there policy x.1.1.0 x.1.1.1.0 r own.is_sender.size id course-first (w FinishedAck (contains-first FinishedAck ks)) low))
        x.1.1.1.1)
    ends-all phase (Inactivity ∷ ks) e1 w x = absurd (false≢true (waited-phase receiving.Finishing Inactivity phase (w Inactivity (contains-first Inactivity ks))))
    ends-all phase (Nak ∷ ks) e1 w x = absurd (false≢true (waited-phase receiving.Finishing Nak phase (w Nak (contains-first Nak ks))))
    ends-all phase (EofAck ∷ ks) e1 w x = absurd (false≢true (waited-phase receiving.Finishing EofAck phase (w EofAck (contains-first EofAck ks))))

    -- once closed, none
    closed-all : (phase : r.phase ≡ receiving.Closed) (ks : List Kind) (e1 : Exchange) → Waited ks → ReceiverExpires policy put ks a e1 → Ends ks e1
    unfolding ReceiverExpires
    closed-all phase [] e1 w x = inr (x, λ h. elim h [ inl nak ↦ contains-none Nak nak | inr fin ↦ contains-none FinishedAck fin ])
    closed-all phase (k ∷ ks) e1 w x = absurd (both_ways (waits k r) (closed-waits r phase k) (w k (contains-first k ks)))

  -- ---- and the settling after
  module _ (n : ℕ) (b : Exchange) (rests : IsAtRest b) (ks : List Kind) where
    abbrev Whole : Type 0
    Whole = Stands here there put b × ((is_answered a.sender ≡ true → is_answered b.sender ≡ true)
        × ((maybe is_closed a.receiver ≡ true → maybe is_closed b.receiver ≡ true)
        × ((Contains ks Nak) ⊎ (Contains ks FinishedAck) → maybe is_closed b.receiver ≡ true)))

    owing-round : (e1 : Exchange) → Owing e1 → Runs n put e1 b → Whole
    owing-round e1 g runs =
        let e : Exchange = at g.receiver g.told in
        let runs0 : Runs n put e b = subst (λ m. Runs n put m b) g.is runs in
        let keeps : ExchangeKeeps e b = runs-keep n put e b runs0 in
        let c : CourseIn put true false true true b = runs-course n put true false true true e b own.is_sender.size g.course runs0 in
        let d : IsCompleteExchange b = course-completes put false true true b (subst (λ n. 1 ≤ n) (sym keeps.sender.segment) own.in_file.some) c rests refl refl in (
          complete-stands here there put b (truth-alone put true false true true b c) rests d,
          ((λ _. ap (λ p. is_answered_in p b.sender.acknowledged) d.sender), ((λ _. d.receiver), (λ _. d.receiver))),
        )

    same-round : ((Contains ks Nak) ⊎ (Contains ks FinishedAck) → ⊥) → Runs n put a b → Whole
    same-round none runs =
        let d = done-runs n put a b runs in
        (stands-told here there put a b (rest-runs n put a b s.rests runs) s, (d.0, (d.1, λ h. absurd (none h))))

    ends-round : (e1 : Exchange) → Owing e1 ⊎ ((e1 ≡ a) × ((Contains ks Nak) ⊎ (Contains ks FinishedAck) → ⊥)) → Runs n put e1 b → Whole
    ends-round e1 (inl g) runs = owing-round e1 g runs
    ends-round e1 (inr g) runs = same-round g.1 (subst (λ m. Runs n put m b) g.0 runs)

    still-round : (r : ReceiverState) (is : a.receiver ≡ Some r) (id : r.addressing.id ≡ put.id) → r.phase ≡ receiving.Receiving → (e1 : Exchange) → Still r is id e1
        → ((Contains ks Nak) ⊎ (Contains ks FinishedAck) → ⊥) → Runs n put e1 b → Whole
    still-round r is id phase e1 g none runs =
        let q : ReceiverState = record r { nak_count = g.naks; finished_count = g.finisheds } in
        let e : Exchange = at q g.told in
        let runs0 : Runs n put e b = subst (λ m. Runs n put m b) g.is runs in
        let quiet_receiver : receiver_due q ≡ None = due-counts r g.naks g.finisheds ∙ subst NothingDue is s.rests.receiver in
        let stood : Stands here there put e = record {
          course = g.course;
          below = record { sender = s.below.sender; receiver = (λ _ known. g.low known, λ finishing. (let both : receiving.Receiving ≡ receiving.Finishing = sym phase ∙ finishing in absurd cc)) };
          rests = record { sender = s.rests.sender; receiver = quiet_receiver; forth = s.rests.forth; back = s.rests.back };
        } in
        let d = done-runs n put e b runs0 in
        let open_ : maybe is_closed a.receiver ≡ false = ap (maybe is_closed) is ∙ ap is_closed_in phase in
        (stands-told here there put e b (rest-runs n put e b stood.rests runs0) stood, (d.0, ((λ h. absurd (both_ways (maybe is_closed a.receiver) open_ h)), λ h. absurd (none h))))

    of-receiver : (r : ReceiverState) (is : a.receiver ≡ Some r) (id : r.addressing.id ≡ put.id) → ((k : Kind) → Contains ks k → waits k r ≡ true) → (e1 : Exchange) →
        ReceiverExpires policy put ks a e1 → Runs n put e1 b
        → (phase : ReceiverPhase) → r.phase ≡ phase → Whole
    of-receiver r is id w e1 x runs receiving.Receiving phase =
        elim (still-all r is id phase ks a e1 w (record {
          naks = r.nak_count;
          finisheds = r.finished_count;
          told = a.told_there;
          is = at-first r is id;
          course = course-first r is id;
          low = λ known. (under r is id).0 phase known;
        }) x) [
          | inl g ↦ owing-round e1 g runs
          | inr g ↦ still-round r is id phase e1 g.0 g.1 runs
        ]
    of-receiver r is id w e1 x runs receiving.Finishing phase = ends-round e1 (ends-all r is id phase ks e1 w x) runs
    of-receiver r is id w e1 x runs receiving.Closed phase = ends-round e1 (closed-all r is id phase ks e1 w x) runs

    no-receiver : ((k : Kind) → Contains ks k → ⊥) → (e1 : Exchange) → e1 ≡ a → Runs n put e1 b → Whole
    no-receiver w e1 x runs = same-round (λ h. elim h [ inl nak ↦ w Nak nak | inr fin ↦ w FinishedAck fin ]) (subst (λ m. Runs n put m b) x runs)

-- of no kind, nothing happens
expires-none : (policy : Policy) (put : Put) (ks : List Kind) (a e1 : Exchange) → ((k : Kind) → Contains ks k → ⊥) → ReceiverExpires policy put ks a e1 → e1 ≡ a
unfolding ReceiverExpires
expires-none policy put [] a e1 w x = x
expires-none policy put (k ∷ ks) a e1 w x = absurd (w k (contains-first k ks))

-- Timers of a receiver expire that it waited for, and it settles.
pub receiver-round : (here there : Limits) (policy : Policy) (n : ℕ) (put : Put) (a a1 b : Exchange) (ks : List Kind)
    → policy.limits ≡ there → policy.handlers.inactivity ≡ Ignore → IsItsSender put a.sender → Stands here there put a
    → ((r : ReceiverState) → a.receiver ≡ Some r → r.addressing.id ≡ put.id)
    → AreWaitedByReceiver a.receiver ks → ReceiverExpires policy put ks a a1 → Runs n put a1 b → IsAtRest b
    → Stands here there put b × ((is_answered a.sender ≡ true → is_answered b.sender ≡ true)
    × ((maybe is_closed a.receiver ≡ true → maybe is_closed b.receiver ≡ true)
    × (Contains ks Nak ⊎ Contains ks FinishedAck → maybe is_closed b.receiver ≡ true)))
receiver-round here there policy n put a a1 b ks limits ignores own s ids waited x runs rests = by a.receiver refl waited
  where
    by : (o : Option ReceiverState) → a.receiver ≡ o → AreWaitedByReceiver o ks
        → Stands here there put b × ((is_answered a.sender ≡ true → is_answered b.sender ≡ true)
        × ((maybe is_closed a.receiver ≡ true → maybe is_closed b.receiver ≡ true)
        × (Contains ks Nak ⊎ Contains ks FinishedAck → maybe is_closed b.receiver ≡ true)))
    by (Some r) is w = of-receiver here there policy put a limits ignores own s n b rests ks r is (ids r is) w a1 x runs r.phase refl
    by None is w = no-receiver here there policy put a limits ignores own s n b rests ks w a1 (expires-none policy put ks a a1 w x) runs
