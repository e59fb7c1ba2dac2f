-- If timers of a sender expire in a transaction that stands still: it stands still once it has
-- settled, and its EOF was acknowledged if it was for that that they waited.
use Rattle.std.proofs.Common.{◌≡◌, ◌⊎◌, inl, inr, ℕ, zero, suc, ◌+◌, ◌<◌, ◌≤◌, ◌&&◌, ◌||◌, not, slice_index_or, Bool, true, false, List, [], ◌∷◌, length, Option, Some, None, Contains, refl, sym, ap, subst, ◌∙◌, arith, if◌then◌else◌}
use Rattle.std.proofs.lemmas.Bool.{false≢true, true≢false, both_ways, cond_both, and_left, and_right, or_left, lt-ltb, cases_Bool}
use Rattle.cfdp_directives.specs.declared.user.handler.Handler.TheVariants.{Ignore}
use Rattle.cfdp_directives.specs.declared.user.limits.Limits.{Limits}
use Rattle.cfdp_directives.specs.declared.user.policy.Policy.{Policy}
use Rattle.cfdp_directives.specs.User.Put.{Put}
use Rattle.cfdp_extents.specs.Terms.{front_of}
use Rattle.cfdp_timers.specs.declared.kind.Kind.{Kind}
use Rattle.cfdp_timers.specs.declared.kind.Kind.TheVariants.{EofAck, Nak, FinishedAck, Inactivity}
use Rattle.cfdp_sender.specs.declared.due.SenderDue.TheVariants as dues
use Rattle.cfdp_sender.specs.declared.phase.SenderPhase.{SenderPhase}
use Rattle.cfdp_sender.specs.declared.phase.SenderPhase.TheVariants as sending
use Rattle.cfdp_sender.specs.Due.{sender_due, data_due, prompt_first, phase_due, ack_first}
use Rattle.cfdp_sender.specs.State.{SenderState}
use Rattle.cfdp_sender.specs.Steps.{SenderAfter, quiet, sends_again, unheard, waits_for_eof_ack, waits_for_anything, sender_waits, sender_expires}
use Rattle.cfdp_sender.specs.Steps as sender
use Rattle.cfdp_receiver.specs.declared.state.ReceiverPhase.{ReceiverPhase}
use Rattle.cfdp_receiver.specs.declared.state.ReceiverPhase.TheVariants as receiving
use Rattle.cfdp_receiver.specs.State.{ReceiverState, is_finishing}
use Rattle.link_sim.specs.Course.{EofAgain}
use Rattle.link_sim.specs.Exchange.{one_says, is_ack_of_eof, once_ended, has_ended, finishes, is_closed, is_no_error, owes_ack, maybe}
use Rattle.link_sim.specs.Runs.{Exchange, IsItsSender, TellsMore, Runs, told_then, expire_sender}
use Rattle.link_sim.specs.Stages.{IsAtRest, IsReceiverBelowNow, Stands, is_answered_in, is_answered, AreWaitedBySender}
use Rattle.link_sim.proofs.Course.All.{course-laws}
use Rattle.link_sim.proofs.Course.Laws.{CourseLaws}
use Rattle.link_sim.proofs.Course.SenderStays.{stays-course}
use Rattle.link_sim.proofs.Stages.Below.{closed-below}
use Rattle.link_sim.proofs.Stages.Ends.{course-acknowledged, course-delivered, course-completes}
use Rattle.link_sim.proofs.Stages.Keep.{ExchangeKeeps, StaysReceiver, runs-keep, done-runs}
use Rattle.link_sim.proofs.Stages.Rest.{rest-runs, answered-waits}
use Rattle.link_sim.proofs.Stages.Runs.{CourseIn, truth-alone, runs-course}
use Rattle.link_sim.proofs.Stages.Stand.{eof-waits, due-none}

-- ---- a list with one more at its front
pub contains-first : {X : Type 0} (x : X) (xs : List X) → Contains (x ∷ xs) x
contains-first x xs = (0, omega arith, refl)

pub contains-later : {X : Type 0} (x y : X) (xs : List X) → Contains xs y → Contains (x ∷ xs) y
contains-later x y xs h = let low : h.0 < length xs = h.1 in (suc h.0, omega (arith, low), h.2)

pub contains-which : {X : Type 0} (x y : X) (xs : List X) → Contains (x ∷ xs) y → (x ≡ y) ⊎ Contains xs y
contains-which x y xs h = by h.0 h.1 h.2
  where
    by : (k : ℕ) → k < length (x ∷ xs) → slice_index_or (x ∷ xs) k y ≡ y → (x ≡ y) ⊎ Contains xs y
    by zero low e = inl e
    by (suc k) low e = inr (k, omega (arith, low), e)

pub contains-none : {X : Type 0} (x : X) → Contains [] x → ⊥
contains-none x h = let low : h.0 < 0 = h.1 in omega (arith, low)

-- ---- more was indicated of it: it stands as before
pub stands-told : (here there : Limits) (put : Put) (a b : Exchange) → TellsMore a b → Stands here there put a → Stands here there put b
stands-told here there put a b t s = subst (Stands here there put) (sym t.is) (record {
  course = laws.told_more put true false false false a.sender a.receiver a.forth a.back a.told t.told a.told_there t.told_there t.stays t.stays_there s.course;
  below = record { sender = s.below.sender; receiver = s.below.receiver };
  rests = record { sender = s.rests.sender; receiver = s.rests.receiver; forth = s.rests.forth; back = s.rests.back };
})
  where
    laws : CourseLaws
    laws = course-laws

-- what is due doesn't depend on the count
due-count : (x : SenderState) (count : ℕ) → sender_due (record x { count = count }) ≡ sender_due x
due-count x count = ap (λ o. if x.suspended then None else o) (ack x.ack_due)
  where
    y : SenderState
    y = record x { count = count }

    by-front : (front : Option (ℕ × ℕ)) → data_due front y ≡ data_due front x
    by-front (Some r) = refl
    by-front None = refl

    prompt : (p : Option Bool) → prompt_first p y ≡ prompt_first p x
    prompt (Some keep_alive) = refl
    prompt None = ap (λ o. if x.metadata_due then Some dues.Metadata else o) (by-front (front_of x.asked x.segment))

    phase : (p : SenderPhase) → phase_due p y ≡ phase_due p x
    phase sending.Sending = prompt x.prompt_due
    phase sending.Cancelling = refl
    phase sending.Closed = refl

    ack : (a : Option ℕ) → ack_first a y ≡ ack_first a x
    ack (Some condition) = refl
    ack None = phase x.phase

answered-not : (x : SenderState) → is_answered x ≡ true → x.phase ≡ sending.Sending → x.acknowledged ≡ false → ⊥
answered-not x h is none = false≢true (sym none ∙ sym (ap (λ p. is_answered_in p x.acknowledged) is) ∙ h)

module _ (here there : Limits) (policy : Policy) (put : Put) (a : Exchange) (limits : policy.limits ≡ here) (ignores : policy.handlers.inactivity ≡ Ignore)
    (own : IsItsSender put a.sender) (s : Stands here there put a) where
  -- ---- what the timers leave of the sender
  record Goes (P : SenderState → Type 0) (e : Exchange) : Type 0 where
    pub sender : SenderState
    pub told : Bool
    pub stays : a.told ≡ true → told ≡ true
    pub is : e ≡ record a { sender = sender; told = told }
    pub holds : P sender

  abbrev after : Kind → Exchange → Exchange
  after k e = let q = sender_expires k policy e.sender in record e { sender = q.sender; told = told_then put e.told q.told }

  step : (P Q : SenderState → Type 0) (k : Kind) → ((y : SenderState) → P y → Q (sender_expires k policy y).sender) → (e : Exchange) → Goes P e → Goes Q (after k e)
  step P Q k f e g = record {
    sender = (sender_expires k policy g.sender).sender;
    told = told_then put g.told (sender_expires k policy g.sender).told;
    stays = λ h. or_left g.told _ (g.stays h);
    is = ap (after k) g.is;
    holds = f g.sender g.holds;
  }

  all-steps : (P : SenderState → Type 0) → ((k : Kind) (y : SenderState) → P y → P (sender_expires k policy y).sender) → (ks : List Kind) (e : Exchange) → Goes P e →
      Goes P (expire_sender policy put ks e)
  unfolding expire_sender
  all-steps P f [] e g = g
  all-steps P f (k ∷ ks) e g = all-steps P f ks (after k e) (step P P k (f k) e g)

  itself : (P : SenderState → Type 0) → P a.sender → Goes P a
  itself P p = record { sender = a.sender; told = a.told; stays = λ h. h; is = refl; holds = p }

  -- ---- if the EOF was acknowledged, the count alone
  abbrev Recounted : SenderState → Type 0
  Recounted y = (count : ℕ) × (y ≡ record a.sender { count = count })

  recounts : is_answered a.sender ≡ true → (k : Kind) (y : SenderState) → Recounted y → Recounted (sender_expires k policy y).sender
  recounts answered k y p = subst (λ y. Recounted (sender_expires k policy y).sender) (sym p.1) (by k)
    where
      z : SenderState
      z = record a.sender { count = p.0 }

      by : (k : Kind) → Recounted (sender_expires k policy z).sender
      by EofAck = (p.0, ap (λ b. (if b then sender.expires EofAck policy z else quiet z).sender) (answered-waits z answered))
      by Inactivity = cond_both (sender_waits Inactivity z) (unheard policy.handlers.inactivity z) (quiet z) (λ (q : SenderAfter). Recounted q.sender)
          (λ _. (0, ap (λ h. (unheard h z).sender) ignores)) (λ _. (p.0, refl))
      by Nak = (p.0, refl)
      by FinishedAck = (p.0, refl)

  -- ---- if it wasn't, the EOF falls due again, if it is for that that one waits
  abbrev again : SenderState
  again = record a.sender { count = a.sender.count + 1; eof_due = true }

  abbrev IsAgain : SenderState → Type 0
  IsAgain y = y ≡ again

  abbrev IsSame : SenderState → Type 0
  IsSame y = y ≡ a.sender

  module _ (is : a.sender.phase ≡ sending.Sending) (unanswered : a.sender.acknowledged ≡ false) where
    unheard-not : (y : SenderState) → y.phase ≡ sending.Sending → y.acknowledged ≡ false → sender_waits Inactivity y ≡ false
    unheard-not y phase none = and_right (not y.suspended) (waits_for_anything y.phase y) (ap (λ p. waits_for_anything p y) phase ∙ none)

    stays-again : (k : Kind) (y : SenderState) → IsAgain y → IsAgain (sender_expires k policy y).sender
    stays-again k y p = subst (λ y. IsAgain (sender_expires k policy y).sender) (sym p) (by k)
      where
        by : (k : Kind) → IsAgain (sender_expires k policy again).sender
        by EofAck = ap (λ b. (if b then sender.expires EofAck policy again else quiet again).sender)
            (and_right (not a.sender.suspended) (waits_for_eof_ack a.sender.phase again)
            (ap (λ p. waits_for_eof_ack p again) is ∙ and_left (a.sender.eof_taken && not true) (not a.sender.acknowledged) (and_right a.sender.eof_taken (not true) refl)))
        by Inactivity = ap (λ b. (if b then sender.expires Inactivity policy again else quiet again).sender) (unheard-not again is unanswered)
        by Nak = refl
        by FinishedAck = refl

    below-limit : a.sender.count < policy.limits.eof
    below-limit = subst (λ (l : Limits). a.sender.count < l.eof) (sym limits) (s.below.sender is unanswered)

    fires : (y : SenderState) → IsSame y → IsAgain (sender_expires EofAck policy y).sender
    fires y p = subst (λ y. IsAgain (sender_expires EofAck policy y).sender) (sym p)
        (ap (λ b. (if b then sender.expires EofAck policy a.sender else quiet a.sender).sender) (eof-waits put a s.course s.rests is unanswered)
        ∙ ap (λ b. (sends_again (if b then Some (a.sender.count + 1) else None) policy.handlers.ack a.sender).sender) (lt-ltb a.sender.count policy.limits.eof below-limit))

    inactive : (y : SenderState) → IsSame y → IsSame (sender_expires Inactivity policy y).sender
    inactive y p = subst (λ y. IsSame (sender_expires Inactivity policy y).sender) (sym p)
        (ap (λ b. (if b then sender.expires Inactivity policy a.sender else quiet a.sender).sender) (unheard-not a.sender is unanswered))

    abbrev Fires : List Kind → Exchange → Type 0
    Fires ks e = Goes IsAgain e ⊎ (Goes IsSame e × (Contains ks EofAck → ⊥))

    not-first : (k : Kind) (ks : List Kind) (e : Exchange) → (k ≡ EofAck → ⊥) → Fires ks e → Fires (k ∷ ks) e
    not-first k ks e other (inl g) = inl g
    not-first k ks e other (inr g) = inr (g.0, λ h. elim (contains-which k EofAck ks h) [ inl first ↦ other first | inr later ↦ g.1 later ])

    fires-all : (ks : List Kind) (e : Exchange) → Goes IsSame e → Fires ks (expire_sender policy put ks e)
    unfolding expire_sender
    fires-all [] e g = inr (g, contains-none EofAck)
    fires-all (EofAck ∷ ks) e g = inl (all-steps IsAgain stays-again ks (after EofAck e) (step IsSame IsAgain EofAck fires e g))
    fires-all (Inactivity ∷ ks) e g = not-first Inactivity ks (expire_sender policy put ks (after Inactivity e)) (λ f. cc)
        (fires-all ks (after Inactivity e) (step IsSame IsSame Inactivity inactive e g))
    fires-all (Nak ∷ ks) e g = not-first Nak ks (expire_sender policy put ks (after Nak e)) (λ f. cc) (fires-all ks (after Nak e) (step IsSame IsSame Nak (λ y p. p) e g))
    fires-all (FinishedAck ∷ ks) e g = not-first FinishedAck ks (expire_sender policy put ks (after FinishedAck e)) (λ f. cc)
        (fires-all ks (after FinishedAck e) (step IsSame IsSame FinishedAck (λ y p. p) e g))

  -- ---- the course then
  or-false : (b : Bool) → (b || false) ≡ b
  or-false true = refl
  or-false false = refl

  counted : (count : ℕ) (due told : Bool) → (a.sender.eof_due ≡ true → due ≡ true) → (a.told ≡ true → told ≡ true)
      → CourseIn put true false false false (record a { sender = record a.sender { count = count; eof_due = due }; told = told })
  counted count due told still stays =
      let laws : CourseLaws = course-laws in
      let y : SenderState = record a.sender { count = count; eof_due = due } in
      laws.told_more put true false false false y a.receiver a.forth a.back (a.told || false) told a.told_there a.told_there (λ h. stays (sym (or-false a.told) ∙ h)) (λ h. h)
      (stays-course put true false false false a.receiver a.forth a.told_there a.sender y a.back a.told []
      (record { size = refl; sent = refl; phase = refl; eof = refl; ack = refl; metadata = λ h. h; octets = λ n h. h; acknowledged = λ h. h })
      s.course.truth.acknowledged (λ g. still g.due) (λ _ h. h) s.course)

  -- an EOF that is due again brings its ACK and the file, and the end too if the receiver isn't
  -- finishing
  none-owed : (o : Option ReceiverState) → a.receiver ≡ o → maybe owes_ack o ≡ false
  none-owed (Some r) is = ap is_no_error (due-none put a s.course s.rests r is).0
  none-owed None is = refl

  again-course : (ends told : Bool) → (a.told ≡ true → told ≡ true) → (ends ≡ true → maybe finishes a.receiver ≡ false)
      → CourseIn put true true true ends (record a { sender = again; told = told })
  again-course ends told stays receives =
      let c = counted (a.sender.count + 1) true told (λ _. refl) stays in
      let comes : EofAgain again a.receiver a.back = record { due = refl; none_due = none-owed a.receiver refl; none_back = ap (one_says is_ack_of_eof) s.rests.back } in
      record {
        truth = c.truth;
        active = c.active;
        ack_comes = λ _ _. inr (inl (inr (inr comes)));
        file_comes = λ _. record { metadata = inl (inr (inr comes)); octets = λ n _. inl (inr (inr comes)); ending = inl (inr (inr comes)) };
        end_comes = λ f h. absurd (both_ways (maybe finishes a.receiver) (receives f) h);
      }

  -- ---- and the settling after
  module _ (n : ℕ) (b : Exchange) (rests : IsAtRest b) where
    abbrev Round : Type 0
    Round = Stands here there put b × ((is_answered a.sender ≡ true → is_answered b.sender ≡ true) × (maybe is_closed a.receiver ≡ true → maybe is_closed b.receiver ≡ true))

    recounted-round : is_answered a.sender ≡ true → (count : ℕ) (told : Bool) → (a.told ≡ true → told ≡ true) → Runs n put (record a { sender = record a.sender { count = count }; told = told }) b →
        Round
    recounted-round answered count told stays runs =
        let e : Exchange = record a { sender = record a.sender { count = count }; told = told } in
        let quiet_sender : sender_due e.sender ≡ None = due-count a.sender count ∙ s.rests.sender in
        let stood : Stands here there put e = record {
          course = counted count a.sender.eof_due told (λ h. h) stays;
          below = record { sender = λ is none. absurd (answered-not a.sender answered is none); receiver = s.below.receiver };
          rests = record { sender = quiet_sender; receiver = s.rests.receiver; forth = s.rests.forth; back = s.rests.back };
        } in
        let d = done-runs n put e b runs in
        (stands-told here there put e b (rest-runs n put e b stood.rests runs) stood, (d.0, d.1))

    same-round : (told : Bool) → (a.told ≡ true → told ≡ true) → Runs n put (record a { told = told }) b → Round
    same-round told stays runs =
        let e : Exchange = record a { told = told } in
        let more : TellsMore a e = record { told = told; told_there = a.told_there; stays = stays; stays_there = λ h. h; is = refl } in
        let stood : Stands here there put e = stands-told here there put a e more s in
        let d = done-runs n put e b runs in
        (stands-told here there put e b (rest-runs n put e b stood.rests runs) stood, (d.0, d.1))

    again-round : (told : Bool) → (a.told ≡ true → told ≡ true) → Runs n put (record a { sender = again; told = told }) b → Round × (is_answered b.sender ≡ true)
    again-round told stays runs = (
      (
        record {
          course = c.0;
          below = record { sender = λ is none. absurd (answered-not b.sender c.1.0 is none); receiver = c.1.1 };
          rests = rests;
        },
        ((λ _. c.1.0), (done-runs n put e b runs).1),
      ),
      c.1.0,
    )
      where
        e : Exchange
        e = record a { sender = again; told = told }

        keeps : ExchangeKeeps e b
        keeps = runs-keep n put e b runs

        some : 1 ≤ b.sender.segment
        some = subst (λ n. 1 ≤ n) (sym keeps.sender.segment) own.in_file.some

        answered : (ends : Bool) → CourseIn put true true true ends b → is_answered b.sender ≡ true
        answered ends k = by b.sender.phase refl
          where
            by : (p : SenderPhase) → b.sender.phase ≡ p → is_answered_in p b.sender.acknowledged ≡ true
            by sending.Sending is = course-acknowledged put true true ends b some k rests refl is
            by sending.Cancelling is = absurd (k.truth.not_cancelled is)
            by sending.Closed is = refl

        -- a receiver that was finishing still waits below its limit
        finishing-below : (o p : Option ReceiverState) → a.receiver ≡ o → maybe finishes o ≡ true → StaysReceiver o p → maybe has_ended p ≡ true → IsReceiverBelowNow there p
        finishing-below None p is h stays ended = absurd (false≢true h)
        finishing-below (Some r) p is h stays ended =
            let ended_q : has_ended stays.0 ≡ true = sym (ap (maybe has_ended) stays.1.0) ∙ ended in
            let under : IsReceiverBelowNow there (Some r) = subst (IsReceiverBelowNow there) is s.below.receiver in
            subst (IsReceiverBelowNow there) (sym stays.1.0) (
              λ phase _. absurd (false≢true (sym (ap (λ p. once_ended p false) phase) ∙ ended_q)),
              λ phase. (
                  let few : r.finished_count < there.finished = under.1 (is-finishing r.phase h) in
                  let fewer : stays.0.finished_count ≤ r.finished_count = stays.1.1.fewer.finisheds in
                  omega (arith, few, fewer)
                  ),
            )
          where
            is-finishing : (phase : ReceiverPhase) → is_finishing phase ≡ true → phase ≡ receiving.Finishing
            is-finishing receiving.Receiving h = absurd (false≢true h)
            is-finishing receiving.Finishing h = refl
            is-finishing receiving.Closed h = absurd (false≢true h)

        c : CourseIn put true false false false b × ((is_answered b.sender ≡ true) × IsReceiverBelowNow there b.receiver)
        c = elim (cases_Bool (maybe finishes a.receiver)) [
          | inl finishing ↦ (let k = runs-course n put true true true false e b own.is_sender.size (again-course false told stays (λ f. absurd (false≢true f))) runs in (
            truth-alone put true true true false b k,
            (
              answered false k,
              finishing-below a.receiver b.receiver refl finishing keeps.receiver (course-delivered put true true false b some k rests refl),
            ),
          ))
          | inr other ↦ (let k = runs-course n put true true true true e b own.is_sender.size (again-course true told stays (λ _. other)) runs in
              (truth-alone put true true true true b k, (answered true k, closed-below there b.receiver (course-completes put true true true b some k rests refl refl).receiver)))
        ]

    abbrev Whole : List Kind → Type 0
    Whole ks = Stands here there put b × ((is_answered a.sender ≡ true → is_answered b.sender ≡ true)
        × ((maybe is_closed a.receiver ≡ true → maybe is_closed b.receiver ≡ true) × (Contains ks EofAck → is_answered b.sender ≡ true)))

    round : (ks : List Kind) → Runs n put (expire_sender policy put ks a) b → Whole ks
    round ks runs = elim (cases_Bool (is_answered a.sender)) [
      | inl answered ↦ (
          let g = all-steps Recounted (recounts answered) ks a (itself Recounted (a.sender.count, refl)) in
          let r = recounted-round answered g.holds.0 g.told g.stays (subst (λ m. Runs n put m b) (g.is ∙ ap (λ y. record a { sender = y; told = g.told }) g.holds.1) runs) in
          (r.0, (r.1.0, (r.1.1, λ _. r.1.0 answered))))
      | inr unanswered ↦ by a.sender.phase refl unanswered
    ]
      where
        by : (p : SenderPhase) → a.sender.phase ≡ p → is_answered_in p a.sender.acknowledged ≡ false → Whole ks
        by sending.Sending is none = elim (fires-all is none ks a (itself IsSame refl)) [
          | inl g ↦ (
              let r = again-round g.told g.stays (subst (λ m. Runs n put m b) (g.is ∙ ap (λ y. record a { sender = y; told = g.told }) g.holds) runs) in
              (r.0.0, (r.0.1.0, (r.0.1.1, λ _. r.1))))
          | inr g ↦ (
              let r = same-round g.0.told g.0.stays (subst (λ m. Runs n put m b) (g.0.is ∙ ap (λ y. record a { sender = y; told = g.0.told }) g.0.holds) runs) in
              (r.0, (r.1.0, (r.1.1, λ h. absurd (g.1 h)))))
        ]
        by sending.Cancelling is none = absurd (s.course.truth.not_cancelled is)
        by sending.Closed is none = absurd (true≢false none)

-- Timers of a sender expire that it waited for, and it settles.
pub sender-round : (here there : Limits) (policy : Policy) (n : ℕ) (put : Put) (a b : Exchange) (ks : List Kind)
    → policy.limits ≡ here → policy.handlers.inactivity ≡ Ignore → IsItsSender put a.sender → Stands here there put a
    → AreWaitedBySender a.sender ks → Runs n put (expire_sender policy put ks a) b → IsAtRest b
    → Stands here there put b × ((is_answered a.sender ≡ true → is_answered b.sender ≡ true)
    × ((maybe is_closed a.receiver ≡ true → maybe is_closed b.receiver ≡ true)
    × (Contains ks EofAck → is_answered b.sender ≡ true)))
sender-round here there policy n put a b ks limits ignores own s waited runs rests = round here there policy put a limits ignores own s n b rests ks runs
