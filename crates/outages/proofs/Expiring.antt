-- Timers of a transaction that expire in turn, while it may try again: it stays on its course, and
-- each expiry takes one try at most.
use Rattle.std.proofs.Common.{◌≡◌, ◌≢◌, ◌⊎◌, inl, inr, ℕ, suc, ◌+◌, ◌<◌, ◌≤◌, ◌||◌, not, Bool, true, false, List, [], ◌∷◌, length, Option, Some, None, refl, sym, ap, subst, ◌∙◌, arith, if◌then◌else◌}
use Rattle.std.specs.Prelude.{Contains}
use Rattle.std.proofs.lemmas.Bool.{false≢true, cond_both, and_parts, lt-ltb}
use Rattle.cfdp_header.specs.Files.{FileMap}
use Rattle.cfdp_directives.specs.declared.user.handler.Handler.{Handler}
use Rattle.cfdp_directives.specs.declared.user.handler.Handler.TheVariants.{Ignore}
use Rattle.cfdp_directives.specs.declared.user.policy.Policy.{Policy}
use Rattle.cfdp_directives.specs.Pdu.Codes.{inactivity}
use Rattle.cfdp_directives.specs.User.Policy.{another_try}
use Rattle.cfdp_directives.specs.User.Put.{Put}
use Rattle.cfdp_store.specs.Staged.{OctetMap}
use Rattle.cfdp_timers.specs.declared.kind.Kind.{Kind}
use Rattle.cfdp_timers.specs.declared.kind.Kind.TheVariants.{EofAck, Nak, FinishedAck, Inactivity}
use Rattle.cfdp_sender.specs.State.{SenderState}
use Rattle.cfdp_sender.specs.Steps.{SenderAfter, quiet, sends_again, sender_expires, sender_waits, unheard}
use Rattle.cfdp_sender.specs.Steps as sender
use Rattle.cfdp_receiver.specs.declared.state.ReceiverPhase.{ReceiverPhase}
use Rattle.cfdp_receiver.specs.declared.state.ReceiverPhase.TheVariants as receiving
use Rattle.cfdp_receiver.specs.State.{ReceiverState}
use Rattle.cfdp_receiver.specs.Steps.{ReceiverAfter, leaving, tidying, handled, nak_expires, finished_expires, expires_by, anew_once_expired, waits_in, waits, expires}
use Rattle.link_sim.specs.Course.{IsCourse}
use Rattle.link_sim.specs.Exchange.{is_closed, is_closed_in, maybe}
use Rattle.link_sim.specs.Runs.{Exchange, told_then, expire_sender, ReceiverExpires}
use Rattle.link_sim.specs.Stages.{IsActiveCourse}
use Rattle.link_sim.proofs.Course.All.{course-laws}
use Rattle.link_sim.proofs.Course.Laws.{TellsWell}
use Rattle.link_sim.proofs.Course.SenderStays.{stays-course}
use Rattle.link_sim.proofs.Stages.Owing.{ignored-told}
use Rattle.link_sim.proofs.Stages.Rounds.{contains-first, contains-later}
use Rattle.outages.proofs.Budgets.{HoldsThere, done-same, fewer-there, is_done, waits-undone}

-- ---- how often a kind is among the timers
abbrev pub one : Kind → Kind → ℕ
one EofAck EofAck = 1
one Nak Nak = 1
one FinishedAck FinishedAck = 1
one Inactivity Inactivity = 1
one _ _ = 0

abbrev pub occurs : Kind → List Kind → ℕ
occurs k [] = 0
occurs k (j ∷ ks) = one k j + occurs k ks

-- ---- if Inactivity isn't among them, nobody asks what is done about it
abbrev pub ignoring : Policy → Policy
ignoring p = record p { handlers = record p.handlers { inactivity = Ignore } }

abbrev pub IsIgnored : Policy → List Kind → Type 0
IsIgnored policy ks = (policy.handlers.inactivity ≡ Ignore) ⊎ (Contains ks Inactivity → ⊥)

ignored-later : (policy : Policy) (k : Kind) (ks : List Kind) → IsIgnored policy (k ∷ ks) → IsIgnored policy ks
ignored-later policy k ks (inl is) = inl is
ignored-later policy k ks (inr none) = inr (λ c. none (contains-later k Inactivity ks c))

ignoring-same : (policy : Policy) → policy.handlers.inactivity ≡ Ignore → ignoring policy ≡ policy
ignoring-same policy is = λ i. record policy { handlers = record policy.handlers { inactivity = sym is i } }

sender-alike : (policy : Policy) (k : Kind) (ks : List Kind) (x : SenderState) → IsIgnored policy (k ∷ ks) → sender_expires k (ignoring policy) x ≡ sender_expires k policy x
sender-alike policy k ks x (inl is) = ap (λ p. sender_expires k p x) (ignoring-same policy is)
sender-alike policy EofAck ks x (inr none) = refl
sender-alike policy Nak ks x (inr none) = refl
sender-alike policy FinishedAck ks x (inr none) = refl
sender-alike policy Inactivity ks x (inr none) = absurd (none (contains-first Inactivity ks))

pub ignored-sender : (policy : Policy) (put : Put) (ks : List Kind) (e : Exchange) → IsIgnored policy ks → expire_sender (ignoring policy) put ks e ≡ expire_sender policy put ks e
unfolding expire_sender
ignored-sender policy put [] e h = refl
ignored-sender policy put (k ∷ ks) e h =
    ignored-sender policy put ks (let a = sender_expires k (ignoring policy) e.sender in record e { sender = a.sender; told = told_then put e.told a.told }) (ignored-later policy k ks h)
    ∙ ap (λ (a : SenderAfter). expire_sender policy put ks (record e { sender = a.sender; told = told_then put e.told a.told })) (sender-alike policy k ks e.sender h)

receiver-alike : (policy : Policy) (k : Kind) (ks : List Kind) (m : OctetMap) (files : FileMap) (r : ReceiverState) → IsIgnored policy (k ∷ ks) → expires k (ignoring policy) m files r
    ≡ expires k policy m files r
receiver-alike policy k ks m files r (inl is) = ap (λ p. expires k p m files r) (ignoring-same policy is)
receiver-alike policy EofAck ks m files r (inr none) = refl
receiver-alike policy Nak ks m files r (inr none) = refl
receiver-alike policy FinishedAck ks m files r (inr none) = refl
receiver-alike policy Inactivity ks m files r (inr none) = absurd (none (contains-first Inactivity ks))

pub ignored-receiver : (policy : Policy) (put : Put) (ks : List Kind) (e e1 : Exchange) → IsIgnored policy ks → ReceiverExpires policy put ks e e1 → ReceiverExpires (ignoring policy) put ks e e1
unfolding ReceiverExpires
ignored-receiver policy put [] e e1 h x = x
ignored-receiver policy put (k ∷ ks) e e1 h x =
    let r : ReceiverState = x.0 in
    let m : OctetMap = x.1.1.0 in
    let files : FileMap = x.1.1.1.0 in (
      r,
      (
        x.1.0,
        (
          m,
          (
            files,
            subst (λ (a : ReceiverAfter). ReceiverExpires (ignoring policy) put ks (record e { receiver = Some a.receiver; told_there = told_then put e.told_there a.told }) e1)
                (sym (receiver-alike policy k ks m files r h))
                (ignored-receiver policy put ks (let a = expires k policy m files r in record e { receiver = Some a.receiver; told_there = told_then put e.told_there a.told }) e1
                (ignored-later policy k ks h) x.1.1.1.1),
          ),
        ),
      ),
    )

-- ---- a sender
-- What its timers leave of it: the count, and that its EOF is due. So many of them are still due.
pub record Counts (limit : ℕ) (strict : Bool) (rest : ℕ) (x : SenderState) (n : ℕ) (y : SenderState) : Type 0 where
  pub count : ℕ
  pub due : Bool
  pub is : y ≡ record x { count = count; eof_due = due }
  pub still : x.eof_due ≡ true → due ≡ true
  pub few : is_done strict x ≡ false → count + (n + rest) ≤ limit

module _ (policy : Policy) (ignores : policy.handlers.inactivity ≡ Ignore) (strict : Bool) (rest : ℕ) (x : SenderState) where
  abbrev Left : ℕ → SenderState → Type 0
  Left n y = Counts policy.limits.eof strict rest x n y

  abbrev at : ℕ → Bool → SenderState
  at count due = record x { count = count; eof_due = due }

  eof-step : (n count : ℕ) (due : Bool) → (x.eof_due ≡ true → due ≡ true) → (is_done strict x ≡ false → count + (suc n + rest) ≤ policy.limits.eof)
      → Left n (sender_expires EofAck policy (at count due)).sender
  eof-step n count due still few =
      let y : SenderState = at count due in
      cond_both (sender_waits EofAck y) (sender.expires EofAck policy y) (quiet y) (λ (a : SenderAfter). Left n a.sender)
      (λ w. (
      let undone : is_done strict x ≡ false = sym (done-same strict x count due) ∙ waits-undone strict y w in
      let all : count + (suc n + rest) ≤ policy.limits.eof = few undone in
      let low : count < policy.limits.eof = omega (arith, all) in
      record {
        count = count + 1;
        due = true;
        is = ap (λ b. (sends_again (if b then Some (count + 1) else None) policy.handlers.ack y).sender) (lt-ltb count policy.limits.eof low);
        still = λ _. refl;
        few = λ _. omega (arith, all);
      }))
      (λ _. record { count = count; due = due; is = refl; still = still; few = λ undone. (let all : count + (suc n + rest) ≤ policy.limits.eof = few undone in omega (arith, all)) })

  inactivity-step : (n count : ℕ) (due : Bool) → (x.eof_due ≡ true → due ≡ true) → (is_done strict x ≡ false → count + (n + rest) ≤ policy.limits.eof)
      → Left n (sender_expires Inactivity policy (at count due)).sender
  inactivity-step n count due still few =
      let y : SenderState = at count due in
      cond_both (sender_waits Inactivity y) (unheard policy.handlers.inactivity y) (quiet y) (λ (a : SenderAfter). Left n a.sender)
      (λ _. record {
        count = 0;
        due = due;
        is = ap (λ h. (unheard h y).sender) ignores;
        still = still;
        few = λ undone. (let all : count + (n + rest) ≤ policy.limits.eof = few undone in omega (arith, all));
      })
      (λ _. record { count = count; due = due; is = refl; still = still; few = few })

  same-step : (n count : ℕ) (due : Bool) → (x.eof_due ≡ true → due ≡ true) → (is_done strict x ≡ false → count + ((0 + n) + rest) ≤ policy.limits.eof) → Left n (at count due)
  same-step n count due still few =
      record { count = count; due = due; is = refl; still = still; few = λ undone. (let all : count + ((0 + n) + rest) ≤ policy.limits.eof = few undone in omega (arith, all)) }

  one-step : (k : Kind) (n : ℕ) (y : SenderState) → Left (one EofAck k + n) y → Left n (sender_expires k policy y).sender
  one-step k n y c = subst (λ y. Left n (sender_expires k policy y).sender) (sym c.is) (by k c.few)
    where
      by : (k : Kind) → (is_done strict x ≡ false → c.count + ((one EofAck k + n) + rest) ≤ policy.limits.eof) → Left n (sender_expires k policy (at c.count c.due)).sender
      by EofAck few = eof-step n c.count c.due c.still (λ undone. (let all : c.count + ((1 + n) + rest) ≤ policy.limits.eof = few undone in omega (arith, all)))
      by Inactivity few = inactivity-step n c.count c.due c.still (λ undone. (let all : c.count + ((0 + n) + rest) ≤ policy.limits.eof = few undone in omega (arith, all)))
      by Nak few = same-step n c.count c.due c.still few
      by FinishedAck few = same-step n c.count c.due c.still few

  pub all-steps : (put : Put) (ks : List Kind) (e : Exchange) → Left (occurs EofAck ks) e.sender → Left 0 (expire_sender policy put ks e).sender
  unfolding expire_sender
  all-steps put [] e c = c
  all-steps put (k ∷ ks) e c =
      all-steps put ks (let a = sender_expires k policy e.sender in record e { sender = a.sender; told = told_then put e.told a.told }) (one-step k (occurs EofAck ks) e.sender c)

-- its course then, whatever was indicated
pub counted-course : (put : Put) (e : Exchange) (count : ℕ) (due told : Bool) → IsActiveCourse put e → (e.sender.eof_due ≡ true → due ≡ true) → (e.told ≡ true → told ≡ true)
    → IsActiveCourse put (record e { sender = record e.sender { count = count; eof_due = due }; told = told })
counted-course put e count due told c still stays =
    let y : SenderState = record e.sender { count = count; eof_due = due } in
    course-laws.told_more put true false false false y e.receiver e.forth e.back (e.told || false) told e.told_there e.told_there (λ h. stays (sym (or-false e.told) ∙ h)) (λ h. h)
    (stays-course put true false false false e.receiver e.forth e.told_there e.sender y e.back e.told []
    (record { size = refl; sent = refl; phase = refl; eof = refl; ack = refl; metadata = λ h. h; octets = λ n h. h; acknowledged = λ h. h })
    c.truth.acknowledged (λ g. still g.due) (λ _ h. h) c)
  where
    or-false : (b : Bool) → (b || false) ≡ b
    or-false true = refl
    or-false false = refl

-- ---- a receiver
-- What a timer leaves of it: its phase, and at most one try fewer.
record Tries (put : Put) (k : Kind) (q : ReceiverState) (p : ReceiverAfter) : Type 0 where
  told : TellsWell put true p.told
  closed : is_closed p.receiver ≡ is_closed q
  addressing : p.receiver.addressing ≡ q.addressing
  naks : p.receiver.nak_count ≤ q.nak_count + one Nak k
  finisheds : p.receiver.finished_count ≤ q.finished_count + one FinishedAck k

module _ (put : Put) (policy : Policy) (ignores : policy.handlers.inactivity ≡ Ignore) (m : OctetMap) (files : FileMap) (q : ReceiverState) where
  silent : TellsWell put true []
  silent = record { good = refl; unpaused = λ _. refl }

  leaves : (k : Kind) → Tries put k q (leaving m files q)
  leaves k = record { told = silent; closed = refl; addressing = refl; naks = omega arith; finisheds = omega arith }

  another : (count limit : ℕ) → count < limit → another_try count limit ≡ Some (count + 1)
  another count limit low = ap (λ b. if b then Some (count + 1) else None) (lt-ltb count limit low)

  open-phase : (k : Kind) (phase : ReceiverPhase) → waits_in phase k q ≡ true → phase ≢ receiving.Closed
  open-phase k receiving.Receiving w is = cc
  open-phase k receiving.Finishing w is = cc
  open-phase k receiving.Closed w is = false≢true w

  waits-open : (k : Kind) → waits k q ≡ true → is_closed q ≡ false
  waits-open k w = by q.phase (and_parts (not q.suspended) (waits_in q.phase k q) w).1
    where
      by : (phase : ReceiverPhase) → waits_in phase k q ≡ true → is_closed_in phase ≡ false
      by receiving.Receiving w = refl
      by receiving.Finishing w = refl
      by receiving.Closed w = absurd (false≢true w)

  no-eof : waits EofAck q ≡ true → ⊥
  no-eof w = by q.phase (and_parts (not q.suspended) (waits_in q.phase EofAck q) w).1
    where
      by : (phase : ReceiverPhase) → waits_in phase EofAck q ≡ true → ⊥
      by receiving.Receiving w = false≢true w
      by receiving.Finishing w = false≢true w
      by receiving.Closed w = false≢true w

  abbrev Low : Kind → Type 0
  Low k = is_closed q ≡ false → (q.nak_count + one Nak k ≤ policy.limits.nak) × (q.finished_count + one FinishedAck k ≤ policy.limits.finished)

  fired : (k : Kind) → waits k q ≡ true → Low k → Tries put k q (record (tidying (expires_by k policy m files q)) { anew = anew_once_expired k })
  fired Nak w low =
      let few : q.nak_count + 1 ≤ policy.limits.nak = (low (waits-open Nak w)).0 in
      subst (λ (t : Option ℕ). Tries put Nak q (record (tidying (nak_expires t policy.handlers.nak m files q)) { anew = None })) (sym (another q.nak_count policy.limits.nak (omega (arith, few))))
      (record { told = silent; closed = refl; addressing = refl; naks = omega arith; finisheds = omega arith })
  fired FinishedAck w low =
      let few : q.finished_count + 1 ≤ policy.limits.finished = (low (waits-open FinishedAck w)).1 in
      subst (λ (t : Option ℕ). Tries put FinishedAck q (record (tidying (finished_expires t m files q)) { anew = None }))
      (sym (another q.finished_count policy.limits.finished (omega (arith, few))))
      (record { told = silent; closed = refl; addressing = refl; naks = omega arith; finisheds = omega arith })
  fired Inactivity w low =
      subst (λ (h : Handler). Tries put Inactivity q (record (tidying (handled h inactivity m files q)) { anew = Some Inactivity })) (sym ignores)
      (record { told = ignored-told put policy m files q; closed = refl; addressing = refl; naks = omega arith; finisheds = omega arith })
  fired EofAck w low = absurd (no-eof w)

  tries : (k : Kind) → Low k → Tries put k q (expires k policy m files q)
  tries k low = cond_both (waits k q) (record (tidying (expires_by k policy m files q)) { anew = anew_once_expired k }) (leaving m files q) (Tries put k q) (λ w. fired k w low) (λ _. leaves k)

module _ (put : Put) (policy : Policy) (ignores : policy.handlers.inactivity ≡ Ignore) (nak finished : ℕ) where
  abbrev There : List Kind → Option ReceiverState → Type 0
  There ks o = HoldsThere policy.limits (occurs Nak ks + nak) (occurs FinishedAck ks + finished) o

  -- What its timers leave of the transaction.
  pub record Received (e e1 : Exchange) : Type 0 where
    pub course : IsActiveCourse put e1
    pub holds : HoldsThere policy.limits nak finished e1.receiver
    pub closed : maybe is_closed e1.receiver ≡ maybe is_closed e.receiver

  pub all-received : (ks : List Kind) (e e1 : Exchange) → e.sender.size ≡ length put.octets → ((r : ReceiverState) → e.receiver ≡ Some r → r.addressing.id ≡ put.id) → IsActiveCourse put e →
      There ks e.receiver → ReceiverExpires policy put ks e e1 → Received e e1
  unfolding ReceiverExpires
  all-received [] e e1 size own c h x =
      subst (Received e) (sym x) (record { course = c; holds = holds-so e.receiver h; closed = refl })
    where
      holds-so : (o : Option ReceiverState) → HoldsThere policy.limits (0 + nak) (0 + finished) o → HoldsThere policy.limits nak finished o
      holds-so o h = fewer-there policy.limits (0 + nak) nak (0 + finished) finished o (omega arith) (omega arith) h
  all-received (k ∷ ks) e e1 size own c h x =
      let q : ReceiverState = x.0 in
      let is : e.receiver ≡ Some q = x.1.0 in
      let m : OctetMap = x.1.1.0 in
      let files : FileMap = x.1.1.1.0 in
      let p : ReceiverAfter = expires k policy m files q in
      let before : HoldsThere policy.limits ((one Nak k + occurs Nak ks) + nak) ((one FinishedAck k + occurs FinishedAck ks) + finished) (Some q) =
      subst (λ o. HoldsThere policy.limits ((one Nak k + occurs Nak ks) + nak) ((one FinishedAck k + occurs FinishedAck ks) + finished) o) is h in
      let t : Tries put k q p = tries put policy ignores m files q k (λ open_. (
      let a : q.nak_count + ((one Nak k + occurs Nak ks) + nak) ≤ policy.limits.nak = (before open_).0 in
      let b : q.finished_count + ((one FinishedAck k + occurs FinishedAck ks) + finished) ≤ policy.limits.finished = (before open_).1 in
      (omega (arith, a), omega (arith, b)))) in
      let course_q : IsCourse put true false false false e.sender (Some q) e.forth e.back e.told e.told_there =
      subst (λ o. IsCourse put true false false false e.sender o e.forth e.back e.told e.told_there) is c in
      let next : Exchange = record e { receiver = Some p.receiver; told_there = told_then put e.told_there p.told } in
      let course : IsActiveCourse put next =
      course-laws.receiver_expires put true false false false e.sender q e.forth e.back e.told e.told_there k policy m files (own q is) size course_q t.told in
      let r : Received next e1 = all-received ks next e1 size
      (λ s same. (let one_of : s ≡ p.receiver = some-same s p.receiver (sym same) in ap (λ (u : ReceiverState). u.addressing.id) one_of ∙ ap (λ a. a.id) t.addressing ∙ own q is)) course
      (λ open_. (
      let was : is_closed q ≡ false = sym t.closed ∙ open_ in
      let a : q.nak_count + ((one Nak k + occurs Nak ks) + nak) ≤ policy.limits.nak = (before was).0 in
      let b : q.finished_count + ((one FinishedAck k + occurs FinishedAck ks) + finished) ≤ policy.limits.finished = (before was).1 in
      let n : p.receiver.nak_count ≤ q.nak_count + one Nak k = t.naks in
      let f : p.receiver.finished_count ≤ q.finished_count + one FinishedAck k = t.finisheds in
      (omega (arith, a, n), omega (arith, b, f)))) x.1.1.1.1 in
      record { course = r.course; holds = r.holds; closed = r.closed ∙ t.closed ∙ sym (ap (maybe is_closed) is) }
    where
      some-same : (s t : ReceiverState) → Some s ≡ Some t → s ≡ t
      some-same s t e = cc
