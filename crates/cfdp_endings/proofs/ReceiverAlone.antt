-- A receiver that is open has something to do, and alone it ends by its limits.
use Rattle.std.proofs.Common.{◌≡◌, ℕ, ◌+◌, ◌≤◌, inl, inr, nat_lt, Bool, true, false, List, [], ◌∷◌, Option, Some, None, if◌then◌else◌, refl, sym, ap, subst, ◌∙◌, arith}
use Rattle.std.proofs.lemmas.Bool.{false≢true, true≢false, cond_both, ltb-true}
use Rattle.cfdp_header.specs.Files.{FileMap}
use Rattle.cfdp_timers.specs.declared.kind.Kind.{Kind}
use Rattle.cfdp_timers.specs.declared.kind.Kind.TheVariants as kind
use Rattle.cfdp_directives.specs.declared.user.handler.Handler.{Handler}
use Rattle.cfdp_directives.specs.declared.user.handler.Handler.TheVariants.{Cancel, Suspend, Ignore, Abandon}
use Rattle.cfdp_directives.specs.declared.user.limits.Limits.{Limits}
use Rattle.cfdp_directives.specs.declared.user.policy.Policy.{Policy}
use Rattle.cfdp_directives.specs.declared.user.telling.Outcome.{Outcome}
use Rattle.cfdp_directives.specs.Pdu.Codes.{positive_ack_limit, nak_limit, inactivity}
use Rattle.cfdp_directives.specs.User.Policy.{another_try}
use Rattle.cfdp_store.specs.declared.stored.Stored.{Stored}
use Rattle.cfdp_store.specs.declared.stored.Stored.TheVariants.{Done}
use Rattle.cfdp_store.specs.Staged.{OctetMap}
use Rattle.cfdp_receiver.specs.declared.due.Due.{Due}
use Rattle.cfdp_receiver.specs.declared.due.Due.TheVariants as due
use Rattle.cfdp_receiver.specs.declared.state.ReceiverPhase.{ReceiverPhase}
use Rattle.cfdp_receiver.specs.declared.state.ReceiverPhase.TheVariants.{Receiving, Finishing, Closed}
use Rattle.cfdp_receiver.specs.declared.state.Ending.{Ending}
use Rattle.cfdp_receiver.specs.State.{ReceiverState}
use Rattle.cfdp_receiver.specs.Due.{receiver_taken}
use Rattle.cfdp_receiver.specs.Steps.{ReceiverAfter, leaving, waits, handled, asking_again, nak_expires, finished_expires, expires_by, expires, takes}
use Rattle.cfdp_receiver.specs.Sound.{ReceiverInput, Hears, Takes, Expires, Cancels, Suspends, Resumes, receiver_step, owes_finished}
use Rattle.cfdp_endings.specs.Limits.{tries_left, is_ignored, ends_it, TellsEnd}
use Rattle.cfdp_endings.specs.Receiver.{receiver_open, ReceiverGoesOn, ReceiverAlone, expiry, expiries, ReceiverRuns, ReceiverGivesUp, ReceiverEnds, receiver_left}

-- ---- never in silence
-- a receiver with these flags
abbrev with : (s : Bool) (p : ReceiverPhase) (ack : Option ℕ) (finished taken : Bool) (outcome : Option Outcome) → ReceiverState → ReceiverState
with s p ack finished taken outcome r = record r { suspended = s; phase = p; ack_due = ack; finished_due = finished; finished_taken = taken; outcome = outcome }

goes : (s : Bool) (p : ReceiverPhase) (ack : Option ℕ) (finished taken : Bool) (outcome : Option Outcome) (r : ReceiverState) →
    owes_finished (with s p ack finished taken outcome r) ≡ true → receiver_open (with s p ack finished taken outcome r) ≡ true → ReceiverGoesOn (with s p ack finished taken outcome r)
goes true p ack finished taken outcome r owes is_open = absurd (false≢true is_open)
goes false Closed ack finished taken outcome r owes is_open = absurd (false≢true is_open)
goes false Receiving ack finished taken outcome r owes is_open = inr (kind.Inactivity, refl)
goes false Finishing (Some c) finished taken outcome r owes is_open = inl refl
goes false Finishing None true taken (Some o) r owes is_open = inl refl
goes false Finishing None false true (Some o) r owes is_open = inr (kind.FinishedAck, refl)
goes false Finishing None false false outcome r owes is_open = absurd (false≢true owes)
goes false Finishing None true taken None r owes is_open = absurd (false≢true owes)
goes false Finishing None false true None r owes is_open = absurd (false≢true owes)

pub goes-on : (r : ReceiverState) → owes_finished r ≡ true → receiver_open r ≡ true → ReceiverGoesOn r
goes-on r owes is_open = goes r.suspended r.phase r.ack_due r.finished_due r.finished_taken r.outcome r owes is_open

-- ---- alone
-- a receiver with these, by which what is left is counted
abbrev at : (s : Bool) (p : ReceiverPhase) (e : Option Ending) → ReceiverState → ReceiverState
at s p e r = record r { suspended = s; phase = p; ending = e }

same-low : (n : ℕ) → 0 + n ≤ n
same-low n = omega arith

abbrev Lowers : Limits → ℕ → ReceiverState → ReceiverState → Type 0
Lowers limits n s r = n + receiver_left limits s ≤ receiver_left limits r

taken-same : (limits : Limits) (d : Due) (r : ReceiverState) → receiver_left limits (receiver_taken d r) ≡ receiver_left limits r
taken-same limits (due.AckOfEof condition) r = refl
taken-same limits (due.Nak cursor) r = refl
taken-same limits due.KeepAlive r = refl
taken-same limits (due.Finished o) r = refl

pub taken-lowers : (limits : Limits) (d : Due) (m : OctetMap) (files : FileMap) (r : ReceiverState) → Lowers limits 0 (takes d m files r).receiver r
taken-lowers limits d m files r = subst (λ n. 0 + n ≤ receiver_left limits r) (sym (taken-same limits d r)) (same-low (receiver_left limits r))

module _ (m : OctetMap) (files : FileMap) where
  handled-lowers : (h : Handler) (condition : ℕ) (limits : Limits) (n : ℕ) (r : ReceiverState) → is_ignored h ≡ false → 1 + tries_left 0 limits.finished ≤ n →
      1 + receiver_left limits (handled h condition m files r).receiver ≤ n
  handled-lowers Cancel condition limits n r g low = low
  handled-lowers Suspend condition limits n r g low = omega (arith, low)
  handled-lowers Ignore condition limits n r g low = absurd (true≢false g)
  handled-lowers Abandon condition limits n r g low = omega (arith, low)

  asked-lowers : (h : Handler) (condition : ℕ) (limits : Limits) (n : ℕ) (r : ReceiverState) → is_ignored h ≡ false → 1 + tries_left 0 limits.finished ≤ n →
      1 + receiver_left limits (asking_again h (handled h condition m files r)).receiver ≤ n
  asked-lowers Cancel condition limits n r g low = handled-lowers Cancel condition limits n r g low
  asked-lowers Suspend condition limits n r g low = handled-lowers Suspend condition limits n r g low
  asked-lowers Ignore condition limits n r g low = absurd (true≢false g)
  asked-lowers Abandon condition limits n r g low = handled-lowers Abandon condition limits n r g low

  nak-lowers : (policy : Policy) (s : Bool) (p : ReceiverPhase) (e : Option Ending) (r : ReceiverState) → ReceiverGivesUp policy → waits kind.Nak (at s p e r) ≡ true →
      Lowers policy.limits 1 (expires_by kind.Nak policy m files (at s p e r)).receiver (at s p e r)
  nak-lowers policy true p e r g w = absurd (false≢true w)
  nak-lowers policy false Closed e r g w = absurd (false≢true w)
  nak-lowers policy false Finishing e r g w = absurd (false≢true w)
  nak-lowers policy false Receiving None r g w = absurd (false≢true w)
  nak-lowers policy false Receiving (Some e) r g w = elim (nat_lt r.nak_count policy.limits.nak) as (λ b. nat_lt r.nak_count policy.limits.nak ≡ b →
      Lowers policy.limits 1 (nak_expires (if b then Some (r.nak_count + 1) else None) policy.handlers.nak m files (at false Receiving (Some e) r)).receiver (at false Receiving (Some e) r)) [
        | true ↦ λ is. (let low = ltb-true r.nak_count policy.limits.nak is in omega (arith, low))
        | false ↦ λ is. asked-lowers policy.handlers.nak nak_limit policy.limits (tries_left r.nak_count policy.limits.nak + tries_left 0 policy.limits.finished) (at false Receiving (Some e) r) g.nak (omega arith)
      ] refl

  finished-lowers : (policy : Policy) (s : Bool) (p : ReceiverPhase) (e : Option Ending) (r : ReceiverState) → waits kind.FinishedAck (at s p e r) ≡ true →
      Lowers policy.limits 1 (expires_by kind.FinishedAck policy m files (at s p e r)).receiver (at s p e r)
  finished-lowers policy true p e r w = absurd (false≢true w)
  finished-lowers policy false Closed e r w = absurd (false≢true w)
  finished-lowers policy false Receiving e r w = absurd (false≢true w)
  finished-lowers policy false Finishing e r w = elim (nat_lt r.finished_count policy.limits.finished) as (λ b. nat_lt r.finished_count policy.limits.finished ≡ b →
      Lowers policy.limits 1 (finished_expires (if b then Some (r.finished_count + 1) else None) m files (at false Finishing e r)).receiver (at false Finishing e r)) [
        | true ↦ λ is. (let low = ltb-true r.finished_count policy.limits.finished is in omega (arith, low))
        | false ↦ λ is. omega arith
      ] refl

  inactive-lowers : (policy : Policy) (s : Bool) (p : ReceiverPhase) (e : Option Ending) (r : ReceiverState) → ReceiverGivesUp policy → waits kind.Inactivity (at s p e r) ≡ true →
      Lowers policy.limits 1 (expires_by kind.Inactivity policy m files (at s p e r)).receiver (at s p e r)
  inactive-lowers policy true p e r g w = absurd (false≢true w)
  inactive-lowers policy false Closed e r g w = absurd (false≢true w)
  inactive-lowers policy false Finishing e r g w = absurd (false≢true w)
  inactive-lowers policy false Receiving None r g w =
      handled-lowers policy.handlers.inactivity inactivity policy.limits (1 + tries_left 0 policy.limits.finished) (at false Receiving None r) g.inactivity (omega arith)
  inactive-lowers policy false Receiving (Some e) r g w =
      handled-lowers policy.handlers.inactivity inactivity policy.limits (tries_left r.nak_count policy.limits.nak + tries_left 0 policy.limits.finished) (at false Receiving (Some e) r) g.inactivity (omega arith)

  no-eof : (s : Bool) (p : ReceiverPhase) (r : ReceiverState) → waits kind.EofAck (record r { suspended = s; phase = p }) ≡ true → ⊥
  no-eof true p r w = false≢true w
  no-eof false Receiving r w = false≢true w
  no-eof false Finishing r w = false≢true w
  no-eof false Closed r w = false≢true w

  waited-lowers : (policy : Policy) (k : Kind) (r : ReceiverState) → ReceiverGivesUp policy → waits k r ≡ true → Lowers policy.limits 1 (expires_by k policy m files r).receiver r
  waited-lowers policy kind.EofAck r g w = absurd (no-eof r.suspended r.phase r w)
  waited-lowers policy kind.Nak r g w = nak-lowers policy r.suspended r.phase r.ending r g w
  waited-lowers policy kind.FinishedAck r g w = finished-lowers policy r.suspended r.phase r.ending r w
  waited-lowers policy kind.Inactivity r g w = inactive-lowers policy r.suspended r.phase r.ending r g w

  pub expired-lowers : (policy : Policy) (k : Kind) (r : ReceiverState) → ReceiverGivesUp policy → waits k r ≡ true → Lowers policy.limits 1 (expires k policy m files r).receiver r
  expired-lowers policy k r g w = cond_both (waits k r) _ (leaving m files r) (λ a. Lowers policy.limits 1 a.receiver r) (λ _. waited-lowers policy k r g w) (λ not_. absurd (true≢false (sym w ∙ not_)))

pub step-lowers : (policy : Policy) (stored : Stored) (input : ReceiverInput) (m : OctetMap) (files : FileMap) (r : ReceiverState) → ReceiverGivesUp policy → ReceiverAlone policy input r →
    expiry input + receiver_left policy.limits (receiver_step stored input m files r).receiver ≤ receiver_left policy.limits r
step-lowers policy stored (Takes d) m files r g alone = taken-lowers policy.limits d m files r
step-lowers policy stored (Expires k by) m files r g alone = subst (λ p. Lowers policy.limits 1 (expires k p m files r).receiver r) (sym alone.1) (expired-lowers m files policy k r g alone.0)
step-lowers policy stored (Hears large v) m files r g alone = absurd alone
step-lowers policy stored Cancels m files r g alone = absurd alone
step-lowers policy stored Suspends m files r g alone = absurd alone
step-lowers policy stored Resumes m files r g alone = absurd alone

pub run-lowers : (policy : Policy) (inputs : List ReceiverInput) (m : OctetMap) (files : FileMap) (old new : ReceiverState) → ReceiverGivesUp policy → ReceiverRuns policy inputs m files old new →
    expiries inputs + receiver_left policy.limits new ≤ receiver_left policy.limits old
run-lowers policy [] m files old new g is = subst (λ y. 0 + receiver_left policy.limits y ≤ receiver_left policy.limits old) (sym is) (same-low (receiver_left policy.limits old))
run-lowers policy (i ∷ is) m files old new g run =
    let a : ReceiverAfter = receiver_step Done i m files old in
    let first = step-lowers policy Done i m files old g run.0 in
    let later = run-lowers policy is a.octets a.files a.receiver new g run.1 in
    omega (arith, first, later)

-- ---- if none is left
over-at : (limits : Limits) (s : Bool) (p : ReceiverPhase) (e : Option Ending) (r : ReceiverState) → receiver_left limits (at s p e r) ≡ 0 → (receiver_open (at s p e r) ≡ false) × (s ≡ false → p ≡ Closed)
over-at limits true p e r h = (refl, λ awake. absurd (true≢false awake))
over-at limits false Closed e r h = (refl, λ awake. refl)
over-at limits false Receiving None r h = absurd (omega (arith, h))
over-at limits false Receiving (Some e) r h = absurd (omega (arith, h))
over-at limits false Finishing e r h = absurd (omega (arith, h))

pub left-over : (limits : Limits) (r : ReceiverState) → receiver_left limits r ≡ 0 → receiver_open r ≡ false
left-over limits r h = (over-at limits r.suspended r.phase r.ending r h).0

pub left-closed : (limits : Limits) (r : ReceiverState) → receiver_left limits r ≡ 0 → r.suspended ≡ false → r.phase ≡ Closed
left-closed limits r h awake = (over-at limits r.suspended r.phase r.ending r h).1 awake

none-left : (policy : Policy) (inputs : List ReceiverInput) (m : OctetMap) (files : FileMap) (old new : ReceiverState) → ReceiverGivesUp policy → ReceiverRuns policy inputs m files old new →
    receiver_left policy.limits old ≤ expiries inputs → receiver_left policy.limits new ≡ 0
none-left policy inputs m files old new g run many = let low = run-lowers policy inputs m files old new g run in omega (arith, low, many)

pub run-ends : (policy : Policy) (inputs : List ReceiverInput) (m : OctetMap) (files : FileMap) (old new : ReceiverState) → ReceiverGivesUp policy → ReceiverRuns policy inputs m files old new →
    receiver_left policy.limits old ≤ expiries inputs → receiver_open new ≡ false
run-ends policy inputs m files old new g run many = left-over policy.limits new (none-left policy inputs m files old new g run many)

most-at : (limits : Limits) (s : Bool) (p : ReceiverPhase) (e : Option Ending) (r : ReceiverState) → receiver_left limits (at s p e r) ≤ (limits.nak + 1) + (limits.finished + 1)
most-at limits true p e r = omega arith
most-at limits false Closed e r = omega arith
most-at limits false Receiving None r = omega arith
most-at limits false Receiving (Some e) r = omega arith
most-at limits false Finishing e r = omega arith

pub most : (limits : Limits) (r : ReceiverState) → receiver_left limits r ≤ (limits.nak + 1) + (limits.finished + 1)
most limits r = most-at limits r.suspended r.phase r.ending r

-- ---- what is indicated
abbrev Tells : ReceiverState → ReceiverAfter → Type 0
Tells r a = receiver_open a.receiver ≡ false → TellsEnd r.addressing.id a.told

stays-open : (r : ReceiverState) (a : ReceiverAfter) → receiver_open r ≡ true → receiver_open a.receiver ≡ receiver_open r → Tells r a
stays-open r a is_open same over = absurd (true≢false (sym is_open ∙ sym same ∙ over))

module _ (m : OctetMap) (files : FileMap) where
  handled-told : (h : Handler) (condition : ℕ) (r : ReceiverState) → receiver_open r ≡ true → Tells r (handled h condition m files r)
  handled-told Cancel condition r is_open over = absurd (true≢false over)
  handled-told Suspend condition r is_open over = (condition, inr refl)
  handled-told Ignore condition r is_open over = absurd (true≢false (sym is_open ∙ over))
  handled-told Abandon condition r is_open over = (condition, inl refl)

  asked-told : (h : Handler) (condition : ℕ) (r : ReceiverState) → receiver_open r ≡ true → Tells r (asking_again h (handled h condition m files r))
  asked-told Cancel condition r is_open = handled-told Cancel condition r is_open
  asked-told Suspend condition r is_open = handled-told Suspend condition r is_open
  asked-told Ignore condition r is_open = λ over. absurd (true≢false (sym is_open ∙ over))
  asked-told Abandon condition r is_open = handled-told Abandon condition r is_open

  nak-told : (o : Option ℕ) (h : Handler) (r : ReceiverState) → receiver_open r ≡ true → Tells r (nak_expires o h m files r)
  nak-told (Some count) h r is_open = λ over. absurd (true≢false (sym is_open ∙ over))
  nak-told None h r is_open = asked-told h nak_limit r is_open

  finished-told : (o : Option ℕ) (r : ReceiverState) → receiver_open r ≡ true → Tells r (finished_expires o m files r)
  finished-told (Some count) r is_open = λ over. absurd (true≢false (sym is_open ∙ over))
  finished-told None r is_open = handled-told Abandon positive_ack_limit r is_open

  expires-told : (k : Kind) (policy : Policy) (r : ReceiverState) → receiver_open r ≡ true → Tells r (expires_by k policy m files r)
  expires-told kind.EofAck policy r is_open = λ over. absurd (true≢false (sym is_open ∙ over))
  expires-told kind.Nak policy r is_open = nak-told (another_try r.nak_count policy.limits.nak) policy.handlers.nak r is_open
  expires-told kind.FinishedAck policy r is_open = finished-told (another_try r.finished_count policy.limits.finished) r is_open
  expires-told kind.Inactivity policy r is_open = handled-told policy.handlers.inactivity inactivity r is_open

  taken-told : (d : Due) (r : ReceiverState) → receiver_open r ≡ true → Tells r (takes d m files r)
  taken-told (due.AckOfEof condition) r is_open = λ over. absurd (true≢false (sym is_open ∙ over))
  taken-told (due.Nak cursor) r is_open = λ over. absurd (true≢false (sym is_open ∙ over))
  taken-told due.KeepAlive r is_open = λ over. absurd (true≢false (sym is_open ∙ over))
  taken-told (due.Finished o) r is_open = λ over. absurd (true≢false (sym is_open ∙ over))

pub step-told : (policy : Policy) (stored : Stored) (input : ReceiverInput) (m : OctetMap) (files : FileMap) (r : ReceiverState) → ReceiverAlone policy input r → receiver_open r ≡ true →
    receiver_open (receiver_step stored input m files r).receiver ≡ false → TellsEnd r.addressing.id (receiver_step stored input m files r).told
step-told policy stored (Takes d) m files r alone is_open = taken-told m files d r is_open
step-told policy stored (Expires k by) m files r alone is_open =
    cond_both (waits k r) _ (leaving m files r) (Tells r) (λ _. expires-told m files k by r is_open) (λ _. λ over. absurd (true≢false (sym is_open ∙ over)))
step-told policy stored (Hears large v) m files r alone is_open = absurd alone
step-told policy stored Cancels m files r alone is_open = absurd alone
step-told policy stored Suspends m files r alone is_open = absurd alone
step-told policy stored Resumes m files r alone is_open = absurd alone

-- ---- if no handler suspends it
abbrev Awake : ReceiverState → Type 0
Awake r = r.suspended ≡ false

module _ (m : OctetMap) (files : FileMap) where
  handled-awake : (h : Handler) (condition : ℕ) (r : ReceiverState) → ends_it h ≡ true → Awake (handled h condition m files r).receiver
  handled-awake Cancel condition r e = refl
  handled-awake Suspend condition r e = absurd (false≢true e)
  handled-awake Ignore condition r e = absurd (false≢true e)
  handled-awake Abandon condition r e = refl

  asked-awake : (h : Handler) (condition : ℕ) (r : ReceiverState) → ends_it h ≡ true → Awake (asking_again h (handled h condition m files r)).receiver
  asked-awake Cancel condition r e = refl
  asked-awake Suspend condition r e = absurd (false≢true e)
  asked-awake Ignore condition r e = absurd (false≢true e)
  asked-awake Abandon condition r e = refl

  nak-awake : (o : Option ℕ) (h : Handler) (r : ReceiverState) → ends_it h ≡ true → Awake r → Awake (nak_expires o h m files r).receiver
  nak-awake (Some count) h r e awake = awake
  nak-awake None h r e awake = asked-awake h nak_limit r e

  finished-awake : (o : Option ℕ) (r : ReceiverState) → Awake r → Awake (finished_expires o m files r).receiver
  finished-awake (Some count) r awake = awake
  finished-awake None r awake = refl

  pub expires-awake : (k : Kind) (policy : Policy) (r : ReceiverState) → ReceiverEnds policy → Awake r → Awake (expires_by k policy m files r).receiver
  expires-awake kind.EofAck policy r e awake = awake
  expires-awake kind.Nak policy r e awake = nak-awake (another_try r.nak_count policy.limits.nak) policy.handlers.nak r e.nak awake
  expires-awake kind.FinishedAck policy r e awake = finished-awake (another_try r.finished_count policy.limits.finished) r awake
  expires-awake kind.Inactivity policy r e awake = handled-awake policy.handlers.inactivity inactivity r e.inactivity

  pub taken-awake : (d : Due) (r : ReceiverState) → Awake r → Awake (takes d m files r).receiver
  taken-awake (due.AckOfEof condition) r awake = awake
  taken-awake (due.Nak cursor) r awake = awake
  taken-awake due.KeepAlive r awake = awake
  taken-awake (due.Finished o) r awake = awake

  step-awake : (policy : Policy) (stored : Stored) (input : ReceiverInput) (r : ReceiverState) → ReceiverEnds policy → ReceiverAlone policy input r → Awake r →
      Awake (receiver_step stored input m files r).receiver
  step-awake policy stored (Takes d) r e alone awake = taken-awake d r awake
  step-awake policy stored (Expires k by) r e alone awake = subst (λ p. Awake (expires k p m files r).receiver) (sym alone.1)
      (cond_both (waits k r) _ (leaving m files r) (λ a. Awake a.receiver) (λ _. expires-awake k policy r e awake) (λ _. awake))
  step-awake policy stored (Hears large v) r e alone awake = absurd alone
  step-awake policy stored Cancels r e alone awake = absurd alone
  step-awake policy stored Suspends r e alone awake = absurd alone
  step-awake policy stored Resumes r e alone awake = absurd alone

run-awake : (policy : Policy) (inputs : List ReceiverInput) (m : OctetMap) (files : FileMap) (old new : ReceiverState) → ReceiverEnds policy → ReceiverRuns policy inputs m files old new → Awake old → Awake new
run-awake policy [] m files old new e is awake = ap (λ (y : ReceiverState). y.suspended) is ∙ awake
run-awake policy (i ∷ is) m files old new e run awake =
    let a : ReceiverAfter = receiver_step Done i m files old in
    run-awake policy is a.octets a.files a.receiver new e run.1 (step-awake m files policy Done i old e run.0 awake)

not-ignored : (h : Handler) → ends_it h ≡ true → is_ignored h ≡ false
not-ignored Cancel e = refl
not-ignored Suspend e = refl
not-ignored Ignore e = absurd (false≢true e)
not-ignored Abandon e = refl

pub run-closes : (policy : Policy) (inputs : List ReceiverInput) (m : OctetMap) (files : FileMap) (old new : ReceiverState) → ReceiverEnds policy → ReceiverRuns policy inputs m files old new →
    old.suspended ≡ false → receiver_left policy.limits old ≤ expiries inputs → new.phase ≡ Closed
run-closes policy inputs m files old new e run awake many =
    let g : ReceiverGivesUp policy = record { nak = not-ignored policy.handlers.nak e.nak; inactivity = not-ignored policy.handlers.inactivity e.inactivity } in
    left-closed policy.limits new (none-left policy inputs m files old new g run many) (run-awake policy inputs m files old new e run awake)
