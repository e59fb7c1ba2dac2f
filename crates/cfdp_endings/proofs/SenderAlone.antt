-- A sender that is open has something to do, and alone it ends by its limits.
use Rattle.std.proofs.Common.{◌≡◌, ℕ, ◌+◌, ◌*◌, ◌≤◌, ◌&&◌, ◌||◌, ◌==◌, ◌⊎◌, inl, inr, not, min, nat_lt, is_some, Bool, true, false, List, [], ◌∷◌, take, Option, Some, None, if◌then◌else◌, refl, sym, ap, subst, ◌∙◌, arith}
use Rattle.std.specs.FinSet as set
use Rattle.std.proofs.lemmas.Bool.{false≢true, true≢false, cond_both, ltb-true}
use Rattle.cfdp_extents.specs.Offsets.{range}
use Rattle.cfdp_extents.specs.Terms.{front_of}
use Rattle.cfdp_timers.specs.declared.kind.Kind.{Kind}
use Rattle.cfdp_timers.specs.declared.kind.Kind.TheVariants.{EofAck, Nak, FinishedAck, Inactivity}
use Rattle.cfdp_directives.specs.declared.user.handler.Handler.{Handler}
use Rattle.cfdp_directives.specs.declared.user.handler.Handler.TheVariants.{Cancel, Suspend, Ignore, Abandon}
use Rattle.cfdp_directives.specs.declared.user.indication.Indication.{Indication}
use Rattle.cfdp_directives.specs.declared.user.limits.Limits.{Limits}
use Rattle.cfdp_directives.specs.declared.user.policy.Policy.{Policy}
use Rattle.cfdp_directives.specs.Pdu.Codes.{no_error, positive_ack_limit, inactivity}
use Rattle.cfdp_directives.specs.User.Policy.{another_try, finished_told, fault_told}
use Rattle.cfdp_store.specs.declared.stored.Stored.{Stored}
use Rattle.cfdp_store.specs.declared.stored.Stored.TheVariants.{Done, Refused}
use Rattle.cfdp_sender.specs.declared.phase.SenderPhase.{SenderPhase}
use Rattle.cfdp_sender.specs.declared.phase.SenderPhase.TheVariants.{Sending, Cancelling, Closed}
use Rattle.cfdp_sender.specs.declared.due.SenderDue.{SenderDue}
use Rattle.cfdp_sender.specs.declared.due.SenderDue.TheVariants as due
use Rattle.cfdp_sender.specs.declared.transfer.Transfer.{Transfer}
use Rattle.cfdp_sender.specs.State.{SenderState, opened_sender}
use Rattle.cfdp_sender.specs.Does.{AsksSome}
use Rattle.cfdp_sender.specs.Due.{sender_due, data_due, carries, carries_by}
use Rattle.cfdp_sender.specs.Steps.{SenderAfter, hearing, cancelled, closed, sender_sends, hears_ack, asks, asks_all, asks_in, sends_again, handled, quiet, unacknowledged_in, expires, sender_waits, sender_expires, cancels_in, suspends_in, resumes_in, prompts_in}
use Rattle.cfdp_sender.specs.Inputs.{SenderInput, Sends, HearsAck, HearsNak, HearsFinished, HearsKeepAlive, Expires, Cancels, Suspends, Resumes, Prompts, sender_step}
use Rattle.cfdp_endings.specs.Limits.{tries_left, is_ignored, ends_it, TellsEnd}
use Rattle.cfdp_endings.specs.Sender.{sender_open, owes_eof, owes_eof_in, SenderGoesOn, SenderAlone, expiry, expiries, SenderRuns, SenderGivesUp, SenderEnds, left_in, sender_left}

-- ---- what a cancelled sender must still send
abbrev Owes : SenderState → Type 0
Owes x = owes_eof x ≡ true

pub opened-owes : (t : Transfer) → owes_eof (opened_sender t) ≡ true
opened-owes t = refl

sent-owes : (stored : Stored) (file : List ℕ) (x : SenderState) (d : SenderDue) → owes_eof x ≡ true → owes_eof (sender_sends stored file x d).sender ≡ true
sent-owes stored file x (due.AckOfFinished condition) h = h
sent-owes stored file x (due.Prompt keep_alive) h = h
sent-owes stored file x due.Metadata h = h
sent-owes Done file x (due.AskedData start end) h = h
sent-owes Refused file x (due.AskedData start end) h = refl
sent-owes Done file x (due.NewData start end) h = h
sent-owes Refused file x (due.NewData start end) h = refl
sent-owes stored file x due.Eof h = by x.phase
  where
    by : (p : SenderPhase) → owes_eof_in p false true ≡ true
    by Sending = refl
    by Cancelling = refl
    by Closed = refl

ack-owes : (x : SenderState) (p : SenderPhase) (condition : ℕ) → x.phase ≡ p → owes_eof x ≡ true → owes_eof (hears_ack p condition x).sender ≡ true
ack-owes x Sending condition is h = elim (x.eof_taken && (condition == no_error)) as
    (λ b. owes_eof (if b then record x { acknowledged = true; eof_due = false } else x) ≡ true) [
      | true ↦ ap (λ q. owes_eof_in q false x.eof_taken) is
      | false ↦ h
    ]
ack-owes x Cancelling condition is h = elim (condition == x.condition) as (λ (b : Bool). owes_eof
    (if b then hearing (finished_told x.addressing.id (cancelled x) ∷ []) (closed x) else hearing [] x).sender ≡ true) [ true ↦ refl | false ↦ h ]
ack-owes x Closed condition is h = h

asks-owes : (p : ℕ × ℕ) (x : SenderState) → owes_eof x ≡ true → owes_eof (asks p x) ≡ true
asks-owes p x h = cond_both ((p.0 == 0) && (p.1 == 0)) (record x { metadata_due = true })
    (if nat_lt p.0 (min p.1 x.sent) then record x { asked = set.union x.asked (range p.0 (min p.1 x.sent)) } else x) (λ y. owes_eof y ≡ true) (λ _. h)
    (λ _. cond_both (nat_lt p.0 (min p.1 x.sent)) (record x { asked = set.union x.asked (range p.0 (min p.1 x.sent)) }) x (λ y. owes_eof y ≡ true) (λ _. h) (λ _. h))

all-owes : (ps : List (ℕ × ℕ)) (x : SenderState) → owes_eof x ≡ true → owes_eof (asks_all ps x) ≡ true
all-owes [] x h = h
all-owes (p ∷ ps) x h = all-owes ps (asks p x) (asks-owes p x h)

pub in-owes : (p : SenderPhase) (ps : List (ℕ × ℕ)) (x : SenderState) → owes_eof x ≡ true → owes_eof (asks_in p ps x) ≡ true
in-owes Sending ps x h = all-owes ps x h
in-owes Cancelling ps x h = h
in-owes Closed ps x h = h

handled-owes : (handler : Handler) (condition : ℕ) (ignored x : SenderState) → owes_eof x ≡ true → owes_eof ignored ≡ true → owes_eof (handled handler condition ignored x) ≡ true
handled-owes Cancel condition ignored x h i = refl
handled-owes Suspend condition ignored x h i = h
handled-owes Ignore condition ignored x h i = i
handled-owes Abandon condition ignored x h i = refl

due-owes : (p : SenderPhase) (taken : Bool) → owes_eof_in p true taken ≡ true
due-owes Sending taken = refl
due-owes Cancelling taken = refl
due-owes Closed taken = refl

unacknowledged-owes : (p : SenderPhase) (handler : Handler) (x : SenderState) → owes_eof x ≡ true → owes_eof (unacknowledged_in p handler x).sender ≡ true
unacknowledged-owes Sending handler x h = handled-owes handler positive_ack_limit (record x { count = 0; eof_due = true }) x h (due-owes x.phase x.eof_taken)
unacknowledged-owes Cancelling handler x h = refl
unacknowledged-owes Closed handler x h = refl

again-owes : (o : Option ℕ) (handler : Handler) (x : SenderState) → owes_eof x ≡ true → owes_eof (sends_again o handler x).sender ≡ true
again-owes (Some count) handler x h = due-owes x.phase x.eof_taken
again-owes None handler x h = unacknowledged-owes x.phase handler x h

expires-owes : (kind : Kind) (policy : Policy) (x : SenderState) → owes_eof x ≡ true → owes_eof (expires kind policy x).sender ≡ true
expires-owes EofAck policy x h = again-owes (another_try x.count policy.limits.eof) policy.handlers.ack x h
expires-owes Inactivity policy x h = handled-owes policy.handlers.inactivity inactivity (record x { count = 0 }) x h h
expires-owes Nak policy x h = h
expires-owes FinishedAck policy x h = h

cancels-owes : (p : SenderPhase) (x : SenderState) → owes_eof x ≡ true → owes_eof (cancels_in p x).sender ≡ true
cancels-owes Sending x h = refl
cancels-owes Cancelling x h = h
cancels-owes Closed x h = h

suspends-owes : (p : SenderPhase) (b : Bool) (x : SenderState) → owes_eof x ≡ true → owes_eof (suspends_in p b x).sender ≡ true
suspends-owes Sending true x h = h
suspends-owes Sending false x h = h
suspends-owes Cancelling b x h = h
suspends-owes Closed b x h = h

resumes-owes : (p : SenderPhase) (b : Bool) (x : SenderState) → owes_eof x ≡ true → owes_eof (resumes_in p b x).sender ≡ true
resumes-owes Sending true x h = h
resumes-owes Sending false x h = h
resumes-owes Cancelling b x h = h
resumes-owes Closed b x h = h

prompts-owes : (p : SenderPhase) (o : Option Bool) (keep_alive : Bool) (x : SenderState) → owes_eof x ≡ true → owes_eof (prompts_in p o keep_alive x).sender ≡ true
prompts-owes Sending None keep_alive x h = h
prompts-owes Sending (Some other) keep_alive x h = h
prompts-owes Cancelling o keep_alive x h = h
prompts-owes Closed o keep_alive x h = h

pub step-owes : (policy : Policy) (file : List ℕ) (input : SenderInput) (x : SenderState) → owes_eof x ≡ true → owes_eof (sender_step policy file input x).sender ≡ true
step-owes policy file (Sends stored d) x h = sent-owes stored file x d h
step-owes policy file (HearsAck condition) x h = ack-owes x x.phase condition refl h
step-owes policy file (HearsNak pairs) x h = in-owes x.phase pairs x h
step-owes policy file (HearsFinished outcome) x h = refl
step-owes policy file (HearsKeepAlive progress) x h = h
step-owes policy file (Expires kind) x h = cond_both (sender_waits kind x) (expires kind policy x) (quiet x) (λ a. owes_eof a.sender ≡ true) (λ _. expires-owes kind policy x h) (λ _. h)
step-owes policy file Cancels x h = cancels-owes x.phase x h
step-owes policy file Suspends x h = suspends-owes x.phase x.suspended x h
step-owes policy file Resumes x h = resumes-owes x.phase x.suspended x h
step-owes policy file (Prompts keep_alive) x h = prompts-owes x.phase x.prompt_due keep_alive x h

pub partly-owes : (pairs : List (ℕ × ℕ)) (x y : SenderState) → AsksSome pairs x y → owes_eof y ≡ true
partly-owes pairs x y some = subst Owes (sym some.asked) (all-owes (take some.count pairs) x (ap (λ q. owes_eof_in q x.eof_due x.eof_taken) some.sending))

-- ---- never in silence
-- a sender with these flags
abbrev with : (s : Bool) (p : SenderPhase) (ack : Option ℕ) (prompt : Option Bool) (metadata eof taken acknowledged : Bool) → SenderState → SenderState
with s p ack prompt metadata eof taken acknowledged x = record x {
  suspended = s;
  phase = p;
  ack_due = ack;
  prompt_due = prompt;
  metadata_due = metadata;
  eof_due = eof;
  eof_taken = taken;
  acknowledged = acknowledged;
}

-- what is left to do once the data that were asked for were sent
rest-goes : (b e t k : Bool) (x : SenderState) → let y : SenderState = with false Sending None None false e t k x in
    (is_some (if b then Some (due.NewData x.sent (min x.size (x.sent + x.segment))) else if e || not t then Some due.Eof else None) ≡ true) ⊎ ((j : Kind) × (sender_waits j y ≡ true))
rest-goes true e t k x = inl refl
rest-goes false true t k x = inl refl
rest-goes false false false k x = inl refl
rest-goes false false true true x = inr (Inactivity, refl)
rest-goes false false true false x = inr (EofAck, refl)

goes : (s : Bool) (p : SenderPhase) (ack : Option ℕ) (prompt : Option Bool) (metadata eof taken acknowledged : Bool) (x : SenderState) →
    owes_eof (with s p ack prompt metadata eof taken acknowledged x) ≡ true → sender_open (with s p ack prompt metadata eof taken acknowledged x) ≡ true →
    SenderGoesOn (with s p ack prompt metadata eof taken acknowledged x)
goes true p ack prompt metadata eof taken acknowledged x owes is_open = absurd (false≢true is_open)
goes false Closed ack prompt metadata eof taken acknowledged x owes is_open = absurd (false≢true is_open)
goes false Sending (Some c) prompt metadata eof taken acknowledged x owes is_open = inl refl
goes false Cancelling (Some c) prompt metadata eof taken acknowledged x owes is_open = inl refl
goes false Cancelling None prompt metadata true taken acknowledged x owes is_open = inl refl
goes false Cancelling None prompt metadata false true acknowledged x owes is_open = inr (EofAck, refl)
goes false Cancelling None prompt metadata false false acknowledged x owes is_open = absurd (false≢true owes)
goes false Sending None (Some k) metadata eof taken acknowledged x owes is_open = inl refl
goes false Sending None None true eof taken acknowledged x owes is_open = inl refl
goes false Sending None None false e t k x owes is_open = by (front_of x.asked x.segment)
  where
    y : SenderState
    y = with false Sending None None false e t k x

    by : (o : Option (ℕ × ℕ)) → (is_some (data_due o y) ≡ true) ⊎ ((j : Kind) × (sender_waits j y ≡ true))
    by (Some r) = inl refl
    by None = rest-goes (nat_lt x.sent x.size) e t k x

pub goes-on : (x : SenderState) → owes_eof x ≡ true → sender_open x ≡ true → SenderGoesOn x
goes-on x owes is_open = goes x.suspended x.phase x.ack_due x.prompt_due x.metadata_due x.eof_due x.eof_taken x.acknowledged x owes is_open

-- ---- alone
-- a sender with these, by which what is left is counted
abbrev at : (s : Bool) (p : SenderPhase) (acknowledged : Bool) → SenderState → SenderState
at s p acknowledged x = record x { suspended = s; phase = p; acknowledged = acknowledged }

-- data are due only while it sends
data-sending : (s : Bool) (p : SenderPhase) (ack : Option ℕ) (eof : Bool) (x : SenderState) →
    carries_by (sender_due (record x { suspended = s; phase = p; ack_due = ack; eof_due = eof })) ≡ true → (s ≡ false) × (p ≡ Sending)
data-sending true p ack eof x h = absurd (false≢true h)
data-sending false Sending ack eof x h = (refl, refl)
data-sending false Cancelling (Some c) eof x h = absurd (false≢true h)
data-sending false Cancelling None true x h = absurd (false≢true h)
data-sending false Cancelling None false x h = absurd (false≢true h)
data-sending false Closed (Some c) eof x h = absurd (false≢true h)
data-sending false Closed None eof x h = absurd (false≢true h)

sends-data : (x : SenderState) (d : SenderDue) → sender_due x ≡ Some d → carries d ≡ true → (x.suspended ≡ false) × (x.phase ≡ Sending)
sends-data x d is c = data-sending x.suspended x.phase x.ack_due x.eof_due x (ap carries_by is ∙ c)

-- a failed read begins the tries of the EOF that cancels
begins-low : (x : SenderState) (limit : ℕ) → (x.suspended ≡ false) × (x.phase ≡ Sending) → 0 + tries_left 0 limit ≤ (if x.suspended then 0 else left_in x.phase x.acknowledged x.count limit)
begins-low x limit is =
    subst (λ n. 0 + tries_left 0 limit ≤ n)
    (sym (ap (λ s. if s then 0 else left_in x.phase x.acknowledged x.count limit) is.0 ∙ ap (λ p. left_in p x.acknowledged x.count limit) is.1)) (omega arith)

same-low : (n : ℕ) → 0 + n ≤ n
same-low n = omega arith

abbrev Lowers : Limits → ℕ → SenderState → SenderState → Type 0
Lowers limits n y x = n + sender_left limits y ≤ sender_left limits x

sent-lowers : (limits : Limits) (stored : Stored) (file : List ℕ) (x : SenderState) (d : SenderDue) → sender_due x ≡ Some d → Lowers limits 0 (sender_sends stored file x d).sender x
sent-lowers limits stored file x (due.AckOfFinished condition) is = same-low (sender_left limits x)
sent-lowers limits stored file x (due.Prompt keep_alive) is = same-low (sender_left limits x)
sent-lowers limits stored file x due.Metadata is = same-low (sender_left limits x)
sent-lowers limits Done file x (due.AskedData start end) is = same-low (sender_left limits x)
sent-lowers limits Refused file x (due.AskedData start end) is = begins-low x limits.eof (sends-data x (due.AskedData start end) is refl)
sent-lowers limits Done file x (due.NewData start end) is = same-low (sender_left limits x)
sent-lowers limits Refused file x (due.NewData start end) is = begins-low x limits.eof (sends-data x (due.NewData start end) is refl)
sent-lowers limits stored file x due.Eof is = same-low (sender_left limits x)

-- ---- an expiry
handled-lowers : (h : Handler) (condition : ℕ) (limits : Limits) (n : ℕ) (ignored x : SenderState) → is_ignored h ≡ false → 1 + tries_left 0 limits.eof ≤ n → 1 + sender_left limits (handled h condition ignored x) ≤ n
handled-lowers Cancel condition limits n ignored x g low = low
handled-lowers Suspend condition limits n ignored x g low = omega (arith, low)
handled-lowers Ignore condition limits n ignored x g low = absurd (true≢false g)
handled-lowers Abandon condition limits n ignored x g low = omega (arith, low)

never-three : (a b : Bool) → (a && b && false) ≡ true → ⊥
never-three true true h = false≢true h
never-three true false h = false≢true h
never-three false true h = false≢true h
never-three false false h = false≢true h

eof-lowers : (policy : Policy) (s : Bool) (p : SenderPhase) (k : Bool) (x : SenderState) → SenderGivesUp policy → sender_waits EofAck (at s p k x) ≡ true →
    Lowers policy.limits 1 (expires EofAck policy (at s p k x)).sender (at s p k x)
eof-lowers policy true p k x g w = absurd (false≢true w)
eof-lowers policy false Closed k x g w = absurd (false≢true w)
eof-lowers policy false Sending true x g w = absurd (never-three x.eof_taken (not x.eof_due) w)
eof-lowers policy false Sending false x g w = elim (nat_lt x.count policy.limits.eof) as (λ b. nat_lt x.count policy.limits.eof ≡ b →
    Lowers policy.limits 1 (sends_again (if b then Some (x.count + 1) else None) policy.handlers.ack (at false Sending false x)).sender (at false Sending false x)) [
      | true ↦ λ is. (let low = ltb-true x.count policy.limits.eof is in omega (arith, low))
      | false ↦ λ is. handled-lowers policy.handlers.ack positive_ack_limit policy.limits (tries_left x.count policy.limits.eof + tries_left 0 policy.limits.eof)
          (record (at false Sending false x) { count = 0; eof_due = true }) (at false Sending false x) g.ack (omega arith)
    ] refl
eof-lowers policy false Cancelling k x g w = elim (nat_lt x.count policy.limits.eof) as (λ b. nat_lt x.count policy.limits.eof ≡ b →
    Lowers policy.limits 1 (sends_again (if b then Some (x.count + 1) else None) policy.handlers.ack (at false Cancelling k x)).sender (at false Cancelling k x)) [
      | true ↦ λ is. (let low = ltb-true x.count policy.limits.eof is in omega (arith, low))
      | false ↦ λ is. omega arith
    ] refl

inactive-lowers : (policy : Policy) (s : Bool) (p : SenderPhase) (k : Bool) (x : SenderState) → SenderGivesUp policy → sender_waits Inactivity (at s p k x) ≡ true →
    Lowers policy.limits 1 (expires Inactivity policy (at s p k x)).sender (at s p k x)
inactive-lowers policy true p k x g w = absurd (false≢true w)
inactive-lowers policy false Closed k x g w = absurd (false≢true w)
inactive-lowers policy false Cancelling k x g w = absurd (false≢true w)
inactive-lowers policy false Sending false x g w = absurd (false≢true w)
inactive-lowers policy false Sending true x g w = handled-lowers policy.handlers.inactivity inactivity policy.limits (1 + tries_left 0 policy.limits.eof)
    (record (at false Sending true x) { count = 0 }) (at false Sending true x) g.inactivity (omega arith)

waited-lowers : (policy : Policy) (k : Kind) (x : SenderState) → SenderGivesUp policy → sender_waits k x ≡ true → Lowers policy.limits 1 (expires k policy x).sender x
waited-lowers policy EofAck x g w = eof-lowers policy x.suspended x.phase x.acknowledged x g w
waited-lowers policy Inactivity x g w = inactive-lowers policy x.suspended x.phase x.acknowledged x g w
waited-lowers policy Nak x g w = absurd (false≢true w)
waited-lowers policy FinishedAck x g w = absurd (false≢true w)

pub expired-lowers : (policy : Policy) (k : Kind) (x : SenderState) → SenderGivesUp policy → sender_waits k x ≡ true → Lowers policy.limits 1 (sender_expires k policy x).sender x
expired-lowers policy k x g w = subst (λ b. Lowers policy.limits 1 (if b then expires k policy x else quiet x).sender x) (sym w) (waited-lowers policy k x g w)

pub taken-lowers : (limits : Limits) (stored : Stored) (file : List ℕ) (x : SenderState) (d : SenderDue) → sender_due x ≡ Some d → Lowers limits 0 (sender_sends stored file x d).sender x
taken-lowers limits stored file x d is = sent-lowers limits stored file x d is

pub step-lowers : (policy : Policy) (file : List ℕ) (input : SenderInput) (x : SenderState) → SenderGivesUp policy → SenderAlone input x →
    expiry input + sender_left policy.limits (sender_step policy file input x).sender ≤ sender_left policy.limits x
step-lowers policy file (Sends stored d) x g alone = sent-lowers policy.limits stored file x d alone
step-lowers policy file (Expires k) x g alone = expired-lowers policy k x g alone
step-lowers policy file (HearsAck condition) x g alone = absurd alone
step-lowers policy file (HearsNak pairs) x g alone = absurd alone
step-lowers policy file (HearsFinished outcome) x g alone = absurd alone
step-lowers policy file (HearsKeepAlive progress) x g alone = absurd alone
step-lowers policy file Cancels x g alone = absurd alone
step-lowers policy file Suspends x g alone = absurd alone
step-lowers policy file Resumes x g alone = absurd alone
step-lowers policy file (Prompts keep_alive) x g alone = absurd alone

pub run-lowers : (policy : Policy) (file : List ℕ) (inputs : List SenderInput) (old new : SenderState) → SenderGivesUp policy → SenderRuns policy file inputs old new →
    expiries inputs + sender_left policy.limits new ≤ sender_left policy.limits old
run-lowers policy file [] old new g is = subst (λ y. 0 + sender_left policy.limits y ≤ sender_left policy.limits old) (sym is) (same-low (sender_left policy.limits old))
run-lowers policy file (i ∷ is) old new g run =
    let first = step-lowers policy file i old g run.0 in
    let later = run-lowers policy file is (sender_step policy file i old).sender new g run.1 in
    omega (arith, first, later)

-- ---- if none is left
over-at : (limits : Limits) (s : Bool) (p : SenderPhase) (k : Bool) (x : SenderState) → sender_left limits (at s p k x) ≡ 0 → (sender_open (at s p k x) ≡ false) × (s ≡ false → p ≡ Closed)
over-at limits true p k x h = (refl, λ awake. absurd (true≢false awake))
over-at limits false Closed k x h = (refl, λ awake. refl)
over-at limits false Sending true x h = absurd (omega (arith, h))
over-at limits false Sending false x h = absurd (omega (arith, h))
over-at limits false Cancelling k x h = absurd (omega (arith, h))

pub left-over : (limits : Limits) (x : SenderState) → sender_left limits x ≡ 0 → sender_open x ≡ false
left-over limits x h = (over-at limits x.suspended x.phase x.acknowledged x h).0

pub left-closed : (limits : Limits) (x : SenderState) → sender_left limits x ≡ 0 → x.suspended ≡ false → x.phase ≡ Closed
left-closed limits x h awake = (over-at limits x.suspended x.phase x.acknowledged x h).1 awake

none-left : (policy : Policy) (file : List ℕ) (inputs : List SenderInput) (old new : SenderState) → SenderGivesUp policy → SenderRuns policy file inputs old new →
    sender_left policy.limits old ≤ expiries inputs → sender_left policy.limits new ≡ 0
none-left policy file inputs old new g run many = let low = run-lowers policy file inputs old new g run in omega (arith, low, many)

pub run-ends : (policy : Policy) (file : List ℕ) (inputs : List SenderInput) (old new : SenderState) → SenderGivesUp policy → SenderRuns policy file inputs old new →
    sender_left policy.limits old ≤ expiries inputs → sender_open new ≡ false
run-ends policy file inputs old new g run many = left-over policy.limits new (none-left policy file inputs old new g run many)

most-at : (limits : Limits) (s : Bool) (p : SenderPhase) (k : Bool) (x : SenderState) → sender_left limits (at s p k x) ≤ 2 * (limits.eof + 1)
most-at limits true p k x = omega arith
most-at limits false Closed k x = omega arith
most-at limits false Sending true x = omega arith
most-at limits false Sending false x = omega arith
most-at limits false Cancelling k x = omega arith

pub most : (limits : Limits) (x : SenderState) → sender_left limits x ≤ 2 * (limits.eof + 1)
most limits x = most-at limits x.suspended x.phase x.acknowledged x

-- ---- what is indicated
handled-told : (h : Handler) (condition : ℕ) (ignored x : SenderState) → sender_open ignored ≡ true → sender_open (handled h condition ignored x) ≡ false →
    TellsEnd x.addressing.id (fault_told h x.addressing.id condition)
handled-told Cancel condition ignored x i over = absurd (true≢false over)
handled-told Suspend condition ignored x i over = (condition, inr refl)
handled-told Ignore condition ignored x i over = absurd (true≢false (sym i ∙ over))
handled-told Abandon condition ignored x i over = (condition, inl refl)

abbrev Tells : SenderState → SenderAfter → Type 0
Tells x a = sender_open a.sender ≡ false → TellsEnd x.addressing.id a.told

eof-told : (policy : Policy) (s : Bool) (p : SenderPhase) (k : Bool) (x : SenderState) → sender_open (at s p k x) ≡ true → Tells (at s p k x) (expires EofAck policy (at s p k x))
eof-told policy true p k x is_open over = absurd (false≢true is_open)
eof-told policy false Closed k x is_open over = absurd (false≢true is_open)
eof-told policy false Sending k x is_open over = elim (nat_lt x.count policy.limits.eof) as (λ b.
    Tells (at false Sending k x) (sends_again (if b then Some (x.count + 1) else None) policy.handlers.ack (at false Sending k x))) [
      | true ↦ λ still. absurd (true≢false still)
      | false ↦ handled-told policy.handlers.ack positive_ack_limit (record (at false Sending k x) { count = 0; eof_due = true }) (at false Sending k x) refl
    ] over
eof-told policy false Cancelling k x is_open over = elim (nat_lt x.count policy.limits.eof) as (λ b.
    Tells (at false Cancelling k x) (sends_again (if b then Some (x.count + 1) else None) policy.handlers.ack (at false Cancelling k x))) [
      | true ↦ λ still. absurd (true≢false still)
      | false ↦ λ gone. (positive_ack_limit, inl refl)
    ] over

inactive-told : (policy : Policy) (s : Bool) (p : SenderPhase) (k : Bool) (x : SenderState) → sender_open (at s p k x) ≡ true → Tells (at s p k x) (expires Inactivity policy (at s p k x))
inactive-told policy s p k x is_open over = handled-told policy.handlers.inactivity inactivity (record (at s p k x) { count = 0 }) (at s p k x) is_open over

stays-open : (x : SenderState) (told : List Indication) → sender_open x ≡ true → sender_open x ≡ false → TellsEnd x.addressing.id told
stays-open x told is_open over = absurd (true≢false (sym is_open ∙ over))

expires-told : (k : Kind) (policy : Policy) (x : SenderState) → sender_open x ≡ true → Tells x (expires k policy x)
expires-told EofAck policy x is_open = eof-told policy x.suspended x.phase x.acknowledged x is_open
expires-told Inactivity policy x is_open = inactive-told policy x.suspended x.phase x.acknowledged x is_open
expires-told Nak policy x is_open = stays-open x [] is_open
expires-told FinishedAck policy x is_open = stays-open x [] is_open

sent-told : (stored : Stored) (file : List ℕ) (x : SenderState) (d : SenderDue) → sender_open x ≡ true → Tells x (sender_sends stored file x d)
sent-told stored file x (due.AckOfFinished condition) is_open = stays-open x _ is_open
sent-told stored file x (due.Prompt keep_alive) is_open = stays-open x _ is_open
sent-told stored file x due.Metadata is_open = stays-open x _ is_open
sent-told Done file x (due.AskedData start end) is_open = stays-open x _ is_open
sent-told Refused file x (due.AskedData start end) is_open = λ over. absurd (true≢false over)
sent-told Done file x (due.NewData start end) is_open = stays-open x _ is_open
sent-told Refused file x (due.NewData start end) is_open = λ over. absurd (true≢false over)
sent-told stored file x due.Eof is_open = stays-open x _ is_open

pub step-told : (policy : Policy) (file : List ℕ) (input : SenderInput) (x : SenderState) → SenderAlone input x → sender_open x ≡ true → sender_open (sender_step policy file input x).sender ≡ false →
    TellsEnd x.addressing.id (sender_step policy file input x).told
step-told policy file (Sends stored d) x alone is_open = sent-told stored file x d is_open
step-told policy file (Expires k) x alone is_open = cond_both (sender_waits k x) (expires k policy x) (quiet x) (Tells x) (λ _. expires-told k policy x is_open) (λ _. stays-open x [] is_open)
step-told policy file (HearsAck condition) x alone is_open = absurd alone
step-told policy file (HearsNak pairs) x alone is_open = absurd alone
step-told policy file (HearsFinished outcome) x alone is_open = absurd alone
step-told policy file (HearsKeepAlive progress) x alone is_open = absurd alone
step-told policy file Cancels x alone is_open = absurd alone
step-told policy file Suspends x alone is_open = absurd alone
step-told policy file Resumes x alone is_open = absurd alone
step-told policy file (Prompts keep_alive) x alone is_open = absurd alone

-- ---- if no handler suspends it
abbrev Awake : SenderState → Type 0
Awake x = x.suspended ≡ false

handled-awake : (h : Handler) (condition : ℕ) (ignored x : SenderState) → ends_it h ≡ true → Awake (handled h condition ignored x)
handled-awake Cancel condition ignored x e = refl
handled-awake Suspend condition ignored x e = absurd (false≢true e)
handled-awake Ignore condition ignored x e = absurd (false≢true e)
handled-awake Abandon condition ignored x e = refl

unacknowledged-awake : (p : SenderPhase) (h : Handler) (x : SenderState) → ends_it h ≡ true → Awake (unacknowledged_in p h x).sender
unacknowledged-awake Sending h x e = handled-awake h positive_ack_limit (record x { count = 0; eof_due = true }) x e
unacknowledged-awake Cancelling h x e = refl
unacknowledged-awake Closed h x e = refl

again-awake : (o : Option ℕ) (h : Handler) (x : SenderState) → ends_it h ≡ true → Awake x → Awake (sends_again o h x).sender
again-awake (Some count) h x e awake = awake
again-awake None h x e awake = unacknowledged-awake x.phase h x e

pub expires-awake : (k : Kind) (policy : Policy) (x : SenderState) → SenderEnds policy → Awake x → Awake (expires k policy x).sender
expires-awake EofAck policy x e awake = again-awake (another_try x.count policy.limits.eof) policy.handlers.ack x e.ack awake
expires-awake Inactivity policy x e awake = handled-awake policy.handlers.inactivity inactivity (record x { count = 0 }) x e.inactivity
expires-awake Nak policy x e awake = awake
expires-awake FinishedAck policy x e awake = awake

pub sent-awake : (stored : Stored) (file : List ℕ) (x : SenderState) (d : SenderDue) → Awake x → Awake (sender_sends stored file x d).sender
sent-awake stored file x (due.AckOfFinished condition) awake = awake
sent-awake stored file x (due.Prompt keep_alive) awake = awake
sent-awake stored file x due.Metadata awake = awake
sent-awake Done file x (due.AskedData start end) awake = awake
sent-awake Refused file x (due.AskedData start end) awake = refl
sent-awake Done file x (due.NewData start end) awake = awake
sent-awake Refused file x (due.NewData start end) awake = refl
sent-awake stored file x due.Eof awake = awake

step-awake : (policy : Policy) (file : List ℕ) (input : SenderInput) (x : SenderState) → SenderEnds policy → SenderAlone input x → Awake x → Awake (sender_step policy file input x).sender
step-awake policy file (Sends stored d) x e alone awake = sent-awake stored file x d awake
step-awake policy file (Expires k) x e alone awake = cond_both (sender_waits k x) (expires k policy x) (quiet x) (λ a. Awake a.sender) (λ _. expires-awake k policy x e awake) (λ _. awake)
step-awake policy file (HearsAck condition) x e alone awake = absurd alone
step-awake policy file (HearsNak pairs) x e alone awake = absurd alone
step-awake policy file (HearsFinished outcome) x e alone awake = absurd alone
step-awake policy file (HearsKeepAlive progress) x e alone awake = absurd alone
step-awake policy file Cancels x e alone awake = absurd alone
step-awake policy file Suspends x e alone awake = absurd alone
step-awake policy file Resumes x e alone awake = absurd alone
step-awake policy file (Prompts keep_alive) x e alone awake = absurd alone

run-awake : (policy : Policy) (file : List ℕ) (inputs : List SenderInput) (old new : SenderState) → SenderEnds policy → SenderRuns policy file inputs old new → Awake old → Awake new
run-awake policy file [] old new e is awake = ap (λ (y : SenderState). y.suspended) is ∙ awake
run-awake policy file (i ∷ is) old new e run awake = run-awake policy file is (sender_step policy file i old).sender new e run.1 (step-awake policy file i old e run.0 awake)

pub not-ignored : (h : Handler) → ends_it h ≡ true → is_ignored h ≡ false
not-ignored Cancel e = refl
not-ignored Suspend e = refl
not-ignored Ignore e = absurd (false≢true e)
not-ignored Abandon e = refl

pub run-closes : (policy : Policy) (file : List ℕ) (inputs : List SenderInput) (old new : SenderState) → SenderEnds policy → SenderRuns policy file inputs old new → old.suspended ≡ false →
    sender_left policy.limits old ≤ expiries inputs → new.phase ≡ Closed
run-closes policy file inputs old new e run awake many =
    let g : SenderGivesUp policy = record { ack = not-ignored policy.handlers.ack e.ack; inactivity = not-ignored policy.handlers.inactivity e.inactivity } in
    left-closed policy.limits new (none-left policy file inputs old new g run many) (run-awake policy file inputs old new e run awake)
