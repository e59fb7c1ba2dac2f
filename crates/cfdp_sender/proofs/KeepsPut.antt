-- Exported: a sender goes on sending its put, whatever happens to it.
use Rattle.std.proofs.Common.{◌≡◌, ℕ, ◌-◌, ◌≤◌, ◌==◌, ◌&&◌, min, nat_lt, Bool, true, false, List, [], ◌∷◌, take, drop, length, Option, Some, None, if◌then◌else◌, refl, sym, ap, ap₂, subst, ◌∙◌, arith}
use Rattle.std.specs.FinSet as set
use Rattle.cfdp_extents.specs.Offsets.{range}
use Rattle.cfdp_timers.specs.declared.kind.Kind.{Kind}
use Rattle.cfdp_timers.specs.declared.kind.Kind.TheVariants.{EofAck, Nak, FinishedAck, Inactivity}
use Rattle.cfdp_directives.specs.declared.user.handler.Handler.{Handler}
use Rattle.cfdp_directives.specs.declared.user.handler.Handler.TheVariants.{Cancel, Suspend, Ignore, Abandon}
use Rattle.cfdp_directives.specs.declared.user.policy.Policy.{Policy}
use Rattle.cfdp_directives.specs.Pdu.Sums.{summed}
use Rattle.cfdp_directives.specs.Pdu.Codes.{no_error}
use Rattle.cfdp_directives.specs.User.Policy.{another_try, finished_told}
use Rattle.cfdp_directives.specs.User.Put.{Put}
use Rattle.cfdp_store.specs.declared.stored.Stored.{Stored}
use Rattle.cfdp_store.specs.declared.stored.Stored.TheVariants.{Done, Refused}
use Rattle.cfdp_sender.specs.declared.phase.SenderPhase.{SenderPhase}
use Rattle.cfdp_sender.specs.declared.phase.SenderPhase.TheVariants.{Sending, Cancelling, Closed}
use Rattle.cfdp_sender.specs.declared.due.SenderDue.{SenderDue}
use Rattle.cfdp_sender.specs.declared.due.SenderDue.TheVariants as due
use Rattle.cfdp_sender.specs.State.{SenderState, opened_sender, transfer_of}
use Rattle.cfdp_sender.specs.Does.{AsksSome}
use Rattle.cfdp_sender.specs.declared.transfer.Transfer.{Transfer}
use Rattle.cfdp_sender.specs.Steps.{hearing, cancelled, closed, sender_sends, hears_ack, asks, asks_all, asks_in, sends_again, handled, quiet, with_new, unacknowledged_in, expires, sender_waits, sender_expires, cancels_in, suspends_in, resumes_in, prompts_in}
use Rattle.cfdp_sender.specs.Inputs.{SenderInput, Sends, HearsAck, HearsNak, HearsFinished, HearsKeepAlive, Expires, Cancels, Suspends, Resumes, Prompts, MayHappen, sender_step, put_of, front_sums, IsSenderOf}
use Rattle.cfdp_sender.proofs.Dues.{IsDue, due-is}
use Rattle.cfdp_sender.proofs.Truth.{ChecksumsGoOn, front-more}

-- what must be sent, and how much of it was sent, are the same
abbrev pub SameFront : SenderState → SenderState → Type 0
SameFront x y = (transfer_of y ≡ transfer_of x) × (y.sent ≡ x.sent) × (y.sums ≡ x.sums)

same : (x : SenderState) → SameFront x x
same x = (refl, refl, refl)

same-then : (x y z : SenderState) → SameFront x y → SameFront y z → SameFront x z
same-then x y z a b = (b.0 ∙ a.0, b.1 ∙ a.1, b.2 ∙ a.2)

still-of : (put : Put) (x y : SenderState) → IsSenderOf put x → SameFront x y → IsSenderOf put y
still-of put x y of s = record {
  id = ap (λ (t : Transfer). t.addressing.id) s.0 ∙ of.id;
  source = ap (λ (t : Transfer). t.source) s.0 ∙ of.source;
  destination = ap (λ (t : Transfer). t.destination) s.0 ∙ of.destination;
  kind = ap (λ (t : Transfer). t.checksum_kind) s.0 ∙ of.kind;
  size = ap (λ (t : Transfer). t.size) s.0 ∙ of.size;
  front = s.2 ∙ of.front ∙ ap₂ (λ (k n : ℕ). front_sums k (take n put.octets)) (sym (ap (λ (t : Transfer). t.checksum_kind) s.0)) (sym s.1);
}

-- ---- hearing
same-ack : (x : SenderState) (p : SenderPhase) (condition : ℕ) → SameFront x (hears_ack p condition x).sender
same-ack x Sending condition = elim (x.eof_taken && (condition == no_error)) as
    (λ b. SameFront x (if b then record x { acknowledged = true; eof_due = false } else x)) [ true ↦ same x | false ↦ same x ]
same-ack x Cancelling condition = elim (condition == x.condition) as (λ (b : Bool). SameFront x
    (if b then hearing (finished_told x.addressing.id (cancelled x) ∷ []) (closed x) else hearing [] x).sender) [ true ↦ same x | false ↦ same x ]
same-ack x Closed condition = same x

same-asks : (p : ℕ × ℕ) (x : SenderState) → SameFront x (asks p x)
same-asks p x = elim ((p.0 == 0) && (p.1 == 0)) as (λ b. SameFront x (if b then record x { metadata_due = true }
    else (if nat_lt p.0 (min p.1 x.sent) then record x { asked = set.union x.asked (range p.0 (min p.1 x.sent)) } else x))) [
      | true ↦ same x
      | false ↦ elim (nat_lt p.0 (min p.1 x.sent)) as (λ b. SameFront x (if b then record x { asked = set.union x.asked (range p.0 (min p.1 x.sent)) } else x)) [ true ↦ same x | false ↦ same x ]
    ]

same-asks_all : (ps : List (ℕ × ℕ)) (x : SenderState) → SameFront x (asks_all ps x)
same-asks_all [] x = same x
same-asks_all (p ∷ ps) x = same-then x (asks p x) (asks_all ps (asks p x)) (same-asks p x) (same-asks_all ps (asks p x))

pub same-nak : (x : SenderState) (p : SenderPhase) (ps : List (ℕ × ℕ)) → SameFront x (asks_in p ps x)
same-nak x Sending ps = same-asks_all ps x
same-nak x Cancelling ps = same x
same-nak x Closed ps = same x

-- ---- timers
same-handled : (handler : Handler) (condition : ℕ) (ignored x : SenderState) → SameFront x ignored → SameFront x (handled handler condition ignored x)
same-handled Cancel condition ignored x s = same x
same-handled Suspend condition ignored x s = same x
same-handled Ignore condition ignored x s = s
same-handled Abandon condition ignored x s = same x

same-unacknowledged : (p : SenderPhase) (handler : Handler) (x : SenderState) → SameFront x (unacknowledged_in p handler x).sender
same-unacknowledged Sending handler x = same-handled handler _ _ x (same x)
same-unacknowledged Cancelling handler x = same x
same-unacknowledged Closed handler x = same x

same-again : (o : Option ℕ) (handler : Handler) (x : SenderState) → SameFront x (sends_again o handler x).sender
same-again (Some count) handler x = same x
same-again None handler x = same-unacknowledged x.phase handler x

same-expires : (kind : Kind) (policy : Policy) (x : SenderState) → SameFront x (expires kind policy x).sender
same-expires EofAck policy x = same-again (another_try x.count policy.limits.eof) policy.handlers.ack x
same-expires Inactivity policy x = same-handled policy.handlers.inactivity _ _ x (same x)
same-expires Nak policy x = same x
same-expires FinishedAck policy x = same x

same-expired : (kind : Kind) (policy : Policy) (x : SenderState) → SameFront x (sender_expires kind policy x).sender
same-expired kind policy x = elim (sender_waits kind x) as (λ b. SameFront x (if b then expires kind policy x else quiet x).sender) [ true ↦ same-expires kind policy x | false ↦ same x ]

-- ---- calls
same-cancels : (p : SenderPhase) (x : SenderState) → SameFront x (cancels_in p x).sender
same-cancels Sending x = same x
same-cancels Cancelling x = same x
same-cancels Closed x = same x

same-suspends : (p : SenderPhase) (b : Bool) (x : SenderState) → SameFront x (suspends_in p b x).sender
same-suspends Sending true x = same x
same-suspends Sending false x = same x
same-suspends Cancelling b x = same x
same-suspends Closed b x = same x

same-resumes : (p : SenderPhase) (b : Bool) (x : SenderState) → SameFront x (resumes_in p b x).sender
same-resumes Sending true x = same x
same-resumes Sending false x = same x
same-resumes Cancelling b x = same x
same-resumes Closed b x = same x

same-prompts : (p : SenderPhase) (o : Option Bool) (keep_alive : Bool) (x : SenderState) → SameFront x (prompts_in p o keep_alive x).sender
same-prompts Sending None keep_alive x = same x
same-prompts Sending (Some other) keep_alive x = same x
same-prompts Cancelling o keep_alive x = same x
same-prompts Closed o keep_alive x = same x

-- ---- sending
new-of : ChecksumsGoOn → (put : Put) (x : SenderState) (start end : ℕ) → x.sent ≤ x.size → IsSenderOf put x → IsDue x (due.NewData start end)
    → IsSenderOf put (with_new end (take (end - start) (drop start put.octets)) x)
new-of law put x start end s of is = record {
  id = of.id;
  source = of.source;
  destination = of.destination;
  kind = of.kind;
  size = of.size;
  front =
      ap (λ (n : ℕ). summed (Some x.checksum_kind) x.sums (record { offset = x.sent; bytes = take (end - n) (drop n put.octets) })) is.0
      ∙ front-more law x.checksum_kind put.octets x.sent end x.sums (omega (arith, is.1, is.2)) (omega (arith, s, of.size)) of.front;
}

sent-of : ChecksumsGoOn → (put : Put) (stored : Stored) (x : SenderState) (d : SenderDue) → x.sent ≤ x.size → IsSenderOf put x → IsDue x d
    → IsSenderOf put (sender_sends stored put.octets x d).sender
sent-of law put stored x (due.AckOfFinished condition) s of is = still-of put x _ of (same x)
sent-of law put stored x (due.Prompt keep_alive) s of is = still-of put x _ of (same x)
sent-of law put stored x due.Metadata s of is = still-of put x _ of (same x)
sent-of law put Done x (due.AskedData start end) s of is = still-of put x _ of (same x)
sent-of law put Refused x (due.AskedData start end) s of is = still-of put x _ of (same x)
sent-of law put Done x (due.NewData start end) s of is = new-of law put x start end s of is
sent-of law put Refused x (due.NewData start end) s of is = still-of put x _ of (same x)
sent-of law put stored x due.Eof s of is = still-of put x _ of (same x)

pub step-of : ChecksumsGoOn → (put : Put) (policy : Policy) (input : SenderInput) (x : SenderState) → x.sent ≤ x.size → IsSenderOf put x → MayHappen input x
    → IsSenderOf put (sender_step policy put.octets input x).sender
step-of law put policy (Sends stored d) x s of is = sent-of law put stored x d s of (due-is x d is)
step-of law put policy (HearsAck condition) x s of is = still-of put x _ of (same-ack x x.phase condition)
step-of law put policy (HearsNak pairs) x s of is = still-of put x _ of (same-nak x x.phase pairs)
step-of law put policy (HearsFinished outcome) x s of is = still-of put x _ of (same x)
step-of law put policy (HearsKeepAlive progress) x s of is = of
step-of law put policy (Expires kind) x s of is = still-of put x _ of (same-expired kind policy x)
step-of law put policy Cancels x s of is = still-of put x _ of (same-cancels x.phase x)
step-of law put policy Suspends x s of is = still-of put x _ of (same-suspends x.phase x.suspended x)
step-of law put policy Resumes x s of is = still-of put x _ of (same-resumes x.phase x.suspended x)
step-of law put policy (Prompts keep_alive) x s of is = still-of put x _ of (same-prompts x.phase x.prompt_due keep_alive x)

-- ---- the ends
pub opened-of : ChecksumsGoOn → (t : Transfer) (file : List ℕ) → length file ≡ t.size → IsSenderOf (put_of t file) (opened_sender t)
opened-of law t file whole = record {
  id = refl;
  source = refl;
  destination = refl;
  kind = refl;
  size = sym whole;
  front = sym (law.none (Some t.checksum_kind));
}

pub partly-of : (put : Put) (pairs : List (ℕ × ℕ)) (x y : SenderState) → IsSenderOf put x → AsksSome pairs x y → IsSenderOf put y
partly-of put pairs x y of some =
    subst (IsSenderOf put) (sym some.asked) (still-of put x _ of (same-asks_all (take some.count pairs) x))

-- ---- what must be sent stays the same
pub sent-same : (stored : Stored) (file : List ℕ) (x : SenderState) (d : SenderDue) → transfer_of (sender_sends stored file x d).sender ≡ transfer_of x
sent-same stored file x (due.AckOfFinished condition) = refl
sent-same stored file x (due.Prompt keep_alive) = refl
sent-same stored file x due.Metadata = refl
sent-same Done file x (due.AskedData start end) = refl
sent-same Refused file x (due.AskedData start end) = refl
sent-same Done file x (due.NewData start end) = refl
sent-same Refused file x (due.NewData start end) = refl
sent-same stored file x due.Eof = refl

pub step-same : (policy : Policy) (file : List ℕ) (input : SenderInput) (x : SenderState) → transfer_of (sender_step policy file input x).sender ≡ transfer_of x
step-same policy file (Sends stored d) x = sent-same stored file x d
step-same policy file (HearsAck condition) x = (same-ack x x.phase condition).0
step-same policy file (HearsNak pairs) x = (same-nak x x.phase pairs).0
step-same policy file (HearsFinished outcome) x = refl
step-same policy file (HearsKeepAlive progress) x = refl
step-same policy file (Expires kind) x = (same-expired kind policy x).0
step-same policy file Cancels x = (same-cancels x.phase x).0
step-same policy file Suspends x = (same-suspends x.phase x.suspended x).0
step-same policy file Resumes x = (same-resumes x.phase x.suspended x).0
step-same policy file (Prompts keep_alive) x = (same-prompts x.phase x.prompt_due keep_alive x).0

pub partly-same : (pairs : List (ℕ × ℕ)) (x y : SenderState) → AsksSome pairs x y → transfer_of y ≡ transfer_of x
partly-same pairs x y some = ap transfer_of some.asked ∙ (same-asks_all (take some.count pairs) x).0
