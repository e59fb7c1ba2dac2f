-- Exported: the file of a sender is in the outbox as long as it is being sent.
use Rattle.std.proofs.Common.{◌≡◌, ◌≢◌, inl, inr, ◌&&◌, ◌==◌, ◌∷◌, min, nat_lt, ℕ, ◌+◌, ◌<◌, ◌≤◌, zero, suc, Bool, true, false, List, [], length, take, drop, Option, Some, None, IsSome, unwrap_or, if◌then◌else◌, refl, sym, ap, subst, ◌∙◌, arith}
use Rattle.std.proofs.lemmas.Bool.{cases_Bool}
use Rattle.std.specs.Option.{option_map}
use Rattle.std.specs.FinSet as set
use Rattle.std.specs.FinMap as map
use Rattle.cfdp_header.specs.Files.{FileMap}
use Rattle.cfdp_directives.specs.declared.user.handler.Handler.{Handler}
use Rattle.cfdp_directives.specs.declared.user.handler.Handler.TheVariants.{Cancel, Suspend, Ignore, Abandon}
use Rattle.cfdp_directives.specs.declared.user.policy.Policy.{Policy}
use Rattle.cfdp_directives.specs.Pdu.Codes.{inactivity}
use Rattle.cfdp_directives.specs.User.Policy.{another_try, finished_told}
use Rattle.cfdp_extents.specs.Offsets.{range}
use Rattle.cfdp_store.specs.declared.stored.Stored.{Stored}
use Rattle.cfdp_store.specs.declared.stored.Stored.TheVariants.{Done, Refused}
use Rattle.cfdp_timers.specs.declared.kind.Kind.{Kind}
use Rattle.cfdp_timers.specs.declared.kind.Kind.TheVariants.{EofAck, Nak, FinishedAck, Inactivity}
use Rattle.cfdp_store.specs.Files.{octets_in}
use Rattle.cfdp_store.specs.Rereading.{Rereads, RereadsIf}
use Rattle.cfdp_sender.specs.declared.phase.SenderPhase.{SenderPhase}
use Rattle.cfdp_sender.specs.declared.phase.SenderPhase.TheVariants.{Sending, Cancelling, Closed}
use Rattle.cfdp_sender.specs.declared.due.SenderDue.{SenderDue}
use Rattle.cfdp_sender.specs.declared.due.SenderDue.TheVariants as due
use Rattle.cfdp_sender.specs.State.{SenderState, transfer_of}
use Rattle.cfdp_sender.specs.declared.transfer.Transfer.{Transfer}
use Rattle.cfdp_sender.specs.Due.{sender_due, sender_says, carried, carries, phase_due, ack_first}
use Rattle.cfdp_sender.specs.Steps.{SenderAfter, quiet, hearing, closed, cancelled, sender_reads, with_new, without_asked, sender_sends, hears_ack, sender_hears_ack, asks, asks_all, asks_in, handled, unacknowledged_in, sends_again, expires, sender_expires, sender_waits, cancels_in, sender_cancels, suspends_in, sender_suspends, resumes_in, sender_resumes, prompts_in, sender_prompts}
use Rattle.cfdp_sender.specs.Does.{HasFile, HasFileWhile, HasOwnFile}
use Rattle.cfdp_sender.proofs.Dues.{extent-len}

-- ---- a file that was read again
same-some : (a b : Option (List ℕ)) → option_map length b ≡ option_map length a → IsSome a → IsSome b
same-some (Some x) (Some y) e h = h
same-some (Some x) None e h = absurd (cc)
same-some None b e h = absurd (cc)

same-len : (a b : Option (List ℕ)) → option_map length b ≡ option_map length a → length (unwrap_or b []) ≡ length (unwrap_or a [])
same-len (Some x) (Some y) e = ap (λ o. unwrap_or o 0) e
same-len (Some x) None e = absurd (cc)
same-len None (Some y) e = absurd (cc)
same-len None None e = refl

pub has-reread : {stand stand_now : Bool} {files now : FileMap} (name : List ℕ) (size : ℕ) → Rereads stand stand_now files now → HasFile files name size → HasFile now name size
has-reread {files = files} {now = now} name size rereads has = record {
  there = same-some (map.get files name) (map.get now name) (rereads.lens name) has.there;
  whole = same-len (map.get files name) (map.get now name) (rereads.lens name) ∙ has.whole;
}

pub while-reread : {stand stand_now : Bool} {files now : FileMap} (p : SenderPhase) (name : List ℕ) (size : ℕ) → Rereads stand stand_now files now → HasFileWhile p files name size →
    HasFileWhile p now name size
while-reread Sending name size rereads has = has-reread name size rereads has
while-reread Cancelling name size rereads has = tt
while-reread Closed name size rereads has = tt

pub while-reread_if : (reads stand stand_now : Bool) (files now : FileMap) (p : SenderPhase) (name : List ℕ) (size : ℕ) → RereadsIf reads stand stand_now files now →
    HasFileWhile p files name size → HasFileWhile p now name size
while-reread_if true stand stand_now files now p name size rereads has = while-reread p name size rereads has
while-reread_if false stand stand_now files now p name size rereads has = subst (λ f. HasFileWhile p f name size) (sym rereads.1) has

-- each file has as many octets
pub octets-reread : (reads stand stand_now : Bool) (files now : FileMap) (name : List ℕ) → RereadsIf reads stand stand_now files now → length (octets_in now name) ≡ length (octets_in files name)
octets-reread true stand stand_now files now name rereads = same-len (map.get files name) (map.get now name) (rereads.lens name)
octets-reread false stand stand_now files now name rereads = ap (λ f. length (octets_in f name)) rereads.1

-- ---- file data are due only while the file is being sent
none_of : {X : Type 0} (b : Bool) (x y : X) → (if b then Some x else None) ≡ Some y → x ≡ y
none_of true x y e = ap (λ o. unwrap_or o x) e
none_of false x y e = absurd (cc)

by_phase : (x : SenderState) (d : SenderDue) (p : SenderPhase) → x.phase ≡ p → phase_due p x ≡ Some d → carries d ≡ true → x.phase ≡ Sending
by_phase x d Sending is e some = is
by_phase x d Cancelling is e some = let same : due.Eof ≡ d = none_of x.eof_due due.Eof d e in absurd (let bad : false ≡ true = ap carries same ∙ some in cc)
by_phase x d Closed is e some = absurd (cc)

by_ack : (x : SenderState) (d : SenderDue) (o : Option ℕ) → ack_first o x ≡ Some d → carries d ≡ true → x.phase ≡ Sending
by_ack x d (Some condition) e some = let same : due.AckOfFinished condition ≡ d = cc in absurd (let bad : false ≡ true = ap carries same ∙ some in cc)
by_ack x d None e some = by_phase x d x.phase refl e some

pub data-sending : (x : SenderState) (d : SenderDue) → sender_due x ≡ Some d → carries d ≡ true → x.phase ≡ Sending
data-sending x d e some = elim x.suspended as (λ b. (if b then None else ack_first x.ack_due x) ≡ Some d → x.phase ≡ Sending) [
  | true ↦ λ h. absurd (cc)
  | false ↦ λ h. by_ack x d x.ack_due h some
] e

-- how many octets of it are carried, whatever they are
pub carried-len : (x : SenderState) (d : SenderDue) (files : FileMap) (octets : List ℕ) (start count : ℕ) → sender_due x ≡ Some d → HasOwnFile files x
    → octets ≡ take count (drop start (octets_in files x.source)) → (0 < count → carries d ≡ true) → start + count ≤ x.size → length octets ≡ count
carried-len x d files octets start zero e has is some within = ap length is
carried-len x d files octets start (suc n) e has is some within =
    let sending : x.phase ≡ Sending = data-sending x d e (some (omega arith)) in
    let own : HasFile files x.source x.size = subst (λ p. HasFileWhile p files x.source x.size) sending has in
    extent-len (octets_in files x.source) octets start (suc n) x.size is own.whole within

-- ---- a step that keeps what is sent, and doesn't begin to send it
pub own-after : (files : FileMap) (x y : SenderState) → transfer_of y ≡ transfer_of x → (y.phase ≡ Sending → x.phase ≡ Sending) → HasOwnFile files x → HasOwnFile files y
own-after files x y same back has = by y.phase refl
  where
    by : (p : SenderPhase) → y.phase ≡ p → HasFileWhile p files y.source y.size
    by Sending is =
        let own : HasFile files x.source x.size = subst (λ p. HasFileWhile p files x.source x.size) (back is) has in
        subst (λ (t : Transfer). HasFile files t.source t.size) (sym same) own
    by Cancelling is = tt
    by Closed is = tt

-- ---- what carries no octets of the file says the same, whatever the file is
says-same : (x : SenderState) (d : SenderDue) (file other : List ℕ) → carries d ≡ false → sender_says file x d ≡ sender_says other x d
says-same x (due.AskedData start end) file other none = absurd (cc)
says-same x (due.NewData start end) file other none = absurd (cc)
says-same x (due.AckOfFinished condition) file other none = refl
says-same x (due.Prompt keep_alive) file other none = refl
says-same x due.Metadata file other none = refl
says-same x due.Eof file other none = refl

pub says-unsent : (x : SenderState) (d : SenderDue) (file other : List ℕ) → sender_due x ≡ Some d → x.phase ≢ Sending → sender_says file x d ≡ sender_says other x d
says-unsent x d file other e unsent = elim (cases_Bool (carries d)) [
  | inl some ↦ absurd (unsent (data-sending x d e some))
  | inr none ↦ says-same x d file other none
]

-- ---- no step begins to send
-- a sender that is left sending by this was sending
abbrev pub GoesOn : (old new : SenderState) → Type 0
GoesOn x y = y.phase ≡ Sending → x.phase ≡ Sending

on-if : (b : Bool) (x y z : SenderState) → GoesOn x y → GoesOn x z → GoesOn x (if b then y else z)
on-if true x y z first second = first
on-if false x y z first second = second

on-step : (b : Bool) (x : SenderState) (a c : SenderAfter) → GoesOn x a.sender → GoesOn x c.sender → GoesOn x (if b then a else c).sender
on-step true x a c first second = first
on-step false x a c first second = second

pub never : {Y : Type 0} → Closed ≡ Sending → Y
never e = absurd (cc)

cancels : {Y : Type 0} → Cancelling ≡ Sending → Y
cancels e = absurd (cc)

pub on-ack : (condition : ℕ) (x : SenderState) → GoesOn x (sender_hears_ack condition x).sender
on-ack condition x = by x.phase refl
  where
    by : (p : SenderPhase) → x.phase ≡ p → GoesOn x (hears_ack p condition x).sender
    by Sending is = λ h. is
    by Cancelling is = on-step (condition == x.condition) x (hearing (finished_told x.addressing.id (cancelled x) ∷ []) (closed x)) (hearing [] x) never (λ h. h)
    by Closed is = λ h. h

on-asks : (p : ℕ × ℕ) (x : SenderState) → (asks p x).phase ≡ x.phase
on-asks p x = elim ((p.0 == 0) && (p.1 == 0)) as (λ b. (if b then record x { metadata_due = true }
    else (if nat_lt p.0 (min p.1 x.sent) then record x { asked = set.union x.asked (range p.0 (min p.1 x.sent)) } else x)).phase ≡ x.phase) [
      | true ↦ refl
      | false ↦ elim (nat_lt p.0 (min p.1 x.sent)) as (λ b. (if b then record x { asked = set.union x.asked (range p.0 (min p.1 x.sent)) } else x).phase ≡ x.phase) [ true ↦ refl | false ↦ refl ]
    ]

pub on-asks_all : (ps : List (ℕ × ℕ)) (x : SenderState) → (asks_all ps x).phase ≡ x.phase
on-asks_all [] x = refl
on-asks_all (p ∷ ps) x = on-asks_all ps (asks p x) ∙ on-asks p x

pub on-asks_in : (p : SenderPhase) (ps : List (ℕ × ℕ)) (x : SenderState) → GoesOn x (asks_in p ps x)
on-asks_in Sending ps x = λ h. sym (on-asks_all ps x) ∙ h
on-asks_in Cancelling ps x = λ h. h
on-asks_in Closed ps x = λ h. h

pub on-cancels : (x : SenderState) → GoesOn x (sender_cancels x).sender
on-cancels x = by x.phase refl
  where
    by : (p : SenderPhase) → x.phase ≡ p → GoesOn x (cancels_in p x).sender
    by Sending is = λ h. is
    by Cancelling is = λ h. h
    by Closed is = λ h. h

pub on-suspends : (x : SenderState) → GoesOn x (sender_suspends x).sender
on-suspends x = by x.phase x.suspended
  where
    by : (p : SenderPhase) (b : Bool) → GoesOn x (suspends_in p b x).sender
    by Sending false = λ h. h
    by Sending true = λ h. h
    by Cancelling b = λ h. h
    by Closed b = λ h. h

pub on-resumes : (x : SenderState) → GoesOn x (sender_resumes x).sender
on-resumes x = by x.phase x.suspended
  where
    by : (p : SenderPhase) (b : Bool) → GoesOn x (resumes_in p b x).sender
    by Sending false = λ h. h
    by Sending true = λ h. h
    by Cancelling b = λ h. h
    by Closed b = λ h. h

pub on-prompts : (keep_alive : Bool) (x : SenderState) → GoesOn x (sender_prompts keep_alive x).sender
on-prompts keep_alive x = by x.phase x.prompt_due
  where
    by : (p : SenderPhase) (o : Option Bool) → GoesOn x (prompts_in p o keep_alive x).sender
    by Sending None = λ h. h
    by Sending (Some b) = λ h. h
    by Cancelling o = λ h. h
    by Closed o = λ h. h

on-handled : (handler : Handler) (condition : ℕ) (ignored x : SenderState) → GoesOn x ignored → GoesOn x (handled handler condition ignored x)
on-handled Cancel condition ignored x on = cancels
on-handled Suspend condition ignored x on = λ h. h
on-handled Ignore condition ignored x on = on
on-handled Abandon condition ignored x on = never

on-again : (o : Option ℕ) (handler : Handler) (x : SenderState) → GoesOn x (sends_again o handler x).sender
on-again (Some count) handler x = λ h. h
on-again None handler x = by x.phase refl
  where
    by : (p : SenderPhase) → x.phase ≡ p → GoesOn x (unacknowledged_in p handler x).sender
    by Sending is = λ h. is
    by Cancelling is = never
    by Closed is = never

on-expires : (k : Kind) (policy : Policy) (x : SenderState) → GoesOn x (expires k policy x).sender
on-expires EofAck policy x = on-again (another_try x.count policy.limits.eof) policy.handlers.ack x
on-expires Inactivity policy x = on-handled policy.handlers.inactivity inactivity (record x { count = 0 }) x (λ h. h)
on-expires FinishedAck policy x = λ h. h
on-expires Nak policy x = λ h. h

pub on-expiry : (k : Kind) (policy : Policy) (x : SenderState) → GoesOn x (sender_expires k policy x).sender
on-expiry k policy x = on-step (sender_waits k x) x (expires k policy x) (quiet x) (on-expires k policy x) (λ h. h)

on-reads : (stored : Stored) (x read : SenderState) → read.phase ≡ x.phase → GoesOn x (sender_reads stored x read).sender
on-reads Done x read same = λ h. sym same ∙ h
on-reads Refused x read same = cancels

pub on-sends : (stored : Stored) (file : List ℕ) (x : SenderState) (d : SenderDue) → GoesOn x (sender_sends stored file x d).sender
on-sends stored file x (due.AckOfFinished condition) = λ h. h
on-sends stored file x (due.Prompt keep_alive) = λ h. h
on-sends stored file x due.Metadata = λ h. h
on-sends stored file x (due.AskedData start end) = on-reads stored x (without_asked start end x) refl
on-sends stored file x (due.NewData start end) = on-reads stored x (with_new end (carried file (due.NewData start end)) x) refl
on-sends stored file x due.Eof = λ h. h
