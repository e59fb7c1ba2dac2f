-- The facts of a sender that are appended say what the sender has.
use Rattle.std.proofs.Common.{◌≡◌, ◌≢◌, ℕ, Bool, true, false, true≢false, cond, ◌&&◌, List, [], ◌∷◌, ◌++◌, Option, Some, None, refl, sym, ap, subst, ◌∙◌}
use Rattle.std.specs.Prelude.{unwrap_or}
use Rattle.std.specs.Option.{option_to_list}
use Rattle.cfdp_header.specs.declared.value.TransactionId.{TransactionId}
use Rattle.cfdp_directives.specs.Pdu.Codes.{no_error}
use Rattle.cfdp_directives.specs.declared.pdu.addressing.Addressing.{Addressing}
use Rattle.cfdp_sender.specs.State.{SenderState, transfer_of}
use Rattle.cfdp_sender.specs.declared.phase.SenderPhase.{SenderPhase}
use Rattle.cfdp_sender.specs.declared.phase.SenderPhase.TheVariants.{Sending, Cancelling, Closed}
use Rattle.journal_records.specs.declared.record.JournalRecord.{JournalRecord}
use Rattle.journal_records.specs.declared.record.JournalRecord.TheVariants as says
use Rattle.transfer_journal.specs.declared.kept.KeptSender.{KeptSender}
use Rattle.transfer_journal.specs.declared.noted.NotedSender.{NotedSender}
use Rattle.transfer_journal.specs.Kept.{cancelled_phase, is_sending, kept_phase, kept_put, sender_committed}
use Rattle.transfer_journal.specs.Says.{id_of}
use Rattle.transfer_journal.specs.Noted.{KeepsSender, RestoresAs, SenderGoesOn, noted_phase, put_noted}
use Rattle.transfer_journal.specs.Facts.{is_cancelling, is_closed, new_fact, sender_facts, sender_noted, suspended_fact}
use Rattle.transfer_journal.proofs.Said.{AreAbout, are_about-append, sender_all, sender_all-append}

-- ---- one fact each
eof-said : (id : TransactionId) (is was : Bool) (s : KeptSender) → s.eof_taken ≡ was → (was ≡ true → is ≡ true) → sender_all (option_to_list (new_fact is was (says.EofTaken id))) s ≡ record s { eof_taken = is }
eof-said id true true s e h = λ i. record s { eof_taken = e i }
eof-said id true false s e h = refl
eof-said id false true s e h = absurd (true≢false (sym (h refl)))
eof-said id false false s e h = λ i. record s { eof_taken = e i }

suspended-said : (id : TransactionId) (is was : Bool) (s : KeptSender) → s.is_suspended ≡ was → sender_all (option_to_list (suspended_fact id is was)) s ≡ record s { is_suspended = is }
suspended-said id true true s e = λ i. record s { is_suspended = e i }
suspended-said id true false s e = refl
suspended-said id false true s e = refl
suspended-said id false false s e = λ i. record s { is_suspended = e i }

-- a sender that has come so far, and is as before in all else
record Phased (p : SenderPhase) (condition : ℕ) (s t : KeptSender) : Type 0 where
  transfer : t.transfer ≡ s.transfer
  sent : t.sent ≡ s.sent
  eof_taken : t.eof_taken ≡ s.eof_taken
  suspended : t.is_suspended ≡ s.is_suspended
  phase : kept_phase t ≡ p
  cause : p ≡ Cancelling → t.cancelled_for ≡ Some condition

abbrev phase_of : (closed cancelling : Bool) → SenderPhase
phase_of closed cancelling = cond closed Closed (cond cancelling Cancelling Sending)

open-still : (closed : Bool) (cancelled : Option ℕ) (condition : ℕ) → cond closed Closed (cancelled_phase cancelled) ≡ Sending → cond closed Closed Cancelling ≡ Cancelling
open-still true cancelled condition e = absurd (cc)
open-still false cancelled condition e = refl

abbrev phase_facts : TransactionId → SenderPhase → (condition : ℕ) → (closed cancelling : Bool) → List JournalRecord
phase_facts id phase condition closed cancelling =
    option_to_list (new_fact (is_cancelling phase) cancelling (says.Cancelling id condition))
    ++ option_to_list (new_fact (is_closed phase) closed (says.Closed id None))

phase-said : (id : TransactionId) (phase : SenderPhase) (condition : ℕ) (closed cancelling : Bool) (s : KeptSender) → kept_phase s ≡ phase_of closed cancelling → (phase_of closed cancelling ≡ Cancelling → s.cancelled_for ≡ Some condition) → (phase_of closed cancelling ≡ Cancelling → phase ≢ Sending) → (phase_of closed cancelling ≡ Closed → phase ≡ Closed) → Phased phase condition s (sender_all (phase_facts id phase condition closed cancelling) s)
phase-said id Sending condition true cancelling s is cause c d = absurd (cc (d refl))
phase-said id Sending condition false true s is cause c d = absurd (c refl refl)
phase-said id Sending condition false false s is cause c d = record { transfer = refl; sent = refl; eof_taken = refl; suspended = refl; phase = is; cause = λ h. absurd (cc h) }
phase-said id Cancelling condition true cancelling s is cause c d = absurd (cc (d refl))
phase-said id Cancelling condition false true s is cause c d = record { transfer = refl; sent = refl; eof_taken = refl; suspended = refl; phase = is; cause = λ h. cause refl }
phase-said id Cancelling condition false false s is cause c d = record { transfer = refl; sent = refl; eof_taken = refl; suspended = refl; phase = open-still s.is_closed s.cancelled_for condition is; cause = λ h. refl }
phase-said id Closed condition true cancelling s is cause c d = record { transfer = refl; sent = refl; eof_taken = refl; suspended = refl; phase = is; cause = λ h. absurd (cc h) }
phase-said id Closed condition false true s is cause c d = record { transfer = refl; sent = refl; eof_taken = refl; suspended = refl; phase = refl; cause = λ h. absurd (cc h) }
phase-said id Closed condition false false s is cause c d = record { transfer = refl; sent = refl; eof_taken = refl; suspended = refl; phase = refl; cause = λ h. absurd (cc h) }

noted-phase : (phase : SenderPhase) → phase_of (is_closed phase) (is_cancelling phase) ≡ phase
noted-phase Sending = refl
noted-phase Cancelling = refl
noted-phase Closed = refl

-- ---- all of them
pub new-about : (id : TransactionId) (is was : Bool) (r : JournalRecord) → id_of r ≡ Some id → AreAbout id (option_to_list (new_fact is was r))
new-about id true true r h = tt
new-about id true false r h = (h, tt)
new-about id false was r h = tt

pub suspended-about : (id : TransactionId) (is was : Bool) → AreAbout id (option_to_list (suspended_fact id is was))
suspended-about id true true = tt
suspended-about id true false = (refl, tt)
suspended-about id false true = (refl, tt)
suspended-about id false false = tt

pub sender-about : (id : TransactionId) (x : SenderState) (n : NotedSender) → AreAbout id (sender_facts id x n)
sender-about id x n =
    are_about-append id _ _ (new-about id x.eof_taken n.eof_taken (says.EofTaken id) refl)
    (are_about-append id _ _ (suspended-about id x.suspended n.is_suspended)
    (are_about-append id _ _ (new-about id (is_cancelling x.phase) n.is_cancelling (says.Cancelling id x.condition) refl) (new-about id (is_closed x.phase) n.is_closed (says.Closed id None) refl)))

pub sender-keeps : (id : TransactionId) (x : SenderState) (n : NotedSender) (s : KeptSender) → KeepsSender n x s → SenderGoesOn n x → KeepsSender (sender_noted x n.sent) x (sender_all (sender_facts id x n) s)
sender-keeps id x n s k g =
    let eof = option_to_list (new_fact x.eof_taken n.eof_taken (says.EofTaken id)) in
    let suspended = option_to_list (suspended_fact id x.suspended n.is_suspended) in
    let phases = phase_facts id x.phase x.condition n.is_closed n.is_cancelling in
    let t : KeptSender = record s { eof_taken = x.eof_taken; is_suspended = x.suspended } in
    let split : sender_all (sender_facts id x n) s ≡ sender_all phases t =
    sender_all-append eof (suspended ++ phases) s
    ∙ ap (sender_all (suspended ++ phases)) (eof-said id x.eof_taken n.eof_taken s k.eof_taken g.eof_taken)
    ∙ sender_all-append suspended phases (record s { eof_taken = x.eof_taken })
    ∙ ap (sender_all phases) (suspended-said id x.suspended n.is_suspended (record s { eof_taken = x.eof_taken }) k.suspended) in
    let p = phase-said id x.phase x.condition n.is_closed n.is_cancelling t k.phase k.cause g.cancelled g.closed in
    subst (KeepsSender (sender_noted x n.sent) x) (sym split) (record {
      transfer = p.transfer ∙ k.transfer;
      sent = p.sent ∙ k.sent;
      eof_taken = p.eof_taken;
      suspended = p.suspended;
      phase = p.phase ∙ sym (noted-phase x.phase);
      cause = λ h. p.cause (sym (noted-phase x.phase) ∙ h);
    })

-- what was noted so is restored as the sender is
pub sender-restores : (x : SenderState) (sent : ℕ) (s : KeptSender) → KeepsSender (sender_noted x sent) x s → RestoresAs x (sender_committed s)
sender-restores x sent s k = record {
  transfer = k.transfer;
  phase = k.phase ∙ noted-phase x.phase;
  suspended = (λ i. k.suspended i && is_sending ((k.phase ∙ noted-phase x.phase) i));
  eof_taken = k.eof_taken;
  acknowledged = refl;
  condition = λ h. ap (λ c. unwrap_or c no_error) (k.cause (noted-phase x.phase ∙ h));
}

-- a put that was just accepted
pub put-keeps : (x : SenderState) → KeepsSender put_noted x (kept_put (transfer_of x))
put-keeps x = record { transfer = refl; sent = refl; eof_taken = refl; suspended = refl; phase = refl; cause = λ h. absurd (cc h) }
