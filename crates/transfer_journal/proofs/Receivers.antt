-- The facts of a receiver that are appended say what the receiver has.
use Rattle.std.proofs.Common.{◌≡◌, ◌≢◌, ℕ, Bool, true, false, true≢false, cond, not, ◌&&◌, ◌||◌, List, [], ◌∷◌, ◌++◌, Option, Some, None, refl, sym, ap, subst, ◌∙◌}
use Rattle.std.specs.Prelude.{is_some, IsSome}
use Rattle.std.specs.FinSet as set
use Rattle.std.specs.Option.{option_to_list}
use Rattle.cfdp_header.specs.declared.value.TransactionId.{TransactionId}
use Rattle.cfdp_directives.specs.declared.pdu.addressing.Addressing.{Addressing}
use Rattle.cfdp_directives.specs.declared.user.telling.Outcome.{Outcome}
use Rattle.cfdp_extents.specs.Offsets.{Offsets, union_of}
use Rattle.cfdp_receiver.specs.Back.{committed_of}
use Rattle.cfdp_receiver.specs.State.{ReceiverState, is_receiving}
use Rattle.cfdp_receiver.specs.declared.restoring.CommittedReceiver.{CommittedReceiver}
use Rattle.cfdp_receiver.specs.declared.state.Ending.{Ending}
use Rattle.cfdp_receiver.specs.declared.state.FileInfo.{FileInfo}
use Rattle.cfdp_receiver.specs.declared.state.ReceiverPhase.{ReceiverPhase}
use Rattle.cfdp_receiver.specs.declared.state.ReceiverPhase.TheVariants.{Receiving, Finishing, Closed}
use Rattle.journal_records.specs.declared.record.JournalRecord.{JournalRecord}
use Rattle.journal_records.specs.declared.record.JournalRecord.TheVariants as says
use Rattle.transfer_journal.specs.declared.kept.KeptReceiver.{KeptReceiver}
use Rattle.transfer_journal.specs.declared.noted.NotedReceiver.{NotedReceiver}
use Rattle.transfer_journal.specs.Kept.{kept_opened, receiver_committed}
use Rattle.transfer_journal.specs.Says.{id_of}
use Rattle.transfer_journal.specs.Noted.{KeepsReceiver, ReceiverGoesOn, if_noted, opened_noted}
use Rattle.transfer_journal.specs.Facts.{end_fact, ended, is_phase, new_fact, new_known, receiver_facts, receiver_noted, suspended_fact}
use Rattle.transfer_journal.proofs.Said.{AreAbout, are_about-append, receiver_all, receiver_all-append}
use Rattle.transfer_journal.proofs.Senders.{suspended-about, new-about}
use Rattle.transfer_journal.proofs.Held.{union-none}

-- ---- one fact each
large-said : (id : TransactionId) (is was : Bool) (r : KeptReceiver) → r.large ≡ was → receiver_all (option_to_list (new_fact is was (says.Held id true []))) r ≡ record r { large = was || is }
large-said id true true r e = λ i. record r { large = e i }
large-said id true false r e = λ i. record r { large = true; held = sym (union-none r.held) i }
large-said id false true r e = λ i. record r { large = e i }
large-said id false false r e = λ i. record r { large = e i }

metadata-said : (id : TransactionId) (is : Option FileInfo) (was : Bool) (r : KeptReceiver) → r.metadata ≡ if_noted was is → receiver_all (option_to_list (new_known (says.HeardMetadata id) is was)) r ≡ record r { metadata = is }
metadata-said id (Some info) true r e = λ i. record r { metadata = e i }
metadata-said id (Some info) false r e = refl
metadata-said id None true r e = λ i. record r { metadata = e i }
metadata-said id None false r e = λ i. record r { metadata = e i }

ending-said : (id : TransactionId) (is : Option Ending) (was : Bool) (r : KeptReceiver) → r.ending ≡ if_noted was is → receiver_all (option_to_list (new_known (says.HeardEof id) is was)) r ≡ record r { ending = is }
ending-said id (Some ending) true r e = λ i. record r { ending = e i }
ending-said id (Some ending) false r e = refl
ending-said id None true r e = λ i. record r { ending = e i }
ending-said id None false r e = λ i. record r { ending = e i }

suspended-said : (id : TransactionId) (is was : Bool) (r : KeptReceiver) → r.is_suspended ≡ was → receiver_all (option_to_list (suspended_fact id is was)) r ≡ record r { is_suspended = is }
suspended-said id true true r e = λ i. record r { is_suspended = e i }
suspended-said id true false r e = refl
suspended-said id false true r e = refl
suspended-said id false false r e = λ i. record r { is_suspended = e i }

-- a receiver that has come so far, and is as before in all else but the file that is about to be
-- published
record Ended (p : ReceiverPhase) (o : Option Outcome) (r t : KeptReceiver) : Type 0 where
  addressing : t.addressing ≡ r.addressing
  large : t.large ≡ r.large
  metadata : t.metadata ≡ r.metadata
  ending : t.ending ≡ r.ending
  held : t.held ≡ r.held
  suspended : t.is_suspended ≡ r.is_suspended
  phase : t.phase ≡ p
  outcome : t.outcome ≡ if_noted (not (is_receiving p)) o

still : (phase : ReceiverPhase) (outcome : Option Outcome) (r : KeptReceiver) → r.phase ≡ phase → r.outcome ≡ if_noted (not (is_receiving phase)) outcome → Ended phase outcome r r
still phase outcome r p o = record { addressing = refl; large = refl; metadata = refl; ending = refl; held = refl; suspended = refl; phase = p; outcome = o }

finished-said : (id : TransactionId) (outcome : Option Outcome) (r : KeptReceiver) → IsSome outcome → Ended Finishing outcome r (receiver_all (option_to_list (ended id Finishing outcome)) r)
finished-said id (Some o) r h = record { addressing = refl; large = refl; metadata = refl; ending = refl; held = refl; suspended = refl; phase = refl; outcome = refl }
finished-said id None r h = absurd (true≢false (sym h))

closed-said : (id : TransactionId) (outcome : Option Outcome) (r : KeptReceiver) → Ended Closed outcome r (receiver_all (option_to_list (ended id Closed outcome)) r)
closed-said id outcome r = record { addressing = refl; large = refl; metadata = refl; ending = refl; held = refl; suspended = refl; phase = refl; outcome = refl }

end-said : (id : TransactionId) (is was : ReceiverPhase) (outcome : Option Outcome) (r : KeptReceiver) → r.phase ≡ was → r.outcome ≡ if_noted (not (is_receiving was)) outcome → (is ≡ Receiving → was ≡ Receiving) → (is ≡ Finishing → IsSome outcome) → Ended is outcome r (receiver_all (option_to_list (end_fact id is was outcome)) r)
end-said id Receiving Receiving outcome r p o g f = still Receiving outcome r p o
end-said id Receiving Finishing outcome r p o g f = absurd (cc (g refl))
end-said id Receiving Closed outcome r p o g f = absurd (cc (g refl))
end-said id Finishing Receiving outcome r p o g f = finished-said id outcome r (f refl)
end-said id Finishing Finishing outcome r p o g f = still Finishing outcome r p o
end-said id Finishing Closed outcome r p o g f = finished-said id outcome r (f refl)
end-said id Closed Receiving outcome r p o g f = closed-said id outcome r
end-said id Closed Finishing outcome r p o g f = closed-said id outcome r
end-said id Closed Closed outcome r p o g f = still Closed outcome r p o

-- ---- all of them
known-about : {A : Type 0} (id : TransactionId) (says : A → JournalRecord) (is : Option A) (was : Bool) → ((x : A) → id_of (says x) ≡ Some id) → AreAbout id (option_to_list (new_known says is was))
known-about id says (Some x) true h = tt
known-about id says (Some x) false h = (h x, tt)
known-about id says None was h = tt

ended-about : (id : TransactionId) (is : ReceiverPhase) (outcome : Option Outcome) → AreAbout id (option_to_list (ended id is outcome))
ended-about id Receiving outcome = tt
ended-about id Finishing (Some o) = (refl, tt)
ended-about id Finishing None = (refl, tt)
ended-about id Closed outcome = (refl, tt)

end-about : (id : TransactionId) (is was : ReceiverPhase) (outcome : Option Outcome) → AreAbout id (option_to_list (end_fact id is was outcome))
end-about id is was outcome = elim (is_phase is was) as (λ b. AreAbout id (option_to_list (cond b None (ended id is outcome)))) [ true ↦ tt | false ↦ ended-about id is outcome ]

pub receiver-about : (id : TransactionId) (x : ReceiverState) (n : NotedReceiver) → AreAbout id (receiver_facts id x n)
receiver-about id x n =
    are_about-append id _ _ (new-about id x.large n.is_large (says.Held id true []) refl)
    (are_about-append id _ _ (known-about id (says.HeardMetadata id) x.metadata n.has_metadata (λ i. refl))
    (are_about-append id _ _ (known-about id (says.HeardEof id) x.ending n.has_ending (λ i. refl))
    (are_about-append id _ _ (suspended-about id x.suspended n.is_suspended) (end-about id x.phase n.phase x.outcome))))

known-noted : {A : Type 0} (x : Option A) (was : Bool) → x ≡ if_noted (was || is_some x) x
known-noted (Some x) true = refl
known-noted (Some x) false = refl
known-noted None true = refl
known-noted None false = refl

pub receiver-keeps : (id : TransactionId) (x : ReceiverState) (n : NotedReceiver) (r : KeptReceiver) → KeepsReceiver n x r → ReceiverGoesOn n x → KeepsReceiver (receiver_noted x n) x (receiver_all (receiver_facts id x n) r)
receiver-keeps id x n r k g =
    let large = option_to_list (new_fact x.large n.is_large (says.Held id true [])) in
    let metadata = option_to_list (new_known (says.HeardMetadata id) x.metadata n.has_metadata) in
    let ending = option_to_list (new_known (says.HeardEof id) x.ending n.has_ending) in
    let suspended = option_to_list (suspended_fact id x.suspended n.is_suspended) in
    let end = option_to_list (end_fact id x.phase n.phase x.outcome) in
    let r1 : KeptReceiver = record r { large = n.is_large || x.large } in
    let r2 : KeptReceiver = record r1 { metadata = x.metadata } in
    let r3 : KeptReceiver = record r2 { ending = x.ending } in
    let r4 : KeptReceiver = record r3 { is_suspended = x.suspended } in
    let split : receiver_all (receiver_facts id x n) r ≡ receiver_all end r4 =
    receiver_all-append large (metadata ++ (ending ++ (suspended ++ end))) r
    ∙ ap (receiver_all (metadata ++ (ending ++ (suspended ++ end)))) (large-said id x.large n.is_large r k.large)
    ∙ receiver_all-append metadata (ending ++ (suspended ++ end)) r1
    ∙ ap (receiver_all (ending ++ (suspended ++ end))) (metadata-said id x.metadata n.has_metadata r1 k.metadata)
    ∙ receiver_all-append ending (suspended ++ end) r2
    ∙ ap (receiver_all (suspended ++ end)) (ending-said id x.ending n.has_ending r2 k.ending)
    ∙ receiver_all-append suspended end r3
    ∙ ap (receiver_all end) (suspended-said id x.suspended n.is_suspended r3 k.suspended) in
    let e = end-said id x.phase n.phase x.outcome r4 k.phase k.outcome g.phase g.outcome in
    subst (KeepsReceiver (receiver_noted x n) x) (sym split) (record {
      addressing = e.addressing ∙ k.addressing;
      large = e.large;
      metadata = e.metadata ∙ known-noted x.metadata n.has_metadata;
      ending = e.ending ∙ known-noted x.ending n.has_ending;
      suspended = e.suspended;
      phase = e.phase;
      outcome = e.outcome;
      held = e.held ∙ k.held;
    })

large-restored : (was is : Bool) → (was ≡ true → is ≡ true) → (was || is) ≡ is
large-restored true is h = sym (h refl)
large-restored false is h = refl

suspended-restored : (is : Bool) (phase : ReceiverPhase) → (is ≡ true → phase ≡ Receiving) → (is && is_receiving phase) ≡ is
suspended-restored true phase h = ap is_receiving (h refl)
suspended-restored false phase h = refl

outcome-restored : (phase : ReceiverPhase) (outcome : Option Outcome) → (phase ≡ Receiving → outcome ≡ None) → if_noted (not (is_receiving phase)) outcome ≡ outcome
outcome-restored Receiving outcome h = sym (h refl)
outcome-restored Finishing outcome h = refl
outcome-restored Closed outcome h = refl

-- what was noted so is restored as the receiver is
pub receiver-restores : (x : ReceiverState) (n : NotedReceiver) (r : KeptReceiver) → KeepsReceiver (receiver_noted x n) x r → ReceiverGoesOn n x → receiver_committed r ≡ committed_of x
receiver-restores x n r k g =
    let large : r.large ≡ x.large = k.large ∙ large-restored n.is_large x.large g.large in
    let suspended : (r.is_suspended && is_receiving r.phase) ≡ x.suspended = (λ i. k.suspended i && is_receiving (k.phase i)) ∙ suspended-restored x.suspended x.phase g.suspended in
    let metadata : r.metadata ≡ x.metadata = k.metadata ∙ sym (known-noted x.metadata n.has_metadata) in
    let ending : r.ending ≡ x.ending = k.ending ∙ sym (known-noted x.ending n.has_ending) in
    let outcome : r.outcome ≡ x.outcome = k.outcome ∙ outcome-restored x.phase x.outcome g.unended in
    λ i. record {
      addressing = k.addressing i;
      large = large i;
      phase = k.phase i;
      suspended = suspended i;
      metadata = metadata i;
      ending = ending i;
      outcome = outcome i;
    }

-- a receiver that was just opened
pub opened-keeps : (x : ReceiverState) → KeepsReceiver (opened_noted x.large) x (kept_opened x.addressing x.large)
opened-keeps x = record { addressing = refl; large = refl; metadata = refl; ending = refl; suspended = refl; phase = refl; outcome = refl; held = refl }
