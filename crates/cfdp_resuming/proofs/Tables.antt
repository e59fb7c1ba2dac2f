-- What was committed of a table's records comes back as what they have come to.
use Rattle.std.proofs.Common.{◌≡◌, inr, ℕ, zero, suc, Bool, List, [], ◌∷◌, ◌++◌, take, Option, Some, None, refl, sym, ap, subst, ◌∙◌, if◌then◌else◌}
use Rattle.std.specs.Prelude.{slice_get}
use Rattle.std.specs.FinMap as map
use Rattle.indexmap.specs.IndexMap.{set_value_at}
use Rattle.cfdp_header.specs.Files.{FileMap}
use Rattle.cfdp_directives.specs.declared.pdu.codes.Acknowledged.TheVariants as acknowledged
use Rattle.cfdp_directives.specs.declared.user.policy.Policy.{Policy}
use Rattle.cfdp_directives.specs.Pdu.Content.{Content, FileData, Metadata, Eof, Finished, Ack, Nak, Prompt, KeepAlive}
use Rattle.cfdp_store.specs.declared.stored.Stored.{Stored}
use Rattle.cfdp_store.specs.declared.stored.Stored.TheVariants.{Done}
use Rattle.cfdp_store.specs.Files.{octets_in}
use Rattle.cfdp_store.specs.Staged.{OctetMap}
use Rattle.cfdp_timers.specs.declared.kind.Kind.{Kind}
use Rattle.cfdp_timers.specs.Order.{Timer}
use Rattle.cfdp_sender.specs.declared.due.SenderDue.{SenderDue}
use Rattle.cfdp_sender.specs.State.{SenderState, transfer_of}
use Rattle.cfdp_sender.specs.Due.{sender_due}
use Rattle.cfdp_sender.specs.Inputs.{SenderInput, sender_step}
use Rattle.cfdp_sender.specs.Inputs as inputs
use Rattle.cfdp_receiver.specs.declared.due.Due.{Due}
use Rattle.cfdp_receiver.specs.declared.state.ReceiverPhase.TheVariants.{Receiving}
use Rattle.cfdp_receiver.specs.Due.{receiver_due}
use Rattle.cfdp_receiver.specs.State.{ReceiverState, is_receiving}
use Rattle.cfdp_receiver.specs.Sound.{ReceiverInput, receiver_step}
use Rattle.cfdp_receiver.specs.Sound as machine
use Rattle.cfdp_entity.specs.declared.request.Request.{Request}
use Rattle.cfdp_entity.specs.declared.request.Request.TheVariants as call
use Rattle.cfdp_entity.specs.History.{TableStep, Hears, Spoils, Expires, Calls, Takes, Puts, Opens, Tells, Fires, table_step, table_run, MayHappen, MayRun, Leads}
use Rattle.cfdp_entity.specs.Opening.{puts, opens}
use Rattle.cfdp_entity.specs.Seen.{Seen, Sends, Receives, octets_seen}
use Rattle.cfdp_entity.specs.Steps.{After, by_sender, by_receiver, no_step, hears, expires, calls, takes, sender_takes, receiver_takes}
use Rattle.cfdp_entity.specs.Steps as steps
use Rattle.cfdp_entity.specs.Table.{Entry, TableState, place_of, step_of, step_at, expired, expired_in, all_expired}
use Rattle.cfdp_resuming.specs.Later.{AreLater, IsLater, IsLaterSeen}
use Rattle.cfdp_resuming.proofs.Later.{later-both}

-- ---- one record
pub later-itself : (s : Seen) → IsLaterSeen s s
later-itself (Sends x) = refl
later-itself (Receives r m) = record { addressing = refl; metadata = inr refl; ending = inr refl; receives = λ now. now; held = λ now k h. (h, refl) }

pub later-then : (s t u : Seen) → IsLaterSeen s t → IsLaterSeen t u → IsLaterSeen s u
later-then (Sends x) (Sends y) (Sends z) a b = b ∙ a
later-then (Receives r m) (Receives s n) (Receives t o) a b = later-both r s t m n o a b
later-then (Sends x) (Sends y) (Receives t o) a b = absurd b
later-then (Sends x) (Receives s n) u a b = absurd a
later-then (Receives r m) (Sends y) u a b = absurd a
later-then (Receives r m) (Receives s n) (Sends z) a b = absurd b

-- what is staged is seen while it receives
seen-octets : (s : ReceiverState) (n : OctetMap) (k : ℕ) → s.phase ≡ Receiving → map.get (octets_seen s n) k ≡ map.get n k
seen-octets s n k now = ap (λ b. map.get (if b then n else map.empty) k) (ap is_receiving now)

later-seen : (r s : ReceiverState) (m n : OctetMap) → IsLater r m s n → IsLaterSeen (Receives r m) (Receives s (octets_seen s n))
later-seen r s m n l = record {
  addressing = l.addressing;
  metadata = l.metadata;
  ending = l.ending;
  receives = l.receives;
  held = λ now k h. (let a = l.held now k h in (a.0, seen-octets s n k now ∙ a.1));
}

-- the laws of both machines
pub record StepLaws : Type 0 where
  pub receiver : (stored : Stored) (input : ReceiverInput) (m : OctetMap) (files : FileMap) (r : ReceiverState) → IsLater r m (receiver_step stored input m files r).receiver (receiver_step stored input m files r).octets
  pub sender : (policy : Policy) (file : List ℕ) (input : SenderInput) (x : SenderState) → transfer_of (sender_step policy file input x).sender ≡ transfer_of x

module _ (laws : StepLaws) where
  by-sender : (times-policy : Policy) (files : FileMap) (file : List ℕ) (input : SenderInput) (x : SenderState) → IsLaterSeen (Sends x) (by_sender times-policy.times files (sender_step times-policy file input x)).seen
  by-sender policy files file input x = laws.sender policy file input x

  by-receiver : (policy : Policy) (stored : Stored) (input : ReceiverInput) (m : OctetMap) (files : FileMap) (r : ReceiverState) →
      IsLaterSeen (Receives r m) (by_receiver policy.times (receiver_step stored input m files r)).seen
  by-receiver policy stored input m files r = later-seen r (receiver_step stored input m files r).receiver m (receiver_step stored input m files r).octets (laws.receiver stored input m files r)

  module _ (policy : Policy) (files : FileMap) where
    hears-so : (stored : Stored) (large : Bool) (v : Content) (s : Seen) → IsLaterSeen s (hears stored policy.times files large v s).seen
    hears-so stored large (Ack acknowledged.Eof condition status) (Sends x) = by-sender policy files [] (inputs.HearsAck condition) x
    hears-so stored large (Nak start end pairs) (Sends x) = by-sender policy files [] (inputs.HearsNak pairs) x
    hears-so stored large (Finished condition delivery status tlvs) (Sends x) =
        by-sender policy files [] (inputs.HearsFinished (record { condition = condition; delivery = delivery; status = status })) x
    hears-so stored large (KeepAlive progress) (Sends x) = by-sender policy files [] (inputs.HearsKeepAlive progress) x
    hears-so stored large (Ack acknowledged.Finished condition status) (Sends x) = refl
    hears-so stored large (Metadata kind size source destination options) (Sends x) = refl
    hears-so stored large (FileData offset bytes) (Sends x) = refl
    hears-so stored large (Eof condition checksum size tlvs) (Sends x) = refl
    hears-so stored large (Prompt keep_alive) (Sends x) = refl
    hears-so stored large (Metadata kind size source destination options) (Receives r m) = by-receiver policy stored (machine.Hears large (Metadata kind size source destination options)) m files r
    hears-so stored large (FileData offset bytes) (Receives r m) = by-receiver policy stored (machine.Hears large (FileData offset bytes)) m files r
    hears-so stored large (Eof condition checksum size tlvs) (Receives r m) = by-receiver policy stored (machine.Hears large (Eof condition checksum size tlvs)) m files r
    hears-so stored large (Ack acknowledged.Finished condition status) (Receives r m) = by-receiver policy stored (machine.Hears large (Ack acknowledged.Finished condition status)) m files r
    hears-so stored large (Prompt keep_alive) (Receives r m) = by-receiver policy stored (machine.Hears large (Prompt keep_alive)) m files r
    hears-so stored large (Ack acknowledged.Eof condition status) (Receives r m) = later-itself (Receives r m)
    hears-so stored large (Finished condition delivery status tlvs) (Receives r m) = later-itself (Receives r m)
    hears-so stored large (Nak start end pairs) (Receives r m) = later-itself (Receives r m)
    hears-so stored large (KeepAlive progress) (Receives r m) = later-itself (Receives r m)

    expires-so : (k : Kind) (s : Seen) → IsLaterSeen s (expires policy files k s).seen
    expires-so k (Sends x) = by-sender policy files [] (inputs.Expires k) x
    expires-so k (Receives r m) = by-receiver policy Done (machine.Expires k policy) m files r

    calls-so : (c : Request) (s : Seen) → IsLaterSeen s (calls policy.times files c s).seen
    calls-so call.Cancel (Sends x) = by-sender policy files [] inputs.Cancels x
    calls-so call.Suspend (Sends x) = by-sender policy files [] inputs.Suspends x
    calls-so call.Resume (Sends x) = by-sender policy files [] inputs.Resumes x
    calls-so (call.Prompt keep_alive) (Sends x) = by-sender policy files [] (inputs.Prompts keep_alive) x
    calls-so call.Cancel (Receives r m) = by-receiver policy Done machine.Cancels m files r
    calls-so call.Suspend (Receives r m) = by-receiver policy Done machine.Suspends m files r
    calls-so call.Resume (Receives r m) = by-receiver policy Done machine.Resumes m files r
    calls-so (call.Prompt keep_alive) (Receives r m) = later-itself (Receives r m)

    sends-so : (stored : Stored) (file : List ℕ) (x : SenderState) (due : Option SenderDue) → IsLaterSeen (Sends x) (sender_takes stored policy.times files file x due).seen
    sends-so stored file x (Some d) = by-sender policy files file (inputs.Sends stored d) x
    sends-so stored file x None = refl

    answers-so : (r : ReceiverState) (m : OctetMap) (due : Option Due) → IsLaterSeen (Receives r m) (receiver_takes policy.times files r m due).seen
    answers-so r m (Some d) = by-receiver policy Done (machine.Takes d) m files r
    answers-so r m None = later-itself (Receives r m)

    takes-so : (stored : Stored) (sources : FileMap) (s : Seen) → IsLaterSeen s (takes stored policy.times sources files s).seen
    takes-so stored sources (Sends x) = sends-so stored (octets_in sources x.source) x (sender_due x)
    takes-so stored sources (Receives r m) = answers-so r m (receiver_due r)

    -- if there was no memory
    same-so : (s t : Seen) → t ≡ s → IsLaterSeen s t
    same-so s t is = subst (λ u. IsLaterSeen s u) (sym is) (later-itself s)

    spoils-so : (v : Content) (s t : Seen) → steps.Spoils v s t → IsLaterSeen s t
    spoils-so (FileData offset bytes) (Receives r m) t h = subst (λ u. IsLaterSeen (Receives r m) u) (sym h.1.0)
        (record { addressing = refl; metadata = inr refl; ending = inr refl; receives = λ now. now; held = λ now k has. (has, h.1.1 k has) })
    spoils-so (Nak start end pairs) (Sends x) t h = subst (λ u. IsLaterSeen (Sends x) u) (sym h.1) (by-sender policy files [] (inputs.HearsNak (take h.0 pairs)) x)
    spoils-so (FileData offset bytes) (Sends x) t h = same-so (Sends x) t h
    spoils-so (Nak start end pairs) (Receives r m) t h = same-so (Receives r m) t h
    spoils-so (Metadata kind size source destination options) s t h = same-so s t h
    spoils-so (Eof condition checksum size tlvs) s t h = same-so s t h
    spoils-so (Ack of condition status) s t h = same-so s t h
    spoils-so (Finished condition delivery status tlvs) s t h = same-so s t h
    spoils-so (Prompt keep_alive) s t h = same-so s t h
    spoils-so (KeepAlive progress) s t h = same-so s t h

-- ---- records
later-set : (xs : List Entry) (place : ℕ) (e : Entry) (s : Seen) → slice_get xs place ≡ Some e → IsLaterSeen e.1 s → AreLater xs (set_value_at xs place s)
later-set [] place e s at on p d h = absurd cc
later-set (x ∷ xs) zero e s at on zero d h =
    let is : x ≡ e = cc in
    let here : x ≡ d = cc in
    (s, (ap (λ (y : Entry). Some (y.0, s)) here, subst (λ (y : Entry). IsLaterSeen y.1 s) (sym is ∙ here) on))
later-set (x ∷ xs) zero e s at on (suc p) d h = (d.1, (h, later-itself d.1))
later-set (x ∷ xs) (suc n) e s at on zero d h = (d.1, (h, later-itself d.1))
later-set (x ∷ xs) (suc n) e s at on (suc p) d h = later-set xs n e s at on p d h

later-all : (xs : List Entry) → AreLater xs xs
later-all xs = λ p d h. (d.1, (h, later-itself d.1))

pub later-next : (xs ys zs : List Entry) → AreLater xs ys → AreLater ys zs → AreLater xs zs
later-next xs ys zs a b = λ p d h.
    let one = a p d h in
    let two = b p (d.0, one.0) one.1.0 in
    (two.0, (two.1.0, later-then d.1 one.0 two.0 one.1.1 two.1.1))

kept-behind : (xs ys : List Entry) (place : ℕ) (e : Entry) → slice_get xs place ≡ Some e → slice_get (xs ++ ys) place ≡ Some e
kept-behind [] ys place e at = absurd cc
kept-behind (x ∷ xs) ys zero e at = at
kept-behind (x ∷ xs) ys (suc n) e at = kept-behind xs ys n e at

later-push : (xs ys : List Entry) → AreLater xs (xs ++ ys)
later-push xs ys = λ p d h. (d.1, (kept-behind xs ys p d h, later-itself d.1))

set-nowhere : (xs : List Entry) (place : ℕ) (s : Seen) → slice_get xs place ≡ None → set_value_at xs place s ≡ xs
set-nowhere [] place s none = refl
set-nowhere (x ∷ xs) zero s none = absurd cc
set-nowhere (x ∷ xs) (suc n) s none = ap (λ l. x ∷ l) (set-nowhere xs n s none)

-- ---- steps
module _ (f : Entry → After) (later : (e : Entry) → IsLaterSeen e.1 (f e).seen) (place : ℕ) (st : TableState) where
  of-place : (o : Option Entry) → slice_get st.records place ≡ o → AreLater st.records (step_of f place o st).records
  of-place None at = later-all st.records
  of-place (Some e) at = later-set st.records place e (f e).seen at (later e)

  at-place : AreLater st.records (step_at f place st).records
  at-place = of-place (slice_get st.records place) refl

module _ (laws : StepLaws) where
  of-expired : (t : Timer) (st : TableState) → AreLater st.records (expired t st).records
  of-expired t st = by (place_of t.0 st.records)
    where
      by : (o : Option ℕ) → AreLater st.records (expired_in o t.1 st).records
      by None = later-all st.records
      by (Some place) = at-place (λ e. expires st.policy st.files t.1 e.1) (λ e. expires-so laws st.policy st.files t.1 e.1) place st

  of-fired : (timers : List Timer) (st : TableState) → AreLater st.records (all_expired timers st).records
  unfolding all_expired
  of-fired [] st = later-all st.records
  of-fired (t ∷ timers) st = later-next st.records (expired t st).records (all_expired timers (expired t st)).records (of-expired t st) (of-fired timers (expired t st))

  of-spoiled : (place : ℕ) (v : Content) (noted : Seen) (st : TableState) → ((e : Entry) → slice_get st.records place ≡ Some e → steps.Spoils v e.1 noted) → AreLater st.records (set_value_at st.records place noted)
  of-spoiled place v noted st may = by (slice_get st.records place) refl
    where
      by : (o : Option Entry) → slice_get st.records place ≡ o → AreLater st.records (set_value_at st.records place noted)
      by None none = subst (λ (l : List Entry). AreLater st.records l) (sym (set-nowhere st.records place noted none)) (later-all st.records)
      by (Some e) at = later-set st.records place e noted at (spoils-so laws st.policy st.files v e.1 noted (may e at))

  of-step : (s : TableStep) (st : TableState) → MayHappen s st → AreLater st.records (table_step s st).records
  of-step (Hears stored place large v) st may = at-place (λ e. hears stored st.policy.times st.files large v e.1) (λ e. hears-so laws st.policy st.files stored large v e.1) place st
  of-step (Spoils place v noted) st may = of-spoiled place v noted st may
  of-step (Expires place k) st may = at-place (λ e. expires st.policy st.files k e.1) (λ e. expires-so laws st.policy st.files k e.1) place st
  of-step (Calls place c) st may = at-place (λ e. calls st.policy.times st.files c e.1) (λ e. calls-so laws st.policy st.files c e.1) place st
  of-step (Takes stored place) st may = at-place (λ e. takes stored st.policy.times st.sources st.files e.1) (λ e. takes-so laws st.policy st.files stored st.sources e.1) place st
  of-step (Puts t) st may = later-push st.records ((t.addressing.id, (puts st.files t).seen) ∷ [])
  of-step (Opens begun stored a large v) st may = later-push st.records ((a.id, (opens begun stored st.policy.times st.files large v a).seen) ∷ [])
  of-step (Tells now) st may = later-all st.records
  of-step (Fires timers) st may = of-fired timers st

  of-run : (all : List TableStep) (st : TableState) → MayRun all st → AreLater st.records (table_run all st).records
  unfolding table_run MayRun
  of-run [] st may = later-all st.records
  of-run (s ∷ rest) st may = later-next st.records (table_step s st).records (table_run rest (table_step s st)).records (of-step s st may.0) (of-run rest (table_step s st) may.1)

  pub table-later : (old new : TableState) → Leads old new → AreLater old.records new.records
  table-later old new leads = subst (λ (st : TableState). AreLater old.records st.records) (sym leads.ends) (of-run leads.steps old leads.may)
