-- Tables with other files in their inbox.
use Rattle.std.proofs.Common.{◌≡◌, ◌∙◌, ℕ, Bool, List, [], ◌∷◌, ◌++◌, Option, Some, None, refl, sym, ap, slice_get, subst}
use Rattle.std.specs.FinMap as map
use Rattle.cfdp_header.specs.Files.{FileMap}
use Rattle.cfdp_header.specs.declared.value.TransactionId.{TransactionId}
use Rattle.cfdp_directives.specs.declared.pdu.addressing.Addressing.{Addressing}
use Rattle.cfdp_directives.specs.declared.pdu.codes.Acknowledged.TheVariants as acknowledged
use Rattle.cfdp_directives.specs.declared.user.limits.Times.{Times}
use Rattle.cfdp_directives.specs.declared.user.policy.Policy.{Policy}
use Rattle.cfdp_directives.specs.Pdu.Content.{Content, FileData, Metadata, Eof, Finished, Ack, Nak, Prompt, KeepAlive}
use Rattle.cfdp_store.specs.declared.stored.Stored.{Stored}
use Rattle.cfdp_store.specs.declared.stored.Stored.TheVariants.{Done, Refused}
use Rattle.cfdp_store.specs.Staged.{OctetMap}
use Rattle.cfdp_store.specs.Files.{octets_in}
use Rattle.cfdp_timers.specs.declared.kind.Kind.{Kind}
use Rattle.cfdp_timers.specs.Order.{Timer}
use Rattle.cfdp_sender.specs.declared.due.SenderDue.{SenderDue}
use Rattle.cfdp_sender.specs.State.{SenderState}
use Rattle.cfdp_sender.specs.Due.{sender_due}
use Rattle.cfdp_sender.specs.Steps.{SenderAfter}
use Rattle.cfdp_receiver.specs.declared.due.Due.{Due}
use Rattle.cfdp_receiver.specs.State.{ReceiverState, opened_receiver}
use Rattle.cfdp_receiver.specs.Due.{receiver_due}
use Rattle.cfdp_receiver.specs.Steps as receiver
use Rattle.cfdp_receiver.specs.Sound.{ReceiverInput, receiver_step}
use Rattle.cfdp_receiver.specs.Sound as machine
use Rattle.cfdp_receiver.specs.Alike.{with_documents, PublishesAlike}
use Rattle.cfdp_entity.specs.declared.request.Request.{Request}
use Rattle.cfdp_entity.specs.declared.request.Request.TheVariants as call
use Rattle.cfdp_entity.specs.Seen.{Seen, Sends, Receives}
use Rattle.cfdp_entity.specs.Steps.{After, by_sender, by_receiver, no_step, sender_after, if_sender, hears, expires, calls, sender_takes, receiver_takes, takes}
use Rattle.cfdp_entity.specs.Opening.{puts, opens_by, opens, closing}
use Rattle.cfdp_entity.specs.Table.{Entry, TableState, place_of, stepped, step_of, with_record, expired_in, expired, all_expired}
use Rattle.cfdp_entity.specs.Forgetting.{with_files}
use Rattle.cfdp_entity.specs.History.{TableStep, Hears, Spoils, Expires, Calls, Takes, Puts, Opens, Tells, Fires, table_step, table_run, MayHappen, MayRun}
use Rattle.cfdp_entity.specs.Removing.{GoesAlike}

-- the laws of a receiver
pub record ReceivesAlike : Type 0 where
  pub step : (stored : Stored) (input : ReceiverInput) (m : OctetMap) (files other : FileMap) (r : ReceiverState) →
      PublishesAlike files other (receiver_step stored input m files r) (receiver_step stored input m other r)
  pub opened : (stored : Stored) (large : Bool) (files other : FileMap) (addressing : Addressing) →
      PublishesAlike files other (receiver.opens stored large files addressing) (receiver.opens stored large other addressing)

-- ---- tables
-- what may happen doesn't ask for the files
pub may-alike : (files : FileMap) (s : TableStep) (st : TableState) → MayHappen s st → MayHappen s (with_files files st)
may-alike files (Hears stored place large v) st h = tt
may-alike files (Spoils place v noted) st h = h
may-alike files (Expires place k) st h = tt
may-alike files (Calls place c) st h = tt
may-alike files (Takes stored place) st h = tt
may-alike files (Puts t) st h = h
may-alike files (Opens begun stored a large v) st h = h
may-alike files (Tells now) st h = tt
may-alike files (Fires timers) st h = tt

-- one step after another
documents-append : (xs ys : List (List ℕ × List ℕ)) (files : FileMap) → with_documents (xs ++ ys) files ≡ with_documents ys (with_documents xs files)
documents-append [] ys files = refl
documents-append (d ∷ xs) ys files = documents-append xs ys (map.insert files d.0 d.1)

both : (files : FileMap) (old mid new there other : TableState) (k : GoesAlike files old mid there) → GoesAlike (with_documents k.documents files) mid new other → GoesAlike files old new other
both files old mid new there other k h = record {
  documents = k.documents ++ h.documents;
  publishes = h.publishes ∙ ap (with_documents h.documents) k.publishes ∙ sym (documents-append k.documents h.documents old.files);
  alike = h.alike ∙ ap (λ f. with_files f new) (sym (documents-append k.documents h.documents files));
}

-- ---- one record
-- the same step of a record, with other files published before
pub record StepsAlike (files other : FileMap) (a b : After) : Type 0 where
  pub documents : List (List ℕ × List ℕ)
  pub publishes : a.files ≡ with_documents documents files
  pub alike : b ≡ record a { files = with_documents documents other }

module _ (laws : ReceivesAlike) where
  module _ (files other : FileMap) where
    rests : (a : After) → StepsAlike files other (record a { files = files }) (record a { files = other })
    rests a = record { documents = []; publishes = refl; alike = refl }

    -- what is made of a receiver's step
    through : (f : receiver.ReceiverAfter → After) → ((a : receiver.ReceiverAfter) (published : FileMap) → f (record a { files = published }) ≡ record (f a) { files = published }) →
        {a b : receiver.ReceiverAfter} → PublishesAlike files other a b → StepsAlike files other (f a) (f b)
    through f keeps {a} {b} h = record {
      documents = h.documents;
      publishes = ap (λ (x : After). x.files) (keeps a a.files) ∙ h.publishes;
      alike = ap f h.alike ∙ keeps a (with_documents h.documents other);
    }

    receives : (times : Times) (stored : Stored) (input : ReceiverInput) (m : OctetMap) (r : ReceiverState) →
        StepsAlike files other (by_receiver times (receiver_step stored input m files r)) (by_receiver times (receiver_step stored input m other r))
    receives times stored input m r = through (by_receiver times) (λ a f. refl) (laws.step stored input m files other r)

    sends : (times : Times) (x : SenderState) (a : Option SenderAfter) → StepsAlike files other (if_sender times files x a) (if_sender times other x a)
    sends times x (Some a) = rests (by_sender times files a)
    sends times x None = rests (no_step files (Sends x))

    pub hears-alike : (times : Times) (stored : Stored) (large : Bool) (v : Content) (s : Seen) → StepsAlike files other (hears stored times files large v s) (hears stored times other large v s)
    hears-alike times stored large v (Sends x) = sends times x (sender_after v x)
    hears-alike times stored large (Metadata kind size source destination options) (Receives r m) =
        receives times stored (machine.Hears large (Metadata kind size source destination options)) m r
    hears-alike times stored large (FileData offset bytes) (Receives r m) = receives times stored (machine.Hears large (FileData offset bytes)) m r
    hears-alike times stored large (Eof condition checksum size tlvs) (Receives r m) = receives times stored (machine.Hears large (Eof condition checksum size tlvs)) m r
    hears-alike times stored large (Ack acknowledged.Finished condition status) (Receives r m) = receives times stored (machine.Hears large (Ack acknowledged.Finished condition status)) m r
    hears-alike times stored large (Prompt keep_alive) (Receives r m) = receives times stored (machine.Hears large (Prompt keep_alive)) m r
    hears-alike times stored large (Ack acknowledged.Eof condition status) (Receives r m) = rests (no_step files (Receives r m))
    hears-alike times stored large (Finished condition delivery status tlvs) (Receives r m) = rests (no_step files (Receives r m))
    hears-alike times stored large (Nak start end pairs) (Receives r m) = rests (no_step files (Receives r m))
    hears-alike times stored large (KeepAlive progress) (Receives r m) = rests (no_step files (Receives r m))

    expires-alike : (policy : Policy) (k : Kind) (s : Seen) → StepsAlike files other (expires policy files k s) (expires policy other k s)
    expires-alike policy k (Sends x) = rests (expires policy files k (Sends x))
    expires-alike policy k (Receives r m) = receives policy.times Done (machine.Expires k policy) m r

    pub calls-alike : (times : Times) (c : Request) (s : Seen) → StepsAlike files other (calls times files c s) (calls times other c s)
    calls-alike times c (Sends x) = rests (calls times files c (Sends x))
    calls-alike times call.Cancel (Receives r m) = receives times Done machine.Cancels m r
    calls-alike times call.Suspend (Receives r m) = receives times Done machine.Suspends m r
    calls-alike times call.Resume (Receives r m) = receives times Done machine.Resumes m r
    calls-alike times (call.Prompt keep_alive) (Receives r m) = rests (no_step files (Receives r m))

    sender-takes : (times : Times) (stored : Stored) (file : List ℕ) (x : SenderState) (due : Option SenderDue) →
        StepsAlike files other (sender_takes stored times files file x due) (sender_takes stored times other file x due)
    sender-takes times stored file x (Some d) = rests (sender_takes stored times files file x (Some d))
    sender-takes times stored file x None = rests (no_step files (Sends x))

    receiver-takes : (times : Times) (r : ReceiverState) (m : OctetMap) (due : Option Due) → StepsAlike files other (receiver_takes times files r m due) (receiver_takes times other r m due)
    receiver-takes times r m (Some d) = receives times Done (machine.Takes d) m r
    receiver-takes times r m None = rests (no_step files (Receives r m))

    takes-alike : (times : Times) (stored : Stored) (sources : FileMap) (s : Seen) → StepsAlike files other (takes stored times sources files s) (takes stored times sources other s)
    takes-alike times stored sources (Sends x) = sender-takes times stored (octets_in sources x.source) x (sender_due x)
    takes-alike times stored sources (Receives r m) = receiver-takes times r m (receiver_due r)

    pub opens-alike : (times : Times) (closes : Option ℕ) (begun stored : Stored) (large : Bool) (v : Content) (a : Addressing) →
        StepsAlike files other (opens_by closes begun stored times files large v a) (opens_by closes begun stored times other large v a)
    opens-alike times (Some condition) begun stored large v a = rests (opens_by (Some condition) begun stored times files large v a)
    opens-alike times None Done stored large v a = hears-alike times stored large v (Receives (opened_receiver a) map.empty)
    opens-alike times None Refused stored large v a = through (λ x. record (by_receiver times x) { waits = [] }) (λ x f. refl) (laws.opened Refused large files other a)

  -- ---- one step of the table
  module _ (files : FileMap) where
    at-place : (f g : Entry → After) (place : ℕ) (o : Option Entry) (st : TableState) → ((e : Entry) → StepsAlike st.files files (f e) (g e)) →
        GoesAlike files st (step_of f place o st) (step_of g place o (with_files files st))
    at-place f g place (Some e) st goes =
        let k : StepsAlike st.files files (f e) (g e) = goes e in
        record { documents = k.documents; publishes = k.publishes; alike = ap (λ a. stepped place e.0 a (with_files files st)) k.alike }
    at-place f g place None st goes = record { documents = []; publishes = refl; alike = refl }

    one-more : (id : TransactionId) (a b : After) (st : TableState) → StepsAlike st.files files a b → GoesAlike files st (with_record id a st) (with_record id b (with_files files st))
    one-more id a b st k = record { documents = k.documents; publishes = k.publishes; alike = ap (λ x. with_record id x (with_files files st)) k.alike }

    expired-alike : (place : Option ℕ) (k : Kind) (st : TableState) → GoesAlike files st (expired_in place k st) (expired_in place k (with_files files st))
    expired-alike (Some place) k st =
        at-place (λ e. expires st.policy st.files k e.1) (λ e. expires st.policy files k e.1) place (slice_get st.records place) st (λ e. expires-alike st.files files st.policy k e.1)
    expired-alike None k st = record { documents = []; publishes = refl; alike = refl }

  -- ---- steps one after another
  pub fired-alike : (timers : List Timer) (files : FileMap) (st : TableState) → GoesAlike files st (all_expired timers st) (all_expired timers (with_files files st))
  unfolding all_expired
  fired-alike [] files st = record { documents = []; publishes = refl; alike = refl }
  fired-alike (t ∷ timers) files st =
      let mid : TableState = expired t st in
      let there : TableState = expired t (with_files files st) in
      let k : GoesAlike files st mid there = expired-alike files (place_of t.0 st.records) t.1 st in
      both files st mid (all_expired timers mid) there (all_expired timers there) k
      (subst (λ x. GoesAlike (with_documents k.documents files) mid (all_expired timers mid) (all_expired timers x)) (sym k.alike) (fired-alike timers (with_documents k.documents files) mid))

  pub step-alike : (files : FileMap) (s : TableStep) (st : TableState) → GoesAlike files st (table_step s st) (table_step s (with_files files st))
  step-alike files (Hears stored place large v) st =
      at-place files (λ e. hears stored st.policy.times st.files large v e.1) (λ e. hears stored st.policy.times files large v e.1) place (slice_get st.records place) st
      (λ e. hears-alike st.files files st.policy.times stored large v e.1)
  step-alike files (Spoils place v noted) st = record { documents = []; publishes = refl; alike = refl }
  step-alike files (Expires place k) st = expired-alike files (Some place) k st
  step-alike files (Calls place c) st =
      at-place files (λ e. calls st.policy.times st.files c e.1) (λ e. calls st.policy.times files c e.1) place (slice_get st.records place) st (λ e. calls-alike st.files files st.policy.times c e.1)
  step-alike files (Takes stored place) st =
      at-place files (λ e. takes stored st.policy.times st.sources st.files e.1) (λ e. takes stored st.policy.times st.sources files e.1) place (slice_get st.records place) st
      (λ e. takes-alike st.files files st.policy.times stored st.sources e.1)
  step-alike files (Puts t) st = one-more files t.addressing.id (puts st.files t) (puts files t) st (rests st.files files (puts st.files t))
  step-alike files (Opens begun stored a large v) st =
      one-more files a.id (opens begun stored st.policy.times st.files large v a) (opens begun stored st.policy.times files large v a) st
      (opens-alike st.files files st.policy.times (closing v) begun stored large v a)
  step-alike files (Tells now) st = record { documents = []; publishes = refl; alike = refl }
  step-alike files (Fires timers) st = fired-alike timers files st

  pub run-alike : (steps : List TableStep) (files : FileMap) (st : TableState) → MayRun steps st →
      MayRun steps (with_files files st) × GoesAlike files st (table_run steps st) (table_run steps (with_files files st))
  unfolding table_run MayRun
  run-alike [] files st may = (tt, record { documents = []; publishes = refl; alike = refl })
  run-alike (s ∷ rest) files st may =
      let mid : TableState = table_step s st in
      let there : TableState = table_step s (with_files files st) in
      let k : GoesAlike files st mid there = step-alike files s st in
      let h : MayRun rest there × GoesAlike (with_documents k.documents files) mid (table_run rest mid) (table_run rest there) =
      subst (λ x. MayRun rest x × GoesAlike (with_documents k.documents files) mid (table_run rest mid) (table_run rest x)) (sym k.alike)
      (run-alike rest (with_documents k.documents files) mid may.1) in
      ((may-alike files s st may.0, h.0), both files st mid (table_run rest mid) there (table_run rest there) k h.1)
