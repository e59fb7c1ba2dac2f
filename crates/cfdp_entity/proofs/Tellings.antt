-- Exported: a table that says of no file that it was delivered, except if it was.
use Rattle.std.proofs.Common.{◌≡◌, ◌⊎◌, inl, inr, ℕ, zero, suc, ◌<◌, ◌≤◌, Bool, true, false, cond, List, [], ◌∷◌, ◌++◌, length, slice_get, Option, Some, None, refl, sym, ap, subst, ◌∙◌, arith}
use Rattle.std.specs.Prelude.{Contains}
use Rattle.std.specs.FinMap as map
use Rattle.std.proofs.lemmas.List.Elements.{Contains-append_cases}
use Rattle.indexmap.specs.IndexMap.{set_value_at}
use Rattle.cfdp_header.specs.declared.value.TransactionId.{TransactionId}
use Rattle.cfdp_header.specs.Files.{FileMap}
use Rattle.cfdp_header.specs.Ids.{same_id}
use Rattle.cfdp_directives.specs.declared.pdu.addressing.Addressing.{Addressing}
use Rattle.cfdp_directives.specs.declared.pdu.codes.Acknowledged.TheVariants as acknowledged
use Rattle.cfdp_directives.specs.declared.pdu.codes.Delivery.{Delivery}
use Rattle.cfdp_directives.specs.declared.pdu.codes.Delivery.TheVariants.{Complete}
use Rattle.cfdp_directives.specs.declared.pdu.codes.FileStatus.{FileStatus}
use Rattle.cfdp_directives.specs.declared.pdu.codes.FileStatus.TheVariants.{Retained}
use Rattle.cfdp_directives.specs.declared.user.indication.Indication.{Indication}
use Rattle.cfdp_directives.specs.declared.user.indication.Indication.TheVariants as indication
use Rattle.cfdp_directives.specs.declared.user.limits.Times.{Times}
use Rattle.cfdp_directives.specs.declared.user.policy.Policy.{Policy}
use Rattle.cfdp_directives.specs.declared.user.telling.Outcome.{Outcome}
use Rattle.cfdp_directives.specs.Pdu.Codes.{no_error}
use Rattle.cfdp_directives.specs.User.Completions.{is_finished, IsToldComplete}
use Rattle.cfdp_directives.specs.Pdu.Content.{Content, FileData, Metadata, Eof, Finished, Ack, Nak, Prompt, KeepAlive}
use Rattle.cfdp_directives.specs.User.Policy.{finished_told}
use Rattle.cfdp_directives.specs.User.Put.{Put, SomePdu, SaysComplete}
use Rattle.cfdp_directives.specs.Pdu.Tlv.{Tlv}
use Rattle.cfdp_directives.proofs.Puts.{finished-append, finished-last, Contains-append_left, Contains-append_right, SomePdu-append_left}
use Rattle.cfdp_store.specs.declared.stored.Stored.{Stored}
use Rattle.cfdp_store.specs.declared.stored.Stored.TheVariants.{Done, Refused}
use Rattle.cfdp_store.specs.Staged.{OctetMap}
use Rattle.cfdp_store.specs.Files.{octets_in}
use Rattle.cfdp_timers.specs.declared.kind.Kind.{Kind}
use Rattle.cfdp_timers.specs.Order.{Timer}
use Rattle.cfdp_sender.specs.declared.due.SenderDue.{SenderDue}
use Rattle.cfdp_sender.specs.State.{SenderState}
use Rattle.cfdp_sender.specs.Due.{sender_due}
use Rattle.cfdp_sender.specs.Steps.{SenderAfter}
use Rattle.cfdp_sender.specs.Inputs.{SenderInput, sender_step, finished_count, delivered}
use Rattle.cfdp_sender.specs.Inputs as inputs
use Rattle.cfdp_receiver.specs.declared.due.Due.{Due}
use Rattle.cfdp_receiver.specs.State.{ReceiverState, opened_receiver}
use Rattle.cfdp_receiver.specs.Due.{receiver_due}
use Rattle.cfdp_receiver.specs.Steps as receiver
use Rattle.cfdp_receiver.specs.Sound.{ReceiverInput, receiver_step}
use Rattle.cfdp_receiver.specs.Sound as machine
use Rattle.cfdp_entity.specs.declared.request.Request.{Request}
use Rattle.cfdp_entity.specs.declared.request.Request.TheVariants as call
use Rattle.cfdp_entity.specs.Seen.{Seen, Sends, Receives}
use Rattle.cfdp_entity.specs.Steps.{After, by_sender, by_receiver, no_step, hears, expires, calls, takes, sender_takes, receiver_takes}
use Rattle.cfdp_entity.specs.Steps as steps
use Rattle.cfdp_entity.specs.Opening.{puts, opens, opens_by, begins, closing}
use Rattle.cfdp_entity.specs.Table.{Entry, TableState, place_of, step_of, step_at, with_record, expired_in, expired, all_expired}
use Rattle.cfdp_entity.specs.History.{TableStep, Hears, Spoils, Expires, Calls, Takes, Puts, Opens, Tells, Fires, table_step, MayHappen, GoesOn}
use Rattle.cfdp_entity.specs.Telling.{WasIndicated, TellsNoMore, HearsDelivered}
use Rattle.cfdp_entity.specs.Truth.{KnowsTruth, TellsTruth, IsTrueTable}
use Rattle.cfdp_entity.proofs.CallerLemmas.{same_id-true}
use Rattle.cfdp_entity.proofs.Entries.{same_id-itself}
use Rattle.cfdp_entity.proofs.Histories.{Machines, set-nowhere, spoils-so}
use Rattle.cfdp_entity.proofs.Sparing.{spoils-receives}

-- ---- what is indicated
pub nothing-in : {X : Type 0} (x : X) → Contains [] x → ⊥
nothing-in x h = let low : h.0 < 0 = h.1 in omega (arith, low)

abbrev mark : Bool → ℕ
mark b = cond b 1 0

finished-in : (told : List Indication) (q : TransactionId) (condition : ℕ) (delivery : Delivery) (status : FileStatus) → Contains told (indication.Finished q condition delivery status) → 1
    ≤ finished_count q told
finished-in [] q condition delivery status h = absurd (nothing-in _ h)
finished-in (i ∷ rest) q condition delivery status (zero, low, is) =
    let here : i ≡ indication.Finished q condition delivery status = is in
    let one : mark (is_finished q i) ≡ mark true = ap mark (ap (is_finished q) here ∙ same_id-itself q q refl) in
    let last = finished-last q [] i in
    let all = finished-append q (i ∷ []) rest in
    omega (arith, one, last, all)
finished-in (i ∷ rest) q condition delivery status (suc k, low, is) =
    let there : 1 ≤ finished_count q rest = finished-in rest q condition delivery status (k, (let l : suc k < suc (length rest) = low in omega (arith, l)), is) in
    let all = finished-append q (i ∷ []) rest in
    omega (arith, there, all)

-- if no other transaction is indicated finished
of-own : (id q : TransactionId) (told : List Indication) → ((other : TransactionId) → same_id id other ≡ false → finished_count other told ≡ 0) →
    Contains told (indication.Finished q no_error Complete Retained) → id ≡ q
of-own id q told only h =
    elim (same_id id q) as (λ b. same_id id q ≡ b → id ≡ q) [
      | true ↦ λ t. same_id-true id q t
      | false ↦ λ t. (let none = only q t in let some = finished-in told q no_error Complete Retained h in absurd (omega (arith, none, some)))
    ] refl

was-more : (told more : List Indication) (s : Seen) → WasIndicated told s → WasIndicated (told ++ more) s
was-more told more (Sends x) w = tt
was-more told more (Receives r m) w = λ o is. Contains-append_left told more (finished_told r.addressing.id o) (w o is)

-- ---- a property of each record
abbrev pub Holds : (Entry → Type 0) → List Entry → Type 0
Holds P xs = (place : ℕ) (e : Entry) → slice_get xs place ≡ Some e → P e

pub holds-set : (P : Entry → Type 0) (xs : List Entry) (place : ℕ) (e : Entry) (s : Seen) → slice_get xs place ≡ Some e → P (e.0, s) → Holds P xs → Holds P (set_value_at xs place s)
holds-set P [] place e s at is all p d h = absurd cc
holds-set P (x ∷ xs) zero e s at is all zero d h =
    let here : x ≡ e = cc in
    let there : (x.0, s) ≡ d = cc in
    subst P there (subst (λ (i : TransactionId). P (i, s)) (ap (λ (y : Entry). y.0) (sym here)) is)
holds-set P (x ∷ xs) zero e s at is all (suc p) d h = all (suc p) d h
holds-set P (x ∷ xs) (suc n) e s at is all zero d h = all zero d h
holds-set P (x ∷ xs) (suc n) e s at is all (suc p) d h = holds-set P xs n e s at is (λ q f g. all (suc q) f g) p d h

pub holds-push : (P : Entry → Type 0) (xs : List Entry) (id : TransactionId) (s : Seen) → P (id, s) → Holds P xs → Holds P (xs ++ (id, s) ∷ [])
holds-push P [] id s is all zero d h = let there : (id, s) ≡ d = cc in subst P there is
holds-push P [] id s is all (suc p) d h = absurd cc
holds-push P (x ∷ xs) id s is all zero d h = all zero d h
holds-push P (x ∷ xs) id s is all (suc p) d h = holds-push P xs id s is (λ q f g. all (suc q) f g) p d h

-- whose a record is
abbrev Belongs : ℕ → TransactionId → Seen → Type 0
Belongs own id (Sends x) = x.addressing.id ≡ id
Belongs own id (Receives r m) = (r.addressing.id ≡ id) × (id.source ≡ own → ⊥)

belongs : (own : ℕ) (put_of : TransactionId → Option Put) (heard : List (List ℕ)) (id : TransactionId) (s : Seen) → KnowsTruth own put_of heard id s → Belongs own id s
belongs own put_of heard id (Sends x) k = k.0
belongs own put_of heard id (Receives r m) k = (k.same_id, k.not_own)

-- the laws of both machines on what they say
pub record Tellers : Type 0 where
  pub outcome : (stored : Stored) (input : ReceiverInput) (m : OctetMap) (files : FileMap) (r : ReceiverState) (o : Outcome) → (receiver_step stored input m files r).receiver.outcome ≡ Some o
      → (r.outcome ≡ Some o) ⊎ Contains (receiver_step stored input m files r).told (finished_told r.addressing.id o)
  pub opens_outcome : (stored : Stored) (large : Bool) (files : FileMap) (addressing : Addressing) (o : Outcome) → (receiver.opens stored large files addressing).receiver.outcome ≡ Some o
      → Contains (receiver.opens stored large files addressing).told (finished_told addressing.id o)
  pub opens_own : (stored : Stored) (large : Bool) (files : FileMap) (addressing : Addressing) (id : TransactionId) → same_id addressing.id id ≡ false →
      finished_count id (receiver.opens stored large files addressing).told ≡ 0
  pub delivered : (policy : Policy) (file : List ℕ) (input : SenderInput) (x : SenderState) (id : TransactionId) →
      Contains (sender_step policy file input x).told (indication.Finished id no_error Complete Retained) → input ≡ inputs.HearsFinished delivered

module _ (own : ℕ) (heard : List (List ℕ)) where
  -- ---- one record
  pub record StepTells (s : Seen) (a : After) : Type 0 where
    pub indicated : (told : List Indication) → WasIndicated told s → WasIndicated (told ++ a.told) a.seen
    pub told : (q : TransactionId) → IsToldComplete own a.told q → SomePdu (SaysComplete q) heard

  rests : (files : FileMap) (s : Seen) → StepTells s (no_step files s)
  rests files s = record { indicated = λ told w. was-more told [] s w; told = λ q h. absurd (nothing-in _ h.1) }

  module _ (machines : Machines) (tellers : Tellers) where
    by-sender : (times : Times) (files : FileMap) (policy : Policy) (file : List ℕ) (input : SenderInput) (id : TransactionId) (x : SenderState) → inputs.MayHappen input x → x.addressing.id ≡ id
        → (input ≡ inputs.HearsFinished delivered → SomePdu (SaysComplete id) heard) → StepTells (Sends x) (by_sender times files (sender_step policy file input x))
    by-sender times files policy file input id x may same heard_it =
        let a : SenderAfter = sender_step policy file input x in
        let f : inputs.FinishesOnce x a = machines.sender_once policy file input x may in
        record {
          indicated = λ told w. tt;
          told = λ q h. subst (λ i. SomePdu (SaysComplete i) heard) (sym same ∙ of-own x.addressing.id q a.told f.own h.1) (heard_it (tellers.delivered policy file input x q h.1));
        }

    by-receiver : (times : Times) (stored : Stored) (input : ReceiverInput) (files : FileMap) (id : TransactionId) (r : ReceiverState) (m : OctetMap) → Belongs own id (Receives r m) →
        StepTells (Receives r m) (by_receiver times (receiver_step stored input m files r))
    by-receiver times stored input files id r m k =
        let a : receiver.ReceiverAfter = receiver_step stored input m files r in
        let same : r.addressing.id ≡ a.receiver.addressing.id = ap (λ (d : Addressing). d.id) (sym (machines.receiver_same stored input m files r)) in
        record {
          indicated = λ told w o is. subst (λ i. Contains (told ++ a.told) (finished_told i o)) same (elim (tellers.outcome stored input m files r o is) [
            | inl before ↦ Contains-append_left told a.told (finished_told r.addressing.id o) (w o before)
            | inr now ↦ Contains-append_right told a.told (finished_told r.addressing.id o) now
          ]);
          told = λ q h. absurd (k.1 (ap (λ (i : TransactionId). i.source) (sym k.0 ∙ of-own r.addressing.id q a.told (machines.receiver_own stored input m files r) h.1) ∙ h.0));
        }

    module _ (policy : Policy) (files : FileMap) (id : TransactionId) where
      sender-hears : (v : Content) → ((tlvs : List Tlv) → v ≡ Finished no_error Complete Retained tlvs → SomePdu (SaysComplete id) heard) → (stored : Stored) (large : Bool) (x : SenderState) →
          x.addressing.id ≡ id →
          StepTells (Sends x) (hears stored policy.times files large v (Sends x))
      sender-hears (Ack acknowledged.Eof condition status) d stored large x k = by-sender policy.times files policy [] (inputs.HearsAck condition) id x tt k (λ h. absurd cc)
      sender-hears (Nak start end pairs) d stored large x k = by-sender policy.times files policy [] (inputs.HearsNak pairs) id x tt k (λ h. absurd cc)
      sender-hears (Finished condition delivery status tlvs) d stored large x k =
          by-sender policy.times files policy [] (inputs.HearsFinished (record { condition = condition; delivery = delivery; status = status })) id x tt k
          (λ h. (let o : record { condition = condition; delivery = delivery; status = status } ≡ delivered = cc in d tlvs (ap (λ (p : Outcome). Finished p.condition p.delivery p.status tlvs) o)))
      sender-hears (KeepAlive progress) d stored large x k = by-sender policy.times files policy [] (inputs.HearsKeepAlive progress) id x tt k (λ h. absurd cc)
      sender-hears (Ack acknowledged.Finished condition status) d stored large x k = rests files (Sends x)
      sender-hears (Metadata kind size source destination options) d stored large x k = rests files (Sends x)
      sender-hears (FileData offset bytes) d stored large x k = rests files (Sends x)
      sender-hears (Eof condition checksum size tlvs) d stored large x k = rests files (Sends x)
      sender-hears (Prompt keep_alive) d stored large x k = rests files (Sends x)

      receiver-hears : (stored : Stored) (large : Bool) (v : Content) (r : ReceiverState) (m : OctetMap) → Belongs own id (Receives r m) →
          StepTells (Receives r m) (hears stored policy.times files large v (Receives r m))
      receiver-hears stored large (Metadata kind size source destination options) r m k =
          by-receiver policy.times stored (machine.Hears large (Metadata kind size source destination options)) files id r m k
      receiver-hears stored large (FileData offset bytes) r m k = by-receiver policy.times stored (machine.Hears large (FileData offset bytes)) files id r m k
      receiver-hears stored large (Eof condition checksum size tlvs) r m k = by-receiver policy.times stored (machine.Hears large (Eof condition checksum size tlvs)) files id r m k
      receiver-hears stored large (Ack acknowledged.Finished condition status) r m k = by-receiver policy.times stored (machine.Hears large (Ack acknowledged.Finished condition status)) files id r m k
      receiver-hears stored large (Prompt keep_alive) r m k = by-receiver policy.times stored (machine.Hears large (Prompt keep_alive)) files id r m k
      receiver-hears stored large (Ack acknowledged.Eof condition status) r m k = rests files (Receives r m)
      receiver-hears stored large (Finished condition delivery status tlvs) r m k = rests files (Receives r m)
      receiver-hears stored large (Nak start end pairs) r m k = rests files (Receives r m)
      receiver-hears stored large (KeepAlive progress) r m k = rests files (Receives r m)

      hears-tells : (stored : Stored) (large : Bool) (v : Content) (s : Seen) → ((tlvs : List Tlv) → v ≡ Finished no_error Complete Retained tlvs → SomePdu (SaysComplete id) heard) →
          Belongs own id s →
          StepTells s (hears stored policy.times files large v s)
      hears-tells stored large v (Sends x) d k = sender-hears v d stored large x k
      hears-tells stored large v (Receives r m) d k = receiver-hears stored large v r m k

      expires-tells : (kind : Kind) (s : Seen) → Belongs own id s → StepTells s (expires policy files kind s)
      expires-tells kind (Sends x) k = by-sender policy.times files policy [] (inputs.Expires kind) id x tt k (λ h. absurd cc)
      expires-tells kind (Receives r m) k = by-receiver policy.times Done (machine.Expires kind policy) files id r m k

      calls-tells : (c : Request) (s : Seen) → Belongs own id s → StepTells s (calls policy.times files c s)
      calls-tells call.Cancel (Sends x) k = by-sender policy.times files policy [] inputs.Cancels id x tt k (λ h. absurd cc)
      calls-tells call.Suspend (Sends x) k = by-sender policy.times files policy [] inputs.Suspends id x tt k (λ h. absurd cc)
      calls-tells call.Resume (Sends x) k = by-sender policy.times files policy [] inputs.Resumes id x tt k (λ h. absurd cc)
      calls-tells (call.Prompt keep_alive) (Sends x) k = by-sender policy.times files policy [] (inputs.Prompts keep_alive) id x tt k (λ h. absurd cc)
      calls-tells call.Cancel (Receives r m) k = by-receiver policy.times Done machine.Cancels files id r m k
      calls-tells call.Suspend (Receives r m) k = by-receiver policy.times Done machine.Suspends files id r m k
      calls-tells call.Resume (Receives r m) k = by-receiver policy.times Done machine.Resumes files id r m k
      calls-tells (call.Prompt keep_alive) (Receives r m) k = rests files (Receives r m)

      sender-takes : (stored : Stored) (file : List ℕ) (x : SenderState) (due : Option SenderDue) → sender_due x ≡ due → x.addressing.id ≡ id →
          StepTells (Sends x) (sender_takes stored policy.times files file x due)
      sender-takes stored file x (Some d) is k = by-sender policy.times files policy file (inputs.Sends stored d) id x is k (λ h. absurd cc)
      sender-takes stored file x None is k = rests files (Sends x)

      receiver-takes : (r : ReceiverState) (m : OctetMap) (due : Option Due) → Belongs own id (Receives r m) → StepTells (Receives r m) (receiver_takes policy.times files r m due)
      receiver-takes r m (Some d) k = by-receiver policy.times Done (machine.Takes d) files id r m k
      receiver-takes r m None k = rests files (Receives r m)

      takes-tells : (stored : Stored) (sources : FileMap) (s : Seen) → Belongs own id s → StepTells s (takes stored policy.times sources files s)
      takes-tells stored sources (Sends x) k = sender-takes stored (octets_in sources x.source) x (sender_due x) refl k
      takes-tells stored sources (Receives r m) k = receiver-takes r m (receiver_due r) k

      -- if there was no memory
      still-sends : (told : List Indication) (x : SenderState) (t : Seen) → GoesOn (Sends x) t → WasIndicated told t
      still-sends told x (Sends y) on = tt
      still-sends told x (Receives r m) on = absurd on

      spoiled : (told : List Indication) (v : Content) (s t : Seen) → steps.Spoils v s t → WasIndicated told s → WasIndicated told t
      spoiled told v (Sends x) t h w = still-sends told x t (spoils-so machines policy files v (Sends x) t h).goes_on
      spoiled told v (Receives r m) t h w = subst (WasIndicated told) (sym (spoils-receives v r m t h).1.0) w

    -- ---- a record that is opened
    -- nothing is known of how it ended but what is indicated
    pub record OpensTelling (a : After) : Type 0 where
      pub indicated : (told : List Indication) → WasIndicated (told ++ a.told) a.seen
      pub told : (q : TransactionId) → IsToldComplete own a.told q → SomePdu (SaysComplete q) heard

    fresh : (told : List Indication) (r : ReceiverState) (m : OctetMap) → r.outcome ≡ None → WasIndicated told (Receives r m)
    fresh told r m none = λ o is. (let h : None ≡ Some o = sym none ∙ is in absurd cc)

    puts-tells : (files : FileMap) (id : TransactionId) (q : TransactionId) → IsToldComplete own (indication.Transaction id ∷ []) q → ⊥
    puts-tells files id q (is_own, (zero, low, is)) = let h : indication.Transaction id ≡ indication.Finished q no_error Complete Retained = is in cc
    puts-tells files id q (is_own, (suc k, low, is)) = let l : suc k < 1 = low in omega (arith, l)

    module _ (policy : Policy) (files : FileMap) (a : Addressing) (not_own : a.id.source ≡ own → ⊥) (large : Bool) (v : Content) where
      begins-tells : (begun stored : Stored) → OpensTelling (begins begun stored policy.times files large v a)
      begins-tells Done stored =
          let s : StepTells (Receives (opened_receiver a) map.empty) (begins Done stored policy.times files large v a) =
          receiver-hears policy files a.id stored large v (opened_receiver a) map.empty (refl, not_own) in
          record { indicated = λ told. s.indicated told (fresh told (opened_receiver a) map.empty refl); told = s.told }
      begins-tells Refused stored = record {
        indicated = λ told o is. Contains-append_right told (receiver.opens Refused large files a).told (finished_told a.id o) (tellers.opens_outcome Refused large files a o is);
        told = λ q h. absurd (not_own (ap (λ (i : TransactionId). i.source) (of-own a.id q (receiver.opens Refused large files a).told (tellers.opens_own Refused large files a) h.1) ∙ h.0));
      }

      opens-tells : (o : Option ℕ) (begun stored : Stored) → OpensTelling (opens_by o begun stored policy.times files large v a)
      opens-tells (Some condition) begun stored = record {
        indicated = λ told. fresh (told ++ []) (receiver.opened_closed large condition a) map.empty refl;
        told = λ q h. absurd (nothing-in _ h.1);
      }
      opens-tells None begun stored = begins-tells begun stored

    -- ---- the table
    told-next : (st : TableState) (more : List Indication) → TellsNoMore own heard st → ((q : TransactionId) → IsToldComplete own more q → SomePdu (SaysComplete q) heard) → (q : TransactionId) →
        IsToldComplete own (st.told ++ more) q → SomePdu (SaysComplete q) heard
    told-next st more t says q h =
        elim (Contains-append_cases st.told more (indication.Finished q no_error Complete Retained) h.1) [
          | inl before ↦ t.told q (h.0, before)
          | inr now ↦ says q (h.0, now)
        ]

    tells-of : (f : Entry → After) (place : ℕ) (st : TableState) (o : Option Entry) → slice_get st.records place ≡ o → ((e : Entry) → slice_get st.records place ≡ Some e → StepTells e.1 (f e)) →
        TellsNoMore own heard st → TellsNoMore own heard (step_of f place o st)
    tells-of f place st None at goes t = t
    tells-of f place st (Some e) at goes t =
        let s : StepTells e.1 (f e) = goes e at in
        record {
          indicated = holds-set (λ d. WasIndicated (st.told ++ (f e).told) d.1) st.records place e (f e).seen at (s.indicated st.told (t.indicated place e at))
              (λ p d h. was-more st.told (f e).told d.1 (t.indicated p d h));
          told = told-next st (f e).told t s.told;
        }

    tells-at : (f : Entry → After) (place : ℕ) (st : TableState) → ((e : Entry) → slice_get st.records place ≡ Some e → StepTells e.1 (f e)) → TellsNoMore own heard st →
        TellsNoMore own heard (step_at f place st)
    tells-at f place st goes t = tells-of f place st (slice_get st.records place) refl goes t

    tells-push : (id : TransactionId) (a : After) (st : TableState) → OpensTelling a → TellsNoMore own heard st → TellsNoMore own heard (with_record id a st)
    tells-push id a st s t = record {
      indicated = holds-push (λ d. WasIndicated (st.told ++ a.told) d.1) st.records id a.seen (s.indicated st.told) (λ p d h. was-more st.told a.told d.1 (t.indicated p d h));
      told = told-next st a.told t s.told;
    }

    tells-spoiled : (place : ℕ) (v : Content) (noted : Seen) (st : TableState) → ((e : Entry) → slice_get st.records place ≡ Some e → steps.Spoils v e.1 noted) → TellsNoMore own heard st →
        TellsNoMore own heard (record st { records = set_value_at st.records place noted })
    tells-spoiled place v noted st may t = record { indicated = by (slice_get st.records place) refl; told = t.told }
      where
        by : (o : Option Entry) → slice_get st.records place ≡ o → (p : ℕ) (d : Entry) → slice_get (set_value_at st.records place noted) p ≡ Some d → WasIndicated st.told d.1
        by None none = λ p d h. t.indicated p d (ap (λ l. slice_get l p) (sym (set-nowhere st.records place noted none)) ∙ h)
        by (Some e) at = holds-set (λ d. WasIndicated st.told d.1) st.records place e noted at (spoiled st.policy st.files e.0 st.told v e.1 noted (may e at) (t.indicated place e at)) t.indicated

    module _ (put_of : TransactionId → Option Put) (first : FileMap)
        (keeps : (s : TableStep) (st : TableState) → MayHappen s st → TellsTruth own put_of heard s st → IsTrueTable own put_of heard first st →
        IsTrueTable own put_of heard first (table_step s st)) where
      mine : (st : TableState) (place : ℕ) (e : Entry) → IsTrueTable own put_of heard first st → slice_get st.records place ≡ Some e → Belongs own e.0 e.1
      mine st place e k at = belongs own put_of heard e.0 e.1 (k.knows place e at)

      tells-expired : (place : ℕ) (kind : Kind) (st : TableState) → IsTrueTable own put_of heard first st → TellsNoMore own heard st → TellsNoMore own heard (table_step (Expires place kind) st)
      tells-expired place kind st k t = tells-at (λ e. expires st.policy st.files kind e.1) place st (λ e at. expires-tells st.policy st.files e.0 kind e.1 (mine st place e k at)) t

      -- each timer that fires is a step of its record
      tells-fired : (timers : List Timer) (st : TableState) → IsTrueTable own put_of heard first st → TellsNoMore own heard st → TellsNoMore own heard (all_expired timers st)
      unfolding all_expired
      tells-fired [] st k t = t
      tells-fired (timer ∷ timers) st k t =
          let b = by (place_of timer.0 st.records) in
          tells-fired timers (expired timer st) b.0 b.1
        where
          by : (o : Option ℕ) → IsTrueTable own put_of heard first (expired_in o timer.1 st) × TellsNoMore own heard (expired_in o timer.1 st)
          by None = (k, t)
          by (Some place) = (keeps (Expires place timer.1) st tt tt k, tells-expired place timer.1 st k t)

      pub tells-step : (s : TableStep) (st : TableState) → MayHappen s st → TellsTruth own put_of heard s st → HearsDelivered heard s st → IsTrueTable own put_of heard first st →
          TellsNoMore own heard st → TellsNoMore own heard (table_step s st)
      tells-step (Hears stored place large v) st may tells d k t = tells-at (λ e. hears stored st.policy.times st.files large v e.1) place st
          (λ e at. hears-tells st.policy st.files e.0 stored large v e.1 (d e at) (mine st place e k at)) t
      tells-step (Spoils place v noted) st may tells d k t = tells-spoiled place v noted st may t
      tells-step (Expires place kind) st may tells d k t = tells-expired place kind st k t
      tells-step (Calls place c) st may tells d k t = tells-at (λ e. calls st.policy.times st.files c e.1) place st (λ e at. calls-tells st.policy st.files e.0 c e.1 (mine st place e k at)) t
      tells-step (Takes stored place) st may tells d k t = tells-at (λ e. takes stored st.policy.times st.sources st.files e.1) place st
          (λ e at. takes-tells st.policy st.files e.0 stored st.sources e.1 (mine st place e k at)) t
      tells-step (Puts transfer) st may tells d k t =
          tells-push transfer.addressing.id (puts st.files transfer) st (record { indicated = λ told. tt; told = λ q h. absurd (puts-tells st.files transfer.addressing.id q h) }) t
      tells-step (Opens begun stored a large v) st may tells d k t = tells-push a.id (opens begun stored st.policy.times st.files large v a) st
          (opens-tells st.policy st.files a tells.0 large v (closing v) begun stored) t
      tells-step (Tells now) st may tells d k t = record { indicated = t.indicated; told = t.told }
      tells-step (Fires timers) st may tells d k t = tells-fired timers st k t

-- ---- how it begins, and if more is heard
nowhere : (p : ℕ) (e : Entry) → slice_get [] p ≡ Some e → ⊥
nowhere p e h = cc

pub tells-first : (own : ℕ) (heard : List (List ℕ)) (st : TableState) → st.records ≡ [] → st.told ≡ [] → TellsNoMore own heard st
tells-first own heard st none nothing = record {
  indicated = λ p e h. absurd (nowhere p e (ap (λ (l : List Entry). slice_get l p) (sym none) ∙ h));
  told = λ q h. absurd (nothing-in _ (subst (λ (l : List Indication). Contains l (indication.Finished q no_error Complete Retained)) nothing h.1));
}

pub tells-more : (own : ℕ) (heard more : List (List ℕ)) (st : TableState) → TellsNoMore own heard st → TellsNoMore own (heard ++ more) st
tells-more own heard more st t = record { indicated = t.indicated; told = λ q h. SomePdu-append_left (SaysComplete q) heard more (t.told q h) }
