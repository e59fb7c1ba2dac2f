-- A table that hears nothing but the truth.
use Rattle.std.proofs.Common.{◌≡◌, ◌⊎◌, inl, inr, ℕ, zero, suc, ◌<◌, Bool, true, false, not, ◌&&◌, ◌==◌, List, [], ◌∷◌, ◌++◌, take, length, slice_get, Option, Some, None, IsSome, refl, sym, ap, subst, ◌∙◌, arith, cond, if◌then◌else◌}
use Rattle.std.specs.Prelude.{Contains}
use Rattle.std.specs.FinMap as map
use Rattle.std.specs.FinSet as set
use Rattle.std.proofs.lemmas.Bool.{eqb-true, eq-eqb}
use Rattle.std.proofs.lemmas.List.Elements.{Contains-append_cases}
use Rattle.indexmap.specs.IndexMap.{set_value_at}
use Rattle.cfdp_header.specs.declared.value.TransactionId.{TransactionId}
use Rattle.cfdp_header.specs.Files.{FileMap}
use Rattle.cfdp_header.specs.Ids.{same_id}
use Rattle.cfdp_directives.specs.declared.pdu.addressing.Addressing.{Addressing}
use Rattle.cfdp_directives.specs.declared.pdu.codes.Acknowledged.TheVariants as acknowledged
use Rattle.cfdp_directives.specs.declared.pdu.codes.Delivery.{Delivery}
use Rattle.cfdp_directives.specs.declared.pdu.codes.FileStatus.{FileStatus}
use Rattle.cfdp_directives.specs.declared.user.indication.Indication.{Indication}
use Rattle.cfdp_directives.specs.declared.user.indication.Indication.TheVariants as indication
use Rattle.cfdp_directives.specs.declared.user.limits.Times.{Times}
use Rattle.cfdp_directives.specs.declared.user.policy.Policy.{Policy}
use Rattle.cfdp_directives.specs.User.Completions.{is_complete, completion, completions}
use Rattle.cfdp_directives.specs.Pdu.Content.{Content, FileData, Metadata, Eof, Finished, Ack, Nak, Prompt, KeepAlive}
use Rattle.cfdp_directives.specs.User.Policy.{finished_told}
use Rattle.cfdp_directives.specs.User.Put.{Put, HeardInFull, overwritten, inbox_after}
use Rattle.cfdp_directives.proofs.Puts.{completions-append, finished-append, finished-last, inbox_after-append, HeardInFull-append}
use Rattle.cfdp_store.specs.declared.stored.Stored.{Stored}
use Rattle.cfdp_store.specs.declared.stored.Stored.TheVariants.{Done, Refused}
use Rattle.cfdp_store.specs.Staged.{OctetMap}
use Rattle.cfdp_store.specs.Files.{octets_in}
use Rattle.cfdp_timers.specs.declared.kind.Kind.{Kind}
use Rattle.cfdp_timers.specs.Order.{Timer}
use Rattle.cfdp_sender.specs.declared.due.SenderDue.{SenderDue}
use Rattle.cfdp_sender.specs.declared.transfer.Transfer.{Transfer}
use Rattle.cfdp_sender.specs.State.{SenderState}
use Rattle.cfdp_sender.specs.Due.{sender_due}
use Rattle.cfdp_sender.specs.Steps.{SenderAfter}
use Rattle.cfdp_sender.specs.Inputs.{SenderInput, sender_step, finished_count}
use Rattle.cfdp_sender.specs.Inputs as inputs
use Rattle.cfdp_receiver.specs.declared.state.ReceiverPhase.TheVariants.{Receiving}
use Rattle.cfdp_receiver.specs.declared.due.Due.{Due}
use Rattle.cfdp_receiver.specs.State.{ReceiverState, opened_receiver, is_receiving}
use Rattle.cfdp_receiver.specs.Due.{receiver_due}
use Rattle.cfdp_receiver.specs.Steps as receiver
use Rattle.cfdp_receiver.specs.Sound.{ReceiverInput, receiver_step, Sound, IsAmong, IsTrueInput, PublishesNone, PublishesPut}
use Rattle.cfdp_receiver.specs.Sound as machine
use Rattle.cfdp_entity.specs.declared.request.Request.{Request}
use Rattle.cfdp_entity.specs.declared.request.Request.TheVariants as call
use Rattle.cfdp_entity.specs.Seen.{Seen, Sends, Receives, octets_seen}
use Rattle.cfdp_entity.specs.Steps.{After, by_sender, by_receiver, no_step, hears, expires, calls, takes, sender_takes, receiver_takes}
use Rattle.cfdp_entity.specs.Steps as steps
use Rattle.cfdp_entity.specs.Opening.{puts, opens, opens_by, begins, closing}
use Rattle.cfdp_entity.specs.Table.{Entry, TableState, place_of, step_of, step_at, with_record, expired_in, expired, all_expired}
use Rattle.cfdp_entity.specs.History.{TableStep, Hears, Spoils, Expires, Calls, Takes, Puts, Opens, Tells, Fires, table_step, MayHappen}
use Rattle.cfdp_entity.specs.Truth.{KnowsPut, KnowsTruth, IsTrueOf, TellsTruth, IsTrueTable}
use Rattle.cfdp_entity.proofs.CallerLemmas.{same_id-true}
use Rattle.cfdp_entity.proofs.Entries.{same_id-itself}
use Rattle.cfdp_entity.proofs.Histories.{Machines, set-nowhere}
use Rattle.cfdp_entity.proofs.Sparing.{spoils-receives}

-- the laws of a receiver that hears the truth
pub record TrueReceiver : Type 0 where
  pub stays : (put : Put) (heard : List (List ℕ)) (stored : Stored) (input : ReceiverInput) (m : OctetMap) (files : FileMap) (r : ReceiverState) → IsTrueInput put heard input → Sound put heard r m
      → Sound put heard (receiver_step stored input m files r).receiver (receiver_step stored input m files r).octets
  pub opened : (put : Put) (heard : List (List ℕ)) (stored : Stored) (large : Bool) (files : FileMap) (addressing : Addressing) →
      Sound put heard (receiver.opens stored large files addressing).receiver (receiver.opens stored large files addressing).octets
  pub closed : (put : Put) (heard : List (List ℕ)) (large : Bool) (condition : ℕ) (addressing : Addressing) (m : OctetMap) → Sound put heard (receiver.opened_closed large condition addressing) m
  pub staged : (put : Put) (heard : List (List ℕ)) (r : ReceiverState) (m n : OctetMap) → (r.phase ≡ Receiving → (k : ℕ) → set.contains r.held k ≡ true → map.get n k ≡ map.get m k) →
      Sound put heard r m → Sound put heard r n
  pub publishes : (put : Put) (heard : List (List ℕ)) (stored : Stored) (input : ReceiverInput) (m : OctetMap) (files : FileMap) (r : ReceiverState) → IsTrueInput put heard input → Sound put heard r m
      → PublishesNone files (receiver_step stored input m files r) ⊎ PublishesPut put heard r.addressing.id files (receiver_step stored input m files r)
  pub opens_none : (stored : Stored) (large : Bool) (files : FileMap) (addressing : Addressing) → PublishesNone files (receiver.opens stored large files addressing)

-- ---- what is indicated complete
none-in : (id : TransactionId) → Contains [] id → ⊥
none-in id h = let low : h.0 < 0 = h.1 in omega (arith, low)

one-in : (x id : TransactionId) → Contains (x ∷ []) id → x ≡ id
one-in x id (zero, low, is) = is
one-in x id (suc k, low, is) = absurd (omega (arith, low))

complete-one : (own : ℕ) (id : TransactionId) → (id.source ≡ own → ⊥) → completions own (finished_told id receiver.complete ∷ []) ≡ id ∷ []
complete-one own id not_own =
    elim (id.source == own) as (λ b. (id.source == own) ≡ b → (if not b then id ∷ [] else []) ++ [] ≡ id ∷ []) [
      | true ↦ λ h. absurd (not_own (eqb-true id.source own h))
      | false ↦ λ h. refl
    ] refl

-- of a transaction of one's own no Finished is a completion
own-finished : (own : ℕ) (of : TransactionId) (condition : ℕ) (delivery : Delivery) (status : FileStatus) → of.source ≡ own → completion own (indication.Finished of condition delivery status) ≡ []
own-finished own of condition delivery status is =
    let same : (of.source == own) ≡ true = eq-eqb of.source own is in
    ap (λ b. if is_complete condition delivery status && not b then of ∷ [] else []) same
    ∙ elim (is_complete condition delivery status) as (λ b. (if b && false then of ∷ [] else []) ≡ []) [ true ↦ refl | false ↦ refl ]

abbrev mark : Bool → ℕ
mark b = cond b 1 0

module _ (own : ℕ) (id : TransactionId) (is_own : id.source ≡ own) where
  mine : (i : Indication) → ((other : TransactionId) → same_id id other ≡ false → finished_count other (i ∷ []) ≡ 0) → completion own i ≡ []
  mine (indication.Finished of condition delivery status) only =
      elim (same_id id of) as (λ b. same_id id of ≡ b → completion own (indication.Finished of condition delivery status) ≡ []) [
        | true ↦ λ t. own-finished own of condition delivery status (ap (λ (k : TransactionId). k.source) (sym (same_id-true id of t)) ∙ is_own)
        | false ↦ λ t. (let n = only of t in let s = finished-last of [] (indication.Finished of condition delivery status) in let one : mark (same_id of of) ≡ mark true =
            ap mark (same_id-itself of of refl) in absurd (omega (arith, n, s, one)))
      ] refl
  mine (indication.Transaction of) only = refl
  mine (indication.EofSent of) only = refl
  mine (indication.MetadataRecv of source destination size) only = refl
  mine (indication.EofRecv of) only = refl
  mine (indication.Suspended of condition) only = refl
  mine (indication.Resumed of) only = refl
  mine (indication.Fault of condition) only = refl
  mine (indication.Abandoned of condition) only = refl
  mine (indication.Progress of progress) only = refl

  pub none-complete : (told : List Indication) → ((other : TransactionId) → same_id id other ≡ false → finished_count other told ≡ 0) → completions own told ≡ []
  none-complete [] only = refl
  none-complete (i ∷ rest) only =
      ap (λ l. l ++ completions own rest) (mine i (λ other apart. (let s = finished-append other (i ∷ []) rest in let n = only other apart in omega (arith, s, n))))
      ∙ none-complete rest (λ other apart. (let s = finished-append other (i ∷ []) rest in let n = only other apart in omega (arith, s, n)))

-- ---- one record
module _ (own : ℕ) (put_of : TransactionId → Option Put) (heard : List (List ℕ)) where
  pub record StepsTrue (files : FileMap) (id : TransactionId) (a : After) : Type 0 where
    pub knows : KnowsTruth own put_of heard id a.seen
    pub inbox : a.files ≡ inbox_after put_of files (completions own a.told)
    pub caused : (q : TransactionId) → Contains (completions own a.told) q → (put : Put) × ((put_of q ≡ Some put) × HeardInFull put heard)

  -- nothing is published
  quiet : (files : FileMap) (id : TransactionId) (a : After) → KnowsTruth own put_of heard id a.seen → a.files ≡ files → completions own a.told ≡ [] → StepsTrue files id a
  quiet files id a knows same none = record {
    knows = knows;
    inbox = same ∙ sym (ap (inbox_after put_of files) none);
    caused = λ q h. absurd (none-in q (subst (λ l. Contains l q) none h));
  }

  rests : (files : FileMap) (id : TransactionId) (s : Seen) → KnowsTruth own put_of heard id s → StepsTrue files id (no_step files s)
  rests files id s knows = quiet files id (no_step files s) knows refl refl

  module _ (machines : Machines) (laws : TrueReceiver) where
    true-sender : (times : Times) (files : FileMap) (policy : Policy) (file : List ℕ) (input : SenderInput) (id : TransactionId) (x : SenderState) → inputs.MayHappen input x →
        KnowsTruth own put_of heard id (Sends x)
        → StepsTrue files id (by_sender times files (sender_step policy file input x))
    true-sender times files policy file input id x may k =
        let a : SenderAfter = sender_step policy file input x in
        let f : inputs.FinishesOnce x a = machines.sender_once policy file input x may in
        let same : a.sender.addressing.id ≡ id = ap (λ (t : Transfer). t.addressing.id) (machines.sender_keeps policy file input x) ∙ k.0 in
        quiet files id (by_sender times files a) (same, k.1) refl
        (none-complete own x.addressing.id (ap (λ (i : TransactionId). i.source) k.0 ∙ k.1) a.told f.own)

    -- what is seen of it is what matters
    seen-sound : (put : Put) (r : ReceiverState) (m : OctetMap) → Sound put heard r m → Sound put heard r (octets_seen r m)
    seen-sound put r m s = laws.staged put heard r m (octets_seen r m) (λ is k h. ap (λ p. map.get (if is_receiving p then m else map.empty) k) is) s

    true-receiver : (times : Times) (stored : Stored) (input : ReceiverInput) (files : FileMap) (id : TransactionId) (r : ReceiverState) (m : OctetMap) (k : KnowsPut own put_of heard id r m) →
        IsTrueInput k.put heard input
        → StepsTrue files id (by_receiver times (receiver_step stored input m files r))
    true-receiver times stored input files id r m k truth =
        let a : receiver.ReceiverAfter = receiver_step stored input m files r in
        let knows : KnowsPut own put_of heard id a.receiver (octets_seen a.receiver a.octets) = record {
          put = k.put;
          is_put = k.is_put;
          same_id = ap (λ (d : Addressing). d.id) (machines.receiver_same stored input m files r) ∙ k.same_id;
          not_own = k.not_own;
          sound = seen-sound k.put a.receiver a.octets (laws.stays k.put heard stored input m files r truth k.sound);
        } in
        elim (laws.publishes k.put heard stored input m files r truth k.sound) [
          | inl n ↦ quiet files id (by_receiver times a) knows n.same_files (n.no_completion own)
          | inr p ↦ published knows p
        ]
      where
        published : KnowsTruth own put_of heard id (by_receiver times (receiver_step stored input m files r)).seen →
            PublishesPut k.put heard r.addressing.id files (receiver_step stored input m files r)
            → StepsTrue files id (by_receiver times (receiver_step stored input m files r))
        published knows p =
            let own_put : put_of r.addressing.id ≡ Some k.put = ap put_of k.same_id ∙ k.is_put in
            let not_own : r.addressing.id.source ≡ own → ⊥ = λ h. k.not_own (ap (λ (i : TransactionId). i.source) (sym k.same_id) ∙ h) in
            let one : completions own (receiver_step stored input m files r).told ≡ r.addressing.id ∷ [] = p.one_completion own ∙ complete-one own r.addressing.id not_own in
            record {
              knows = knows;
              inbox = p.written_over ∙ sym (ap (inbox_after put_of files) one ∙ ap (overwritten files) own_put);
              caused = λ q h. (let same : r.addressing.id ≡ q = one-in r.addressing.id q (subst (λ l. Contains l q) one h) in (k.put, (ap put_of (sym same) ∙ own_put, p.heard_in_full)));
            }

    module _ (policy : Policy) (files : FileMap) (id : TransactionId) where
      hears-true : (stored : Stored) (large : Bool) (v : Content) (s : Seen) → IsTrueOf put_of heard id v → KnowsTruth own put_of heard id s →
          StepsTrue files id (hears stored policy.times files large v s)
      hears-true stored large (Ack acknowledged.Eof condition status) (Sends x) t k = true-sender policy.times files policy [] (inputs.HearsAck condition) id x tt k
      hears-true stored large (Nak start end pairs) (Sends x) t k = true-sender policy.times files policy [] (inputs.HearsNak pairs) id x tt k
      hears-true stored large (Finished condition delivery status tlvs) (Sends x) t k =
          true-sender policy.times files policy [] (inputs.HearsFinished (record { condition = condition; delivery = delivery; status = status })) id x tt k
      hears-true stored large (KeepAlive progress) (Sends x) t k = true-sender policy.times files policy [] (inputs.HearsKeepAlive progress) id x tt k
      hears-true stored large (Ack acknowledged.Finished condition status) (Sends x) t k = rests files id (Sends x) k
      hears-true stored large (Metadata kind size source destination options) (Sends x) t k = rests files id (Sends x) k
      hears-true stored large (FileData offset bytes) (Sends x) t k = rests files id (Sends x) k
      hears-true stored large (Eof condition checksum size tlvs) (Sends x) t k = rests files id (Sends x) k
      hears-true stored large (Prompt keep_alive) (Sends x) t k = rests files id (Sends x) k
      hears-true stored large (Metadata kind size source destination options) (Receives r m) t k =
          true-receiver policy.times stored (machine.Hears large (Metadata kind size source destination options)) files id r m k (t k.put k.is_put)
      hears-true stored large (FileData offset bytes) (Receives r m) t k = true-receiver policy.times stored (machine.Hears large (FileData offset bytes)) files id r m k (t k.put k.is_put)
      hears-true stored large (Eof condition checksum size tlvs) (Receives r m) t k =
          true-receiver policy.times stored (machine.Hears large (Eof condition checksum size tlvs)) files id r m k (t k.put k.is_put)
      hears-true stored large (Ack acknowledged.Finished condition status) (Receives r m) t k =
          true-receiver policy.times stored (machine.Hears large (Ack acknowledged.Finished condition status)) files id r m k (t k.put k.is_put)
      hears-true stored large (Prompt keep_alive) (Receives r m) t k = true-receiver policy.times stored (machine.Hears large (Prompt keep_alive)) files id r m k (t k.put k.is_put)
      hears-true stored large (Ack acknowledged.Eof condition status) (Receives r m) t k = rests files id (Receives r m) k
      hears-true stored large (Finished condition delivery status tlvs) (Receives r m) t k = rests files id (Receives r m) k
      hears-true stored large (Nak start end pairs) (Receives r m) t k = rests files id (Receives r m) k
      hears-true stored large (KeepAlive progress) (Receives r m) t k = rests files id (Receives r m) k

      expires-true : (kind : Kind) (s : Seen) → KnowsTruth own put_of heard id s → StepsTrue files id (expires policy files kind s)
      expires-true kind (Sends x) k = true-sender policy.times files policy [] (inputs.Expires kind) id x tt k
      expires-true kind (Receives r m) k = true-receiver policy.times Done (machine.Expires kind policy) files id r m k tt

      calls-true : (c : Request) (s : Seen) → KnowsTruth own put_of heard id s → StepsTrue files id (calls policy.times files c s)
      calls-true call.Cancel (Sends x) k = true-sender policy.times files policy [] inputs.Cancels id x tt k
      calls-true call.Suspend (Sends x) k = true-sender policy.times files policy [] inputs.Suspends id x tt k
      calls-true call.Resume (Sends x) k = true-sender policy.times files policy [] inputs.Resumes id x tt k
      calls-true (call.Prompt keep_alive) (Sends x) k = true-sender policy.times files policy [] (inputs.Prompts keep_alive) id x tt k
      calls-true call.Cancel (Receives r m) k = true-receiver policy.times Done machine.Cancels files id r m k tt
      calls-true call.Suspend (Receives r m) k = true-receiver policy.times Done machine.Suspends files id r m k tt
      calls-true call.Resume (Receives r m) k = true-receiver policy.times Done machine.Resumes files id r m k tt
      calls-true (call.Prompt keep_alive) (Receives r m) k = rests files id (Receives r m) k

      sender-takes : (stored : Stored) (file : List ℕ) (x : SenderState) (due : Option SenderDue) → sender_due x ≡ due → KnowsTruth own put_of heard id (Sends x) →
          StepsTrue files id (sender_takes stored policy.times files file x due)
      sender-takes stored file x (Some d) is k = true-sender policy.times files policy file (inputs.Sends stored d) id x is k
      sender-takes stored file x None is k = rests files id (Sends x) k

      receiver-takes : (r : ReceiverState) (m : OctetMap) (due : Option Due) → KnowsPut own put_of heard id r m → StepsTrue files id (receiver_takes policy.times files r m due)
      receiver-takes r m (Some d) k = true-receiver policy.times Done (machine.Takes d) files id r m k tt
      receiver-takes r m None k = rests files id (Receives r m) k

      takes-true : (stored : Stored) (sources : FileMap) (s : Seen) → KnowsTruth own put_of heard id s → StepsTrue files id (takes stored policy.times sources files s)
      takes-true stored sources (Sends x) k = sender-takes stored (octets_in sources x.source) x (sender_due x) refl k
      takes-true stored sources (Receives r m) k = receiver-takes r m (receiver_due r) k

      -- if there was no memory
      spoiled : (v : Content) (s t : Seen) → steps.Spoils v s t → KnowsTruth own put_of heard id s → KnowsTruth own put_of heard id t
      spoiled v (Receives r m) t h k =
          let w = spoils-receives v r m t h in
          subst (KnowsTruth own put_of heard id) (sym w.1.0) (record {
            put = k.put;
            is_put = k.is_put;
            same_id = k.same_id;
            not_own = k.not_own;
            sound =
                laws.staged k.put heard r m w.0 (λ is n there. w.1.1 n there) k.sound;
          })
      spoiled (Nak start end pairs) (Sends x) t h k = subst (KnowsTruth own put_of heard id) (sym h.1) ((true-sender policy.times files policy [] (inputs.HearsNak (take h.0 pairs)) id x tt k).knows)
      spoiled (Ack of condition status) (Sends x) t h k = subst (KnowsTruth own put_of heard id) (sym h) k
      spoiled (Finished condition delivery status tlvs) (Sends x) t h k = subst (KnowsTruth own put_of heard id) (sym h) k
      spoiled (KeepAlive progress) (Sends x) t h k = subst (KnowsTruth own put_of heard id) (sym h) k
      spoiled (Metadata kind size source destination options) (Sends x) t h k = subst (KnowsTruth own put_of heard id) (sym h) k
      spoiled (FileData offset bytes) (Sends x) t h k = subst (KnowsTruth own put_of heard id) (sym h) k
      spoiled (Eof condition checksum size tlvs) (Sends x) t h k = subst (KnowsTruth own put_of heard id) (sym h) k
      spoiled (Prompt keep_alive) (Sends x) t h k = subst (KnowsTruth own put_of heard id) (sym h) k

    -- ---- a record that is opened
    module _ (policy : Policy) (files : FileMap) (a : Addressing) (not_own : a.id.source ≡ own → ⊥) (put : Put) (is_put : put_of a.id ≡ Some put) (large : Bool) (v : Content)
        (truth : IsTrueOf put_of heard a.id v) where
      known : (r : ReceiverState) (m : OctetMap) → r.addressing.id ≡ a.id → Sound put heard r m → KnowsPut own put_of heard a.id r m
      known r m same s = record { put = put; is_put = is_put; same_id = same; not_own = not_own; sound = s }

      begins-true : (begun stored : Stored) → StepsTrue files a.id (begins begun stored policy.times files large v a)
      begins-true Done stored = hears-true policy files a.id stored large v (Receives (opened_receiver a) map.empty) truth
          (known (opened_receiver a) map.empty refl (laws.opened put heard Done large files a))
      begins-true Refused stored =
          quiet files a.id (begins Refused stored policy.times files large v a) (known (receiver.opens Refused large files a).receiver map.empty refl
          (laws.opened put heard Refused large files a)) refl
          ((laws.opens_none Refused large files a).no_completion own)

      opens-true : (o : Option ℕ) (begun stored : Stored) → StepsTrue files a.id (opens_by o begun stored policy.times files large v a)
      opens-true (Some condition) begun stored = rests files a.id (Receives (receiver.opened_closed large condition a) map.empty)
          (known (receiver.opened_closed large condition a) map.empty refl (laws.closed put heard large condition a map.empty))
      opens-true None begun stored = begins-true begun stored

    -- ---- the table
    abbrev Holds : List Entry → Type 0
    Holds xs = (place : ℕ) (e : Entry) → slice_get xs place ≡ Some e → KnowsTruth own put_of heard e.0 e.1

    holds-set : (xs : List Entry) (place : ℕ) (e : Entry) (s : Seen) → slice_get xs place ≡ Some e → KnowsTruth own put_of heard e.0 s → Holds xs → Holds (set_value_at xs place s)
    holds-set [] place e s at is all p d h = absurd cc
    holds-set (x ∷ xs) zero e s at is all zero d h =
        let here : x ≡ e = cc in
        let there : (x.0, s) ≡ d = cc in
        subst (λ (y : Entry). KnowsTruth own put_of heard y.0 y.1) there (subst (λ (i : TransactionId). KnowsTruth own put_of heard i s) (ap (λ (y : Entry). y.0) (sym here)) is)
    holds-set (x ∷ xs) zero e s at is all (suc p) d h = all (suc p) d h
    holds-set (x ∷ xs) (suc n) e s at is all zero d h = all zero d h
    holds-set (x ∷ xs) (suc n) e s at is all (suc p) d h = holds-set xs n e s at is (λ q f g. all (suc q) f g) p d h

    holds-push : (xs : List Entry) (id : TransactionId) (s : Seen) → KnowsTruth own put_of heard id s → Holds xs → Holds (xs ++ (id, s) ∷ [])
    holds-push [] id s is all zero d h = let there : (id, s) ≡ d = cc in subst (λ (y : Entry). KnowsTruth own put_of heard y.0 y.1) there is
    holds-push [] id s is all (suc p) d h = absurd cc
    holds-push (x ∷ xs) id s is all zero d h = all zero d h
    holds-push (x ∷ xs) id s is all (suc p) d h = holds-push xs id s is (λ q f g. all (suc q) f g) p d h

    module _ (first : FileMap) where
      inbox-next : (id : TransactionId) (st : TableState) (a : After) → IsTrueTable own put_of heard first st → StepsTrue st.files id a → a.files
          ≡ inbox_after put_of first (completions own (st.told ++ a.told))
      inbox-next id st a t s =
          s.inbox ∙ ap (λ files. inbox_after put_of files (completions own a.told)) t.inbox
          ∙ sym (ap (inbox_after put_of first) (completions-append own st.told a.told) ∙ inbox_after-append put_of first (completions own st.told) (completions own a.told))

      caused-next : (id : TransactionId) (st : TableState) (a : After) → IsTrueTable own put_of heard first st → StepsTrue st.files id a → (q : TransactionId) →
          Contains (completions own (st.told ++ a.told)) q → (put : Put) × ((put_of q ≡ Some put) × HeardInFull put heard)
      caused-next id st a t s q h =
          elim (Contains-append_cases (completions own st.told) (completions own a.told) q (subst (λ l. Contains l q) (completions-append own st.told a.told) h)) [
            | inl o ↦ t.caused q o
            | inr n ↦ s.caused q n
          ]

      true-of : (f : Entry → After) (place : ℕ) (st : TableState) (o : Option Entry) → slice_get st.records place ≡ o →
          ((e : Entry) → slice_get st.records place ≡ Some e → KnowsTruth own put_of heard e.0 e.1 → StepsTrue st.files e.0 (f e))
          → IsTrueTable own put_of heard first st → IsTrueTable own put_of heard first (step_of f place o st)
      true-of f place st None at goes t = t
      true-of f place st (Some e) at goes t =
          let s : StepsTrue st.files e.0 (f e) = goes e at (t.knows place e at) in
          record {
            knows = holds-set st.records place e (f e).seen at s.knows t.knows;
            inbox = inbox-next e.0 st (f e) t s;
            caused = caused-next e.0 st (f e) t s;
          }

      true-at : (f : Entry → After) (place : ℕ) (st : TableState) → ((e : Entry) → slice_get st.records place ≡ Some e → KnowsTruth own put_of heard e.0 e.1 → StepsTrue st.files e.0 (f e))
          → IsTrueTable own put_of heard first st → IsTrueTable own put_of heard first (step_at f place st)
      true-at f place st goes t = true-of f place st (slice_get st.records place) refl goes t

      true-push : (id : TransactionId) (a : After) (st : TableState) → StepsTrue st.files id a → IsTrueTable own put_of heard first st → IsTrueTable own put_of heard first (with_record id a st)
      true-push id a st s t = record {
        knows = holds-push st.records id a.seen s.knows t.knows;
        inbox = inbox-next id st a t s;
        caused = caused-next id st a t s;
      }

      true-fired : (timers : List Timer) (st : TableState) → IsTrueTable own put_of heard first st → IsTrueTable own put_of heard first (all_expired timers st)
      unfolding all_expired
      true-fired [] st t = t
      true-fired (timer ∷ timers) st t = true-fired timers (expired timer st) (by (place_of timer.0 st.records))
        where
          by : (o : Option ℕ) → IsTrueTable own put_of heard first (expired_in o timer.1 st)
          by None = t
          by (Some place) = true-at (λ e. expires st.policy st.files timer.1 e.1) place st (λ e at k. expires-true st.policy st.files e.0 timer.1 e.1 k) t

      true-spoiled : (place : ℕ) (v : Content) (noted : Seen) (st : TableState) → ((e : Entry) → slice_get st.records place ≡ Some e → steps.Spoils v e.1 noted) → IsTrueTable own put_of heard first st
          → IsTrueTable own put_of heard first (record st { records = set_value_at st.records place noted })
      true-spoiled place v noted st may t = record { knows = by (slice_get st.records place) refl; inbox = t.inbox; caused = t.caused }
        where
          by : (o : Option Entry) → slice_get st.records place ≡ o → (p : ℕ) (d : Entry) → slice_get (set_value_at st.records place noted) p ≡ Some d → KnowsTruth own put_of heard d.0 d.1
          by None none = λ p d h. t.knows p d (ap (λ l. slice_get l p) (sym (set-nowhere st.records place noted none)) ∙ h)
          by (Some e) at = holds-set st.records place e noted at (spoiled st.policy st.files e.0 v e.1 noted (may e at) (t.knows place e at)) t.knows

      some-put : (o : Option Put) → IsSome o → (put : Put) × (o ≡ Some put)
      some-put (Some put) h = (put, refl)
      some-put None h = absurd cc

      pub true-step : (s : TableStep) (st : TableState) → MayHappen s st → TellsTruth own put_of heard s st → IsTrueTable own put_of heard first st →
          IsTrueTable own put_of heard first (table_step s st)
      true-step (Hears stored place large v) st may tells t = true-at (λ e. hears stored st.policy.times st.files large v e.1) place st
          (λ e at k. hears-true st.policy st.files e.0 stored large v e.1 (tells e at) k) t
      true-step (Spoils place v noted) st may tells t = true-spoiled place v noted st may t
      true-step (Expires place kind) st may tells t = true-at (λ e. expires st.policy st.files kind e.1) place st (λ e at k. expires-true st.policy st.files e.0 kind e.1 k) t
      true-step (Calls place c) st may tells t = true-at (λ e. calls st.policy.times st.files c e.1) place st (λ e at k. calls-true st.policy st.files e.0 c e.1 k) t
      true-step (Takes stored place) st may tells t = true-at (λ e. takes stored st.policy.times st.sources st.files e.1) place st
          (λ e at k. takes-true st.policy st.files e.0 stored st.sources e.1 k) t
      true-step (Puts transfer) st may tells t = true-push transfer.addressing.id (puts st.files transfer) st (quiet st.files transfer.addressing.id (puts st.files transfer) (refl, tells) refl refl) t
      true-step (Opens begun stored a large v) st may tells t =
          let put = some-put (put_of a.id) tells.1.0 in
          true-push a.id (opens begun stored st.policy.times st.files large v a) st (opens-true st.policy st.files a tells.0 put.0 put.1 large v tells.1.1 (closing v) begun stored) t
      true-step (Tells now) st may tells t = record { knows = t.knows; inbox = t.inbox; caused = t.caused }
      true-step (Fires timers) st may tells t = true-fired timers st t

-- ---- how it begins, and what more that is known leaves of it
nowhere : (p : ℕ) (e : Entry) → slice_get [] p ≡ Some e → ⊥
nowhere p e h = cc

pub true-first : (own : ℕ) (put_of : TransactionId → Option Put) (heard : List (List ℕ)) (first : FileMap) (st : TableState) → st.records ≡ [] → st.told ≡ [] → st.files ≡ first →
    IsTrueTable own put_of heard first st
true-first own put_of heard first st none nothing same = record {
  knows = λ p e h. absurd (nowhere p e (ap (λ (l : List Entry). slice_get l p) (sym none) ∙ h));
  inbox = same ∙ sym (ap (λ l. inbox_after put_of first (completions own l)) nothing);
  caused = λ q h. absurd (none-in q (subst (λ (l : List Indication). Contains (completions own l) q) nothing h));
}

-- the folds of two maps agree on ids of which they find the same puts
after-same : (p q : TransactionId → Option Put) (first : FileMap) (ids : List TransactionId) → ((id : TransactionId) → Contains ids id → p id ≡ q id) → inbox_after p first ids
    ≡ inbox_after q first ids
after-same p q first [] same = refl
after-same p q first (id ∷ ids) same =
    ap (λ put. inbox_after p (overwritten first put) ids) (same id (0, omega arith, refl))
    ∙ after-same p q (overwritten first (q id)) ids (λ other c. same other (suc c.0, (let k = c.0 in let low : k < length ids = c.1 in omega arith), c.2))

module _ (own : ℕ) (p q : TransactionId → Option Put) (grows : (id : TransactionId) (put : Put) → p id ≡ Some put → q id ≡ Some put) (heard more : List (List ℕ))
    (still : (put : Put) (r : ReceiverState) (m : OctetMap) → Sound put heard r m → Sound put (heard ++ more) r m) where
  knows-more : (id : TransactionId) (s : Seen) → KnowsTruth own p heard id s → KnowsTruth own q (heard ++ more) id s
  knows-more id (Sends x) k = k
  knows-more id (Receives r m) k = record { put = k.put; is_put = grows id k.put k.is_put; same_id = k.same_id; not_own = k.not_own; sound = still k.put r m k.sound }

  pub true-more : (first : FileMap) (st : TableState) → IsTrueTable own p heard first st → IsTrueTable own q (heard ++ more) first st
  true-more first st t = record {
    knows = λ place e at. knows-more e.0 e.1 (t.knows place e at);
    inbox = t.inbox ∙ after-same p q first (completions own st.told) (λ id c. (let w = t.caused id c in w.1.0 ∙ sym (grows id w.0 w.1.0)));
    caused = λ id c. (let w = t.caused id c in (w.0, (grows id w.0 w.1.0, HeardInFull-append w.0 heard more w.1.1)));
  }
