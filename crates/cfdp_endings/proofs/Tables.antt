-- What every step of a table keeps: each record has something to do.
use Rattle.std.proofs.Common.{◌≡◌, ℕ, zero, suc, ◌≤◌, Bool, true, false, List, [], ◌∷◌, ◌++◌, remove, slice_get, take, Option, Some, None, is_some, refl, sym, ap, subst, ◌∙◌, true≢false}
use Rattle.std.specs.FinMap as map
use Rattle.std.specs.List.{IsDistinct, AllByRecursion}
use Rattle.std.specs.Map.{keys_of}
use Rattle.indexmap.specs.IndexMap.{set_value_at}
use Rattle.cfdp_header.specs.declared.value.TransactionId.{TransactionId}
use Rattle.cfdp_header.specs.Files.{FileMap}
use Rattle.cfdp_header.specs.Ids.{same_id}
use Rattle.cfdp_header.proofs.Ids.{same_id-itself}
use Rattle.cfdp_directives.specs.declared.pdu.addressing.Addressing.{Addressing}
use Rattle.cfdp_directives.specs.declared.pdu.codes.Acknowledged.TheVariants as acknowledged
use Rattle.cfdp_directives.specs.declared.user.limits.Times.{Times}
use Rattle.cfdp_directives.specs.declared.user.policy.Policy.{Policy}
use Rattle.cfdp_directives.specs.User.Policy.{default_policy}
use Rattle.cfdp_directives.specs.Pdu.Content.{Content, FileData, Metadata, Eof, Finished, Ack, Nak, Prompt, KeepAlive}
use Rattle.cfdp_store.specs.declared.stored.Stored.{Stored}
use Rattle.cfdp_store.specs.declared.stored.Stored.TheVariants.{Done, Refused}
use Rattle.cfdp_store.specs.Files.{octets_in}
use Rattle.cfdp_store.specs.Staged.{OctetMap}
use Rattle.cfdp_timers.specs.declared.kind.Kind.{Kind}
use Rattle.cfdp_timers.specs.declared.kind.Kind.TheVariants.{EofAck, FinishedAck, Inactivity}
use Rattle.cfdp_timers.specs.declared.kind.Kind.TheVariants as kinds
use Rattle.cfdp_timers.specs.Armed.{Armed, cleared}
use Rattle.cfdp_timers.specs.Order.{Timer}
use Rattle.cfdp_timers.proofs.CallerLemmas.{deadline-cleared_other}
use Rattle.cfdp_timers.proofs.LetGo.{cleared-none}
use Rattle.cfdp_sender.specs.declared.due.SenderDue.{SenderDue}
use Rattle.cfdp_sender.specs.declared.transfer.Transfer.{Transfer}
use Rattle.cfdp_sender.specs.Due.{sender_due}
use Rattle.cfdp_sender.specs.InFile.{IsInFile}
use Rattle.cfdp_sender.specs.State.{SenderState, opened_sender}
use Rattle.cfdp_sender.specs.Inputs as inputs
use Rattle.cfdp_receiver.specs.declared.due.Due.{Due}
use Rattle.cfdp_receiver.specs.Due.{receiver_due}
use Rattle.cfdp_receiver.specs.State.{ReceiverState, opened_receiver}
use Rattle.cfdp_receiver.specs.Steps as receiver
use Rattle.cfdp_receiver.specs.Sound as sound
use Rattle.cfdp_receiver.specs.Sound.{ReceiverInput, receiver_step, owes_finished}
use Rattle.cfdp_entity.specs.declared.request.Request.{Request}
use Rattle.cfdp_entity.specs.declared.request.Request.TheVariants as request
use Rattle.cfdp_entity.specs.Forgetting.{left_at}
use Rattle.cfdp_entity.specs.History as history
use Rattle.cfdp_entity.specs.History.{MayHappen, table_step}
use Rattle.cfdp_entity.specs.Opening.{begins, closing, opens, opens_by}
use Rattle.cfdp_entity.specs.Seen.{Seen, Sends, Receives}
use Rattle.cfdp_entity.specs.Steps.{After, hears, calls, expires, takes, sender_takes, receiver_takes, Spoils}
use Rattle.cfdp_entity.specs.Table.{Entry, TableState, Ticks, place_of, record_of, step_of, step_at, with_record, expired, expired_in, all_expired, at_time, first_table}
use Rattle.cfdp_entity.specs.Timed.{AreTimed, waits_for, is_armed}
use Rattle.cfdp_entity.proofs.CallerLemmas.{same_id-true, same_id-symm}
use Rattle.cfdp_entity.proofs.Entries.{keys_set}
use Rattle.cfdp_entity.proofs.Histories.{no-record, left-own, left-other}
use Rattle.cfdp_entity.proofs.Sparing.{spoils-receives}
use Rattle.cfdp_entity.proofs.Timing.{Sets, step-timed, push-timed, ticked-timed, spoiled-timed, first-timed, distinct-fired}
use Rattle.cfdp_endings.specs.Entity.{IsOwing, AllOwe, IsTimely}
use Rattle.cfdp_endings.proofs.SenderAlone.{step-owes}

-- what is known of both machines
pub record MachineLaws : Type 0 where
  pub in_file : (policy : Policy) (file : List ℕ) (input : inputs.SenderInput) (x : SenderState) → IsInFile x → inputs.MayHappen input x → IsInFile (inputs.sender_step policy file input x).sender
  pub put : (t : Transfer) → 1 ≤ t.segment → IsInFile (opened_sender t)
  pub step : (stored : Stored) (input : ReceiverInput) (m : OctetMap) (files : FileMap) (r : ReceiverState) → owes_finished r ≡ true → owes_finished (receiver_step stored input m files r).receiver ≡ true
  pub opened : (stored : Stored) (large : Bool) (files : FileMap) (addressing : Addressing) → owes_finished (receiver.opens stored large files addressing).receiver ≡ true
  pub closed : (large : Bool) (condition : ℕ) (addressing : Addressing) → owes_finished (receiver.opened_closed large condition addressing) ≡ true

-- ---- one record
abbrev Owes : Seen → Type 0
Owes s = IsOwing s

-- a step of the sending machine, whatever the policy
sends-owes : MachineLaws → (input : inputs.SenderInput) (file : List ℕ) (x : SenderState) → inputs.MayHappen input x → Owes (Sends x) → Owes (Sends (inputs.sender_step default_policy file input x).sender)
sends-owes laws input file x may h = (step-owes default_policy file input x h.0, laws.in_file default_policy file input x h.1 may)

module _ (laws : MachineLaws) where
  pub hears-owes : (stored : Stored) (times : Times) (files : FileMap) (large : Bool) (v : Content) (s : Seen) → Owes s → Owes (hears stored times files large v s).seen
  hears-owes stored times files large (Ack acknowledged.Eof condition status) (Sends x) h = sends-owes laws (inputs.HearsAck condition) [] x tt h
  hears-owes stored times files large (Nak start end pairs) (Sends x) h = sends-owes laws (inputs.HearsNak pairs) [] x tt h
  hears-owes stored times files large (Finished condition delivery status tlvs) (Sends x) h =
      sends-owes laws (inputs.HearsFinished (record { condition = condition; delivery = delivery; status = status })) [] x tt h
  hears-owes stored times files large (KeepAlive progress) (Sends x) h = h
  hears-owes stored times files large (Ack acknowledged.Finished condition status) (Sends x) h = h
  hears-owes stored times files large (FileData offset bytes) (Sends x) h = h
  hears-owes stored times files large (Metadata kind size source destination options) (Sends x) h = h
  hears-owes stored times files large (Eof condition checksum size tlvs) (Sends x) h = h
  hears-owes stored times files large (Prompt keep_alive) (Sends x) h = h
  hears-owes stored times files large (Metadata kind size source destination options) (Receives r m) h = laws.step stored (sound.Hears large (Metadata kind size source destination options)) m files r h
  hears-owes stored times files large (FileData offset bytes) (Receives r m) h = laws.step stored (sound.Hears large (FileData offset bytes)) m files r h
  hears-owes stored times files large (Eof condition checksum size tlvs) (Receives r m) h = laws.step stored (sound.Hears large (Eof condition checksum size tlvs)) m files r h
  hears-owes stored times files large (Ack acknowledged.Finished condition status) (Receives r m) h = laws.step stored (sound.Hears large (Ack acknowledged.Finished condition status)) m files r h
  hears-owes stored times files large (Prompt keep_alive) (Receives r m) h = laws.step stored (sound.Hears large (Prompt keep_alive)) m files r h
  hears-owes stored times files large (Ack acknowledged.Eof condition status) (Receives r m) h = h
  hears-owes stored times files large (Nak start end pairs) (Receives r m) h = h
  hears-owes stored times files large (Finished condition delivery status tlvs) (Receives r m) h = h
  hears-owes stored times files large (KeepAlive progress) (Receives r m) h = h

  pub expires-owes : (policy : Policy) (files : FileMap) (k : Kind) (s : Seen) → Owes s → Owes (expires policy files k s).seen
  expires-owes policy files k (Sends x) h = (step-owes policy [] (inputs.Expires k) x h.0, laws.in_file policy [] (inputs.Expires k) x h.1 tt)
  expires-owes policy files k (Receives r m) h = laws.step Done (sound.Expires k policy) m files r h

  pub calls-owes : (times : Times) (files : FileMap) (c : Request) (s : Seen) → Owes s → Owes (calls times files c s).seen
  calls-owes times files request.Cancel (Sends x) h = sends-owes laws inputs.Cancels [] x tt h
  calls-owes times files request.Suspend (Sends x) h = sends-owes laws inputs.Suspends [] x tt h
  calls-owes times files request.Resume (Sends x) h = sends-owes laws inputs.Resumes [] x tt h
  calls-owes times files (request.Prompt keep_alive) (Sends x) h = sends-owes laws (inputs.Prompts keep_alive) [] x tt h
  calls-owes times files request.Cancel (Receives r m) h = laws.step Done sound.Cancels m files r h
  calls-owes times files request.Suspend (Receives r m) h = laws.step Done sound.Suspends m files r h
  calls-owes times files request.Resume (Receives r m) h = laws.step Done sound.Resumes m files r h
  calls-owes times files (request.Prompt keep_alive) (Receives r m) h = h

  pub takes-owes : (stored : Stored) (times : Times) (sources files : FileMap) (s : Seen) → Owes s → Owes (takes stored times sources files s).seen
  takes-owes stored times sources files (Sends x) h = by (sender_due x) refl
    where
      by : (o : Option SenderDue) → sender_due x ≡ o → Owes (sender_takes stored times files (octets_in sources x.source) x o).seen
      by (Some d) is = sends-owes laws (inputs.Sends stored d) (octets_in sources x.source) x is h
      by None is = h
  takes-owes stored times sources files (Receives r m) h = by (receiver_due r)
    where
      by : (o : Option Due) → Owes (receiver_takes times files r m o).seen
      by (Some d) = laws.step Done (sound.Takes d) m files r h
      by None = h

  pub opens-owes : (begun stored : Stored) (times : Times) (files : FileMap) (large : Bool) (v : Content) (a : Addressing) → Owes (opens begun stored times files large v a).seen
  opens-owes begun stored times files large v a = by (closing v)
    where
      by-begun : (b : Stored) → Owes (begins b stored times files large v a).seen
      by-begun Done = hears-owes stored times files large v (Receives (opened_receiver a) map.empty) refl
      by-begun Refused = laws.opened Refused large files a

      by : (o : Option ℕ) → Owes (opens_by o begun stored times files large v a).seen
      by (Some condition) = laws.closed large condition a
      by None = by-begun begun

pub spoils-owes : MachineLaws → (v : Content) (s t : Seen) → Spoils v s t → Owes s → Owes t
spoils-owes laws v (Receives r m) t sp h = subst Owes (sym (spoils-receives v r m t sp).1.0) h
spoils-owes laws (Nak start end pairs) (Sends x) t sp h = subst Owes (sym sp.1) (sends-owes laws (inputs.HearsNak (take sp.0 pairs)) [] x tt h)
spoils-owes laws (Ack of condition status) (Sends x) t sp h = subst Owes (sym sp) h
spoils-owes laws (Finished condition delivery status tlvs) (Sends x) t sp h = subst Owes (sym sp) h
spoils-owes laws (KeepAlive progress) (Sends x) t sp h = subst Owes (sym sp) h
spoils-owes laws (Metadata kind size source destination options) (Sends x) t sp h = subst Owes (sym sp) h
spoils-owes laws (FileData offset bytes) (Sends x) t sp h = subst Owes (sym sp) h
spoils-owes laws (Eof condition checksum size tlvs) (Sends x) t sp h = subst Owes (sym sp) h
spoils-owes laws (Prompt keep_alive) (Sends x) t sp h = subst Owes (sym sp) h

-- ---- all records
pub owe-at : (xs : List Entry) (place : ℕ) (e : Entry) → AllOwe xs → slice_get xs place ≡ Some e → Owes e.1
owe-at [] place e all at = absurd cc
owe-at (x ∷ xs) zero e all at = let is : x ≡ e = cc in subst (λ (y : Entry). Owes y.1) is all.0
owe-at (x ∷ xs) (suc n) e all at = owe-at xs n e all.1 at

owe-set : (xs : List Entry) (place : ℕ) (s : Seen) → AllOwe xs → Owes s → AllOwe (set_value_at xs place s)
owe-set [] place s all h = all
owe-set (x ∷ xs) zero s all h = (h, all.1)
owe-set (x ∷ xs) (suc n) s all h = (all.0, owe-set xs n s all.1 h)

owe-push : (xs : List Entry) (id : TransactionId) (s : Seen) → AllOwe xs → Owes s → AllOwe (xs ++ (id, s) ∷ [])
owe-push [] id s all h = (h, tt)
owe-push (x ∷ xs) id s all h = (all.0, owe-push xs id s all.1 h)

owe-left : (xs : List Entry) (place : ℕ) → AllOwe xs → AllOwe (remove xs place)
owe-left [] zero all = all
owe-left [] (suc n) all = all
owe-left (x ∷ xs) zero all = all.1
owe-left (x ∷ xs) (suc n) all = (all.0, owe-left xs n all.1)

all-push : (id own : TransactionId) (s : Seen) (xs : List Entry) → AllByRecursion (λ k. same_id own k ≡ false) (keys_of xs) → same_id own id ≡ false →
    AllByRecursion (λ k. same_id own k ≡ false) (keys_of (xs ++ (id, s) ∷ []))
all-push id own s [] all last = (last, tt)
all-push id own s (x ∷ xs) all last = (all.0, all-push id own s xs all.1 last)

distinct-push : (xs : List Entry) (id : TransactionId) (s : Seen) → IsDistinct same_id (keys_of xs) → AllByRecursion (λ k. same_id id k ≡ false) (keys_of xs) →
    IsDistinct same_id (keys_of (xs ++ (id, s) ∷ []))
unfolding IsDistinct
distinct-push [] id s apart none = (tt, tt)
distinct-push (x ∷ xs) id s apart none = (all-push id x.0 s xs apart.0 (same_id-symm id x.0 none.0), distinct-push xs id s apart.1 none.1)

all-left : (P : TransactionId → Type 0) (xs : List Entry) (place : ℕ) → AllByRecursion P (keys_of xs) → AllByRecursion P (keys_of (remove xs place))
all-left P [] zero all = all
all-left P [] (suc n) all = all
all-left P (x ∷ xs) zero all = all.1
all-left P (x ∷ xs) (suc n) all = (all.0, all-left P xs n all.1)

distinct-left : (xs : List Entry) (place : ℕ) → IsDistinct same_id (keys_of xs) → IsDistinct same_id (keys_of (remove xs place))
unfolding IsDistinct
distinct-left [] zero d = d
distinct-left [] (suc n) d = d
distinct-left (x ∷ xs) zero d = d.1
distinct-left (x ∷ xs) (suc n) d = (all-left (λ y. same_id x.0 y ≡ false) xs n d.0, distinct-left xs n d.1)

-- ---- a table
pub alike-timely : (old new : TableState) → new.records ≡ old.records → new.armed ≡ old.armed → IsTimely old → IsTimely new
alike-timely old new records armed t = record {
  distinct = subst (λ xs. IsDistinct same_id (keys_of xs)) (sym records) t.distinct;
  timed = record {
    waited = λ id k h. ap (λ xs. waits_for k (record_of id xs)) records ∙ t.timed.waited id k (sym (ap (λ a. is_some (map.get a (id, k))) armed) ∙ h);
    armed = λ id k h. ap (λ a. is_some (map.get a (id, k))) armed ∙ t.timed.armed id k (sym (ap (λ xs. waits_for k (record_of id xs)) records) ∙ h);
  };
  owing = subst AllOwe (sym records) t.owing;
}

pub first-timely : (sources files : FileMap) (policy : Policy) → IsTimely (first_table sources files policy)
unfolding IsDistinct
first-timely sources files policy = record { distinct = tt; timed = first-timed sources files policy; owing = tt }

pub step-timely : (f : Entry → After) (place : ℕ) (st : TableState) → ((e : Entry) → slice_get st.records place ≡ Some e → Sets (Some e.1) (f e)) →
    ((e : Entry) → Owes e.1 → Owes (f e).seen) → IsTimely st → IsTimely (step_at f place st)
step-timely f place st sets owing t = record {
  distinct = distinct-by (slice_get st.records place);
  timed = step-timed f place st t.distinct sets t.timed;
  owing = owing-by (slice_get st.records place) refl;
}
  where
    distinct-by : (o : Option Entry) → IsDistinct same_id (keys_of (step_of f place o st).records)
    distinct-by None = t.distinct
    distinct-by (Some e) = subst (IsDistinct same_id) (sym (keys_set st.records place (f e).seen)) t.distinct

    owing-by : (o : Option Entry) → slice_get st.records place ≡ o → AllOwe (step_of f place o st).records
    owing-by None at = t.owing
    owing-by (Some e) at = owe-set st.records place (f e).seen t.owing (owing e (owe-at st.records place e t.owing at))

pub push-timely : (id : TransactionId) (a : After) (st : TableState) → place_of id st.records ≡ None → Sets None a → Owes a.seen → IsTimely st → IsTimely (with_record id a st)
push-timely id a st none sets owing t = record {
  distinct = distinct-push st.records id a.seen t.distinct (no-record st.records id none).1;
  timed = push-timed id a st none sets t.timed;
  owing = owe-push st.records id a.seen t.owing owing;
}

pub spoiled-timely : MachineLaws → (place : ℕ) (v : Content) (noted : Seen) (st : TableState) → MayHappen (history.Spoils place v noted) st → IsTimely st → IsTimely (table_step (history.Spoils place v noted) st)
spoiled-timely laws place v noted st may t = record {
  distinct = subst (IsDistinct same_id) (sym (keys_set st.records place noted)) t.distinct;
  timed = spoiled-timed place v noted st t.distinct may t.timed;
  owing = owing-by st.records place t.owing may;
}
  where
    owing-by : (xs : List Entry) (place : ℕ) → AllOwe xs → ((e : Entry) → slice_get xs place ≡ Some e → Spoils v e.1 noted) → AllOwe (set_value_at xs place noted)
    owing-by [] place all sp = all
    owing-by (x ∷ xs) zero all sp = (spoils-owes laws v x.1 noted (sp x refl) all.0, all.1)
    owing-by (x ∷ xs) (suc n) all sp = (all.0, owing-by xs n all.1 sp)

-- ---- timers that fire
module _ (laws : MachineLaws) where
  expired-owes : (t : Timer) (st : TableState) → AllOwe st.records → AllOwe (expired t st).records
  expired-owes t st all = by (place_of t.0 st.records)
    where
      at : (place : ℕ) (o : Option Entry) → slice_get st.records place ≡ o → AllOwe (step_of (λ e. expires st.policy st.files t.1 e.1) place o st).records
      at place None is = all
      at place (Some e) is = owe-set st.records place (expires st.policy st.files t.1 e.1).seen all (expires-owes laws st.policy st.files t.1 e.1 (owe-at st.records place e all is))

      by : (o : Option ℕ) → AllOwe (expired_in o t.1 st).records
      by None = all
      by (Some place) = at place (slice_get st.records place) refl

  fired-owes : (ts : List Timer) (st : TableState) → AllOwe st.records → AllOwe (all_expired ts st).records
  unfolding all_expired
  fired-owes [] st all = all
  fired-owes (t ∷ ts) st all = fired-owes ts (expired t st) (expired-owes t st all)

  fired-distinct : (ts : List Timer) (st : TableState) → IsDistinct same_id (keys_of st.records) → IsDistinct same_id (keys_of (all_expired ts st).records)
  unfolding all_expired
  fired-distinct [] st apart = apart
  fired-distinct (t ∷ ts) st apart = fired-distinct ts (expired t st) (distinct-fired t ts st apart)

  pub ticked-timely : (now : ℕ) (old new : TableState) → Ticks now old new → IsTimely old → IsTimely new
  ticked-timely now old new tick t = record {
    distinct = subst (λ (st : TableState). IsDistinct same_id (keys_of st.records)) (sym tick.ticked) (fired-distinct tick.fired (at_time now old) t.distinct);
    timed = ticked-timed now old new t.distinct tick t.timed;
    owing = subst (λ (st : TableState). AllOwe st.records) (sym tick.ticked) (fired-owes tick.fired (at_time now old) t.owing);
  }

-- ---- a record that goes
other-armed : (armed : Armed) (id q : TransactionId) (k : Kind) → same_id q id ≡ false → map.get (cleared armed id) (q, k) ≡ map.get armed (q, k)
other-armed armed id q k apart =
    deadline-cleared_other _ (id, Inactivity) (q, k) (differs Inactivity) ∙ deadline-cleared_other _ (id, FinishedAck) (q, k) (differs FinishedAck)
    ∙ deadline-cleared_other _ (id, kinds.Nak) (q, k) (differs kinds.Nak) ∙ deadline-cleared_other armed (id, EofAck) (q, k) (differs EofAck)
  where
    differs : (j : Kind) → ◌≡◌ {A = Timer} (q, k) (id, j) → ⊥
    differs j is = true≢false (sym (same (ap (λ (t : Timer). t.0) is)) ∙ apart)
      where
        same : q ≡ id → same_id q id ≡ true
        same h = ap (λ i. same_id q i) (sym h) ∙ same_id-itself q

left-timed : (st : TableState) (place : ℕ) (e : Entry) → slice_get st.records place ≡ Some e → IsDistinct same_id (keys_of st.records) → AreTimed st → AreTimed (left_at place e.0 st)
left-timed st place e at d t = record { waited = waited-left; armed = armed-left }
  where
    waited-left : (q : TransactionId) (k : Kind) → is_armed q k (left_at place e.0 st) ≡ true → waits_for k (record_of q (remove st.records place)) ≡ true
    waited-left q k is = elim (same_id q e.0) as (λ b. same_id q e.0 ≡ b → waits_for k (record_of q (remove st.records place)) ≡ true) [
      | true ↦ λ same. absurd (true≢false (sym is ∙ ap is_some (ap (λ i. map.get (cleared st.armed e.0) (i, k)) (same_id-true q e.0 same) ∙ cleared-none st.armed e.0 k)))
      | false ↦ λ other. ap (waits_for k) (left-other st.records place e q at other) ∙ t.waited q k (sym (ap is_some (other-armed st.armed e.0 q k other)) ∙ is)
    ] refl

    armed-left : (q : TransactionId) (k : Kind) → waits_for k (record_of q (remove st.records place)) ≡ true → is_armed q k (left_at place e.0 st) ≡ true
    armed-left q k is = elim (same_id q e.0) as (λ b. same_id q e.0 ≡ b → is_armed q k (left_at place e.0 st) ≡ true) [
      | true ↦ λ same. absurd (true≢false (sym is ∙ ap (waits_for k) (ap (λ i. record_of i (remove st.records place)) (same_id-true q e.0 same) ∙ left-own st.records place e d at)))
      | false ↦ λ other. ap is_some (other-armed st.armed e.0 q k other) ∙ t.armed q k (sym (ap (waits_for k) (left-other st.records place e q at other)) ∙ is)
    ] refl

pub left-timely : (st : TableState) (place : ℕ) (e : Entry) → slice_get st.records place ≡ Some e → IsTimely st → IsTimely (left_at place e.0 st)
left-timely st place e at t = record {
  distinct = distinct-left st.records place t.distinct;
  timed = left-timed st place e at t.distinct t.timed;
  owing = owe-left st.records place t.owing;
}
