-- Exported: timers are armed as the records wait for them, and what each step of a table makes of that.
use Rattle.std.proofs.Common.{◌≡◌, ℕ, zero, suc, ◌<◌, arith, length, get_or, Bool, true, false, not, ◌&&◌, ◌||◌, ◌⊎◌, inl, inr, cond, List, [], ◌∷◌, nat_lt, min, ◌==◌, slice_get, take, Option, Some, None, is_some, max, refl, sym, ap, subst, ◌∙◌, if◌then◌else◌}
use Rattle.std.specs.List.{IsDistinct}
use Rattle.std.specs.Map.{keys_of}
use Rattle.std.specs.FinMap as map
use Rattle.std.specs.FinSet as set
use Rattle.cfdp_extents.specs.Offsets.{range}
use Rattle.std.proofs.lemmas.Bool.{false≢true, cond_both}
use Rattle.std.proofs.lemmas.List.Quantifiers.{position-Some}
use Rattle.indexmap.specs.IndexMap.{set_value_at}
use Rattle.cfdp_header.specs.declared.value.TransactionId.{TransactionId}
use Rattle.cfdp_header.specs.Files.{FileMap}
use Rattle.cfdp_header.specs.Ids.{same_id}
use Rattle.cfdp_directives.specs.declared.pdu.addressing.Addressing.{Addressing}
use Rattle.cfdp_directives.specs.declared.user.limits.Times.{Times}
use Rattle.cfdp_directives.specs.declared.user.policy.Policy.{Policy}
use Rattle.cfdp_directives.specs.Pdu.Content.{Content, FileData, Metadata, Eof, Finished, Ack, Nak, Prompt, KeepAlive}
use Rattle.cfdp_store.specs.declared.stored.Stored.{Stored}
use Rattle.cfdp_store.specs.declared.stored.Stored.TheVariants.{Done, Refused}
use Rattle.cfdp_store.specs.Staged.{OctetMap}
use Rattle.cfdp_timers.specs.declared.kind.Kind.{Kind}
use Rattle.cfdp_timers.specs.declared.kind.Kind.TheVariants as kinds
use Rattle.cfdp_timers.specs.declared.wait.Waits.{Waits}
use Rattle.cfdp_timers.specs.Armed.{Armed}
use Rattle.cfdp_timers.specs.Due.{is_due}
use Rattle.cfdp_timers.specs.Order.{Timer, timer_cmp}
use Rattle.std.specs.Cmp.{Equal-is}
use Rattle.std.specs.List.{list_any}
use Rattle.std.specs.Ordering.{eq_by_cmp}
use Rattle.cfdp_timers.specs.Waits.{deadline_by, wait_by, wait_for, is_anew}
use Rattle.cfdp_timers.proofs.CallerLemmas.{deadline-left, same_timer}
use Rattle.cfdp_timers.proofs.Waited.{get-waited}
use Rattle.cfdp_sender.specs.declared.due.SenderDue.{SenderDue}
use Rattle.cfdp_sender.specs.declared.phase.SenderPhase.{SenderPhase}
use Rattle.cfdp_sender.specs.declared.phase.SenderPhase.TheVariants as sending
use Rattle.cfdp_sender.specs.declared.transfer.Transfer.{Transfer}
use Rattle.cfdp_sender.specs.Due.{sender_due}
use Rattle.cfdp_sender.specs.State.{SenderState, opened_sender}
use Rattle.cfdp_sender.specs.Steps as sender
use Rattle.cfdp_sender.specs.Does as sender_does
use Rattle.cfdp_receiver.specs.declared.due.Due.{Due}
use Rattle.cfdp_receiver.specs.Due.{receiver_due}
use Rattle.cfdp_receiver.specs.State.{ReceiverState, opened_receiver, flagged}
use Rattle.cfdp_receiver.specs.Steps as receiver
use Rattle.cfdp_receiver.specs.Does as receiver_does
use Rattle.cfdp_entity.specs.declared.request.Request.{Request}
use Rattle.cfdp_entity.specs.History as history
use Rattle.cfdp_entity.specs.History.{MayHappen, table_step}
use Rattle.cfdp_entity.specs.Opening.{begins, closing, opens, opens_by, puts}
use Rattle.cfdp_entity.specs.Seen.{Seen, Sends, Receives}
use Rattle.cfdp_entity.specs.Steps.{After, with_waits, by_sender, by_receiver, no_step, if_sender, if_receiver, sender_after, receiver_after, called_receiver, hears, calls, expires, takes, sender_takes, receiver_takes, Spoils}
use Rattle.cfdp_entity.specs.Table.{first_table, Entry, TableState, place_of, record_of, stepped, step_of, step_at, with_record, expired, expired_in, all_expired, at_time, Ticks}
use Rattle.cfdp_entity.specs.Timed.{AreTimed, waits_seen, waits_for, is_armed}
use Rattle.cfdp_entity.proofs.CallerLemmas.{same_id-true, same_id-symm, step-own, step-other, push-own, push-other}
use Rattle.cfdp_entity.proofs.Entries.{same_id-itself, keys_set}
use Rattle.cfdp_entity.proofs.Histories.{key-at, no-record, set-itself, set-nowhere}
use Rattle.cfdp_entity.proofs.Sparing.{spoils-receives}

-- ---- the record of a transaction
-- the entry at an index
slice-or : (xs : List Entry) (n : ℕ) (d e : Entry) → slice_get xs n ≡ Some e → get_or xs n d ≡ e
slice-or [] n d e at = absurd cc
slice-or (x ∷ xs) zero d e at = let is : x ≡ e = cc in is
slice-or (x ∷ xs) (suc n) d e at = slice-or xs n d e at

pub key-there : (id : TransactionId) (records : List Entry) (place : ℕ) (e : Entry) → place_of id records ≡ Some place → slice_get records place ≡ Some e → id ≡ e.0
key-there id records place e is at =
    let found : same_id id (get_or records place e).0 ≡ true = (position-Some (λ (d : Entry). same_id id d.0) records place e is).1 in
    same_id-true id e.0 (ap (λ (d : Entry). same_id id d.0) (sym (slice-or records place e e at)) ∙ found)

in-length : (xs : List Entry) (place : ℕ) → place < length xs → slice_get xs place ≡ None → ⊥
in-length [] place low none = omega (arith, low)
in-length (x ∷ xs) zero low none = cc
in-length (x ∷ xs) (suc n) low none = in-length xs n (omega (arith, low)) none

pub no-place : (id : TransactionId) (xs : List Entry) (place : ℕ) → place_of id xs ≡ Some place → slice_get xs place ≡ None → ⊥
no-place id [] place is none = absurd cc
no-place id (x ∷ xs) place is none = in-length (x ∷ xs) place (position-Some (λ (d : Entry). same_id id d.0) (x ∷ xs) place x is).0 none

-- ---- one wait
some-by : (waits anew : Bool) (duration now : ℕ) (o : Option ℕ) → is_some (deadline_by now (wait_by waits anew duration) o) ≡ waits
some-by false anew duration now o = refl
some-by true true duration now o = refl
some-by true false duration now (Some at) = refl
some-by true false duration now None = refl

-- ---- what a step of a record asks of its timers
-- Its timers are set by what it then waits for.
pub record SetsAll (a : After) : Type 0 where
  pub waits : Waits
  pub is : a.waits ≡ waits ∷ []
  pub so : (k : Kind) (now : ℕ) (o : Option ℕ) → is_some (deadline_by now (wait_for waits k) o) ≡ waits_seen k a.seen

-- Its timers stay, and so does what it waits for.
pub record SetsNone (before : Option Seen) (a : After) : Type 0 where
  pub is : a.waits ≡ []
  pub same : (k : Kind) → waits_seen k a.seen ≡ waits_for k before

abbrev pub Sets : Option Seen → After → Type 0
Sets before a = SetsAll a ⊎ SetsNone before a

by-sender : (times : Times) (files : FileMap) (a : sender.SenderAfter) → SetsAll (by_sender times files a)
by-sender times files a = record { waits = sender_does.waits_of times a.anew a.sender; is = refl; so = so }
  where
    so : (k : Kind) (now : ℕ) (o : Option ℕ) → is_some (deadline_by now (wait_for (sender_does.waits_of times a.anew a.sender) k) o) ≡ sender.sender_waits k a.sender
    so kinds.EofAck now o = some-by (sender.sender_waits kinds.EofAck a.sender) (is_anew a.anew kinds.EofAck) times.eof now o
    so kinds.Nak now o = some-by (sender.sender_waits kinds.Nak a.sender) (is_anew a.anew kinds.Nak) times.nak now o
    so kinds.FinishedAck now o = some-by (sender.sender_waits kinds.FinishedAck a.sender) (is_anew a.anew kinds.FinishedAck) times.finished now o
    so kinds.Inactivity now o = some-by (sender.sender_waits kinds.Inactivity a.sender) (is_anew a.anew kinds.Inactivity) times.inactivity now o

by-receiver : (times : Times) (a : receiver.ReceiverAfter) → SetsAll (by_receiver times a)
by-receiver times a = record { waits = receiver_does.waits_of times a.anew a.receiver; is = refl; so = so }
  where
    so : (k : Kind) (now : ℕ) (o : Option ℕ) → is_some (deadline_by now (wait_for (receiver_does.waits_of times a.anew a.receiver) k) o) ≡ receiver.waits k a.receiver
    so kinds.EofAck now o = some-by (receiver.waits kinds.EofAck a.receiver) (is_anew a.anew kinds.EofAck) times.eof now o
    so kinds.Nak now o = some-by (receiver.waits kinds.Nak a.receiver) (is_anew a.anew kinds.Nak) times.nak now o
    so kinds.FinishedAck now o = some-by (receiver.waits kinds.FinishedAck a.receiver) (is_anew a.anew kinds.FinishedAck) times.finished now o
    so kinds.Inactivity now o = some-by (receiver.waits kinds.Inactivity a.receiver) (is_anew a.anew kinds.Inactivity) times.inactivity now o

-- nothing changes
none-set : (files : FileMap) (s : Seen) → Sets (Some s) (no_step files s)
none-set files s = inr (record { is = refl; same = λ k. refl })

pub hears-set : (stored : Stored) (times : Times) (files : FileMap) (large : Bool) (v : Content) (s : Seen) → Sets (Some s) (hears stored times files large v s)
hears-set stored times files large v (Sends x) = by (sender_after v x)
  where
    by : (o : Option sender.SenderAfter) → Sets (Some (Sends x)) (if_sender times files x o)
    by (Some a) = inl (by-sender times files a)
    by None = none-set files (Sends x)
hears-set stored times files large v (Receives r m) = by (receiver_after stored large v m files r)
  where
    by : (o : Option receiver.ReceiverAfter) → Sets (Some (Receives r m)) (if_receiver times files r m o)
    by (Some a) = inl (by-receiver times a)
    by None = none-set files (Receives r m)

-- what is for a receiver is heard by one
abbrev pub IsForReceiver : Content → Type 0
IsForReceiver (FileData offset bytes) = Unit {0}
IsForReceiver (Metadata kind size source destination options) = Unit {0}
IsForReceiver (Eof condition checksum size tlvs) = Unit {0}
IsForReceiver _ = ⊥

heard-set : (stored : Stored) (times : Times) (files : FileMap) (large : Bool) (v : Content) (r : ReceiverState) (m : OctetMap) → IsForReceiver v →
    SetsAll (hears stored times files large v (Receives r m))
heard-set stored times files large (FileData offset bytes) r m is = by-receiver times (receiver.hears_data stored large offset bytes m files (flagged large r))
heard-set stored times files large (Metadata kind size source destination options) r m is = by-receiver times (receiver.hears_metadata stored kind size source destination m files (flagged large r))
heard-set stored times files large (Eof condition checksum size tlvs) r m is = by-receiver times (receiver.hears_eof stored large condition checksum size m files (flagged large r))
heard-set stored times files large (Ack of condition status) r m is = absurd is
heard-set stored times files large (Finished condition delivery status tlvs) r m is = absurd is
heard-set stored times files large (Nak start end pairs) r m is = absurd is
heard-set stored times files large (Prompt keep_alive) r m is = absurd is
heard-set stored times files large (KeepAlive progress) r m is = absurd is

expires-set : (policy : Policy) (files : FileMap) (k : Kind) (s : Seen) → SetsAll (expires policy files k s)
expires-set policy files k (Sends x) = by-sender policy.times files (sender.sender_expires k policy x)
expires-set policy files k (Receives r m) = by-receiver policy.times (receiver.expires k policy m files r)

pub calls-set : (times : Times) (files : FileMap) (c : Request) (s : Seen) → Sets (Some s) (calls times files c s)
calls-set times files c (Sends x) = inl (by-sender times files _)
calls-set times files c (Receives r m) = by (called_receiver c m files r)
  where
    by : (o : Option receiver.ReceiverAfter) → Sets (Some (Receives r m)) (if_receiver times files r m o)
    by (Some a) = inl (by-receiver times a)
    by None = none-set files (Receives r m)

pub takes-set : (stored : Stored) (times : Times) (sources files : FileMap) (s : Seen) → Sets (Some s) (takes stored times sources files s)
takes-set stored times sources files (Sends x) = by (sender_due x)
  where
    by : (o : Option SenderDue) → Sets (Some (Sends x)) (sender_takes stored times files (Rattle.cfdp_store.specs.Files.octets_in sources x.source) x o)
    by (Some d) = inl (by-sender times files _)
    by None = none-set files (Sends x)
takes-set stored times sources files (Receives r m) = by (receiver_due r)
  where
    by : (o : Option Due) → Sets (Some (Receives r m)) (receiver_takes times files r m o)
    by (Some d) = inl (by-receiver times _)
    by None = none-set files (Receives r m)

-- a record that is new
pub puts-set : (files : FileMap) (t : Transfer) → Sets None (puts files t)
puts-set files t = inr (record { is = refl; same = same })
  where
    same : (k : Kind) → sender.sender_waits k (opened_sender t) ≡ false
    same kinds.EofAck = refl
    same kinds.Nak = refl
    same kinds.FinishedAck = refl
    same kinds.Inactivity = refl

-- of a PDU that is for a receiver
pub opens-set : (begun stored : Stored) (times : Times) (files : FileMap) (large : Bool) (v : Content) (a : Addressing) → IsForReceiver v → Sets None (opens begun stored times files large v a)
opens-set begun stored times files large v a is_for = by (closing v)
  where
    closed : (condition : ℕ) (k : Kind) → receiver.waits k (receiver.opened_closed large condition a) ≡ false
    closed condition k = refl

    refused : (k : Kind) → receiver.waits k (receiver.opens Refused large files a).receiver ≡ false
    refused kinds.EofAck = refl
    refused kinds.Nak = refl
    refused kinds.FinishedAck = refl
    refused kinds.Inactivity = refl

    by-begun : (begun : Stored) → Sets None (begins begun stored times files large v a)
    by-begun Refused = inr (record { is = refl; same = refused })
    by-begun Done = inl (heard-set stored times files large v (opened_receiver a) map.empty is_for)

    by : (o : Option ℕ) → Sets None (opens_by o begun stored times files large v a)
    by (Some condition) = inr (record { is = refl; same = closed condition })
    by None = by-begun begun

-- ---- what it makes of the table
-- All timers are as the records wait for them, except for some transactions, of which some that are
-- waited for may not be armed.
pub record AreTimedBut (Open : TransactionId → Type 0) (st : TableState) : Type 0 where
  pub waited : (id : TransactionId) (k : Kind) → is_armed id k st ≡ true → waits_for k (record_of id st.records) ≡ true
  pub armed : (id : TransactionId) (k : Kind) → waits_for k (record_of id st.records) ≡ true → (is_armed id k st ≡ true) ⊎ Open id

abbrev None_ : TransactionId → Type 0
None_ id = ⊥

all-but : (st : TableState) → AreTimed st → AreTimedBut None_ st
all-but st t = record { waited = t.waited; armed = λ id k w. inl (t.armed id k w) }

but-none : (st : TableState) → AreTimedBut None_ st → AreTimed st
but-none st t = record {
  waited = t.waited;
  armed = λ id k w. elim (t.armed id k w) [ inl a ↦ a | inr o ↦ absurd o ];
}

-- timers of another transaction stay
set-other : (now : ℕ) (id : TransactionId) (ws : List Waits) (armed : Armed) (q : TransactionId) (k : Kind) → same_id id q ≡ false → map.get (with_waits now id ws armed) (q, k) ≡ map.get armed (q, k)
set-other now id [] armed q k apart = refl
set-other now id (w ∷ ws) armed q k apart = set-other now id ws (Rattle.cfdp_timers.specs.Waits.waited now id w armed) q k apart
    ∙ get-waited now id w armed (q, k) ∙ ap (λ b. cond b (deadline_by now (wait_for w k) (map.get armed (q, k))) (map.get armed (q, k))) apart

-- its own are set, if the step sets them
set-own : (now : ℕ) (id : TransactionId) (a : After) (armed : Armed) (k : Kind) → SetsAll a → is_some (map.get (with_waits now id a.waits armed) (id, k)) ≡ waits_seen k a.seen
set-own now id a armed k s =
    ap (λ ws. is_some (map.get (with_waits now id ws armed) (id, k))) s.is
    ∙ ap is_some (get-waited now id s.waits armed (id, k) ∙ ap (λ b. cond b (deadline_by now (wait_for s.waits k) (map.get armed (id, k))) (map.get armed (id, k))) (same_id-itself id id refl))
    ∙ s.so k now (map.get armed (id, k))

-- One record is another now, the others stay: those that stay may be open still, and so may this one
-- if its timers weren't set.
module _ (Open Later : TransactionId → Type 0) (st new : TableState) (id : TransactionId) (a : After)
    (own : record_of id new.records ≡ Some a.seen) (others : (q : TransactionId) → same_id q id ≡ false → record_of q new.records ≡ record_of q st.records)
    (armed : new.armed ≡ with_waits st.now id a.waits st.armed)
    (sets : Sets (record_of id st.records) a) (later : (q : TransactionId) → (same_id q id ≡ false) ⊎ (SetsAll a → ⊥) → Open q → Later q) where
  is-set : (k : Kind) → SetsAll a → is_armed id k new ≡ waits_seen k a.seen
  is-set k s = ap (λ m. is_some (map.get m (id, k))) armed ∙ set-own st.now id a st.armed k s

  is-kept : (k : Kind) → SetsNone (record_of id st.records) a → is_armed id k new ≡ is_armed id k st
  is-kept k s = ap (λ m. is_some (map.get m (id, k))) (armed ∙ ap (λ ws. with_waits st.now id ws st.armed) s.is)

  is-other : (q : TransactionId) (k : Kind) → same_id q id ≡ false → is_armed q k new ≡ is_armed q k st
  is-other q k apart = ap (λ m. is_some (map.get m (q, k))) armed ∙ ap is_some (set-other st.now id a.waits st.armed q k (same_id-symm q id apart))

  waited-own : (k : Kind) → AreTimedBut Open st → is_armed id k new ≡ true → waits_for k (record_of id new.records) ≡ true
  waited-own k t h = ap (waits_for k) own ∙ elim sets [
    | inl s ↦ sym (is-set k s) ∙ h
    | inr s ↦ s.same k ∙ t.waited id k (sym (is-kept k s) ∙ h)
  ]

  armed-own : (k : Kind) → AreTimedBut Open st → waits_for k (record_of id new.records) ≡ true → (is_armed id k new ≡ true) ⊎ Later id
  armed-own k t h = by sets
    where
      w : waits_seen k a.seen ≡ true
      w = sym (ap (waits_for k) own) ∙ h

      by : Sets (record_of id st.records) a → (is_armed id k new ≡ true) ⊎ Later id
      by (inl s) = inl (is-set k s ∙ w)
      by (inr s) = elim (t.armed id k (sym (s.same k) ∙ w)) [
        | inl is ↦ inl (is-kept k s ∙ is)
        | inr open_ ↦ inr (later id (inr (λ all. no-both all s)) open_)
      ]
        where
          no-both : SetsAll a → SetsNone (record_of id st.records) a → ⊥
          no-both all none = (let e : all.waits ∷ [] ≡ [] = sym all.is ∙ none.is in cc)

  pub changed-timed : AreTimedBut Open st → AreTimedBut Later new
  changed-timed t = record {
    waited = λ q k h. elim (same_id q id) as (λ b. same_id q id ≡ b → waits_for k (record_of q new.records) ≡ true) [
      | true ↦ λ is. (let same : q ≡ id = same_id-true q id is in subst (λ i. is_armed i k new ≡ true → waits_for k (record_of i new.records) ≡ true) (sym same) (waited-own k t) h)
      | false ↦ λ apart. ap (waits_for k) (others q apart) ∙ t.waited q k (sym (is-other q k apart) ∙ h)
    ] refl;
    armed = λ q k h. elim (same_id q id) as (λ b. same_id q id ≡ b → (is_armed q k new ≡ true) ⊎ Later q) [
      | true ↦ λ is. (let same : q ≡ id = same_id-true q id is in subst (λ i. waits_for k (record_of i new.records) ≡ true → (is_armed i k new ≡ true) ⊎ Later i) (sym same) (armed-own k t) h)
      | false ↦ λ apart. elim (t.armed q k (sym (ap (waits_for k) (others q apart)) ∙ h)) [
        | inl is ↦ inl (is-other q k apart ∙ is)
        | inr open_ ↦ inr (later q (inl apart) open_)
      ]
    ] refl;
  }

-- ---- a step of the record at an index
pub at-own : (xs : List Entry) (place : ℕ) (e : Entry) → IsDistinct same_id (keys_of xs) → slice_get xs place ≡ Some e → record_of e.0 xs ≡ Some e.1
at-own xs place e apart at = sym (ap (λ l. record_of e.0 l) (set-itself xs place e at)) ∙ step-own xs place e e.1 apart (key-at xs place e at)

module _ (Open Later : TransactionId → Type 0) (st : TableState) (apart : IsDistinct same_id (keys_of st.records)) (place : ℕ) (e : Entry) (at : slice_get st.records place ≡ Some e) (a : After) where
  pub stepped-timed : Sets (Some e.1) a → ((q : TransactionId) → (same_id q e.0 ≡ false) ⊎ (SetsAll a → ⊥) → Open q → Later q) → AreTimedBut Open st → AreTimedBut Later (stepped place e.0 a st)
  stepped-timed sets later = changed-timed Open Later st (stepped place e.0 a st) e.0 a
      (step-own st.records place e a.seen apart (key-at st.records place e at))
      (λ q differs. step-other st.records place e.0 q a.seen (key-at st.records place e at) differs) refl
      (subst (λ o. Sets o a) (sym (at-own st.records place e apart at)) sets) later

-- any step at an index that sets timers so
pub step-timed : (f : Entry → After) (place : ℕ) (st : TableState) → IsDistinct same_id (keys_of st.records) → ((e : Entry) → slice_get st.records place ≡ Some e → Sets (Some e.1) (f e)) →
    AreTimed st → AreTimed (step_at f place st)
step-timed f place st apart sets t = by (slice_get st.records place) refl
  where
    by : (o : Option Entry) → slice_get st.records place ≡ o → AreTimed (step_of f place o st)
    by None at = t
    by (Some e) at = but-none _ (stepped-timed None_ None_ st apart place e at (f e) (sets e at) (λ q _ o. o) (all-but st t))

-- a record more
pub push-timed : (id : TransactionId) (a : After) (st : TableState) → place_of id st.records ≡ None → Sets None a → AreTimed st → AreTimed (with_record id a st)
push-timed id a st none sets t =
    let absent : record_of id st.records ≡ None = (no-record st.records id none).0 in
    but-none _ (changed-timed None_ None_ st (with_record id a st) id a (push-own st.records id a.seen absent)
    (λ q apart. push-other st.records id q a.seen apart) refl (subst (λ o. Sets o a) (sym absent) sets) (λ q _ o. o) (all-but st t))

-- ---- timers that fire
-- a transaction of which a timer is among these
abbrev Among : List Timer → TransactionId → Type 0
Among [] id = ⊥
Among (t ∷ ts) id = (id ≡ t.0) ⊎ Among ts id

no-waits : (k : Kind) → waits_for k None ≡ true → ⊥
no-waits k h = false≢true h

distinct-stepped : (xs : List Entry) (place : ℕ) (s : Seen) → IsDistinct same_id (keys_of xs) → IsDistinct same_id (keys_of (set_value_at xs place s))
distinct-stepped xs place s apart = subst (IsDistinct same_id) (sym (keys_set xs place s)) apart

module _ (t : Timer) (ts : List Timer) (st : TableState) (apart : IsDistinct same_id (keys_of st.records)) where
  fired-timed : AreTimedBut (Among (t ∷ ts)) st → AreTimedBut (Among ts) (expired t st)
  fired-timed h = by (place_of t.0 st.records) refl
    where
      by : (o : Option ℕ) → place_of t.0 st.records ≡ o → AreTimedBut (Among ts) (expired_in o t.1 st)
      by None none = record {
        waited = h.waited;
        armed = λ id k w. elim (h.armed id k w) [
          | inl is ↦ inl is
          | inr open_ ↦ elim open_ [
            | inl same ↦ absurd (no-waits k (sym (ap (waits_for k) (ap (λ i. record_of i st.records) same ∙ (no-record st.records t.0 none).0)) ∙ w))
            | inr more ↦ inr more
          ]
        ];
      }
      by (Some place) is = at (slice_get st.records place) refl
        where
          at : (o : Option Entry) → slice_get st.records place ≡ o → AreTimedBut (Among ts) (step_of (λ e. expires st.policy st.files t.1 e.1) place o st)
          at None nowhere = absurd (no-place t.0 st.records place is nowhere)
          at (Some e) there = stepped-timed (Among (t ∷ ts)) (Among ts) st apart place e there (expires st.policy st.files t.1 e.1) (inl (expires-set st.policy st.files t.1 e.1)) later h
            where
              key : t.0 ≡ e.0
              key = key-there t.0 st.records place e is there

              differ : (q : TransactionId) → same_id q e.0 ≡ false → q ≡ t.0 → ⊥
              differ q apart_ same = (let yes : same_id q e.0 ≡ true = same_id-itself q e.0 (same ∙ key) in false≢true (sym apart_ ∙ yes))

              later : (q : TransactionId) → (same_id q e.0 ≡ false) ⊎ (SetsAll (expires st.policy st.files t.1 e.1) → ⊥) → Among (t ∷ ts) q → Among ts q
              later q why (inr more) = more
              later q (inl differs) (inl same) = absurd (differ q differs same)
              later q (inr never) (inl same) = absurd (never (expires-set st.policy st.files t.1 e.1))

  pub distinct-fired : IsDistinct same_id (keys_of (expired t st).records)
  distinct-fired = by (place_of t.0 st.records)
    where
      at : (place : ℕ) (o : Option Entry) → IsDistinct same_id (keys_of (step_of (λ e. expires st.policy st.files t.1 e.1) place o st).records)
      at place None = apart
      at place (Some e) = distinct-stepped st.records place _ apart

      by : (o : Option ℕ) → IsDistinct same_id (keys_of (expired_in o t.1 st).records)
      by None = apart
      by (Some place) = at place (slice_get st.records place)

all-fired : (ts : List Timer) (st : TableState) → IsDistinct same_id (keys_of st.records) → AreTimedBut (Among ts) st → AreTimedBut (Among []) (all_expired ts st)
unfolding all_expired
all-fired [] st apart h = h
all-fired (t ∷ ts) st apart h = all-fired ts (expired t st) (distinct-fired t ts st apart) (fired-timed t ts st apart h)

-- those that are due are cleared first
among-fired : (ts : List Timer) (t : Timer) → list_any (eq_by_cmp timer_cmp t) ts ≡ true → Among ts t.0
among-fired [] t h = absurd (false≢true h)
among-fired (u ∷ us) t h = elim (eq_by_cmp timer_cmp t u) as (λ b. eq_by_cmp timer_cmp t u ≡ b → (b || list_any (eq_by_cmp timer_cmp t) us) ≡ true → Among (u ∷ us) t.0) [
  | true ↦ λ tie _. inl (ap (λ (x : Timer). x.0) (same_timer t u ((Equal-is (timer_cmp t u)).0 tie)))
  | false ↦ λ _ rest. inr (among-fired us t rest)
] refl h

some-left : (b : Bool) (o : Option ℕ) → is_some (cond b None o) ≡ true → is_some o ≡ true
some-left true o h = absurd (false≢true h)
some-left false o h = h

pub ticked-timed : (now : ℕ) (old new : TableState) → IsDistinct same_id (keys_of old.records) → Ticks now old new → AreTimed old → AreTimed new
ticked-timed now old new apart tick t =
    let told : TableState = at_time now old in
    let first : AreTimedBut (Among tick.fired) told = record {
      waited = λ id k h. t.waited id k (some-left (is_due old.armed (max old.now now) (id, k)) (map.get old.armed (id, k)) (sym (ap is_some (deadline-left old.armed (max old.now now) (id, k))) ∙ h));
      armed = λ id k w. elim (is_due old.armed (max old.now now) (id, k)) as (λ b. is_due old.armed (max old.now now) (id, k) ≡ b → (is_armed id k told ≡ true) ⊎ Among tick.fired id) [
        | true ↦ λ due. inr (among-fired tick.fired (id, k) (tick.are.all (id, k) ∙ due))
        | false ↦ λ not_. inl (ap is_some (deadline-left old.armed (max old.now now) (id, k) ∙ ap (λ b. cond b None (map.get old.armed (id, k))) not_) ∙ t.armed id k w)
      ] refl;
    } in
    let last : AreTimedBut (Among []) (all_expired tick.fired told) = all-fired tick.fired told apart first in
    subst AreTimed (sym tick.ticked) (but-none _ (record { waited = last.waited; armed = last.armed }))

-- ---- a record that found no memory for a PDU
asks-waits : (pairs : List (ℕ × ℕ)) (x : SenderState) (k : Kind) → sender.sender_waits k (sender.asks_all pairs x) ≡ sender.sender_waits k x
asks-waits [] x k = refl
asks-waits (p ∷ ps) x k = asks-waits ps (sender.asks p x) k ∙ one k
  where
    asked : (P : SenderState → Type 0) → P (record x { metadata_due = true }) → P (record x { asked = set.union x.asked (range p.0 (min p.1 x.sent)) }) → P x → P (sender.asks p x)
    asked P first some none = cond_both ((p.0 == 0) && (p.1 == 0)) (record x { metadata_due = true })
        (if nat_lt p.0 (min p.1 x.sent) then record x { asked = set.union x.asked (range p.0 (min p.1 x.sent)) } else x) P (λ _. first)
        (λ _. cond_both (nat_lt p.0 (min p.1 x.sent)) (record x { asked = set.union x.asked (range p.0 (min p.1 x.sent)) }) x P (λ _. some) (λ _. none))

    -- what it waits for rests on none of these
    eof : (phase : SenderPhase) → sender.waits_for_eof_ack phase (sender.asks p x) ≡ sender.waits_for_eof_ack phase x
    eof sending.Sending = asked (λ y. (y.eof_taken && not y.eof_due && not y.acknowledged) ≡ (x.eof_taken && not x.eof_due && not x.acknowledged)) refl refl refl
    eof sending.Cancelling = asked (λ y. (y.eof_taken && not y.eof_due) ≡ (x.eof_taken && not x.eof_due)) refl refl refl
    eof sending.Closed = refl

    any : (phase : SenderPhase) → sender.waits_for_anything phase (sender.asks p x) ≡ sender.waits_for_anything phase x
    any sending.Sending = asked (λ y. y.acknowledged ≡ x.acknowledged) refl refl refl
    any sending.Cancelling = refl
    any sending.Closed = refl

    phase : (sender.asks p x).phase ≡ x.phase
    phase = asked (λ y. y.phase ≡ x.phase) refl refl refl

    suspended : (sender.asks p x).suspended ≡ x.suspended
    suspended = asked (λ y. y.suspended ≡ x.suspended) refl refl refl

    one : (k : Kind) → sender.sender_waits k (sender.asks p x) ≡ sender.sender_waits k x
    one kinds.EofAck = ap (λ b. not b && sender.waits_for_eof_ack (sender.asks p x).phase (sender.asks p x)) suspended
        ∙ ap (λ q. not x.suspended && sender.waits_for_eof_ack q (sender.asks p x)) phase ∙ ap (λ b. not x.suspended && b) (eof x.phase)
    one kinds.Nak = refl
    one kinds.FinishedAck = refl
    one kinds.Inactivity = ap (λ b. not b && sender.waits_for_anything (sender.asks p x).phase (sender.asks p x)) suspended
        ∙ ap (λ q. not x.suspended && sender.waits_for_anything q (sender.asks p x)) phase ∙ ap (λ b. not x.suspended && b) (any x.phase)

asks-in-waits : (phase : SenderPhase) (pairs : List (ℕ × ℕ)) (x : SenderState) (k : Kind) → sender.sender_waits k (sender.asks_in phase pairs x) ≡ sender.sender_waits k x
asks-in-waits sending.Sending pairs x k = asks-waits pairs x k
asks-in-waits sending.Cancelling pairs x k = refl
asks-in-waits sending.Closed pairs x k = refl

spoils-waits : (v : Content) (s t : Seen) (k : Kind) → Spoils v s t → waits_seen k t ≡ waits_seen k s
spoils-waits v (Receives r m) t k h = ap (waits_seen k) (spoils-receives v r m t h).1.0
spoils-waits (Nak start end pairs) (Sends x) t k h = ap (waits_seen k) h.1 ∙ asks-in-waits x.phase (take h.0 pairs) x k
spoils-waits (Ack of condition status) (Sends x) t k h = ap (waits_seen k) h
spoils-waits (Finished condition delivery status tlvs) (Sends x) t k h = ap (waits_seen k) h
spoils-waits (KeepAlive progress) (Sends x) t k h = ap (waits_seen k) h
spoils-waits (Metadata kind size source destination options) (Sends x) t k h = ap (waits_seen k) h
spoils-waits (FileData offset bytes) (Sends x) t k h = ap (waits_seen k) h
spoils-waits (Eof condition checksum size tlvs) (Sends x) t k h = ap (waits_seen k) h
spoils-waits (Prompt keep_alive) (Sends x) t k h = ap (waits_seen k) h

pub spoiled-timed : (place : ℕ) (v : Content) (noted : Seen) (st : TableState) → IsDistinct same_id (keys_of st.records) → MayHappen (history.Spoils place v noted) st → AreTimed st →
    AreTimed (table_step (history.Spoils place v noted) st)
spoiled-timed place v noted st apart may t = by (slice_get st.records place) refl
  where
    by : (o : Option Entry) → slice_get st.records place ≡ o → AreTimed (table_step (history.Spoils place v noted) st)
    by None at = record {
      waited = λ id k h. ap (λ l. waits_for k (record_of id l)) (set-nowhere st.records place noted at) ∙ t.waited id k h;
      armed = λ id k h. t.armed id k (sym (ap (λ l. waits_for k (record_of id l)) (set-nowhere st.records place noted at)) ∙ h);
    }
    by (Some e) at = but-none _ (changed-timed None_ None_ st (table_step (history.Spoils place v noted) st) e.0 (no_step st.files noted)
        (step-own st.records place e noted apart (key-at st.records place e at))
        (λ q differs. step-other st.records place e.0 q noted (key-at st.records place e at) differs) refl
        (inr (record { is = refl; same = λ k. spoils-waits v e.1 noted k (may e at) ∙ sym (ap (waits_for k) (at-own st.records place e apart at)) }))
        (λ q _ o. o) (all-but st t))

-- ---- a table without records
pub first-timed : (sources files : FileMap) (policy : Policy) → AreTimed (first_table sources files policy)
first-timed sources files policy = record { waited = λ id k h. absurd (false≢true (sym (ap is_some (map.get-empty timer_cmp (id, k))) ∙ h)); armed = λ id k h. absurd (false≢true h) }

-- ---- no step changes the policy
expired-policy : (t : Timer) (st : TableState) → (expired t st).policy ≡ st.policy
expired-policy t st = by (place_of t.0 st.records)
  where
    at : (place : ℕ) (o : Option Entry) → (step_of (λ e. expires st.policy st.files t.1 e.1) place o st).policy ≡ st.policy
    at place None = refl
    at place (Some e) = refl

    by : (o : Option ℕ) → (expired_in o t.1 st).policy ≡ st.policy
    by None = refl
    by (Some place) = at place (slice_get st.records place)

fired-policy : (ts : List Timer) (st : TableState) → (all_expired ts st).policy ≡ st.policy
unfolding all_expired
fired-policy [] st = refl
fired-policy (t ∷ ts) st = fired-policy ts (expired t st) ∙ expired-policy t st

pub policy-step : (s : history.TableStep) (st : TableState) → (table_step s st).policy ≡ st.policy
policy-step (history.Hears stored place large v) st = at (slice_get st.records place)
  where
    at : (o : Option Entry) → (step_of (λ e. hears stored st.policy.times st.files large v e.1) place o st).policy ≡ st.policy
    at None = refl
    at (Some e) = refl
policy-step (history.Spoils place v noted) st = refl
policy-step (history.Expires place k) st = at (slice_get st.records place)
  where
    at : (o : Option Entry) → (step_of (λ e. expires st.policy st.files k e.1) place o st).policy ≡ st.policy
    at None = refl
    at (Some e) = refl
policy-step (history.Calls place c) st = at (slice_get st.records place)
  where
    at : (o : Option Entry) → (step_of (λ e. calls st.policy.times st.files c e.1) place o st).policy ≡ st.policy
    at None = refl
    at (Some e) = refl
policy-step (history.Takes stored place) st = at (slice_get st.records place)
  where
    at : (o : Option Entry) → (step_of (λ e. takes stored st.policy.times st.sources st.files e.1) place o st).policy ≡ st.policy
    at None = refl
    at (Some e) = refl
policy-step (history.Puts t) st = refl
policy-step (history.Opens begun stored a large v) st = refl
policy-step (history.Tells now) st = refl
policy-step (history.Fires timers) st = fired-policy timers st
