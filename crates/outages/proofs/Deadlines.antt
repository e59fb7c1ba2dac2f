-- The deadlines of a table: one that is set lies a whole wait after the time at which it is set.
use Rattle.std.proofs.Common.{◌≡◌, ◌⊎◌, inl, inr, ℕ, ◌≤◌, Bool, true, false, cond, List, [], ◌∷◌, ◌++◌, length, slice_get, max, Option, Some, None, refl, sym, ap, subst, ◌∙◌, arith}
use Rattle.std.specs.Prelude.{nat_lt}
use Rattle.std.specs.FinMap as map
use Rattle.cfdp_header.specs.declared.value.Header.{Header}
use Rattle.cfdp_header.specs.declared.value.TransactionId.{TransactionId}
use Rattle.cfdp_header.specs.Files.{FileMap}
use Rattle.cfdp_header.specs.Ids.{same_id}
use Rattle.cfdp_directives.specs.declared.pdu.addressing.Addressing.{Addressing}
use Rattle.cfdp_directives.specs.declared.pdu.error.PduError.{PduError}
use Rattle.cfdp_directives.specs.declared.user.limits.Times.{Times}
use Rattle.cfdp_directives.specs.declared.user.policy.Policy.{Policy}
use Rattle.cfdp_directives.specs.Pdu.Addressing.{addressing_of}
use Rattle.cfdp_directives.specs.declared.pdu.codes.Acknowledged.TheVariants as acknowledged
use Rattle.cfdp_directives.specs.Pdu.Content.{Content, FileData, Metadata, Eof, Finished, Ack, Nak, Prompt, KeepAlive}
use Rattle.cfdp_directives.specs.Pdu.Direction.{direction_fits, is_for}
use Rattle.cfdp_directives.specs.Pdu.Faults.{pdu_fault}
use Rattle.cfdp_store.specs.declared.stored.Stored.{Stored}
use Rattle.cfdp_store.specs.declared.stored.Stored.TheVariants.{Done, Refused}
use Rattle.cfdp_store.specs.Files.{octets_in}
use Rattle.cfdp_timers.specs.declared.kind.Kind.{Kind}
use Rattle.cfdp_timers.specs.declared.kind.Kind.TheVariants as kinds
use Rattle.cfdp_timers.specs.declared.wait.Waits.{Waits}
use Rattle.cfdp_timers.specs.Due.{is_due}
use Rattle.cfdp_timers.specs.Order.{Timer}
use Rattle.cfdp_timers.specs.Waits.{deadline_after, deadline_by, is_anew, wait_by, wait_for}
use Rattle.cfdp_timers.proofs.CallerLemmas.{deadline-left}
use Rattle.cfdp_timers.proofs.Waited.{get-waited}
use Rattle.cfdp_sender.specs.declared.due.SenderDue.{SenderDue}
use Rattle.cfdp_sender.specs.declared.transfer.Transfer.{Transfer}
use Rattle.cfdp_sender.specs.Due.{sender_due}
use Rattle.cfdp_sender.specs.Does as sender_does
use Rattle.cfdp_sender.specs.Steps as sender
use Rattle.cfdp_receiver.specs.declared.due.Due.{Due}
use Rattle.cfdp_receiver.specs.Due.{receiver_due}
use Rattle.cfdp_receiver.specs.Does as receiver_does
use Rattle.cfdp_receiver.specs.State.{opened_receiver}
use Rattle.cfdp_receiver.specs.Steps as receiver
use Rattle.cfdp_entity.specs.declared.error.EntityDrop.{EntityDrop}
use Rattle.cfdp_entity.specs.declared.error.EntityDrop.TheVariants as drops
use Rattle.cfdp_entity.specs.Entity.{Counted, EntityState, dropped, is_forgotten}
use Rattle.cfdp_entity.specs.Hearing.{DropsBy, DropsOctets, OpensOne, Takes, names_no_file, opens_record, queues, route, route_by, route_new, route_over, route_unplaced}
use Rattle.cfdp_entity.specs.Opening.{begins, closing, opens, opens_by, puts}
use Rattle.cfdp_entity.specs.declared.request.Request.{Request}
use Rattle.cfdp_entity.specs.Putting.{with_put}
use Rattle.cfdp_entity.specs.Refusing.{called_in}
use Rattle.cfdp_entity.specs.Requests.{IsCalled}
use Rattle.cfdp_entity.specs.Polling.{Place, Rests, Stray, Turn, served}
use Rattle.cfdp_entity.specs.Seen.{Seen, Sends, Receives}
use Rattle.cfdp_entity.specs.Steps.{After, by_receiver, by_sender, called_receiver, called_sender, calls, expires, hears, if_receiver, if_sender, receiver_after, receiver_takes, sender_after, sender_takes, takes, with_waits}
use Rattle.cfdp_entity.specs.Strays.{StrayAck, most_strays, over_ack, unknown_ack}
use Rattle.cfdp_entity.specs.Table.{Entry, SpoiledAt, TableState, Ticks, all_expired, at_time, expired, expired_in, heard_at, most_records, opened_by, place_of, put_in, step_of, taken_at}
use Rattle.cfdp_station.specs.Taking.{HearsAll, HearsPdu}
use Rattle.outages.specs.Lasting.{time_of}

-- ---- what a step of a record asks of its timers
-- nothing, or of each to be cleared, kept or armed for its whole time
abbrev IsTimed : Times → After → Type 0
IsTimed times a = (a.waits ≡ [])
    ⊎ ((w : Waits) × ((a.waits ≡ w ∷ []) × ((k : Kind) → (waits : Bool) × ((anew : Bool) × (wait_for w k ≡ wait_by waits anew (time_of times k))))))

sender-timed : (times : Times) (files : FileMap) (a : sender.SenderAfter) → IsTimed times (by_sender times files a)
sender-timed times files a = inr (sender_does.waits_of times a.anew a.sender, (refl, by))
  where
    by : (k : Kind) → (waits : Bool) × ((anew : Bool) × (wait_for (sender_does.waits_of times a.anew a.sender) k ≡ wait_by waits anew (time_of times k)))
    by kinds.EofAck = (sender.sender_waits kinds.EofAck a.sender, (is_anew a.anew kinds.EofAck, refl))
    by kinds.Nak = (sender.sender_waits kinds.Nak a.sender, (is_anew a.anew kinds.Nak, refl))
    by kinds.FinishedAck = (sender.sender_waits kinds.FinishedAck a.sender, (is_anew a.anew kinds.FinishedAck, refl))
    by kinds.Inactivity = (sender.sender_waits kinds.Inactivity a.sender, (is_anew a.anew kinds.Inactivity, refl))

receiver-timed : (times : Times) (a : receiver.ReceiverAfter) → IsTimed times (by_receiver times a)
receiver-timed times a = inr (receiver_does.waits_of times a.anew a.receiver, (refl, by))
  where
    by : (k : Kind) → (waits : Bool) × ((anew : Bool) × (wait_for (receiver_does.waits_of times a.anew a.receiver) k ≡ wait_by waits anew (time_of times k)))
    by kinds.EofAck = (receiver.waits kinds.EofAck a.receiver, (is_anew a.anew kinds.EofAck, refl))
    by kinds.Nak = (receiver.waits kinds.Nak a.receiver, (is_anew a.anew kinds.Nak, refl))
    by kinds.FinishedAck = (receiver.waits kinds.FinishedAck a.receiver, (is_anew a.anew kinds.FinishedAck, refl))
    by kinds.Inactivity = (receiver.waits kinds.Inactivity a.receiver, (is_anew a.anew kinds.Inactivity, refl))

hears-timed : (stored : Stored) (times : Times) (files : FileMap) (large : Bool) (v : Content) (s : Seen) → IsTimed times (hears stored times files large v s)
hears-timed stored times files large v (Sends x) = by (sender_after v x)
  where
    by : (o : Option sender.SenderAfter) → IsTimed times (if_sender times files x o)
    by (Some a) = sender-timed times files a
    by None = inl refl
hears-timed stored times files large v (Receives r m) = by (receiver_after stored large v m files r)
  where
    by : (o : Option receiver.ReceiverAfter) → IsTimed times (if_receiver times files r m o)
    by (Some a) = receiver-timed times a
    by None = inl refl

takes-timed : (stored : Stored) (times : Times) (sources files : FileMap) (s : Seen) → IsTimed times (takes stored times sources files s)
takes-timed stored times sources files (Sends x) = by (sender_due x)
  where
    by : (o : Option SenderDue) → IsTimed times (sender_takes stored times files (octets_in sources x.source) x o)
    by (Some d) = sender-timed times files (sender.sender_sends stored (octets_in sources x.source) x d)
    by None = inl refl
takes-timed stored times sources files (Receives r m) = by (receiver_due r)
  where
    by : (o : Option Due) → IsTimed times (receiver_takes times files r m o)
    by (Some d) = receiver-timed times (receiver.takes d m files r)
    by None = inl refl

expires-timed : (policy : Policy) (files : FileMap) (k : Kind) (s : Seen) → IsTimed policy.times (expires policy files k s)
expires-timed policy files k (Sends x) = sender-timed policy.times files (sender.sender_expires k policy x)
expires-timed policy files k (Receives r m) = receiver-timed policy.times (receiver.expires k policy m files r)

calls-timed : (times : Times) (files : FileMap) (c : Request) (s : Seen) → IsTimed times (calls times files c s)
calls-timed times files c (Sends x) = sender-timed times files (called_sender c x)
calls-timed times files c (Receives r m) = by (called_receiver c m files r)
  where
    by : (o : Option receiver.ReceiverAfter) → IsTimed times (if_receiver times files r m o)
    by (Some a) = receiver-timed times a
    by None = inl refl

opens-timed : (begun stored : Stored) (times : Times) (files : FileMap) (large : Bool) (v : Content) (a : Addressing) → IsTimed times (opens begun stored times files large v a)
opens-timed begun stored times files large v a = by (closing v)
  where
    by-begun : (begun : Stored) → IsTimed times (begins begun stored times files large v a)
    by-begun Refused = inl refl
    by-begun Done = hears-timed stored times files large v (Receives (opened_receiver a) map.empty)

    by : (o : Option ℕ) → IsTimed times (opens_by o begun stored times files large v a)
    by (Some condition) = inl refl
    by None = by-begun begun

-- ---- a deadline
-- It was set at a time between these, a whole wait after it.
pub record IsSet (from upto wait deadline : ℕ) : Type 0 where
  pub at : ℕ
  pub after : from ≤ at
  pub before : at ≤ upto
  pub is : deadline ≡ deadline_after at wait

one-some : (x y : ℕ) → Some x ≡ Some y → y ≡ x
one-some x y e = cc

deadline-set : (now wait : ℕ) (waits anew : Bool) (o : Option ℕ) (d : ℕ) → deadline_by now (wait_by waits anew wait) o ≡ Some d → (o ≡ Some d) ⊎ (d ≡ deadline_after now wait)
deadline-set now wait false anew o d e = absurd cc
deadline-set now wait true true o d e = inr (one-some (deadline_after now wait) d e)
deadline-set now wait true false (Some at) d e = inl e
deadline-set now wait true false None d e = inr (one-some (deadline_after now wait) d e)

module _ (id : TransactionId) (k : Kind) where
  -- What steps make of a table: no clock runs back, and a deadline of this timer was there, or it was set then.
  pub record Later (old new : TableState) : Type 0 where
    pub clock : old.now ≤ new.now
    pub policy : new.policy ≡ old.policy
    pub late : (d : ℕ) → map.get new.armed (id, k) ≡ Some d → (map.get old.armed (id, k) ≡ Some d) ⊎ IsSet old.now new.now (time_of old.policy.times k) d

  pub later-same : (st : TableState) → Later st st
  later-same st = record { clock = omega arith; policy = refl; late = λ d e. inl e }

  pub later-both : (a b c : TableState) → Later a b → Later b c → Later a c
  later-both a b c one two =
      let low : a.now ≤ b.now = one.clock in
      let high : b.now ≤ c.now = two.clock in
      record {
        clock = omega (arith, low, high);
        policy = two.policy ∙ one.policy;
        late = λ d e. elim (two.late d e) [
          | inl before ↦ elim (one.late d before) [
            | inl first ↦ inl first
            | inr set ↦ (let before : set.at ≤ b.now = set.before in inr (record { at = set.at; after = set.after; before = omega (arith, before, high); is = set.is }))
          ]
          | inr set ↦ (let after : b.now ≤ set.at = set.after in inr (record {
            at = set.at;
            after = omega (arith, after, low);
            before = set.before;
            is = set.is ∙ ap (λ (p : Policy). deadline_after set.at (time_of p.times k)) one.policy;
          }))
        ];
      }

  -- ---- a step of a record
  set-later : (st new : TableState) (other : TransactionId) (a : After) → IsTimed st.policy.times a → new.now ≡ st.now → new.policy ≡ st.policy →
      new.armed ≡ with_waits st.now other a.waits st.armed → Later st new
  set-later st new other a timed now policy armed = record {
    clock = omega (arith, now);
    policy = policy;
    late = λ d e. by timed d (sym (ap (λ m. map.get m (id, k)) armed) ∙ e);
  }
    where
      set-now : (d : ℕ) → d ≡ deadline_after st.now (time_of st.policy.times k) → IsSet st.now new.now (time_of st.policy.times k) d
      set-now d is = record { at = st.now; after = omega arith; before = omega (arith, now); is = is }

      own : (w : Waits) → (waits : Bool) × ((anew : Bool) × (wait_for w k ≡ wait_by waits anew (time_of st.policy.times k))) → (b : Bool) → (d : ℕ)
          → cond b (deadline_by st.now (wait_for w k) (map.get st.armed (id, k))) (map.get st.armed (id, k)) ≡ Some d → (map.get st.armed (id, k) ≡ Some d)
          ⊎ IsSet st.now new.now (time_of st.policy.times k) d
      own w so false d e = inl e
      own w so true d e =
          elim (deadline-set st.now (time_of st.policy.times k) so.0 so.1.0 (map.get st.armed (id, k)) d (sym (ap (λ x. deadline_by st.now x (map.get st.armed (id, k))) so.1.1) ∙ e)) [
            | inl before ↦ inl before
            | inr is ↦ inr (set-now d is)
          ]

      by : IsTimed st.policy.times a → (d : ℕ) → map.get (with_waits st.now other a.waits st.armed) (id, k) ≡ Some d → (map.get st.armed (id, k) ≡ Some d)
          ⊎ IsSet st.now new.now (time_of st.policy.times k) d
      by (inl none) d e = inl (sym (ap (λ ws. map.get (with_waits st.now other ws st.armed) (id, k)) none) ∙ e)
      by (inr s) d e = own s.0 (s.1.1 k) (same_id other id) d
          (sym (get-waited st.now other s.0 st.armed (id, k)) ∙ sym (ap (λ ws. map.get (with_waits st.now other ws st.armed) (id, k)) s.1.0) ∙ e)

  step-later : (f : Entry → After) (place : ℕ) (o : Option Entry) (st : TableState) → ((e : Entry) → IsTimed st.policy.times (f e)) → Later st (step_of f place o st)
  step-later f place None st timed = later-same st
  step-later f place (Some e) st timed = set-later st (step_of f place (Some e) st) e.0 (f e) (timed e) refl refl refl

  heard-later : (stored : Stored) (place : ℕ) (large : Bool) (v : Content) (st : TableState) → Later st (heard_at stored place large v st)
  heard-later stored place large v st = step-later (λ e. hears stored st.policy.times st.files large v e.1) place (slice_get st.records place) st
      (λ e. hears-timed stored st.policy.times st.files large v e.1)

  taken-later : (stored : Stored) (place : ℕ) (st : TableState) → Later st (taken_at stored place st)
  taken-later stored place st = step-later (λ e. takes stored st.policy.times st.sources st.files e.1) place (slice_get st.records place) st
      (λ e. takes-timed stored st.policy.times st.sources st.files e.1)

  opened-later : (begun stored : Stored) (a : Addressing) (large : Bool) (v : Content) (st : TableState) → Later st (opened_by begun stored a large v st)
  opened-later begun stored a large v st = set-later st (opened_by begun stored a large v st) a.id (opens begun stored st.policy.times st.files large v a)
      (opens-timed begun stored st.policy.times st.files large v a) refl refl refl

  expired-later : (t : Timer) (st : TableState) → Later st (expired t st)
  expired-later t st = by (place_of t.0 st.records)
    where
      by : (o : Option ℕ) → Later st (expired_in o t.1 st)
      by None = later-same st
      by (Some place) = step-later (λ e. expires st.policy st.files t.1 e.1) place (slice_get st.records place) st (λ e. expires-timed st.policy st.files t.1 e.1)

  fired-later : (ts : List Timer) (st : TableState) → Later st (all_expired ts st)
  unfolding all_expired
  fired-later [] st = later-same st
  fired-later (t ∷ ts) st = later-both st (expired t st) (all_expired ts (expired t st)) (expired-later t st) (fired-later ts (expired t st))

  -- ---- the time
  told-later : (now : ℕ) (st : TableState) → Later st (at_time now st)
  told-later now st = record {
    clock = (let up : st.now ≤ max st.now now = omega arith in up);
    policy = refl;
    late = λ d e. inl (by (is_due st.armed (max st.now now) (id, k)) d (sym (deadline-left st.armed (max st.now now) (id, k)) ∙ e));
  }
    where
      by : (b : Bool) (d : ℕ) → cond b None (map.get st.armed (id, k)) ≡ Some d → map.get st.armed (id, k) ≡ Some d
      by true d e = absurd cc
      by false d e = e

  pub ticks-later : (now : ℕ) (old new : TableState) → Ticks now old new → Later old new
  ticks-later now old new h = subst (Later old) (sym h.ticked) (later-both old (at_time now old) (all_expired h.fired (at_time now old)) (told-later now old) (fired-later h.fired (at_time now old)))

  -- if it was due, a deadline was set since
  pub due-later : (now : ℕ) (old new : TableState) → Ticks now old new → is_due old.armed (max old.now now) (id, k) ≡ true → (max old.now now ≤ new.now)
      × ((d : ℕ) → map.get new.armed (id, k) ≡ Some d → IsSet (max old.now now) new.now (time_of old.policy.times k) d)
  due-later now old new h due =
      let l : Later (at_time now old) new = subst (Later (at_time now old)) (sym h.ticked) (fired-later h.fired (at_time now old)) in (
        l.clock,
        λ d e. elim (l.late d e) [
          | inl before ↦ absurd (gone d before)
          | inr set ↦ set
        ],
      )
    where
      gone : (d : ℕ) → map.get (at_time now old).armed (id, k) ≡ Some d → ⊥
      gone d e = (let none : None ≡ Some d = sym (deadline-left old.armed (max old.now now) (id, k) ∙ ap (λ b. cond b None (map.get old.armed (id, k))) due) ∙ e in cc)

  -- ---- what is heard
  spoiled-later : (place : ℕ) (v : Content) (old new : TableState) → SpoiledAt place v old new → Later old new
  spoiled-later place v old new h = subst (Later old) (sym h.table) (record { clock = omega arith; policy = refl; late = λ d e. inl e })

  abbrev LaterAt : EntityState → EntityState → Type 0
  LaterAt old new = Later old.table new.table

  -- of one PDU: it was taken on its route, or dropped there
  module _ (h : Header) (old new : Counted) where
    unchanged : (e : EntityState) → new ≡ record old { state = e } → e.table ≡ old.state.table → LaterAt old.state new.state
    unchanged e is same = subst (λ (c : Counted). LaterAt old.state c.state) (sym is) (subst (λ (t : TableState). Later old.state.table t) (sym same) (later-same old.state.table))

    queued-later : (s : StrayAck) (v : Content) (b : Bool) → nat_lt (length old.state.strays) most_strays ≡ b → Takes (queues s old.state) h v old new
        ⊎ ((by : EntityDrop) × DropsBy (queues s old.state) by v old new) → LaterAt old.state new.state
    queued-later s v true is (inl t) =
        let e : EntityState = record old.state { strays = old.state.strays ++ s ∷ [] } in
        let f : Takes (queues s old.state) h v old new → (new ≡ record old { state = e }) = rw is (λ o. o) in unchanged e (f t) refl
    queued-later s v true is (inr d) = (let f : DropsBy (queues s old.state) d.0 v old new → ⊥ = rw is (λ o. o) in absurd (f d.1))
    queued-later s v false is (inl t) = (let f : Takes (queues s old.state) h v old new → ⊥ = rw is (λ o. o) in absurd (f t))
    queued-later s v false is (inr d) =
        let e : EntityState = dropped drops.TableFull old.state in
        let f : DropsBy (queues s old.state) d.0 v old new → (new ≡ record old { state = e }) = rw is (λ o. o.1) in unchanged e (f d.1) refl

    open-later : (v : Content) (b : Bool) → nat_lt (length old.state.table.records) most_records ≡ b → Takes (opens_record old.state) h v old new
        ⊎ ((by : EntityDrop) × DropsBy (opens_record old.state) by v old new) → LaterAt old.state new.state
    open-later v true is (inl t) =
        let f : Takes (opens_record old.state) h v old new → OpensOne (addressing_of h) h.large v old new = rw is (λ o. o) in
        let o : OpensOne (addressing_of h) h.large v old new = f t in
        subst (LaterAt old.state) (sym o.opens) (opened-later o.begun o.stored (addressing_of h) h.large v old.state.table)
    open-later v true is (inr d) =
        let e : EntityState = dropped drops.NoMemory old.state in
        let f : DropsBy (opens_record old.state) d.0 v old new → (new ≡ record old { state = e }) = rw is (λ o. o.1) in unchanged e (f d.1) refl
    open-later v false is (inl t) = (let f : Takes (opens_record old.state) h v old new → ⊥ = rw is (λ o. o) in absurd (f t))
    open-later v false is (inr d) =
        let e : EntityState = dropped drops.TableFull old.state in
        let f : DropsBy (opens_record old.state) d.0 v old new → (new ≡ record old { state = e }) = rw is (λ o. o.1) in unchanged e (f d.1) refl

    passed-later : (new ≡ old) ⊎ (EntityDrop × ⊥) → LaterAt old.state new.state
    passed-later (inl is) = subst (λ (c : Counted). LaterAt old.state c.state) (sym is) (later-same old.state.table)
    passed-later (inr d) = absurd d.1

    unknown-later : ⊥ ⊎ ((by : EntityDrop) × ((by ≡ drops.Unknown) × (new ≡ record old { state = dropped drops.Unknown old.state }))) → LaterAt old.state new.state
    unknown-later (inl t) = absurd t
    unknown-later (inr d) = unchanged (dropped drops.Unknown old.state) d.1.1 refl

    over-later : (v : Content) → Takes (route_over h v old.state) h v old new ⊎ ((by : EntityDrop) × DropsBy (route_over h v old.state) by v old new) → LaterAt old.state new.state
    over-later (Eof condition checksum size tlvs) t = queued-later (over_ack h acknowledged.Eof condition) (Eof condition checksum size tlvs) (nat_lt (length old.state.strays) most_strays) refl t
    over-later (Finished condition delivery status tlvs) t =
        queued-later (over_ack h acknowledged.Finished condition) (Finished condition delivery status tlvs) (nat_lt (length old.state.strays) most_strays) refl t
    over-later (FileData offset bytes) t = passed-later t
    over-later (Metadata kind size source destination options) t = passed-later t
    over-later (Ack of condition status) t = passed-later t
    over-later (Nak start end pairs) t = passed-later t
    over-later (Prompt keep_alive) t = passed-later t
    over-later (KeepAlive progress) t = passed-later t

    new-later : (v : Content) → Takes (route_new h v old.state) h v old new ⊎ ((by : EntityDrop) × DropsBy (route_new h v old.state) by v old new) → LaterAt old.state new.state
    new-later (FileData offset bytes) t = open-later (FileData offset bytes) (nat_lt (length old.state.table.records) most_records) refl t
    new-later (Metadata kind size source destination options) t = open-later (Metadata kind size source destination options) (nat_lt (length old.state.table.records) most_records) refl t
    new-later (Eof condition checksum size tlvs) t = open-later (Eof condition checksum size tlvs) (nat_lt (length old.state.table.records) most_records) refl t
    new-later (Finished condition delivery status tlvs) t = queued-later (unknown_ack h condition) (Finished condition delivery status tlvs) (nat_lt (length old.state.strays) most_strays) refl t
    new-later (Ack of condition status) t = unknown-later t
    new-later (Nak start end pairs) t = unknown-later t
    new-later (Prompt keep_alive) t = unknown-later t
    new-later (KeepAlive progress) t = unknown-later t

    unplaced-later : (b : Bool) (v : Content) → Takes (route_unplaced b h v old.state) h v old new ⊎ ((by : EntityDrop) × DropsBy (route_unplaced b h v old.state) by v old new) →
        LaterAt old.state new.state
    unplaced-later true v t = over-later v t
    unplaced-later false v t = new-later v t

    placed-later : (o : Option ℕ) (v : Content) → Takes (route_by o h v old.state) h v old new ⊎ ((by : EntityDrop) × DropsBy (route_by o h v old.state) by v old new) → LaterAt old.state new.state
    placed-later (Some place) v (inl t) = subst (LaterAt old.state) (sym t.steps) (heard-later t.stored place h.large v old.state.table)
    placed-later (Some place) v (inr d) = spoiled-later place v old.state.table new.state.table d.1.1.spoiled
    placed-later None v t = unplaced-later (is_forgotten old.state h.id) v t

    abbrev OnRoute : Content → Type 0
    OnRoute v = Takes (route h v old.state) h v old new ⊎ ((by : EntityDrop) × DropsBy (route h v old.state) by v old new)

    abbrev for-us : Bool
    for-us = is_for old.state.config.entity old.state.config.peer h

    named-later : (v : Content) → direction_fits h v ≡ true → for-us ≡ true → (b : Bool) → names_no_file v ≡ b → OnRoute v → LaterAt old.state new.state
    named-later v fits ours true is (inl t) = (let f : Takes (route h v old.state) h v old new → ⊥ = rw (fits, ours, is) (λ o. o) in absurd (f t))
    named-later v fits ours true is (inr d) =
        let e : EntityState = dropped drops.NoFile old.state in
        let f : DropsBy (route h v old.state) d.0 v old new → (new ≡ record old { state = e }) = rw (fits, ours, is) (λ o. o.1) in unchanged e (f d.1) refl
    named-later v fits ours false is t =
        placed-later (place_of h.id old.state.table.records) v
        (subst (λ r. Takes r h v old new ⊎ ((by : EntityDrop) × DropsBy r by v old new))
        (let same : route h v old.state ≡ route_by (place_of h.id old.state.table.records) h v old.state = rw (fits, ours, is) refl in same) t)

    ours-later : (v : Content) → direction_fits h v ≡ true → (b : Bool) → for-us ≡ b → OnRoute v → LaterAt old.state new.state
    ours-later v fits false is (inl t) = (let f : Takes (route h v old.state) h v old new → ⊥ = rw (fits, is) (λ o. o) in absurd (f t))
    ours-later v fits false is (inr d) =
        let e : EntityState = dropped drops.NotForUs old.state in
        let f : DropsBy (route h v old.state) d.0 v old new → (new ≡ record old { state = e }) = rw (fits, is) (λ o. o.1) in unchanged e (f d.1) refl
    ours-later v fits true is t = named-later v fits is (names_no_file v) refl t

    route-later : (v : Content) (b : Bool) → direction_fits h v ≡ b → OnRoute v → LaterAt old.state new.state
    route-later v false is (inl t) = (let f : Takes (route h v old.state) h v old new → ⊥ = rw is (λ o. o) in absurd (f t))
    route-later v false is (inr d) =
        let e : EntityState = dropped drops.WrongDirection old.state in
        let f : DropsBy (route h v old.state) d.0 v old new → (new ≡ record old { state = e }) = rw is (λ o. o.1) in unchanged e (f d.1) refl
    route-later v true is t = ours-later v is for-us refl t

  fault-later : (o : Option PduError) (octets : List ℕ) (by : EntityDrop) (old new : Counted) → DropsOctets o octets by old new → LaterAt old.state new.state
  fault-later (Some e) octets by old new t = subst (λ (c : Counted). LaterAt old.state c.state) (sym t.1) (later-same old.state.table)
  fault-later None octets by old new t = route-later t.header old new t.content (direction_fits t.header t.content) refl (inr (by, t.drops))

  heard-one : (pdu : List ℕ) (old new : Counted) → HearsPdu pdu old new → LaterAt old.state new.state
  heard-one pdu old new (inl t) = route-later t.header old new t.content (direction_fits t.header t.content) refl (inl t.takes)
  heard-one pdu old new (inr t) = fault-later (pdu_fault pdu) pdu t.0 old new t.1

  pub hears-later : (pdus : List (List ℕ)) (old new : Counted) → HearsAll pdus old new → LaterAt old.state new.state
  hears-later [] old new same = subst (λ (c : Counted). LaterAt old.state c.state) (sym same) (later-same old.state.table)
  hears-later (pdu ∷ pdus) old new h = later-both old.state.table h.0.state.table new.state.table (heard-one pdu old h.0 h.1) (hears-later pdus h.0 new h.2)

  -- ---- what is sent
  pub served-later : (stored : Stored) (t : Turn) (e new : EntityState) → new ≡ served stored t e → LaterAt e new
  served-later stored (Stray s strays) e new is = subst (LaterAt e) (sym is) (later-same e.table)
  served-later stored (Place place) e new is = subst (LaterAt e) (sym is) (taken-later stored place e.table)
  served-later stored Rests e new is = subst (LaterAt e) (sym is) (later-same e.table)

  -- ---- what users ask
  pub put-later : (t : Transfer) (e new : EntityState) → new ≡ with_put t e → LaterAt e new
  put-later t e new is = subst (LaterAt e) (sym is) (set-later e.table (put_in t e.table) t.addressing.id (puts e.table.files t) (inl refl) refl refl refl)

  pub called-later : (c : Request) (of : TransactionId) (e new : EntityState) → IsCalled c of e new → LaterAt e new
  called-later c of e new h = subst (LaterAt e) (sym h.called) (by (place_of of e.table.records))
    where
      by : (o : Option ℕ) → Later e.table (called_in c o e.table)
      by None = later-same e.table
      by (Some place) = step-later (λ d. calls e.table.policy.times e.table.files c d.1) place (slice_get e.table.records place) e.table (λ d. calls-timed e.table.policy.times e.table.files c d.1)
