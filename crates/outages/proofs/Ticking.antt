-- The time is given at a station: what becomes of a put's transaction that may try again.
use Rattle.std.proofs.Common.{◌≡◌, ◌⊎◌, inl, inr, ℕ, ◌+◌, ◌≤◌, Bool, true, false, List, Option, Some, None, refl, sym, ap, subst, ◌∙◌, arith}
use Rattle.std.specs.Prelude.{Contains}
use Rattle.cfdp_directives.specs.declared.user.handler.Handler.TheVariants.{Ignore}
use Rattle.cfdp_directives.specs.declared.user.limits.Limits.{Limits}
use Rattle.cfdp_directives.specs.declared.user.policy.Policy.{Policy}
use Rattle.cfdp_directives.specs.User.Put.{Put}
use Rattle.cfdp_store.specs.Staged.{OctetMap}
use Rattle.cfdp_timers.specs.declared.kind.Kind.{Kind}
use Rattle.cfdp_timers.specs.declared.kind.Kind.TheVariants.{EofAck, Nak, FinishedAck, Inactivity}
use Rattle.cfdp_timers.specs.Due.{is_due}
use Rattle.cfdp_sender.specs.State.{SenderState}
use Rattle.cfdp_receiver.specs.State.{ReceiverState}
use Rattle.cfdp_entity.specs.Entity.{EntityState}
use Rattle.cfdp_entity.specs.Seen.{Seen, Sends, Receives}
use Rattle.cfdp_entity.specs.Table.{TableState, at_time, record_of}
use Rattle.cfdp_entity.specs.Timed.{waits_for}
use Rattle.station_pair.specs.declared.side.Side.{Side}
use Rattle.station_pair.specs.Stations.{other}
use Rattle.link_sim.specs.Between.{AreSpelled, IsReceiverIn, of_id}
use Rattle.link_sim.specs.Exchange.{tells_complete}
use Rattle.link_sim.specs.Found.{HasExchange, IsPutOf}
use Rattle.link_sim.specs.Runs.{Exchange, IsItsSender, TellsMore, expire_sender, ReceiverExpires}
use Rattle.link_sim.specs.Stages.{is_answered}
use Rattle.link_sim.specs.Waiting.{one_tells, policy_at}
use Rattle.link_sim.specs.World.State.{WorldState, arriving_from, entity_at}
use Rattle.link_sim.specs.World.Steps.{TellsTime}
use Rattle.link_sim.proofs.Course.All.{course-laws}
use Rattle.link_sim.proofs.Events.Keeping.{other-other}
use Rattle.link_sim.proofs.Found.Exchanges.{spelled-same}
use Rattle.link_sim.proofs.Found.ExpiresWorld.{SendsIn, StaysNone, expired-rest, fired-kind, fired-none, fired-receiver, fired-sender, fired-waited, kinds_of}
use Rattle.link_sim.proofs.Found.ExpiresWorld as world
use Rattle.link_sim.proofs.Lanes.Same.{same-arriving}
use Rattle.link_sim.proofs.Lanes.Ways.{back-kept, forth-kept}
use Rattle.link_sim.proofs.Recovery.Records.{its-receiver, its-sender}
use Rattle.outages.specs.Tries.{one_if, time_told}
use Rattle.outages.proofs.Budgets.{HoldsHere, HoldsThere, done-same, fewer-there}
use Rattle.outages.proofs.Expiring.{Counts, IsIgnored, Received, all-received, all-steps, counted-course, ignored-receiver, ignored-sender, ignoring, occurs}
use Rattle.outages.proofs.Fired.{occurs-due, undue-apart}
use Rattle.outages.proofs.Tracking.{Comes, Holds, IsReached, Onward, receiver-in, sender-in}

module _ (T : Side) (now : ℕ) (old new : WorldState) (reached : IsReached old) (next : IsReached new) (h : TellsTime T now old new) where
  abbrev st : TableState
  st = (entity_at T old).table

  abbrev st1 : TableState
  st1 = (entity_at T new).table

  abbrev pol : Policy
  pol = policy_at T old

  policy : st.policy ≡ pol
  policy = (reached.sound T).entity.policy

  theirs-same : entity_at (other T) new ≡ entity_at (other T) old
  theirs-same = ap (λ x. x.entity.state) h.links.spares.station

  ways-here : arriving_from T new ≡ arriving_from T old
  ways-here = same-arriving T old new (forth-kept T old new h.links)

  ways-there : arriving_from (other T) new ≡ arriving_from (other T) old
  ways-there = same-arriving (other T) old new (back-kept T old new h.links)

  abbrev pub due : Put → Kind → ℕ
  due put k = one_if (is_due st.armed (time_told T now old) (put.id, k))

  abbrev pub kinds : Put → List Kind
  kinds put = kinds_of put.id h.ticked.fired

  few-kinds : (put : Put) (k : Kind) → occurs k (kinds put) ≤ due put k
  few-kinds put k = occurs-due st.armed put.id k (time_told T now old) h.ticked.fired h.ticked.are

  abbrev pub Calm : Put → Type 0
  Calm put = (pol.handlers.inactivity ≡ Ignore) ⊎ (is_due st.armed (time_told T now old) (put.id, Inactivity) ≡ false)

  pub ignored : (put : Put) → Calm put → IsIgnored pol (kinds put)
  ignored put (inl is) = inl is
  ignored put (inr undue) = inr (undue-apart st.armed put.id Inactivity (time_told T now old) h.ticked.fired h.ticked.are undue)

  pub waited : (put : Put) (k : Kind) → Contains (kinds put) k → waits_for k (record_of put.id st.records) ≡ true
  waited put k c = fired-waited now st st1 h.ticked (reached.sound T).entity.timed put.id k c

  pub all-due : (put : Put) (k : Kind) → is_due st.armed (time_told T now old) (put.id, k) ≡ true → Contains (kinds put) k
  all-due put k is = fired-kind put.id h.ticked.fired k (h.ticked.are.all (put.id, k) ∙ is)

  -- ---- a put of this station
  module _ (strict : Bool) (put : Put) (e : Exchange) (has : HasExchange T put old e) (d : Exchange) (has_then : HasExchange T put new d) (eof nak finished : ℕ) (calm : Calm put)
      (holds : Holds strict pol.limits (policy_at (other T) old).limits put (due put EofAck + eof) nak finished e) where
    abbrev after : Exchange
    after = expire_sender pol put (kinds put) e

    fired : SendsIn put after st1 × (one_tells (tells_complete put.id) st.told ≡ true → one_tells (tells_complete put.id) st1.told ≡ true)
    fired = subst (λ (t : TableState). SendsIn put after t × (one_tells (tells_complete put.id) st.told ≡ true → one_tells (tells_complete put.id) t.told ≡ true)) (sym h.ticked.ticked)
        (fired-sender put pol h.ticked.fired (at_time now st) e policy (reached.sound T).entity.once.distinct (record { is = has.is.is_sender; told = λ b. has.is.is_told ∙ b }))

    counts : Counts pol.limits.eof strict eof e.sender 0 after.sender
    counts = subst (λ (a : Exchange). Counts pol.limits.eof strict eof e.sender 0 a.sender) (ignored-sender pol put (kinds put) e (ignored put calm))
        (all-steps (ignoring pol) refl strict eof e.sender put (kinds put) e (record {
          count = e.sender.count;
          due = e.sender.eof_due;
          is = refl;
          still = λ t. t;
          few = λ undone. (let all : e.sender.count + (due put EofAck + eof) ≤ pol.limits.eof = holds.sender undone in let few : occurs EofAck (kinds put) ≤ due put EofAck = few-kinds put EofAck in
              omega (arith, all, few));
        }))

    abbrev counted : Exchange
    counted = record e { sender = record e.sender { count = counts.count; eof_due = counts.due }; told = d.told }

    same-sender : d.sender ≡ counted.sender
    same-sender = sender-in d.sender after.sender (record_of put.id st1.records) has_then.is.is_sender fired.0.is ∙ counts.is

    same-receiver : d.receiver ≡ e.receiver
    same-receiver = receiver-in (record_of put.id (entity_at (other T) new).table.records) d.receiver e.receiver has_then.is.is_receiver
        (subst (λ (x : EntityState). IsReceiverIn (record_of put.id x.table.records) e.receiver) (sym theirs-same) has.is.is_receiver)

    same-forth : d.forth ≡ e.forth
    same-forth = sym has_then.is.is_forth
        ∙ ap (of_id put.id) (spelled-same (arriving_from T new) has_then.forth has.forth has_then.spelled (subst (λ l. AreSpelled l has.forth) (sym ways-here) has.spelled)) ∙ has.is.is_forth

    same-back : d.back ≡ e.back
    same-back = sym has_then.is.is_back
        ∙ ap (of_id put.id) (spelled-same (arriving_from (other T) new) has_then.back has.back has_then.spelled_back (subst (λ l. AreSpelled l has.back) (sym ways-there) has.spelled_back))
        ∙ has.is.is_back

    told-grows : e.told ≡ true → d.told ≡ true
    told-grows t = sym has_then.is.is_told ∙ fired.1 (has.is.is_told ∙ t)

    same-told-there : d.told_there ≡ e.told_there
    same-told-there = sym has_then.is.is_told_there ∙ ap (λ (x : EntityState). one_tells (tells_complete put.id) x.table.told) theirs-same ∙ has.is.is_told_there

    same : d ≡ counted
    same = λ i. record { sender = same-sender i; receiver = same-receiver i; forth = same-forth i; back = same-back i; told = d.told; told_there = same-told-there i }

    -- these timers expired, and more was indicated
    pub told-here : TellsMore after d
    told-here =
        let rest = expired-rest pol put (kinds put) e in
        record {
          told = d.told;
          told_there = d.told_there;
          stays = λ t. sym has_then.is.is_told ∙ fired.0.told t;
          stays_there = λ t. same-told-there ∙ sym rest.1.1.1 ∙ t;
          is = λ i. record {
            sender = (sender-in d.sender after.sender (record_of put.id st1.records) has_then.is.is_sender fired.0.is) i;
            receiver = (same-receiver ∙ sym rest.0) i;
            forth = (same-forth ∙ sym rest.1.0) i;
            back = (same-back ∙ sym rest.1.1.0) i;
            told = d.told;
            told_there = d.told_there;
          };
        }

    pub ticks-here : Comes strict T put eof nak finished old new e
    ticks-here = record {
      end = d;
      has = has_then;
      holds = subst (λ (m : Exchange). Holds strict pol.limits (policy_at (other T) old).limits put eof nak finished m) (sym same) (record {
        course = counted-course put e counts.count counts.due d.told holds.course counts.still told-grows;
        sender = λ undone. (let few : counts.count + (0 + eof) ≤ pol.limits.eof = counts.few (sym (done-same strict e.sender counts.count counts.due) ∙ undone) in omega (arith, few));
        receiver = holds.receiver;
      });
      onward = subst (λ (m : Exchange). Onward e m) (sym same) (record { answered = λ t. t; closed = λ t. t });
    }

  -- ---- a put of the other station, whose receiver stands here
  here-now : (w : WorldState) (P : EntityState → Type 0) → P (entity_at (other (other T)) w) → P (entity_at T w)
  here-now w P p = subst (λ (t : Side). P (entity_at t w)) (other-other T) p

  ways-back : arriving_from (other (other T)) new ≡ arriving_from (other (other T)) old
  ways-back = ap (λ (t : Side). arriving_from t new) (other-other T) ∙ ways-here ∙ sym (ap (λ (t : Side). arriving_from t old) (other-other T))

  module _ (strict : Bool) (put : Put) (own : IsPutOf (other T) put old) (e : Exchange) (has : HasExchange (other T) put old e) (d : Exchange) (has_then : HasExchange (other T) put new d)
      (eof nak finished : ℕ) (calm : Calm put)
      (holds : Holds strict (policy_at (other T) old).limits (policy_at (other (other T)) old).limits put eof (due put Nak + nak) (due put FinishedAck + finished) e) where
    abbrev here : Limits
    here = (policy_at (other T) old).limits

    limits-there : (policy_at (other (other T)) old).limits ≡ pol.limits
    limits-there = ap (λ (t : Side). (policy_at t old).limits) (other-other T)

    told-was : one_tells (tells_complete put.id) st.told ≡ e.told_there
    told-was = here-now old (λ x. one_tells (tells_complete put.id) x.table.told ≡ e.told_there) has.is.is_told_there

    receiver-was : IsReceiverIn (record_of put.id st.records) e.receiver
    receiver-was = here-now old (λ x. IsReceiverIn (record_of put.id x.table.records) e.receiver) has.is.is_receiver

    told-is : one_tells (tells_complete put.id) st1.told ≡ d.told_there
    told-is = here-now new (λ x. one_tells (tells_complete put.id) x.table.told ≡ d.told_there) has_then.is.is_told_there

    receiver-is : IsReceiverIn (record_of put.id st1.records) d.receiver
    receiver-is = here-now new (λ x. IsReceiverIn (record_of put.id x.table.records) d.receiver) has_then.is.is_receiver

    its-same : d.sender ≡ e.sender
    its-same = sender-in d.sender e.sender (record_of put.id (entity_at (other T) new).table.records) has_then.is.is_sender
        (ap (λ (x : EntityState). record_of put.id x.table.records) theirs-same ∙ has.is.is_sender)

    its-forth : d.forth ≡ e.forth
    its-forth = sym has_then.is.is_forth
        ∙ ap (of_id put.id) (spelled-same (arriving_from (other T) new) has_then.forth has.forth has_then.spelled (subst (λ l. AreSpelled l has.forth) (sym ways-there) has.spelled))
        ∙ has.is.is_forth

    its-back : d.back ≡ e.back
    its-back = sym has_then.is.is_back
        ∙ ap (of_id put.id) (spelled-same (arriving_from (other (other T)) new) has_then.back has.back has_then.spelled_back (subst (λ l. AreSpelled l has.back) (sym ways-back) has.spelled_back))
        ∙ has.is.is_back

    its-told : d.told ≡ e.told
    its-told = sym has_then.is.is_told ∙ ap (λ (x : EntityState). one_tells (tells_complete put.id) x.table.told) theirs-same ∙ has.is.is_told

    -- what its timers came to
    module _ (m : Exchange) (sender : m.sender ≡ e.sender) (forth : m.forth ≡ e.forth) (back : m.back ≡ e.back) (told : m.told ≡ e.told) (receiver : d.receiver ≡ m.receiver)
        (grows : m.told_there ≡ true → d.told_there ≡ true) (received : Received put (ignoring pol) refl nak finished e m) where
      abbrev told-more : Exchange
      told-more = record m { told_there = d.told_there }

      now-same : d ≡ told-more
      now-same = λ i. record {
        sender = (its-same ∙ sym sender) i;
        receiver = receiver i;
        forth = (its-forth ∙ sym forth) i;
        back = (its-back ∙ sym back) i;
        told = (its-told ∙ sym told) i;
        told_there = d.told_there;
      }

      comes-to : Comes strict (other T) put eof nak finished old new e
      comes-to = record {
        end = d;
        has = has_then;
        holds = subst (λ (m : Exchange). Holds strict here (policy_at (other (other T)) old).limits put eof nak finished m) (sym now-same) (record {
          course = course-laws.told_more put true false false false m.sender m.receiver m.forth m.back m.told m.told m.told_there d.told_there (λ t. t) grows received.course;
          sender = subst (λ (x : SenderState). HoldsHere strict here eof x) (sym sender) holds.sender;
          receiver = subst (λ (l : Limits). HoldsThere l nak finished m.receiver) (sym limits-there) received.holds;
        });
        onward = subst (λ (m : Exchange). Onward e m) (sym now-same) (record {
          answered = λ t. ap is_answered sender ∙ t;
          closed = λ t. received.closed ∙ t;
        });
      }

    budget : HoldsThere pol.limits (occurs Nak (kinds put) + nak) (occurs FinishedAck (kinds put) + finished) e.receiver
    budget =
        let naks : occurs Nak (kinds put) ≤ due put Nak = few-kinds put Nak in
        let finisheds : occurs FinishedAck (kinds put) ≤ due put FinishedAck = few-kinds put FinishedAck in
        fewer-there pol.limits (due put Nak + nak) (occurs Nak (kinds put) + nak) (due put FinishedAck + finished) (occurs FinishedAck (kinds put) + finished) e.receiver
        (omega (arith, naks)) (omega (arith, finisheds))
        (subst (λ (l : Limits). HoldsThere l (due put Nak + nak) (due put FinishedAck + finished) e.receiver) limits-there holds.receiver)

    -- Its receiver, if there is one: these timers of it expired, and more was indicated.
    pub record Expired : Type 0 where
      pub expired : Exchange
      pub expires : ReceiverExpires pol put (kinds put) e expired
      pub more : TellsMore expired d

    module _ (r : ReceiverState) (is : e.receiver ≡ Some r) (m : OctetMap) (at : record_of put.id st.records ≡ Some (Receives r m)) where
      found : world.Received put pol (kinds put) e (at_time now st) st1
      found = subst (λ (x : TableState). world.Received put pol (kinds put) e (at_time now st) x) (sym h.ticked.ticked)
          (fired-receiver put pol h.ticked.fired (at_time now st) e policy (reached.sound T).entity.once.distinct
          (record { receiver = r; is_receiver = is; octets = m; is = at; told = λ b. told-was ∙ b }))

      found-same : d.receiver ≡ found.end.receiver
      found-same = receiver-in (record_of put.id st1.records) d.receiver found.end.receiver receiver-is
          (subst (λ q. IsReceiverIn q found.end.receiver) (sym found.is_in.is)
          (subst (λ o. IsReceiverIn (Some (Receives found.is_in.receiver found.is_in.octets)) o) (sym found.is_in.is_receiver) refl))

      pub expired-some : Expired
      expired-some = record {
        expired = found.end;
        expires = found.expires;
        more = record {
          told = d.told;
          told_there = d.told_there;
          stays = λ t. its-told ∙ sym found.same_told ∙ t;
          stays_there = λ t. sym told-is ∙ found.is_in.told t;
          is = λ i. record {
            sender = (its-same ∙ sym found.same_sender) i;
            receiver = found-same i;
            forth = (its-forth ∙ sym found.same_forth) i;
            back = (its-back ∙ sym found.same_back) i;
            told = d.told;
            told_there = d.told_there;
          };
        };
      }

      comes-some : Comes strict (other T) put eof nak finished old new e
      comes-some =
          let its : IsItsSender put e.sender = its-sender old reached.sound (other T) put e own has in
          let x : ReceiverExpires (ignoring pol) put (kinds put) e found.end = ignored-receiver pol put (kinds put) e found.end (ignored put calm) found.expires in
          let r1 : Received put (ignoring pol) refl nak finished e found.end = all-received put (ignoring pol) refl nak finished (kinds put) e found.end its.is_sender.size
          (λ s same. its-receiver old reached.sound reached.kept (other T) put e s has same) holds.course budget x in
          comes-to found.end found.same_sender found.same_forth found.same_back found.same_told found-same (λ t. sym told-is ∙ found.is_in.told t) r1

    pub ticks-there : Comes strict (other T) put eof nak finished old new e
    ticks-there = by e.receiver refl (record_of put.id st.records) refl receiver-was
      where
        by : (o : Option ReceiverState) → e.receiver ≡ o → (q : Option Seen) → record_of put.id st.records ≡ q → IsReceiverIn q o → Comes strict (other T) put eof nak finished old new e
        by None is None at here_is =
            let n : StaysNone put (at_time now st) st1 = subst (λ (t : TableState). StaysNone put (at_time now st) t) (sym h.ticked.ticked)
            (fired-none put h.ticked.fired (at_time now st) (reached.sound T).entity.once.distinct at) in
            let none : d.receiver ≡ e.receiver = receiver-in None d.receiver e.receiver (subst (λ q. IsReceiverIn q d.receiver) n.none receiver-is) (subst (λ o. IsReceiverIn None o) (sym is) tt) in
            comes-to e refl refl refl refl none (λ t. sym told-is ∙ n.grows (told-was ∙ t)) (record {
              course = holds.course;
              holds = fewer-there pol.limits (occurs Nak (kinds put) + nak) nak (occurs FinishedAck (kinds put) + finished) finished e.receiver (omega arith) (omega arith) budget;
              closed = refl;
            })
        by None is (Some (Sends x)) at here_is = absurd here_is
        by None is (Some (Receives r m)) at here_is = absurd here_is
        by (Some r) is None at here_is = absurd here_is
        by (Some r) is (Some (Sends x)) at here_is = absurd here_is
        by (Some r) is (Some (Receives t m)) at here_is = comes-some r is m (at ∙ ap (λ (x : ReceiverState). Some (Receives x m)) (sym here_is))
