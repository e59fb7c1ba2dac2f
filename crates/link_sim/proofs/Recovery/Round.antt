-- A round of a recovery: the time is given at a station, and all is settled again. Each transaction
-- comes on, and one of them gets done.
use Rattle.std.proofs.Common.{◌≡◌, ◌≢◌, ◌⊎◌, inl, inr, ℕ, zero, suc, arith, Bool, not, ◌&&◌, true, false, List, [], ◌∷◌, Option, Some, None, is_some, refl, sym, ap, subst, ◌∙◌}
use Rattle.std.specs.Prelude.{Contains}
use Rattle.std.specs.FinMap as map
use Rattle.std.proofs.lemmas.Bool.{false≢true}
use Rattle.cfdp_header.specs.declared.value.TransactionId.{TransactionId}
use Rattle.cfdp_directives.specs.declared.user.handler.Handler.TheVariants.{Ignore}
use Rattle.cfdp_directives.specs.declared.user.limits.Limits.{Limits}
use Rattle.cfdp_directives.specs.declared.user.policy.Policy.{Policy}
use Rattle.cfdp_directives.specs.User.Put.{Put}
use Rattle.cfdp_timers.specs.declared.kind.Kind.{Kind}
use Rattle.cfdp_timers.specs.declared.kind.Kind.TheVariants as kinds
use Rattle.cfdp_timers.specs.ButInactivity.{IsLeastOther}
use Rattle.cfdp_sender.specs.declared.phase.SenderPhase.{SenderPhase}
use Rattle.cfdp_sender.specs.declared.phase.SenderPhase.TheVariants as sending
use Rattle.cfdp_sender.specs.State.{SenderState}
use Rattle.cfdp_sender.specs.Steps.{sender_waits, waits_for_eof_ack}
use Rattle.cfdp_receiver.specs.declared.state.ReceiverPhase.{ReceiverPhase}
use Rattle.cfdp_receiver.specs.declared.state.ReceiverPhase.TheVariants as receiving
use Rattle.cfdp_receiver.specs.State.{ReceiverState}
use Rattle.cfdp_receiver.specs.Steps.{waits, waits_in}
use Rattle.cfdp_entity.specs.Seen.{Seen, Sends, Receives}
use Rattle.cfdp_entity.specs.Table.{record_of}
use Rattle.cfdp_entity.specs.Timed.{waits_for}
use Rattle.link_sim.specs.Between.{IsReceiverIn}
use Rattle.link_sim.specs.EveryPut.{KeepsPuts}
use Rattle.link_sim.specs.Exchange.{is_closed, is_closed_in, maybe}
use Rattle.link_sim.specs.Found.{IsPutOf, HasExchange, RunsTo, ExpiresHere, ExpiresThere, ExpiresOn}
use Rattle.link_sim.specs.Runs.{Exchange, IsItsSender, Runs, Settles, TellsMore, expire_sender, ReceiverExpires}
use Rattle.station_pair.specs.Stations.{other}
use Rattle.link_sim.specs.Sound.{IsSound}
use Rattle.link_sim.specs.Stages.{Stands, IsAtRest, IsOver, AreWaitedBySender, AreWaitedByReceiver, is_answered, is_answered_in}
use Rattle.link_sim.specs.Tracks.{StandsIn, OverIn, AllTracked, KeepsPutsOf, RunsAlong, GetsDone, Advances, done_at}
use Rattle.link_sim.specs.Waiting.{policy_at, IgnoreInactivity}
use Rattle.link_sim.specs.World.State.{WorldState, entity_at}
use Rattle.station_pair.specs.declared.side.Side.{Side}
use Rattle.station_pair.specs.declared.side.Side.TheVariants.{One, Two}
use Rattle.link_sim.proofs.Events.Keeping.{other-other}
use Rattle.link_sim.proofs.EveryPut.Routes.{and-parts}
use Rattle.link_sim.proofs.Recovery.Records.{done-sender, done-receiver, IsSentHere, IsReceivedHere, sent-here, received-here, its-sender, its-receiver}

-- ---- the laws of one transaction that are used
pub record RoundLaws : Type 0 where
  pub sender_round : (here there : Limits) (policy : Policy) (n : ℕ) (put : Put) (a b : Exchange) (ks : List Kind) → policy.limits ≡ here → policy.handlers.inactivity ≡ Ignore →
      IsItsSender put a.sender → Stands here there put a
      → AreWaitedBySender a.sender ks → Runs n put (expire_sender policy put ks a) b → IsAtRest b
      → Stands here there put b × ((is_answered a.sender ≡ true → is_answered b.sender ≡ true)
      × ((maybe is_closed a.receiver ≡ true → maybe is_closed b.receiver ≡ true) × (Contains ks kinds.EofAck → is_answered b.sender ≡ true)))
  pub receiver_round : (here there : Limits) (policy : Policy) (n : ℕ) (put : Put) (a a1 b : Exchange) (ks : List Kind) → policy.limits ≡ there → policy.handlers.inactivity ≡ Ignore →
      IsItsSender put a.sender → ((r : ReceiverState) → a.receiver ≡ Some r → r.addressing.id ≡ put.id)
      → Stands here there put a → AreWaitedByReceiver a.receiver ks → ReceiverExpires policy put ks a a1 → Runs n put a1 b → IsAtRest b
      → Stands here there put b × ((is_answered a.sender ≡ true → is_answered b.sender ≡ true)
      × ((maybe is_closed a.receiver ≡ true → maybe is_closed b.receiver ≡ true) × (Contains ks kinds.Nak ⊎ Contains ks kinds.FinishedAck → maybe is_closed b.receiver ≡ true)))
  pub over_runs : (n : ℕ) (put : Put) (a b : Exchange) → IsOver a → Runs n put a b → IsOver b
  pub over_waits : (a : Exchange) → IsOver a → ((k : Kind) → sender_waits k a.sender ≡ false) × ((r : ReceiverState) → a.receiver ≡ Some r → (k : Kind) → waits k r ≡ false)
  pub done_runs : (n : ℕ) (put : Put) (a b : Exchange) → Runs n put a b → (is_answered a.sender ≡ true → is_answered b.sender ≡ true)
      × (maybe is_closed a.receiver ≡ true → maybe is_closed b.receiver ≡ true)

-- ---- runs
-- a step before a run
runs-behind : (n : ℕ) (put : Put) (a b c : Exchange) → Settles put a b → Runs n put b c → Runs (suc n) put a c
unfolding Runs
runs-behind zero put a b c step runs = (a, (refl, subst (λ e. Settles put a e) (sym runs) step))
runs-behind (suc n) put a b c step r = (r.0, (runs-behind n put a b r.0 step r.1.0, r.1.1))

told-behind : (n : ℕ) (put : Put) (a b c : Exchange) → TellsMore a b → Runs n put b c → Runs (suc n) put a c
told-behind n put a b c more runs = runs-behind n put a b c (inr (inr (inr (inr (inr (inr (inr (inr (inr more))))))))) runs

-- ---- what waits for what
none-in : (ks : List Kind) → ((k : Kind) → Contains ks k → ⊥) → ks ≡ []
none-in [] none = refl
none-in (k ∷ ks) none = absurd (none k (0, omega arith, refl))

eof-only : (k : Kind) (x : SenderState) → k ≢ kinds.Inactivity → sender_waits k x ≡ true → k ≡ kinds.EofAck
eof-only kinds.EofAck x apart w = refl
eof-only kinds.Nak x apart w = absurd (false≢true w)
eof-only kinds.FinishedAck x apart w = absurd (false≢true w)
eof-only kinds.Inactivity x apart w = absurd (apart refl)

not-answered : (x : SenderState) → sender_waits kinds.EofAck x ≡ true → is_answered x ≡ false
not-answered x w = by x.phase x.acknowledged (and-parts (not x.suspended) (waits_for_eof_ack x.phase x) w).1
  where
    sent : (taken due acknowledged : Bool) → (taken && not due && not acknowledged) ≡ true → acknowledged ≡ false
    sent taken due false h = refl
    sent true true true h = absurd (false≢true h)
    sent true false true h = absurd (false≢true h)
    sent false due true h = absurd (false≢true h)

    by : (p : SenderPhase) (acknowledged : Bool) → waits_for_eof_ack p (record x { acknowledged = acknowledged }) ≡ true → is_answered_in p acknowledged ≡ false
    by sending.Sending acknowledged h = sent x.eof_taken x.eof_due acknowledged h
    by sending.Cancelling acknowledged h = refl
    by sending.Closed acknowledged h = absurd (false≢true h)

nak-or-finished : (k : Kind) (r : ReceiverState) → k ≢ kinds.Inactivity → waits k r ≡ true → (k ≡ kinds.Nak) ⊎ (k ≡ kinds.FinishedAck)
nak-or-finished kinds.Nak r apart w = inl refl
nak-or-finished kinds.FinishedAck r apart w = inr refl
nak-or-finished kinds.Inactivity r apart w = absurd (apart refl)
nak-or-finished kinds.EofAck r apart w = absurd (no-eof r.phase (and-parts (not r.suspended) (waits_in r.phase kinds.EofAck r) w).1)
  where
    no-eof : (p : ReceiverPhase) → waits_in p kinds.EofAck r ≡ true → ⊥
    no-eof receiving.Receiving h = false≢true h
    no-eof receiving.Finishing h = false≢true h
    no-eof receiving.Closed h = false≢true h

not-closed : (k : Kind) (r : ReceiverState) → waits k r ≡ true → is_closed r ≡ false
not-closed k r w = by r.phase (and-parts (not r.suspended) (waits_in r.phase k r) w).1
  where
    by : (p : ReceiverPhase) → waits_in p k r ≡ true → is_closed_in p ≡ false
    by receiving.Receiving h = refl
    by receiving.Finishing h = refl
    by receiving.Closed h = absurd (false≢true h)

-- ---- a transaction in a round
-- From one world to another: it still stands, and what is done stays so.
pub record ComesOn (s : Side) (put : Put) (old new : WorldState) (e : Exchange) : Type 0 where
  pub end : Exchange
  pub has : HasExchange s put new end
  pub answered : is_answered e.sender ≡ true → is_answered end.sender ≡ true
  pub closed : maybe is_closed e.receiver ≡ true → maybe is_closed end.receiver ≡ true

module _ (laws : RoundLaws) (T : Side) (now : ℕ) (w t v : WorldState) (sound : IsSound w) (puts : KeepsPuts w) (tells : ExpiresOn T now w t) (first : KeepsPutsOf w t) (along : RunsAlong t v)
    (rests : (s : Side) (put : Put) (e : Exchange) → IsPutOf s put v → HasExchange s put v e → IsAtRest e) (ignore : IgnoreInactivity w) where
  keeps : KeepsPutsOf w v
  keeps = record {
    puts = λ s put own. along.keeps.puts s put (first.puts s put own);
    puts_before = λ s put own. first.puts_before s put (along.keeps.puts_before s put own);
    policy = λ s. along.keeps.policy s ∙ first.policy s;
  }

  still-stands : (s : Side) (put : Put) (e : Exchange) → HasExchange s put v e → Stands (policy_at s w).limits (policy_at (other s) w).limits put e → StandsIn s put v
  still-stands s put e has stands = record {
    exchange = e;
    has = has;
    stands = subst (λ (p : Policy). Stands p.limits (policy_at (other s) v).limits put e) (sym (keeps.policy s))
        (subst (λ (p : Policy). Stands (policy_at s w).limits p.limits put e) (sym (keeps.policy (other s))) stands);
  }

  -- ---- a put of the station that is given the time
  module _ (put : Put) (own : IsPutOf T put w) (e : Exchange) (has : HasExchange T put w e) where
    x : ExpiresHere T now put e w t
    x = tells.here put own e has

    run : RunsTo T put x.end v
    run = along.runs T put (first.puts T put own) x.end x.is_end

    runs : Runs (suc run.steps) put (expire_sender (policy_at T w) put x.kinds e) run.end
    runs = told-behind run.steps put (expire_sender (policy_at T w) put x.kinds e) x.end run.end x.more run.runs

    at-rest : IsAtRest run.end
    at-rest = rests T put run.end (keeps.puts T put own) run.is_end

    -- it stands
    module _ (stands : Stands (policy_at T w).limits (policy_at (other T) w).limits put e) where
      here-stands : Stands (policy_at T w).limits (policy_at (other T) w).limits put run.end
          × ((is_answered e.sender ≡ true → is_answered run.end.sender ≡ true)
          × ((maybe is_closed e.receiver ≡ true → maybe is_closed run.end.receiver ≡ true) × (Contains x.kinds kinds.EofAck → is_answered run.end.sender ≡ true)))
      here-stands = laws.sender_round (policy_at T w).limits (policy_at (other T) w).limits (policy_at T w) (suc run.steps) put e run.end x.kinds refl (ignore T)
          (its-sender w sound T put e own has) stands x.waited runs at-rest

      pub stands-here : StandsIn T put v
      stands-here = still-stands T put run.end run.is_end here-stands.0

      pub comes-here : ComesOn T put w v e
      comes-here = record { end = run.end; has = run.is_end; answered = here-stands.1.0; closed = here-stands.1.1.0 }

      -- if the timer for the ACK of EOF was due, that is done
      pub done-here : (k : Kind) → k ≢ kinds.Inactivity → map.get (entity_at T w).table.armed (put.id, k) ≡ Some now → done_at T v put.id ≡ true
      done-here k apart armed =
          let c : Contains x.kinds k = x.all k now armed (omega arith) in
          let eof : k ≡ kinds.EofAck = eof-only k e.sender apart (x.waited k c) in
          done-sender T put v run.end run.is_end ∙ here-stands.1.1.1 (subst (λ j. Contains x.kinds j) eof c)

    -- nothing comes of it
    module _ (over : IsOver e) where
      no-kinds : x.kinds ≡ []
      no-kinds = none-in x.kinds (λ k c. false≢true (sym ((laws.over_waits e over).0 k) ∙ x.waited k c))

      over-run : Runs (suc run.steps) put e run.end
      unfolding expire_sender
      over-run = subst (λ ks. Runs (suc run.steps) put (expire_sender (policy_at T w) put ks e) run.end) no-kinds runs

      pub over-here : OverIn T put v
      over-here = record { exchange = run.end; has = run.is_end; over = laws.over_runs (suc run.steps) put e run.end over over-run }

      pub comes-over-here : ComesOn T put w v e
      comes-over-here =
          let d = laws.done_runs (suc run.steps) put e run.end over-run in
          record { end = run.end; has = run.is_end; answered = d.0; closed = d.1 }

  -- ---- a put of the other station
  module _ (put : Put) (own : IsPutOf (other T) put w) (e : Exchange) (has : HasExchange (other T) put w e) where
    y : ExpiresThere T now put e w t
    y = tells.there put own e has

    run_there : RunsTo (other T) put y.end v
    run_there = along.runs (other T) put (first.puts (other T) put own) y.end y.is_end

    runs_there : Runs (suc run_there.steps) put y.expired run_there.end
    runs_there = told-behind run_there.steps put y.expired y.end run_there.end y.more run_there.runs

    at-rest-there : IsAtRest run_there.end
    at-rest-there = rests (other T) put run_there.end (keeps.puts (other T) put own) run_there.is_end

    module _ (stands : Stands (policy_at (other T) w).limits (policy_at (other (other T)) w).limits put e) where
      there-stands : Stands (policy_at (other T) w).limits (policy_at (other (other T)) w).limits put run_there.end
          × ((is_answered e.sender ≡ true → is_answered run_there.end.sender ≡ true)
          × ((maybe is_closed e.receiver ≡ true → maybe is_closed run_there.end.receiver ≡ true)
          × (Contains y.kinds kinds.Nak ⊎ Contains y.kinds kinds.FinishedAck → maybe is_closed run_there.end.receiver ≡ true)))
      there-stands = laws.receiver_round (policy_at (other T) w).limits (policy_at (other (other T)) w).limits (policy_at T w) (suc run_there.steps) put e y.expired run_there.end y.kinds
          (sym (ap (λ (s : Side). (policy_at s w).limits) (other-other T))) (ignore T) (its-sender w sound (other T) put e own has)
          (λ r is. its-receiver w sound puts (other T) put e r has is) stands y.waited y.expires runs_there at-rest-there

      pub stands-there : StandsIn (other T) put v
      stands-there = still-stands (other T) put run_there.end run_there.is_end there-stands.0

      pub comes-there : ComesOn (other T) put w v e
      comes-there = record { end = run_there.end; has = run_there.is_end; answered = there-stands.1.0; closed = there-stands.1.1.0 }

      -- if the timer of a NAK, or of a Finished, was due, the receiver is closed
      pub done-there : (k : Kind) (r : ReceiverState) → e.receiver ≡ Some r → k ≢ kinds.Inactivity → map.get (entity_at T w).table.armed (put.id, k) ≡ Some now → done_at T v put.id ≡ true
      done-there k r is apart armed =
          let c : Contains y.kinds k = y.all k now armed (omega arith) in
          let waited : waits k r ≡ true = (subst (λ o. AreWaitedByReceiver o y.kinds) is y.waited) k c in
          let closed : maybe is_closed run_there.end.receiver ≡ true = elim (nak-or-finished k r apart waited) [
            | inl nak ↦ there-stands.1.1.1 (inl (subst (λ j. Contains y.kinds j) nak c))
            | inr finished ↦ there-stands.1.1.1 (inr (subst (λ j. Contains y.kinds j) finished c))
          ] in
          sym (ap (λ (s : Side). done_at s v put.id) (other-other T)) ∙ done-receiver (other T) put v run_there.end run_there.is_end ∙ closed

    module _ (over : IsOver e) where
      waited-none : (o : Option ReceiverState) → e.receiver ≡ o → AreWaitedByReceiver o y.kinds → (k : Kind) → Contains y.kinds k → ⊥
      waited-none None is w k c = w k c
      waited-none (Some r) is w k c = false≢true (sym ((laws.over_waits e over).1 r is k) ∙ w k c)

      no-kinds-there : y.kinds ≡ []
      no-kinds-there = none-in y.kinds (waited-none e.receiver refl y.waited)

      same-there : y.expired ≡ e
      unfolding ReceiverExpires
      same-there = subst (λ ks. ReceiverExpires (policy_at T w) put ks e y.expired) no-kinds-there y.expires

      over-run-there : Runs (suc run_there.steps) put e run_there.end
      over-run-there = subst (λ a. Runs (suc run_there.steps) put a run_there.end) same-there runs_there

      pub over-there : OverIn (other T) put v
      over-there = record { exchange = run_there.end; has = run_there.is_end; over = laws.over_runs (suc run_there.steps) put e run_there.end over over-run-there }

      pub comes-over-there : ComesOn (other T) put w v e
      comes-over-there =
          let d = laws.done_runs (suc run_there.steps) put e run_there.end over-run-there in
          record { end = run_there.end; has = run_there.is_end; answered = d.0; closed = d.1 }

  -- ---- of any station
  -- what holds of the station and of the other one holds of both
  of-both : (P : Side → Type 0) → P T → P (other T) → (s : Side) → P s
  of-both P mine theirs s = by T s mine theirs
    where
      by : (u s : Side) → P u → P (other u) → P s
      by One One m th = m
      by One Two m th = th
      by Two One m th = th
      by Two Two m th = m

  stands-on : (s : Side) (put : Put) → IsPutOf s put w → StandsIn s put w → StandsIn s put v
  stands-on = of-both (λ s. (put : Put) → IsPutOf s put w → StandsIn s put w → StandsIn s put v)
      (λ put own h. stands-here put own h.exchange h.has h.stands)
      (λ put own h. stands-there put own h.exchange h.has h.stands)

  over-on : (s : Side) (put : Put) → IsPutOf s put w → OverIn s put w → OverIn s put v
  over-on = of-both (λ s. (put : Put) → IsPutOf s put w → OverIn s put w → OverIn s put v)
      (λ put own h. over-here put own h.exchange h.has h.over)
      (λ put own h. over-there put own h.exchange h.has h.over)

  -- what was tracked comes on
  pub record Found (s : Side) (put : Put) : Type 0 where
    pub exchange : Exchange
    pub has : HasExchange s put w exchange
    pub comes : ComesOn s put w v exchange

  found-on : AllTracked w → (s : Side) (put : Put) → IsPutOf s put w → Found s put
  found-on all = of-both (λ s. (put : Put) → IsPutOf s put w → Found s put)
      (λ put own. elim (all T put own) [
        | inl h ↦ record { exchange = h.exchange; has = h.has; comes = comes-here put own h.exchange h.has h.stands }
        | inr h ↦ record { exchange = h.exchange; has = h.has; comes = comes-over-here put own h.exchange h.has h.over }
      ])
      (λ put own. elim (all (other T) put own) [
        | inl h ↦ record { exchange = h.exchange; has = h.has; comes = comes-there put own h.exchange h.has h.stands }
        | inr h ↦ record { exchange = h.exchange; has = h.has; comes = comes-over-there put own h.exchange h.has h.over }
      ])

  tracked-on : AllTracked w → AllTracked v
  tracked-on all s put own =
      let before : IsPutOf s put w = keeps.puts_before s put own in
      elim (all s put before) [
        | inl h ↦ inl (stands-on s put before h)
        | inr h ↦ inr (over-on s put before h)
      ]

  -- what is done stays so
  done-on : AllTracked w → (s : Side) (id : TransactionId) → done_at s w id ≡ true → done_at s v id ≡ true
  done-on all s id d = by (record_of id (entity_at s w).table.records) refl
    where
      by : (o : Option Seen) → record_of id (entity_at s w).table.records ≡ o → done_at s v id ≡ true
      by None is = absurd (false≢true (sym (ap Rattle.link_sim.specs.Tracks.is_done is) ∙ d))
      by (Some (Sends x)) is =
          let h : IsSentHere s id x w = sent-here w sound s id x is in
          let f : Found s h.put = found-on all s h.put h.own in
          let was : done_at s w h.put.id ≡ true = ap (done_at s w) h.of ∙ d in
          ap (done_at s v) (sym h.of) ∙ done-sender s h.put v f.comes.end f.comes.has ∙ f.comes.answered (sym (done-sender s h.put w f.exchange f.has) ∙ was)
      by (Some (Receives r m)) is =
          let h : IsReceivedHere s id r w = received-here w sound puts s id r m is in
          let f : Found (other s) h.put = found-on all (other s) h.put h.own in
          let was : done_at (other (other s)) w h.put.id ≡ true = ap (λ (u : Side). done_at u w h.put.id) (other-other s) ∙ ap (done_at s w) h.of ∙ d in
          ap (done_at s v) (sym h.of) ∙ sym (ap (λ (u : Side). done_at u v h.put.id) (other-other s)) ∙ done-receiver (other s) h.put v f.comes.end f.comes.has
          ∙ f.comes.closed (sym (done-receiver (other s) h.put w f.exchange f.has) ∙ was)

  -- and the record whose timer was due is done now
  gets-done : AllTracked w → IsLeastOther (entity_at T w).table.armed now → GetsDone w v
  gets-done all least = by (record_of id (entity_at T w).table.records) refl
    where
      id : TransactionId
      id = least.armed_so.0.0

      k : Kind
      k = least.armed_so.0.1

      armed : map.get (entity_at T w).table.armed (id, k) ≡ Some now
      armed = least.armed_so.2

      waited : waits_for k (record_of id (entity_at T w).table.records) ≡ true
      waited = (sound T).entity.timed.waited id k (ap is_some armed)

      by : (o : Option Seen) → record_of id (entity_at T w).table.records ≡ o → GetsDone w v
      by None is = absurd (false≢true (sym (ap (waits_for k) is) ∙ waited))
      by (Some (Sends x)) is = sent (sent-here w sound T id x is)
        where
          waits_now : sender_waits k x ≡ true
          waits_now = sym (ap (waits_for k) is) ∙ waited

          sent : IsSentHere T id x w → GetsDone w v
          sent h = elim (all T h.put h.own) [
            | inl stands ↦ record {
              side = T;
              id = id;
              before = ap Rattle.link_sim.specs.Tracks.is_done is ∙ not-answered x (subst (λ j. sender_waits j x ≡ true) (eof-only k x least.armed_so.1 waits_now) waits_now);
              after = ap (done_at T v) (sym h.of) ∙ done-here h.put h.own stands.exchange stands.has stands.stands k least.armed_so.1
                  (ap (λ i. map.get (entity_at T w).table.armed (i, k)) h.of ∙ armed);
            }
            | inr over ↦ absurd (
                let same : Some (Sends x) ≡ Some (Sends over.exchange.sender) = sym is ∙ ap (λ i. record_of i (entity_at T w).table.records) (sym h.of) ∙ over.has.is.is_sender in
                let is_x : x ≡ over.exchange.sender = cc in
                false≢true (sym ((laws.over_waits over.exchange over.over).0 k) ∙ ap (sender_waits k) (sym is_x) ∙ waits_now))
          ]
      by (Some (Receives r m)) is = received (received-here w sound puts T id r m is)
        where
          waits_now : waits k r ≡ true
          waits_now = sym (ap (waits_for k) is) ∙ waited

          -- the receiver of the exchange is this one
          same-receiver : (put : Put) (e : Exchange) → put.id ≡ id → HasExchange (other T) put w e → e.receiver ≡ Some r
          same-receiver put e of has = at e.receiver (subst (λ q. IsReceiverIn q e.receiver)
              (ap (λ (u : Side). record_of put.id (entity_at u w).table.records) (other-other T) ∙ ap (λ i. record_of i (entity_at T w).table.records) of ∙ is) has.is.is_receiver)
            where
              at : (o : Option ReceiverState) → IsReceiverIn (Some (Receives r m)) o → o ≡ Some r
              at None h = absurd h
              at (Some q) h = ap Some h

          received : IsReceivedHere T id r w → GetsDone w v
          received h = elim (all (other T) h.put h.own) [
            | inl stands ↦ record {
              side = T;
              id = id;
              before = ap Rattle.link_sim.specs.Tracks.is_done is ∙ not-closed k r waits_now;
              after = ap (done_at T v) (sym h.of) ∙ done-there h.put h.own stands.exchange stands.has stands.stands k r (same-receiver h.put stands.exchange h.of stands.has) least.armed_so.1
                  (ap (λ i. map.get (entity_at T w).table.armed (i, k)) h.of ∙ armed);
            }
            | inr over ↦ absurd (false≢true (sym ((laws.over_waits over.exchange over.over).1 r (same-receiver h.put over.exchange h.of over.has) k) ∙ waits_now))
          ]

  pub advances : IsLeastOther (entity_at T w).table.armed now → Advances w v
  advances least = record {
    keeps = keeps;
    tracked = tracked-on;
    stands = λ all s put own h. stands-on s put own h;
    done = done-on;
    more = λ all. gets-done all least;
  }
