-- An expiry after which nothing of a transaction is lost: it answers the sender, or it completes the
-- transaction.
use Rattle.std.proofs.Common.{◌≡◌, ◌≢◌, ◌⊎◌, inl, inr, ℕ, suc, ◌+◌, ◌≤◌, not, Bool, true, false, List, [], ◌∷◌, Option, Some, None, refl, sym, ap, subst, ◌∙◌, arith}
use Rattle.std.specs.Prelude.{Contains}
use Rattle.std.proofs.lemmas.Bool.{false≢true, and_parts, both_ways}
use Rattle.cfdp_directives.specs.declared.user.limits.Limits.{Limits}
use Rattle.cfdp_directives.specs.declared.user.policy.Policy.{Policy}
use Rattle.cfdp_directives.specs.User.Put.{Put}
use Rattle.cfdp_store.specs.Staged.{OctetMap}
use Rattle.cfdp_timers.specs.declared.kind.Kind.{Kind}
use Rattle.cfdp_timers.specs.declared.kind.Kind.TheVariants as eofs
use Rattle.cfdp_sender.specs.State.{SenderState}
use Rattle.cfdp_sender.specs.Steps.{sender_waits}
use Rattle.cfdp_receiver.specs.declared.state.ReceiverPhase.{ReceiverPhase}
use Rattle.cfdp_receiver.specs.declared.state.ReceiverPhase.TheVariants as receiving
use Rattle.cfdp_receiver.specs.State.{ReceiverState}
use Rattle.cfdp_receiver.specs.Steps.{waits, waits_in}
use Rattle.cfdp_entity.specs.declared.request.Request.TheVariants as calls
use Rattle.cfdp_entity.specs.Seen.{Seen, Sends, Receives}
use Rattle.cfdp_entity.specs.Table.{record_of}
use Rattle.cfdp_entity.specs.Timed.{waits_for}
use Rattle.station_pair.specs.declared.side.Side.{Side}
use Rattle.station_pair.specs.Stations.{other}
use Rattle.link_sim.specs.declared.event.Event.{Event}
use Rattle.link_sim.specs.declared.event.Event.TheVariants as event
use Rattle.link_sim.specs.declared.event.Applied.{Applied}
use Rattle.link_sim.specs.declared.event.Applied.TheVariants as did
use Rattle.link_sim.specs.Between.{IsReceiverIn}
use Rattle.link_sim.specs.Exchange.{is_closed, is_closed_in, maybe}
use Rattle.link_sim.specs.Found.{HasExchange, IsPutOf, RunsTo}
use Rattle.link_sim.specs.Runs.{Exchange, IsItsSender, Runs, TellsMore, expire_sender}
use Rattle.link_sim.specs.Settling.{KeepsAll, all_shortages}
use Rattle.link_sim.specs.Stages.{AreWaitedByReceiver, AreWaitedBySender, IsAtRest, IsReceiverBelowNow, Stands, is_answered, is_answered_in}
use Rattle.link_sim.specs.Waiting.{policy_at}
use Rattle.link_sim.specs.World.State.{WorldState, entity_at}
use Rattle.link_sim.specs.World.Steps.{Steps, TellsTime}
use Rattle.link_sim.proofs.Clean.Settles.{CleanLaws}
use Rattle.link_sim.proofs.Events.Keeping.{both, other-other}
use Rattle.link_sim.proofs.Found.Exchanges.{has-exchange}
use Rattle.link_sim.proofs.Recovery.Along.{told-time}
use Rattle.link_sim.proofs.Recovery.Records.{its-receiver, its-sender}
use Rattle.link_sim.proofs.Runs.Places.{runs-both}
use Rattle.link_sim.proofs.Runs.World.{puts-kept, runs-on-same, settles-run}
use Rattle.link_sim.proofs.Stages.Rest.{rest-runs, rests-told}
use Rattle.link_sim.proofs.Stages.Rounds.{sender-round}
use Rattle.link_sim.proofs.Stages.RoundsThere.{receiver-round}
use Rattle.outages.specs.Outage.{Happening}
use Rattle.outages.specs.Spared.{AreSparing, GetsThrough, IsSparing, SparesIt}
use Rattle.outages.specs.Tries.{one_if}
use Rattle.outages.proofs.Aside.{aside-run, call-aside, put-aside, tick-aside}
use Rattle.outages.proofs.Budgets.{HoldsThere, waits-undone}
use Rattle.outages.proofs.Expiring.{ignored-receiver, ignored-sender, ignoring}
use Rattle.outages.proofs.Outlasting.{entities-same, fewer, limits-so, runs-hold}
use Rattle.outages.proofs.Quiet.{quiet-rests}
use Rattle.outages.proofs.Ticking.{Expired, all-due, due, expired-some, ignored, kinds, ticks-here, ticks-there, told-here, waited}
use Rattle.outages.proofs.Tracking.{Comes, HasLost, Holds, IsReached, damage-lost, onward-both, policy-next, reached-next, spared-same, strike-lost}

-- ---- what waits for what
eof-only : (k : Kind) (x : SenderState) → k ≢ eofs.Inactivity → sender_waits k x ≡ true → k ≡ eofs.EofAck
eof-only eofs.EofAck x apart w = refl
eof-only eofs.Nak x apart w = absurd (false≢true w)
eof-only eofs.FinishedAck x apart w = absurd (false≢true w)
eof-only eofs.Inactivity x apart w = absurd (apart refl)

nak-or-finished : (k : Kind) (r : ReceiverState) → k ≢ eofs.Inactivity → waits k r ≡ true → (k ≡ eofs.Nak) ⊎ (k ≡ eofs.FinishedAck)
nak-or-finished eofs.Nak r apart w = inl refl
nak-or-finished eofs.FinishedAck r apart w = inr refl
nak-or-finished eofs.Inactivity r apart w = absurd (apart refl)
nak-or-finished eofs.EofAck r apart w = absurd (no-eof r.phase (and_parts (not r.suspended) (waits_in r.phase eofs.EofAck r) w).1)
  where
    no-eof : (p : ReceiverPhase) → waits_in p eofs.EofAck r ≡ true → ⊥
    no-eof receiving.Receiving h = false≢true h
    no-eof receiving.Finishing h = false≢true h
    no-eof receiving.Closed h = false≢true h

one-most : (b : Bool) → one_if b ≤ 1
one-most true = omega arith
one-most false = omega arith

-- a run that begins after more was indicated
told-run : (n : ℕ) (put : Put) (a b c : Exchange) → TellsMore a b → Runs n put b c → (k : ℕ) × Runs k put a c
unfolding Runs
told-run n put a b c more runs = runs-both 1 n put a b c (a, (refl, inr (inr (inr (inr (inr (inr (inr (inr (inr more)))))))))) runs

module _ (all : CleanLaws) where
  -- ---- events in which nothing of it is lost
  record Passes (s : Side) (put : Put) (e : Exchange) (old new : WorldState) : Type 0 where
    reached : IsReached new
    own : IsPutOf s put new
    policy : (t : Side) → policy_at t new ≡ policy_at t old
    run : RunsTo s put e new

  module _ (s : Side) (put : Put) (old mid : WorldState) (r : IsReached old) (r1 : IsReached mid) (own : IsPutOf s put old) (own1 : IsPutOf s put mid) (e : Exchange) (has : HasExchange s put old e) where
    spared-run : HasLost old mid → SparesIt put.id old mid → RunsTo s put e mid
    spared-run (inl same) spare = runs-on-same mid s put own1 e (subst (λ (w : WorldState). HasExchange s put w e) (sym same) has)
    spared-run (inr lost) spare =
        let x = has-exchange s put mid r1.sound r1.kept.course own1 in
        let same : x.0 ≡ e = spared-same s put old mid e has x.0 x.1 (entities-same all false s put old mid r r1 own own1 e has lost.0 lost.1.0 lost.1.1)
        (sym x.1.is.is_forth ∙ spare s has.forth x.1.forth has.spelled x.1.spelled ∙ has.is.is_forth)
        (sym x.1.is.is_back ∙ spare (other s) has.back x.1.back has.spelled_back x.1.spelled_back ∙ has.is.is_back) in
        runs-on-same mid s put own1 e (subst (λ (d : Exchange). HasExchange s put mid d) same x.1)

    sparing-run : (ev : Event) (d : Applied) → IsSparing put.id ev old mid → Steps ev d old mid → KeepsAll (all_shortages old) (all_shortages mid) → RunsTo s put e mid
    sparing-run (event.Poll t) d is h short = settles-run all (event.Poll t) d old mid tt h short r.sound r.kept s put own e has
    sparing-run (event.Flush t) d is h short = settles-run all (event.Flush t) d old mid tt h short r.sound r.kept s put own e has
    sparing-run (event.Deliver t l) d is h short = settles-run all (event.Deliver t l) d old mid tt h short r.sound r.kept s put own e has
    sparing-run (event.Strike t l) d is h short = spared-run (strike-lost d t l old mid r.sound h) is
    sparing-run (event.Damage t l octets) d is h short = spared-run (damage-lost d t l octets old mid h) is
    sparing-run (event.Put t source destination) d is h short = aside-run s put old mid r1 own1 e has (put-aside s put old r.sound own e has mid d t source destination h)
    sparing-run (event.Cancel t of) d is h short = aside-run s put old mid r1 own1 e has (call-aside put.id of is old mid d t calls.Cancel h)
    sparing-run (event.Suspend t of) d is h short = aside-run s put old mid r1 own1 e has (call-aside put.id of is old mid d t calls.Suspend h)
    sparing-run (event.Resume t of) d is h short = aside-run s put old mid r1 own1 e has (call-aside put.id of is old mid d t calls.Resume h)
    sparing-run (event.Prompt t of keep_alive) d is h short = aside-run s put old mid r1 own1 e has (call-aside put.id of is old mid d t (calls.Prompt keep_alive) h)
    sparing-run (event.Tick t now) d is h short = aside-run s put old mid r1 own1 e has (tick-aside put.id t now old mid r.sound (told-time t now d old mid h) is)

  passes : (s : Side) (put : Put) (hs : List Happening) (old new : WorldState) → IsReached old → IsPutOf s put old → (e : Exchange) → HasExchange s put old e → AreSparing put.id hs old new →
      Passes s put e old new
  passes s put [] old new r own e has are =
      subst (λ (w : WorldState). Passes s put e old w) (sym are) (record { reached = r; own = own; policy = λ t. refl; run = runs-on-same old s put own e has })
  passes s put (h ∷ hs) old new r own e has are =
      let mid : WorldState = h.after in
      let step : Steps h.event h.did old mid = are.1 in
      let r1 : IsReached mid = reached-next all h.event h.did old mid step r in
      let own1 : IsPutOf s put mid = puts-kept all h.event h.did old mid step r.sound s put own in
      let p1 : (t : Side) → policy_at t mid ≡ policy_at t old = policy-next all h.event h.did old mid step r.sound in
      let first : RunsTo s put e mid = sparing-run s put old mid r r1 own own1 e has h.event h.did are.0 step are.2 in
      let rest : Passes s put first.end mid new = passes s put hs mid new r1 own1 first.end first.is_end are.3 in
      let both_runs = runs-both first.steps rest.run.steps put e first.end rest.run.end first.runs rest.run.runs in
      record {
        reached = rest.reached;
        own = rest.own;
        policy = λ t. rest.policy t ∙ p1 t;
        run = record { steps = both_runs.0; end = rest.run.end; is_end = rest.run.is_end; runs = both_runs.1 };
      }

  -- ---- the whole round
  -- It comes to this, and its sender was answered or its receiver is closed.
  pub record Gains (s : Side) (put : Put) (eof nak finished : ℕ) (old new : WorldState) (e : Exchange) : Type 0 where
    pub reached : IsReached new
    pub own : IsPutOf s put new
    pub policy : (t : Side) → policy_at t new ≡ policy_at t old
    pub comes : Comes false s put (suc eof) (suc nak) (suc finished) old new e
    pub gained : (maybe is_closed comes.end.receiver ≡ true) ⊎ ((is_answered e.sender ≡ false) × (is_answered comes.end.sender ≡ true))

  below-there : (there : Limits) (nak finished : ℕ) (o : Option ReceiverState) → HoldsThere there (suc nak) (suc finished) o → IsReceiverBelowNow there o
  below-there there nak finished None h = tt
  below-there there nak finished (Some r) h = (
    λ phase _. (let low : r.nak_count + suc nak ≤ there.nak = (h (ap is_closed_in phase)).0 in omega (arith, low)),
    λ phase. (let low : r.finished_count + suc finished ≤ there.finished = (h (ap is_closed_in phase)).1 in omega (arith, low)),
  )

  closed-holds : (there : Limits) (nak finished : ℕ) (o : Option ReceiverState) → maybe is_closed o ≡ true → HoldsThere there nak finished o
  closed-holds there nak finished None closed = absurd (false≢true closed)
  closed-holds there nak finished (Some r) closed = λ open_. absurd (both_ways (is_closed r) open_ closed)

  -- from its expiry on
  module _ (old b : WorldState) (eof nak finished : ℕ) (put : Put) (g : GetsThrough put.id old b) (r : IsReached g.held) where
    abbrev a : WorldState
    a = g.held

    abbrev GainsAt : (s : Side) → Type 0
    GainsAt s = (own : IsPutOf s put a) (e : Exchange) (has : HasExchange s put a e) → IsAtRest e
        → Holds false (policy_at s a).limits (policy_at (other s) a).limits put (suc eof) (suc nak) (suc finished) e → Gains s put eof nak finished a b e

    abbrev pol : Policy
    pol = policy_at g.side a

    h : TellsTime g.side g.now a g.ticked
    h = told-time g.side g.now did.Applied a g.ticked g.ticks

    r1 : IsReached g.ticked
    r1 = reached-next all (event.Tick g.side g.now) did.Applied a g.ticked g.ticks r

    p1 : (u : Side) → policy_at u g.ticked ≡ policy_at u a
    p1 = policy-next all (event.Tick g.side g.now) did.Applied a g.ticked g.ticks r.sound

    own-then : (s : Side) → IsPutOf s put a → IsPutOf s put g.ticked
    own-then s own = puts-kept all (event.Tick g.side g.now) did.Applied a g.ticked g.ticks r.sound s put own

    abbrev ks : List Kind
    ks = kinds g.side g.now a g.ticked r r1 h put

    abbrev due-now : Kind → ℕ
    due-now k = due g.side g.now a g.ticked r r1 h put k

    expired-now : Contains ks g.kind
    expired-now = all-due g.side g.now a g.ticked r r1 h put g.kind g.expires

    -- it stood still before
    stands : (s : Side) (e : Exchange) (has : HasExchange s put a e) → IsAtRest e → Holds false (policy_at s a).limits (policy_at (other s) a).limits put (suc eof) (suc nak) (suc finished) e
        → Stands (policy_at s a).limits (policy_at (other s) a).limits put e
    stands s e has rests holds = record {
      course = holds.course;
      below = record {
        sender = λ phase none. (
            let low : e.sender.count + suc eof ≤ (policy_at s a).limits.eof = holds.sender (ap (λ p. is_answered_in p e.sender.acknowledged) phase ∙ none) in
            omega (arith, low));
        receiver = below-there (policy_at (other s) a).limits nak finished e.receiver holds.receiver;
      };
      rests = rests;
    }

    -- a timer of its sender
    gains-here : GainsAt g.side
    gains-here own e has at_rest holds =
        let here : Limits = pol.limits in
        let there : Limits = (policy_at (other g.side) a).limits in
        let own1 : IsPutOf g.side put g.ticked = own-then g.side own in
        let x = has-exchange g.side put g.ticked r1.sound r1.kept.course own1 in
        let most : due-now eofs.EofAck ≤ 1 = one-most _ in
        let holds1 : Holds false here there put (due-now eofs.EofAck + eof) (suc nak) (suc finished) e =
        fewer false here there put (suc eof) (suc nak) (suc finished) (due-now eofs.EofAck + eof) (suc nak) (suc finished) e (omega (arith, most)) (omega arith) (omega arith) holds in
        let comes : Comes false g.side put eof (suc nak) (suc finished) a g.ticked e =
        ticks-here g.side g.now a g.ticked r r1 h false put e has x.0 x.1 eof (suc nak) (suc finished) g.calm holds1 in
        let d : Exchange = comes.end in
        let more : TellsMore (expire_sender pol put ks e) d = told-here g.side g.now a g.ticked r r1 h false put e has d comes.has eof (suc nak) (suc finished) g.calm holds1 in
        let pass : Passes g.side put d g.ticked b = passes g.side put g.rest g.ticked b r1 own1 d comes.has g.spare in
        let end : Exchange = pass.run.end in
        let k = runs-hold false here there put eof (suc nak) (suc finished) pass.run.steps d end (its-sender g.ticked r1.sound g.side put d own1 comes.has) pass.run.runs comes.holds in
        let runs = told-run pass.run.steps put (expire_sender pol put ks e) d end more pass.run.runs in
        let its : IsItsSender put e.sender = its-sender a r.sound g.side put e own has in
        let waits_so : AreWaitedBySender e.sender ks = λ k c. sym (ap (waits_for k) has.is.is_sender) ∙ waited g.side g.now a g.ticked r r1 h put k c in
        let rests : IsAtRest end = quiet-rests g.side put b end pass.run.is_end g.quiet in
        let round = sender-round here there (ignoring pol) runs.0 put e end ks refl refl its (stands g.side e has at_rest holds) waits_so
        (subst (λ m. Runs runs.0 put m end) (sym (ignored-sender pol put ks e (ignored g.side g.now a g.ticked r r1 h put g.calm))) runs.1) rests in
        let is_eof : g.kind ≡ eofs.EofAck = eof-only g.kind e.sender g.answerable (waits_so g.kind expired-now) in
        let answered : is_answered end.sender ≡ true = round.1.1.1 (subst (λ j. Contains ks j) is_eof expired-now) in
        let unanswered : is_answered e.sender ≡ false = waits-undone false e.sender (subst (λ j. sender_waits j e.sender ≡ true) is_eof (waits_so g.kind expired-now)) in
        record {
          reached = pass.reached;
          own = pass.own;
          policy = λ u. pass.policy u ∙ p1 u;
          comes = record {
            end = end;
            has = pass.run.is_end;
            holds = record { course = k.0.course; sender = λ undone. absurd (both_ways (is_answered end.sender) undone answered); receiver = k.0.receiver };
            onward = onward-both e d end comes.onward k.1;
          };
          gained = inr (unanswered, answered);
        }

    -- one of its receiver
    gains-there : GainsAt (other g.side)
    gains-there own e has at_rest holds = by e.receiver refl (record_of put.id (entity_at g.side a).table.records) refl receiver-was (waited g.side g.now a g.ticked r r1 h put g.kind expired-now)
      where
        s : Side
        s = other g.side

        receiver-was : IsReceiverIn (record_of put.id (entity_at g.side a).table.records) e.receiver
        receiver-was = subst (λ (u : Side). IsReceiverIn (record_of put.id (entity_at u a).table.records) e.receiver) (other-other g.side) has.is.is_receiver

        some : (r0 : ReceiverState) → e.receiver ≡ Some r0 → (m : OctetMap) → record_of put.id (entity_at g.side a).table.records ≡ Some (Receives r0 m) → Gains (other g.side) put eof nak finished a b e
        some r0 is m at =
            let here : Limits = (policy_at (other g.side) a).limits in
            let there : Limits = (policy_at (other (other g.side)) a).limits in
            let own1 : IsPutOf (other g.side) put g.ticked = own-then (other g.side) own in
            let x = has-exchange (other g.side) put g.ticked r1.sound r1.kept.course own1 in
            let naks : due-now eofs.Nak ≤ 1 = one-most _ in
            let finisheds : due-now eofs.FinishedAck ≤ 1 = one-most _ in
            let holds1 : Holds false here there put (suc eof) (due-now eofs.Nak + nak) (due-now eofs.FinishedAck + finished) e =
            fewer false here there put (suc eof) (suc nak) (suc finished) (suc eof) (due-now eofs.Nak + nak) (due-now eofs.FinishedAck + finished) e
            (omega arith) (omega (arith, naks)) (omega (arith, finisheds)) holds in
            let comes : Comes false (other g.side) put (suc eof) nak finished a g.ticked e =
            ticks-there g.side g.now a g.ticked r r1 h false put own e has x.0 x.1 (suc eof) nak finished g.calm holds1 in
            let d : Exchange = comes.end in
            let found : Expired g.side g.now a g.ticked r r1 h false put own e has d comes.has (suc eof) nak finished g.calm holds1 =
            expired-some g.side g.now a g.ticked r r1 h false put own e has d comes.has (suc eof) nak finished g.calm holds1 r0 is m at in
            let pass : Passes (other g.side) put d g.ticked b = passes (other g.side) put g.rest g.ticked b r1 own1 d comes.has g.spare in
            let end : Exchange = pass.run.end in
            let k = runs-hold false here there put (suc eof) nak finished pass.run.steps d end (its-sender g.ticked r1.sound (other g.side) put d own1 comes.has) pass.run.runs comes.holds in
            let runs = told-run pass.run.steps put found.expired d end found.more pass.run.runs in
            let its : IsItsSender put e.sender = its-sender a r.sound (other g.side) put e own has in
            let waits_so : (k : Kind) → Contains ks k → waits k r0 ≡ true = λ k c. sym (ap (waits_for k) at) ∙ waited g.side g.now a g.ticked r r1 h put k c in
            let rests : IsAtRest end = quiet-rests (other g.side) put b end pass.run.is_end g.quiet in
            let round = receiver-round here there (ignoring pol) runs.0 put e found.expired end ks (sym (ap (λ (u : Side). (policy_at u a).limits) (other-other g.side))) refl its
            (stands (other g.side) e has at_rest holds) (λ q same. its-receiver a r.sound r.kept (other g.side) put e q has same)
            (subst (λ o. AreWaitedByReceiver o ks) (sym is) waits_so)
            (ignored-receiver pol put ks e found.expired (ignored g.side g.now a g.ticked r r1 h put g.calm) found.expires) runs.1 rests in
            let closed : maybe is_closed end.receiver ≡ true = elim (nak-or-finished g.kind r0 g.answerable (waits_so g.kind expired-now)) [
              | inl nak ↦ round.1.1.1 (inl (subst (λ j. Contains ks j) nak expired-now))
              | inr fin ↦ round.1.1.1 (inr (subst (λ j. Contains ks j) fin expired-now))
            ] in
            record {
              reached = pass.reached;
              own = pass.own;
              policy = λ u. pass.policy u ∙ p1 u;
              comes = record {
                end = end;
                has = pass.run.is_end;
                holds = record { course = k.0.course; sender = k.0.sender; receiver = closed-holds there (suc nak) (suc finished) end.receiver closed };
                onward = onward-both e d end comes.onward k.1;
              };
              gained = inl closed;
            }

        by : (o : Option ReceiverState) → e.receiver ≡ o → (q : Option Seen) → record_of put.id (entity_at g.side a).table.records ≡ q → IsReceiverIn q o → waits_for g.kind (record_of put.id
            (entity_at g.side a).table.records) ≡ true → Gains (other g.side) put eof nak finished a b e
        by o is None at here waits = absurd (false≢true (sym (ap (waits_for g.kind) at) ∙ waits))
        by None is (Some (Sends x)) at here waits = absurd here
        by None is (Some (Receives u m)) at here waits = absurd here
        by (Some r0) is (Some (Sends x)) at here waits = absurd here
        by (Some r0) is (Some (Receives u m)) at here waits = some r0 is m (at ∙ ap (λ (q : ReceiverState). Some (Receives q m)) (sym here))

    gains-at : (s : Side) → GainsAt s
    gains-at = both GainsAt g.side gains-here gains-there

  -- and with the events before it, in which the transaction stays as it is
  pub gains : (a b : WorldState) → IsReached a → (eof nak finished : ℕ) (put : Put) → GetsThrough put.id a b → (s : Side) → (own : IsPutOf s put a) (e : Exchange) (has : HasExchange s put a e)
      → Holds false (policy_at s a).limits (policy_at (other s) a).limits put (suc eof) (suc nak) (suc finished) e → Gains s put eof nak finished a b e
  gains a b r eof nak finished put g s own e has holds =
      let p : Passes s put e a g.held = passes s put g.before a g.held r own e has g.spare_before in
      let at_rest : IsAtRest e = quiet-rests s put a e has g.rests in
      let d : Exchange = p.run.end in
      let more : TellsMore e d = rest-runs p.run.steps put e d at_rest p.run.runs in
      let k = runs-hold false (policy_at s a).limits (policy_at (other s) a).limits put (suc eof) (suc nak) (suc finished) p.run.steps e d (its-sender a r.sound s put e own has) p.run.runs holds in
      let t : Gains s put eof nak finished g.held b d = gains-at a b eof nak finished put g p.reached s p.own d p.run.is_end (rests-told e d more at_rest)
      (limits-so false put (suc eof) (suc nak) (suc finished) s a g.held d p.policy k.0) in
      record {
        reached = t.reached;
        own = t.own;
        policy = λ u. t.policy u ∙ p.policy u;
        comes = record {
          end = t.comes.end;
          has = t.comes.has;
          holds = limits-so false put (suc eof) (suc nak) (suc finished) s g.held a t.comes.end (λ u. sym (p.policy u)) t.comes.holds;
          onward = onward-both e d t.comes.end k.1 t.comes.onward;
        };
        gained = elim t.gained [
          | inl closed ↦ inl closed
          | inr answered ↦ inr (sym (ap (λ (x : Exchange). is_answered x.sender) more.is) ∙ answered.0, answered.1)
        ];
      }
