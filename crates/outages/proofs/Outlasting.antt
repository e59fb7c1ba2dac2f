-- A transaction that may try again in all events of an outage, from its first world to its last one.
use Rattle.std.proofs.Common.{◌≡◌, inl, inr, ℕ, ◌+◌, ◌≤◌, ◌&&◌, Bool, true, false, List, [], ◌∷◌, refl, sym, ap, subst, ◌∙◌, arith}
use Rattle.aos_frame.specs.declared.config.Lane.{Lane}
use Rattle.cfdp_directives.specs.declared.user.limits.Limits.{Limits}
use Rattle.cfdp_directives.specs.declared.user.policy.Policy.{Policy}
use Rattle.cfdp_directives.specs.User.Put.{Put}
use Rattle.cfdp_timers.specs.declared.kind.Kind.{Kind}
use Rattle.cfdp_timers.specs.declared.kind.Kind.TheVariants.{EofAck, Nak, FinishedAck}
use Rattle.cfdp_timers.specs.Due.{is_due}
use Rattle.cfdp_entity.specs.declared.request.Request.TheVariants as calls
use Rattle.cfdp_entity.specs.Entity.{Counted}
use Rattle.station_pair.specs.declared.side.Side.{Side}
use Rattle.station_pair.specs.declared.side.Side.TheVariants.{One, Two}
use Rattle.station_pair.specs.Stations.{other}
use Rattle.link_sim.specs.declared.event.Event.{Event}
use Rattle.link_sim.specs.declared.event.Event.TheVariants as event
use Rattle.link_sim.specs.declared.event.Applied.{Applied}
use Rattle.link_sim.specs.Found.{HasExchange, IsPutOf, RunsTo}
use Rattle.link_sim.specs.Recovering.{armed_at}
use Rattle.link_sim.specs.Runs.{Exchange, IsItsSender, Runs}
use Rattle.link_sim.specs.Settling.{IsOfSettling, KeepsAll, all_shortages}
use Rattle.link_sim.specs.Waiting.{policy_at}
use Rattle.link_sim.specs.World.State.{WorldState, entity_at}
use Rattle.link_sim.specs.World.Steps.{Steps, TellsTime}
use Rattle.link_sim.proofs.Clean.Settles.{CleanLaws}
use Rattle.link_sim.proofs.Events.Keeping.{both}
use Rattle.link_sim.proofs.Found.Exchanges.{has-exchange}
use Rattle.link_sim.proofs.Recovery.Along.{told-time}
use Rattle.link_sim.proofs.Recovery.Records.{its-sender}
use Rattle.link_sim.proofs.Runs.World.{puts-kept, settles-run}
use Rattle.link_sim.proofs.Stages.Keep.{done-runs}
use Rattle.link_sim.proofs.Stages.Runs.{runs-course}
use Rattle.outages.specs.Outage.{AreOfOutage, Happening, IsOfOutage}
use Rattle.outages.specs.Tries.{AreCalm, IsCalm, expires_at, expiries, is_side, one_if, time_told}
use Rattle.outages.proofs.Aside.{GoesAside, aside-run, call-aside, put-aside}
use Rattle.outages.proofs.Budgets.{fewer-here, fewer-there, runs-here, runs-there}
use Rattle.outages.proofs.Lost.{Loses, left-after}
use Rattle.outages.proofs.Ticking.{due, ticks-here, ticks-there}
use Rattle.outages.proofs.Tracking.{Comes, HasLost, Holds, IsReached, Onward, damage-lost, lost-holds, onward-both, onward-same, policy-next, reached-next, strike-lost}

-- ---- with fewer tries
pub fewer : (strict : Bool) (here there : Limits) (put : Put) (a b c a1 b1 c1 : ℕ) (e : Exchange) → a1 ≤ a → b1 ≤ b → c1 ≤ c → Holds strict here there put a b c e → Holds strict here there put a1 b1 c1 e
fewer strict here there put a b c a1 b1 c1 e la lb lc h = record {
  course = h.course;
  sender = fewer-here strict here a a1 e.sender la h.sender;
  receiver = fewer-there there b b1 c c1 e.receiver lb lc h.receiver;
}

-- the same of limits that stay
pub limits-so : (strict : Bool) (put : Put) (a b c : ℕ) (s : Side) (old new : WorldState) (e : Exchange) → ((t : Side) → policy_at t new ≡ policy_at t old) →
    Holds strict (policy_at s old).limits (policy_at (other s) old).limits put a b c e → Holds strict (policy_at s new).limits (policy_at (other s) new).limits put a b c e
limits-so strict put a b c s old new e same h =
    subst (λ (p : Policy). Holds strict p.limits (policy_at (other s) new).limits put a b c e) (sym (same s))
    (subst (λ (p : Policy). Holds strict (policy_at s old).limits p.limits put a b c e) (sym (same (other s))) h)

-- ---- a run of its own
module _ (strict : Bool) (here there : Limits) (put : Put) (eof nak finished : ℕ) where
  pub runs-hold : (n : ℕ) (a b : Exchange) → IsItsSender put a.sender → Runs n put a b → Holds strict here there put eof nak finished a →
      Holds strict here there put eof nak finished b × Onward a b
  runs-hold n a b its runs h = (
    record {
      course = runs-course n put true false false false a b its.is_sender.size h.course runs;
      sender = runs-here strict here eof n put a b runs h.sender;
      receiver = runs-there there nak finished n put a b its.is_sender.size h.course runs h.receiver;
    },
    (let d = done-runs n put a b runs in record { answered = d.0; closed = d.1 }),
  )

side-same : (s : Side) → is_side s s ≡ true
side-same One = refl
side-same Two = refl

side-twice : (s : Side) → is_side (other (other s)) s ≡ true
side-twice One = refl
side-twice Two = refl

module _ (all : CleanLaws) where
  -- ---- one event
  module _ (strict : Bool) (s : Side) (put : Put) (old new : WorldState) (r : IsReached old) (next : IsReached new) (own : IsPutOf s put old) (own_then : IsPutOf s put new) (e : Exchange)
      (has : HasExchange s put old e) where
    abbrev At : ℕ → ℕ → ℕ → Type 0
    At a b c = Holds strict (policy_at s old).limits (policy_at (other s) old).limits put a b c e

    settled-comes : (eof nak finished : ℕ) → RunsTo s put e new → At eof nak finished → Comes strict s put eof nak finished old new e
    settled-comes eof nak finished run h =
        let k = runs-hold strict (policy_at s old).limits (policy_at (other s) old).limits put eof nak finished run.steps e run.end (its-sender old r.sound s put e own has) run.runs h in
        record { end = run.end; has = run.is_end; holds = k.0; onward = k.1 }

    same-comes : (eof nak finished : ℕ) → new ≡ old → At eof nak finished → Comes strict s put eof nak finished old new e
    same-comes eof nak finished is h = record { end = e; has = subst (λ (w : WorldState). HasExchange s put w e) (sym is) has; holds = h; onward = onward-same e }

    pub entities-same : (T : Side) (l : Lane) → Loses T l old new → (t : Side) → entity_at t new ≡ entity_at t old
    entities-same T l h = both (λ t. entity_at t new ≡ entity_at t old) T (ap (λ x. x.entity.state) h.loses.station) (ap (λ (c : Counted). c.state) h.loses.entity)

    lost-comes : (eof nak finished : ℕ) → HasLost old new → At eof nak finished → Comes strict s put eof nak finished old new e
    lost-comes eof nak finished (inl is) h = same-comes eof nak finished is h
    lost-comes eof nak finished (inr lost) h =
        let x = has-exchange s put new next.sound next.kept.course own_then in
        let k = lost-holds s put old new e has x.0 x.1 (entities-same lost.0 lost.1.0 lost.1.1) strict (policy_at s old).limits (policy_at (other s) old).limits eof nak finished
        (left-after lost.0 lost.1.0 old new lost.1.1) h in
        record { end = x.0; has = x.1; holds = k.0; onward = k.1 }

  -- ---- the time
  module _ (T : Side) (now : ℕ) (old new : WorldState) (r : IsReached old) (next : IsReached new) (h : TellsTime T now old new) where
    abbrev by_tick : Put → Side → Kind → ℕ
    by_tick put s k = one_if (expires_at s put.id k old (event.Tick T now))

    abbrev TicksAt : (s : Side) → Type 0
    TicksAt s = (strict : Bool) (put : Put) (own : IsPutOf s put old) (own_then : IsPutOf s put new) (e : Exchange) (has : HasExchange s put old e) (eof nak finished : ℕ)
        → IsCalm put.id old (event.Tick T now)
        → Holds strict (policy_at s old).limits (policy_at (other s) old).limits put (by_tick put s EofAck + eof) (by_tick put (other s) Nak + nak) (by_tick put (other s) FinishedAck + finished) e
        → Comes strict s put eof nak finished old new e

    -- what expires here
    counted-here : (put : Put) (s : Side) (k : Kind) → is_side s T ≡ true → by_tick put s k ≡ due T now old new r next h put k
    counted-here put s k is = ap (λ b. one_if (b && is_due (armed_at T old) (time_told T now old) (put.id, k))) is

    pub ticks-at : (s : Side) → TicksAt s
    ticks-at = both TicksAt T
        (λ strict put own own_then e has eof nak finished calm holds. (
        let x = has-exchange T put new next.sound next.kept.course own_then in
        let here : by_tick put T EofAck ≡ due T now old new r next h put EofAck = counted-here put T EofAck (side-same T) in
        ticks-here T now old new r next h strict put e has x.0 x.1 eof nak finished calm
        (fewer strict (policy_at T old).limits (policy_at (other T) old).limits put (by_tick put T EofAck + eof) (by_tick put (other T) Nak + nak) (by_tick put (other T) FinishedAck + finished)
        (due T now old new r next h put EofAck + eof) nak finished e (omega (arith, here)) (omega arith) (omega arith) holds)))
        (λ strict put own own_then e has eof nak finished calm holds. (
        let x = has-exchange (other T) put new next.sound next.kept.course own_then in
        let naks : by_tick put (other (other T)) Nak ≡ due T now old new r next h put Nak = counted-here put (other (other T)) Nak (side-twice T) in
        let finisheds : by_tick put (other (other T)) FinishedAck ≡ due T now old new r next h put FinishedAck = counted-here put (other (other T)) FinishedAck (side-twice T) in
        ticks-there T now old new r next h strict put own e has x.0 x.1 eof nak finished calm
        (fewer strict (policy_at (other T) old).limits (policy_at (other (other T)) old).limits put (by_tick put (other T) EofAck + eof) (by_tick put (other (other T)) Nak + nak)
        (by_tick put (other (other T)) FinishedAck + finished)
        eof (due T now old new r next h put Nak + nak) (due T now old new r next h put FinishedAck + finished) e (omega arith) (omega (arith, naks)) (omega (arith, finisheds)) holds)))

  -- ---- any event of an outage
  module _ (strict : Bool) (s : Side) (put : Put) (old new : WorldState) (r : IsReached old) (own : IsPutOf s put old) (e : Exchange) (has : HasExchange s put old e) (eof nak finished : ℕ) where
    abbrev Before : Event → Type 0
    Before ev = Holds strict (policy_at s old).limits (policy_at (other s) old).limits put (one_if (expires_at s put.id EofAck old ev) + eof) (one_if (expires_at (other s) put.id Nak old ev) + nak)
        (one_if (expires_at (other s) put.id FinishedAck old ev) + finished) e

    settles : (ev : Event) (d : Applied) → IsOfSettling ev → Steps ev d old new → KeepsAll (all_shortages old) (all_shortages new) →
        Holds strict (policy_at s old).limits (policy_at (other s) old).limits put (0 + eof) (0 + nak) (0 + finished) e → Comes strict s put eof nak finished old new e
    settles ev d of_it h spared holds =
        settled-comes strict s put old new r (reached-next all ev d old new h r) own (puts-kept all ev d old new h r.sound s put own) e has eof nak finished
        (settles-run all ev d old new of_it h spared r.sound r.kept s put own e has)
        (fewer strict (policy_at s old).limits (policy_at (other s) old).limits put (0 + eof) (0 + nak) (0 + finished) eof nak finished e (omega arith) (omega arith) (omega arith) holds)

    loses : (ev : Event) (d : Applied) → Steps ev d old new → HasLost old new →
        Holds strict (policy_at s old).limits (policy_at (other s) old).limits put (0 + eof) (0 + nak) (0 + finished) e → Comes strict s put eof nak finished old new e
    loses ev d h lost holds =
        lost-comes strict s put old new r (reached-next all ev d old new h r) own (puts-kept all ev d old new h r.sound s put own) e has eof nak finished lost
        (fewer strict (policy_at s old).limits (policy_at (other s) old).limits put (0 + eof) (0 + nak) (0 + finished) eof nak finished e (omega arith) (omega arith) (omega arith) holds)

    asides : (ev : Event) (d : Applied) → Steps ev d old new → GoesAside put.id old new →
        Holds strict (policy_at s old).limits (policy_at (other s) old).limits put (0 + eof) (0 + nak) (0 + finished) e → Comes strict s put eof nak finished old new e
    asides ev d h aside holds =
        let next : IsReached new = reached-next all ev d old new h r in
        let own_then : IsPutOf s put new = puts-kept all ev d old new h r.sound s put own in
        settled-comes strict s put old new r next own own_then e has eof nak finished (aside-run s put old new next own_then e has aside)
        (fewer strict (policy_at s old).limits (policy_at (other s) old).limits put (0 + eof) (0 + nak) (0 + finished) eof nak finished e (omega arith) (omega arith) (omega arith) holds)

    pub event-comes : (ev : Event) (d : Applied) → IsOfOutage put.id ev → IsCalm put.id old ev → Steps ev d old new → KeepsAll (all_shortages old) (all_shortages new) → Before ev →
        Comes strict s put eof nak finished old new e
    event-comes (event.Poll t) d is calm h spared holds = settles (event.Poll t) d tt h spared holds
    event-comes (event.Flush t) d is calm h spared holds = settles (event.Flush t) d tt h spared holds
    event-comes (event.Deliver t l) d is calm h spared holds = settles (event.Deliver t l) d tt h spared holds
    event-comes (event.Strike t l) d is calm h spared holds = loses (event.Strike t l) d h (strike-lost d t l old new r.sound h) holds
    event-comes (event.Damage t l octets) d is calm h spared holds = loses (event.Damage t l octets) d h (damage-lost d t l octets old new h) holds
    event-comes (event.Tick t now) d is calm h spared holds =
        ticks-at t now old new r (reached-next all (event.Tick t now) d old new h r) (told-time t now d old new h) s strict put own
        (puts-kept all (event.Tick t now) d old new h r.sound s put own) e has eof nak finished calm holds
    event-comes (event.Put t source destination) d is calm h spared holds = asides (event.Put t source destination) d h (put-aside s put old r.sound own e has new d t source destination h) holds
    event-comes (event.Cancel t of) d is calm h spared holds = asides (event.Cancel t of) d h (call-aside put.id of is old new d t calls.Cancel h) holds
    event-comes (event.Suspend t of) d is calm h spared holds = asides (event.Suspend t of) d h (call-aside put.id of is old new d t calls.Suspend h) holds
    event-comes (event.Resume t of) d is calm h spared holds = asides (event.Resume t of) d h (call-aside put.id of is old new d t calls.Resume h) holds
    event-comes (event.Prompt t of keep_alive) d is calm h spared holds = asides (event.Prompt t of keep_alive) d h (call-aside put.id of is old new d t (calls.Prompt keep_alive) h) holds

  -- ---- all events of an outage
  -- What they come to.
  pub record Outlasts (strict : Bool) (s : Side) (put : Put) (eof nak finished : ℕ) (old new : WorldState) (e : Exchange) : Type 0 where
    pub reached : IsReached new
    pub own : IsPutOf s put new
    pub policy : (t : Side) → policy_at t new ≡ policy_at t old
    pub comes : Comes strict s put eof nak finished old new e

  pub outlasts : (strict : Bool) (s : Side) (put : Put) (hs : List Happening) (old new : WorldState) → IsReached old → IsPutOf s put old → (e : Exchange) → HasExchange s put old e →
      (eof nak finished : ℕ) → AreOfOutage put.id hs old new → AreCalm put.id old hs
      → Holds strict (policy_at s old).limits (policy_at (other s) old).limits put (expiries put.id old hs s EofAck + eof) (expiries put.id old hs (other s) Nak + nak) (expiries put.id old hs (other s) FinishedAck + finished) e
      → Outlasts strict s put eof nak finished old new e
  outlasts strict s put [] old new r own e has eof nak finished are calm holds =
      subst (λ (w : WorldState). Outlasts strict s put eof nak finished old w e) (sym are) (record {
        reached = r;
        own = own;
        policy = λ t. refl;
        comes = record {
          end = e;
          has = has;
          holds = fewer strict (policy_at s old).limits (policy_at (other s) old).limits put (0 + eof) (0 + nak) (0 + finished) eof nak finished e (omega arith) (omega arith) (omega arith) holds;
          onward = onward-same e;
        };
      })
  outlasts strict s put (h ∷ hs) old new r own e has eof nak finished are calm holds =
      let mid : WorldState = h.after in
      let step : Steps h.event h.did old mid = are.1 in
      let r1 : IsReached mid = reached-next all h.event h.did old mid step r in
      let own1 : IsPutOf s put mid = puts-kept all h.event h.did old mid step r.sound s put own in
      let p1 : (t : Side) → policy_at t mid ≡ policy_at t old = policy-next all h.event h.did old mid step r.sound in
      let a : ℕ = expiries put.id mid hs s EofAck in
      let b : ℕ = expiries put.id mid hs (other s) Nak in
      let c : ℕ = expiries put.id mid hs (other s) FinishedAck in
      let x : ℕ = one_if (expires_at s put.id EofAck old h.event) in
      let y : ℕ = one_if (expires_at (other s) put.id Nak old h.event) in
      let z : ℕ = one_if (expires_at (other s) put.id FinishedAck old h.event) in
      let first : Comes strict s put (a + eof) (b + nak) (c + finished) old mid e = event-comes strict s put old mid r own e has (a + eof) (b + nak) (c + finished) h.event h.did are.0 calm.0 step are.2
      (fewer strict (policy_at s old).limits (policy_at (other s) old).limits put ((x + a) + eof) ((y + b) + nak) ((z + c) + finished) (x + (a + eof)) (y + (b + nak)) (z + (c + finished)) e
      (omega arith) (omega arith) (omega arith) holds) in
      let rest : Outlasts strict s put eof nak finished mid new first.end = outlasts strict s put hs mid new r1 own1 first.end first.has eof nak finished are.3 calm.1
      (limits-so strict put (a + eof) (b + nak) (c + finished) s old mid first.end p1 first.holds) in
      record {
        reached = rest.reached;
        own = rest.own;
        policy = λ t. rest.policy t ∙ p1 t;
        comes = record {
          end = rest.comes.end;
          has = rest.comes.has;
          holds = limits-so strict put eof nak finished s mid old rest.comes.end (λ t. sym (p1 t)) rest.comes.holds;
          onward = onward-both e first.end rest.comes.end first.onward rest.comes.onward;
        };
      }
