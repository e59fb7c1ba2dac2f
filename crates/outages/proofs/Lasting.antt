-- Expiries of a timer lie a whole wait apart, so that there are few of them in a short outage.
use Rattle.std.proofs.Common.{◌≡◌, inl, inr, ℕ, ◌+◌, ◌-◌, ◌*◌, ◌^◌, ◌<◌, ◌≤◌, ◌&&◌, nat_le, Bool, true, false, List, [], ◌∷◌, max, Option, Some, None, refl, sym, ap, subst, ◌∙◌, arith}
use Rattle.std.specs.FinMap as map
use Rattle.std.specs.Option.{option_map_or}
use Rattle.std.proofs.lemmas.Bool.{cases_lt, false≢true, leb-true}
use Rattle.std.proofs.Math.Nat.{mul-le-mul_right}
use Rattle.aos_frame.specs.declared.config.Lane.{Lane}
use Rattle.cfdp_header.specs.declared.value.TransactionId.{TransactionId}
use Rattle.cfdp_directives.specs.declared.user.policy.Policy.{Policy}
use Rattle.cfdp_store.specs.declared.stored.Stored.TheVariants as storeds
use Rattle.cfdp_timers.specs.declared.kind.Kind.{Kind}
use Rattle.cfdp_timers.specs.declared.kind.Kind.TheVariants.{EofAck, Nak, FinishedAck}
use Rattle.cfdp_timers.specs.Due.{is_due}
use Rattle.cfdp_timers.specs.Waits.{deadline_after}
use Rattle.cfdp_entity.specs.declared.request.Request.{Request}
use Rattle.cfdp_entity.specs.declared.request.Request.TheVariants as calls
use Rattle.cfdp_entity.specs.Entity.{Counted, EntityState}
use Rattle.cfdp_entity.specs.Polling.{turn}
use Rattle.cfdp_entity.specs.Seen.{Seen, Sends, Receives}
use Rattle.cfdp_entity.specs.Table.{TableState, Ticks, record_of}
use Rattle.station_pair.specs.declared.refusal.Refusal.TheVariants as refusal
use Rattle.station_pair.specs.declared.side.Side.{Side}
use Rattle.station_pair.specs.declared.side.Side.TheVariants.{One, Two}
use Rattle.station_pair.specs.Stations.{other}
use Rattle.link_sim.specs.declared.event.Event.{Event}
use Rattle.link_sim.specs.declared.event.Event.TheVariants as event
use Rattle.link_sim.specs.declared.event.Applied.{Applied}
use Rattle.link_sim.specs.declared.event.Applied.TheVariants as did
use Rattle.link_sim.specs.Waiting.{policy_at}
use Rattle.link_sim.specs.World.State.{WorldState, entity_at, station_at}
use Rattle.link_sim.specs.World.Steps.{Calls, Damages, Delivers, Flushes, Polls, Puts, Steps, Strikes, TellsTime}
use Rattle.link_sim.proofs.Events.Keeping.{both}
use Rattle.link_sim.proofs.Recovery.Along.{told-time}
use Rattle.outages.specs.Lasting.{IsInTime, IsInTimeFor, IsShort, clock_at, earlier, earliest, time_of, wait_at}
use Rattle.outages.specs.Outage.{AreOfOutage, Happening}
use Rattle.outages.specs.Tries.{HasTriesIn, MayTry, expires_at, expiries, is_side, one_if}
use Rattle.outages.proofs.Deadlines.{IsSet, Later, called-later, due-later, hears-later, later-both, later-same, put-later, served-later, ticks-later}
use Rattle.outages.proofs.Tracking.{IsReached}

module _ (id : TransactionId) (k : Kind) where
  abbrev LaterAt : Side → (old new : WorldState) → Type 0
  LaterAt t old new = Later id k (entity_at t old).table (entity_at t new).table

  same-later : (old new : WorldState) → (t : Side) → entity_at t new ≡ entity_at t old → LaterAt t old new
  same-later old new t is = subst (λ (e : EntityState). Later id k (entity_at t old).table e.table) (sym is) (later-same id k (entity_at t old).table)

  none-later : (old new : WorldState) → new ≡ old → (t : Side) → LaterAt t old new
  none-later old new is t = same-later old new t (ap (entity_at t) is)

  -- ---- each event of an outage
  module _ (old new : WorldState) where
    polls-later : (d : Applied) (s : Side) → Polls d s old new → (t : Side) → LaterAt t old new
    polls-later did.Applied s (inl h) = both (λ t. LaterAt t old new) s (served-later id k storeds.Done (turn (entity_at s old)) (entity_at s old) (entity_at s new) h.served)
        (same-later old new (other s) (ap (λ x. x.entity.state) h.marks.spares.station))
    polls-later did.Applied s (inr h) = both (λ t. LaterAt t old new) s (served-later id k storeds.Refused (turn (entity_at s old)) (entity_at s old) (entity_at s new) h.served)
        (same-later old new (other s) (ap (λ x. x.entity.state) h.links.spares.station))
    polls-later did.Nothing s h = none-later old new h.1
    polls-later (did.Refused by) s h = absurd h

    flushes-later : (d : Applied) (s : Side) → Flushes d s old new → (t : Side) → LaterAt t old new
    flushes-later did.Applied s h = both (λ t. LaterAt t old new) s (same-later old new s (ap (λ (c : Counted). c.state) h.0.entity))
        (same-later old new (other s) (ap (λ x. x.entity.state) h.0.marks.spares.station))
    flushes-later did.Nothing s h = none-later old new h.1
    flushes-later (did.Refused by) s h = absurd h

    delivers-later : (d : Applied) (s : Side) (l : Lane) → Delivers d s l old new → (t : Side) → LaterAt t old new
    delivers-later did.Applied s l h = both (λ t. LaterAt t old new) s (same-later old new s (ap (λ x. x.entity.state) h.station))
        (hears-later id k h.given (station_at (other s) old).entity (station_at (other s) new).entity h.heard)
    delivers-later did.Nothing s l h = none-later old new h.1
    delivers-later (did.Refused by) s l h = absurd h

    strikes-later : (d : Applied) (s : Side) (l : Lane) → Strikes d s l old new → (t : Side) → LaterAt t old new
    strikes-later did.Applied s l h = both (λ t. LaterAt t old new) s (same-later old new s (ap (λ x. x.entity.state) h.station))
        (same-later old new (other s) (ap (λ x. x.entity.state) h.spares.station))
    strikes-later did.Nothing s l h = none-later old new h.1
    strikes-later (did.Refused (refusal.Put by)) s l h = absurd h
    strikes-later (did.Refused (refusal.Call by)) s l h = absurd h
    strikes-later (did.Refused refusal.LossRunTooLong) s l h = none-later old new h.same
    strikes-later (did.Refused refusal.NotDamaged) s l h = absurd h

    damages-later : (d : Applied) (s : Side) (l : Lane) (octets : List ℕ) → Damages d s l octets old new → (t : Side) → LaterAt t old new
    damages-later did.Applied s l octets h = both (λ t. LaterAt t old new) s (same-later old new s (ap (λ x. x.entity.state) h.loses.station))
        (same-later old new (other s) (ap (λ (c : Counted). c.state) h.loses.entity))
    damages-later did.Nothing s l octets h = none-later old new h.1
    damages-later (did.Refused (refusal.Put by)) s l octets h = absurd h
    damages-later (did.Refused (refusal.Call by)) s l octets h = absurd h
    damages-later (did.Refused refusal.LossRunTooLong) s l octets h = none-later old new h.same
    damages-later (did.Refused refusal.NotDamaged) s l octets h = none-later old new h.same

    told-later : (s : Side) (now : ℕ) → TellsTime s now old new → (t : Side) → LaterAt t old new
    told-later s now h = both (λ t. LaterAt t old new) s (ticks-later id k now (entity_at s old).table (entity_at s new).table h.ticked)
        (same-later old new (other s) (ap (λ x. x.entity.state) h.links.spares.station))

    puts-later : (d : Applied) (s : Side) (source destination : List ℕ) → Puts d s source destination old new → (t : Side) → LaterAt t old new
    puts-later did.Applied s source destination h = both (λ t. LaterAt t old new) s (put-later id k _ (entity_at s old) (entity_at s new) h.accepts.opened)
        (same-later old new (other s) (ap (λ x. x.entity.state) h.links.spares.station))
    puts-later did.Nothing s source destination h = absurd h
    puts-later (did.Refused (refusal.Put by)) s source destination h = both (λ t. LaterAt t old new) s (same-later old new s h.stays.entity)
        (same-later old new (other s) (ap (λ x. x.entity.state) h.stays.links.spares.station))
    puts-later (did.Refused (refusal.Call by)) s source destination h = absurd h
    puts-later (did.Refused refusal.LossRunTooLong) s source destination h = absurd h
    puts-later (did.Refused refusal.NotDamaged) s source destination h = absurd h

    calls-later : (d : Applied) (s : Side) (c : Request) (of : TransactionId) → Calls d s c of old new → (t : Side) → LaterAt t old new
    calls-later did.Applied s c of h = both (λ t. LaterAt t old new) s (called-later id k c of (entity_at s old) (entity_at s new) h.called)
        (same-later old new (other s) (ap (λ x. x.entity.state) h.links.spares.station))
    calls-later did.Nothing s c of h = absurd h
    calls-later (did.Refused (refusal.Put by)) s c of h = absurd h
    calls-later (did.Refused (refusal.Call by)) s c of h = none-later old new h.same
    calls-later (did.Refused refusal.LossRunTooLong) s c of h = absurd h
    calls-later (did.Refused refusal.NotDamaged) s c of h = absurd h

    event-later : (ev : Event) (d : Applied) → Steps ev d old new → (t : Side) → LaterAt t old new
    event-later (event.Poll s) d h = polls-later d s h
    event-later (event.Flush s) d h = flushes-later d s h
    event-later (event.Deliver s l) d h = delivers-later d s l h
    event-later (event.Strike s l) d h = strikes-later d s l h
    event-later (event.Damage s l octets) d h = damages-later d s l octets h
    event-later (event.Tick s now) d h = told-later s now (told-time s now d old new h)
    event-later (event.Put s source destination) d h = puts-later d s source destination h
    event-later (event.Cancel s i) d h = calls-later d s calls.Cancel i h
    event-later (event.Suspend s i) d h = calls-later d s calls.Suspend i h
    event-later (event.Resume s i) d h = calls-later d s calls.Resume i h
    event-later (event.Prompt s i keep_alive) d h = calls-later d s (calls.Prompt keep_alive) i h

  outage-later : (hs : List Happening) (old new : WorldState) → AreOfOutage id hs old new → (t : Side) → LaterAt t old new
  outage-later [] old new is t = none-later old new is t
  outage-later (h ∷ hs) old new are t = later-both id k (entity_at t old).table (entity_at t h.after).table (entity_at t new).table (event-later old h.after h.event h.did are.1 t)
      (outage-later hs h.after new are.3 t)

  -- ---- so many expiries since the earliest one could be
  module _ (first wait : ℕ) (policy : Policy) (is_wait : time_of policy.times k ≡ wait) where
    pub record Paced (n : ℕ) (st : TableState) : Type 0 where
      pub same : st.policy ≡ policy
      pub clock : first + n * wait ≤ st.now + wait
      pub armed : (d : ℕ) → map.get st.armed (id, k) ≡ Some d → first + n * wait ≤ d

    -- a deadline that was set while the clock could run so long
    set-behind : (from upto p d : ℕ) → p ≡ wait → upto + wait < 2 ^ 64 → IsSet from upto p d → from + wait ≤ d
    set-behind from upto p d is fits s =
        let low : from ≤ s.at = s.after in
        let high : s.at ≤ upto = s.before in
        let at_least : from + wait ≤ deadline_after s.at p = omega (arith, low, high, fits, is) in
        let same : d ≡ deadline_after s.at p = s.is in
        omega (arith, at_least, same)

    goes-on : (n : ℕ) (old new : TableState) → Later id k old new → new.now + wait < 2 ^ 64 → Paced n old → Paced n new
    goes-on n old new l fits p =
        let clock : first + n * wait ≤ old.now + wait = p.clock in
        let up : old.now ≤ new.now = l.clock in
        record {
          same = l.policy ∙ p.same;
          clock = omega (arith, clock, up);
          armed = λ d e. elim (l.late d e) [
            | inl before ↦ p.armed d before
            | inr set ↦ (let behind : old.now + wait ≤ d = set-behind old.now new.now (time_of old.policy.times k) d (ap (λ (q : Policy). time_of q.times k) p.same ∙ is_wait) fits set in omega (arith, clock, behind))
          ];
        }

    due-by : (o : Option ℕ) (at : ℕ) → option_map_or (λ d. nat_le d at) o false ≡ true → (d : ℕ) × ((o ≡ Some d) × (d ≤ at))
    due-by None at h = absurd (false≢true h)
    due-by (Some d) at h = (d, (refl, leb-true d at h))

    expires-once : (n now : ℕ) (old new : TableState) → Ticks now old new → is_due old.armed (max old.now now) (id, k) ≡ true → new.now + wait < 2 ^ 64 → Paced n old → Paced (n + 1) new
    expires-once n now old new h due fits p =
        let told : ℕ = max old.now now in
        let e = due-by (map.get old.armed (id, k)) told due in
        let behind : first + n * wait ≤ e.0 = p.armed e.0 e.1.0 in
        let by : e.0 ≤ told = e.1.1 in
        let l = due-later id k now old new h due in
        let up : told ≤ new.now = l.0 in
        let more : (n + 1) * wait ≡ n * wait + wait = omega arith in
        record {
          same = (ticks-later id k now old new h).policy ∙ p.same;
          clock = omega (arith, behind, by, up, more);
          armed = λ d armed. (
              let set : told + wait ≤ d = set-behind told new.now (time_of old.policy.times k) d (ap (λ (q : Policy). time_of q.times k) p.same ∙ is_wait) fits (l.1 d armed) in
              omega (arith, behind, by, set, more));
        }

    -- ---- in an outage
    module _ (s : Side) where
      abbrev PacedIn : ℕ → WorldState → Type 0
      PacedIn n w = Paced n (entity_at s w).table

      side-is : (t : Side) → is_side s t ≡ true → t ≡ s
      side-is t h = by s t h
        where
          by : (s t : Side) → is_side s t ≡ true → t ≡ s
          by One One h = refl
          by Two Two h = refl
          by One Two h = absurd (false≢true h)
          by Two One h = absurd (false≢true h)

      more-by : (n m : ℕ) (w : WorldState) → m ≡ n → PacedIn n w → PacedIn m w
      more-by n m w is p = subst (λ x. PacedIn x w) (sym is) p

      event-paced : (n : ℕ) (old new : WorldState) (ev : Event) (d : Applied) → Steps ev d old new → clock_at s new + wait < 2 ^ 64 → PacedIn n old →
          PacedIn (n + one_if (expires_at s id k old ev)) new
      event-paced n old new ev d h fits p = by ev h
        where
          plain : (ev : Event) → Steps ev d old new → PacedIn (n + 0) new
          plain ev h = more-by n (n + 0) new (omega arith) (goes-on n (entity_at s old).table (entity_at s new).table (event-later old new ev d h s) fits p)

          ticks : (t : Side) (now : ℕ) → Steps (event.Tick t now) d old new → (b c : Bool) → is_side s t ≡ b → is_due (entity_at t old).table.armed (max (entity_at t old).table.now now) (id, k) ≡ c →
              PacedIn (n + one_if (b && c)) new
          ticks t now h false c side due = plain (event.Tick t now) h
          ticks t now h true false side due = plain (event.Tick t now) h
          ticks t now h true true side due =
              expires-once n now (entity_at s old).table (entity_at s new).table
              (subst (λ u. Ticks now (entity_at u old).table (entity_at u new).table) (side-is t side) (told-time t now d old new h).ticked)
              (subst (λ u. is_due (entity_at u old).table.armed (max (entity_at u old).table.now now) (id, k) ≡ true) (side-is t side) due) fits p

          by : (ev : Event) → Steps ev d old new → PacedIn (n + one_if (expires_at s id k old ev)) new
          by (event.Poll t) h = plain (event.Poll t) h
          by (event.Flush t) h = plain (event.Flush t) h
          by (event.Deliver t l) h = plain (event.Deliver t l) h
          by (event.Strike t l) h = plain (event.Strike t l) h
          by (event.Damage t l octets) h = plain (event.Damage t l octets) h
          by (event.Tick t now) h = ticks t now h (is_side s t) (is_due (entity_at t old).table.armed (max (entity_at t old).table.now now) (id, k)) refl refl
          by (event.Put t source destination) h = plain (event.Put t source destination) h
          by (event.Cancel t i) h = plain (event.Cancel t i) h
          by (event.Suspend t i) h = plain (event.Suspend t i) h
          by (event.Resume t i) h = plain (event.Resume t i) h
          by (event.Prompt t i keep_alive) h = plain (event.Prompt t i keep_alive) h

      pub outage-paced : (hs : List Happening) (n : ℕ) (old new : WorldState) → AreOfOutage id hs old new → clock_at s new + wait < 2 ^ 64 → PacedIn n old → PacedIn (n + expiries id old hs s k) new
      outage-paced [] n old new is fits p = more-by n (n + 0) new (omega arith) (subst (PacedIn n) (sym is) p)
      outage-paced (h ∷ hs) n old new are fits p =
          let x : ℕ = one_if (expires_at s id k old h.event) in
          let y : ℕ = expiries id h.after hs s k in
          let up : clock_at s h.after ≤ clock_at s new = (outage-later hs h.after new are.3 s).clock in
          let first_one : PacedIn (n + x) h.after = event-paced n old h.after h.event h.did are.1 (omega (arith, up, fits)) p in
          more-by ((n + x) + y) (n + (x + y)) new (omega arith) (outage-paced hs (n + x) h.after new are.3 fits first_one)

  -- ---- few of them
  first-low : (o : Option ℕ) (later : ℕ) → earlier o later ≤ later
  first-low None later = omega arith
  first-low (Some d) later = omega arith

  first-armed : (o : Option ℕ) (later d : ℕ) → o ≡ Some d → earlier o later ≤ d
  first-armed None later d e = absurd cc
  first-armed (Some a) later d e = (let is : a ≡ d = cc in omega (arith, is))

  pub few-in-time : (hs : List Happening) (old new : WorldState) (s : Side) → IsReached old → AreOfOutage id hs old new → (count limit : ℕ) → IsInTime id s k count limit (clock_at s new) old →
      count + expiries id old hs s k < limit
  few-in-time hs old new s r are count limit short =
      let wait : ℕ = wait_at s k old in
      let first : ℕ = earliest id s k old in
      let st : TableState = (entity_at s old).table in
      let n : ℕ = expiries id old hs s k in
      let start : Paced first wait (policy_at s old) refl 0 st = record {
        same = (r.sound s).entity.policy;
        clock = (let low : first ≤ clock_at s old + wait = first-low (map.get st.armed (id, k)) (clock_at s old + wait) in omega (arith, low));
        armed = λ d e. (let low : first ≤ d = first-armed (map.get st.armed (id, k)) (clock_at s old + wait) d e in omega (arith, low));
      } in
      let end : Paced first wait (policy_at s old) refl (0 + n) (entity_at s new).table = outage-paced first wait (policy_at s old) refl s hs 0 old new are short.fits start in
      let paced : first + (0 + n) * wait ≤ clock_at s new + wait = end.clock in
      let early : clock_at s new + wait < first + (limit - count) * wait = short.early in
      let left : count < limit = short.left in
      elim (cases_lt n (limit - count)) [
        | inl few ↦ omega (arith, few, left)
        | inr many ↦ (let more : (limit - count) * wait ≤ n * wait = mul-le-mul_right wait many in let zero_more : (0 + n) * wait ≡ n * wait = ap (λ x. x * wait) (zero-more n) in
            absurd (omega (arith, paced, early, more, zero_more)))
      ]
    where
      zero-more : (n : ℕ) → 0 + n ≡ n
      zero-more n = omega arith

-- an outage that is short enough
pub lasting : (id : TransactionId) (hs : List Happening) (old new : WorldState) → IsReached old → AreOfOutage id hs old new → IsShort id old new → MayTry id (expiries id old hs) old
lasting id hs old new r are short s = by (record_of id (entity_at s old).table.records) (short s)
  where
    by : (q : Option Seen) → IsInTimeFor id s (clock_at s new) old q → HasTriesIn (policy_at s old).limits (expiries id old hs s) q
    by None h = (
      (let few : 0 + expiries id old hs s Nak < (policy_at s old).limits.nak = few-in-time id Nak hs old new s r are 0 (policy_at s old).limits.nak h.0 in omega (arith, few)),
      (let few : 0 + expiries id old hs s FinishedAck < (policy_at s old).limits.finished = few-in-time id FinishedAck hs old new s r are 0 (policy_at s old).limits.finished h.1 in omega (arith, few)),
    )
    by (Some (Sends x)) h = λ open_. few-in-time id EofAck hs old new s r are x.count (policy_at s old).limits.eof (h open_)
    by (Some (Receives q m)) h = λ open_. (
      few-in-time id Nak hs old new s r are q.nak_count (policy_at s old).limits.nak (h open_).0,
      few-in-time id FinishedAck hs old new s r are q.finished_count (policy_at s old).limits.finished (h open_).1,
    )
