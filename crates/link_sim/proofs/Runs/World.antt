-- The run of its own that each put makes in an event of a settling in which nothing is short.
use Rattle.std.proofs.Common.{◌≡◌, ℕ, ◌-◌, ◌^◌, ◌<◌, List, [], ◌∷◌, ◌++◌, Option, inl, inr, refl, sym, ap, subst, ◌∙◌, arith}
use Rattle.std.specs.Prelude.{Contains}
use Rattle.cfdp_header.specs.declared.value.TransactionId.{TransactionId}
use Rattle.cfdp_directives.specs.User.Put.{Put, SaysTruth}
use Rattle.aos_frame.specs.declared.config.Lane.{Lane}
use Rattle.link_stack.specs.Upward.{drop_count}
use Rattle.cfdp_store.specs.declared.stored.Stored.TheVariants.{Done}
use Rattle.cfdp_entity.specs.declared.config.EntityConfig.{EntityConfig}
use Rattle.cfdp_entity.specs.Entity.{EntityState, Counted}
use Rattle.cfdp_entity.specs.Polling.{turn, turn_octets}
use Rattle.cfdp_entity.specs.Sound.{IsSound as IsSoundEntity, FindsMore, ComesTrue}
use Rattle.station_pair.specs.declared.side.Side.{Side}
use Rattle.station_pair.specs.declared.side.Side.TheVariants.{One, Two}
use Rattle.link_sim.specs.declared.event.Event.{Event}
use Rattle.link_sim.specs.declared.event.Event.TheVariants as event
use Rattle.link_sim.specs.declared.event.Applied.{Applied}
use Rattle.link_sim.specs.declared.event.Applied.TheVariants as did
use Rattle.link_sim.specs.Between.{Pdu, AreSpelled}
use Rattle.link_sim.specs.EveryPut.{KeepsPuts}
use Rattle.link_sim.specs.Found.{IsPutOf, IsExchange, HasExchange, RunsTo, RunsOn}
use Rattle.link_sim.specs.Known.{AreKnown}
use Rattle.link_sim.specs.Observed.{seen}
use Rattle.link_sim.specs.Runs.{Exchange, Runs}
use Rattle.link_sim.specs.Settling.{IsOfSettling, KeepsAll, all_shortages}
use Rattle.station_pair.specs.Stations.{other}
use Rattle.link_sim.specs.Sound.{IsSound}
use Rattle.link_sim.specs.Theorem.{put_of}
use Rattle.link_sim.specs.World.State.{WorldState, arriving_from, delivered_from, entity_at, sent_from, station_at}
use Rattle.link_sim.specs.World.Steps.{SendsOne, FailsSource, Fills, DeliversFrame, Polls, Flushes, Delivers, Steps}
use Rattle.link_sim.proofs.OnWay.ArrivingWorld.{delivers-arriving, fills-arriving, polls-arriving}
use Rattle.link_sim.proofs.Events.Beginning.{event-moves}
use Rattle.link_sim.proofs.Clean.Puts.{receivable}
use Rattle.link_sim.proofs.Clean.Settles.{CleanLaws}
use Rattle.link_sim.proofs.EveryPut.Events.{are-peers}
use Rattle.link_sim.proofs.Events.Keeping.{both, other-other}
use Rattle.link_sim.proofs.EveryPut.Steps.{IsInOrder, in-order}
use Rattle.link_sim.proofs.EveryPut.Known.{TurnSays, pdu_of, turn-says, sends-known, same-known}
use Rattle.link_sim.proofs.EveryPut.Pdus.{InTwo, spelled-append, spelled-split}
use Rattle.link_sim.proofs.EveryPut.Puts.{same-puts}
use Rattle.link_sim.proofs.Events.Moving.{Moves, sends-one, sends-two}
use Rattle.link_sim.proofs.Found.Puts.{puts-by-id}
use Rattle.link_sim.proofs.Runs.Given.{AllRun, all-run, mine-sends, theirs-sends}
use Rattle.link_sim.proofs.Runs.Hears.{Spared}
use Rattle.link_sim.proofs.Runs.Places.{RunsInto, Goes, goes-both, goes-none, goes-overtaken, runs-both}
use Rattle.link_sim.proofs.Lanes.Heard.{given-heard, given-sent}
use Rattle.link_sim.proofs.Lanes.Joined.{swapped-none}
use Rattle.link_sim.proofs.Lanes.Same.{same-arriving}
use Rattle.link_sim.proofs.Lanes.Swapping.{SwapsPdus, swapped-known, swapped-spelled}
use Rattle.link_sim.proofs.Lanes.Ways.{back-delivers, back-marks}

-- ---- seen from either station
-- What will arrive from a station and at it: `forth` and `back`.
pub record Ways (s : Side) (w : WorldState) (forth back : List Pdu) : Type 0 where
  pub spelled : AreSpelled (arriving_from s w) forth
  pub spelled_back : AreSpelled (arriving_from (other s) w) back
  pub known : AreKnown (put_of (seen w)) (entity_at s w) (entity_at (other s) w) forth back

ways-in : (s : Side) (put : Put) (w : WorldState) (e : Exchange) → (h : HasExchange s put w e) → Ways s w h.forth h.back
ways-in s put w e h = record { spelled = h.spelled; spelled_back = h.spelled_back; known = h.known }

-- of a put of the other station
record FromThere (s : Side) (put : Put) (w : WorldState) (e : Exchange) : Type 0 where
  forth : List Pdu
  back : List Pdu
  ways : Ways s w forth back
  is : IsExchange put (entity_at (other s) w) (entity_at s w) back forth e

from-there : (s : Side) (put : Put) (w : WorldState) (e : Exchange) → HasExchange (other s) put w e → FromThere s put w e
from-there One put w e h = record { forth = h.back; back = h.forth; ways = record { spelled = h.spelled_back; spelled_back = h.spelled; known = (h.known.1, h.known.0) }; is = h.is }
from-there Two put w e h = record { forth = h.back; back = h.forth; ways = record { spelled = h.spelled_back; spelled_back = h.spelled; known = (h.known.1, h.known.0) }; is = h.is }

to-there : (s : Side) (put : Put) (w : WorldState) (e : Exchange) (forth back : List Pdu) → Ways s w forth back → IsExchange put (entity_at (other s) w) (entity_at s w) back forth e →
    HasExchange (other s) put w e
to-there One put w e forth back k is = record { forth = back; back = forth; spelled = k.spelled_back; spelled_back = k.spelled; known = (k.known.1, k.known.0); is = is }
to-there Two put w e forth back k is = record { forth = back; back = forth; spelled = k.spelled_back; spelled_back = k.spelled; known = (k.known.1, k.known.0); is = is }

-- What an event comes to, seen from a station: of the puts of that station, and of the puts of the
-- other one.
record EventGoes (s : Side) (old new : WorldState) (forth back : List Pdu) : Type 0 where
  forth_then : List Pdu
  back_then : List Pdu
  ways : Ways s new forth_then back_then
  mine : (put : Put) → IsPutOf s put old → Goes put (entity_at s old) (entity_at (other s) old) forth back (entity_at s new) (entity_at (other s) new) forth_then back_then
  theirs : (put : Put) → IsPutOf (other s) put old → Goes put (entity_at (other s) old) (entity_at s old) back forth (entity_at (other s) new) (entity_at s new) back_then forth_then

-- so each put makes a run of its own
runs-by : (s : Side) (old new : WorldState) → ((forth back : List Pdu) → Ways s old forth back → EventGoes s old new forth back) → RunsOn old new
runs-by s old new goes = both (λ t. (put : Put) → IsPutOf t put old → (e : Exchange) → HasExchange t put old e → RunsTo t put e new) s here there
  where
    here : (put : Put) → IsPutOf s put old → (e : Exchange) → HasExchange s put old e → RunsTo s put e new
    here put is e h =
        let g : EventGoes s old new h.forth h.back = goes h.forth h.back (ways-in s put old e h) in
        let r : RunsInto put (entity_at s new) (entity_at (other s) new) g.forth_then g.back_then e = g.mine put is e h.is in
        record {
          steps = r.steps;
          end = r.end;
          is_end = record {
            forth = g.forth_then;
            back = g.back_then;
            spelled = g.ways.spelled;
            spelled_back = g.ways.spelled_back;
            known = g.ways.known;
            is =
                r.is_end;
          };
          runs = r.runs;
        }

    there : (put : Put) → IsPutOf (other s) put old → (e : Exchange) → HasExchange (other s) put old e → RunsTo (other s) put e new
    there put is e h =
        let k : FromThere s put old e = from-there s put old e h in
        let g : EventGoes s old new k.forth k.back = goes k.forth k.back k.ways in
        let r : RunsInto put (entity_at (other s) new) (entity_at s new) g.back_then g.forth_then e = g.theirs put is e k.is in
        record { steps = r.steps; end = r.end; is_end = to-there s put new r.end g.forth_then g.back_then g.ways r.is_end; runs = r.runs }

-- ---- runs of worlds
pub runs-on-same : (w : WorldState) → RunsOn w w
unfolding Runs
runs-on-same w s put is e h = record { steps = 0; end = e; is_end = h; runs = refl }

pub runs-on-trans : (a b c : WorldState) → ((s : Side) (put : Put) → IsPutOf s put a → IsPutOf s put b) → RunsOn a b → RunsOn b c → RunsOn a c
runs-on-trans a b c keeps p q s put is e h =
    let r : RunsTo s put e b = p s put is e h in
    let t : RunsTo s put r.end c = q s put (keeps s put is) r.end r.is_end in
    let all : (k : ℕ) × Runs k put e t.end = runs-both r.steps t.steps put e r.end t.end r.runs t.runs in
    record { steps = all.0; end = t.end; is_end = t.is_end; runs = all.1 }

-- ---- an event
-- nothing was short at a station
record IsSparedAt (s : Side) (old new : WorldState) : Type 0 where
  link : drop_count (station_at s new).up 11 ≡ drop_count (station_at s old).up 11
  link_low : drop_count (station_at s new).up 11 < 2 ^ 64 - 1
  outbox : (station_at s new).entity.outbox_failures ≡ (station_at s old).entity.outbox_failures
  outbox_low : (station_at s new).entity.outbox_failures < 2 ^ 64 - 1
  entity : Spared (station_at s old).entity (station_at s new).entity

spared-at : (old new : WorldState) → KeepsAll (all_shortages old) (all_shortages new) → (s : Side) → IsSparedAt s old new
spared-at old new k One = record {
  link = k.memory.0.0.0;
  link_low = k.memory.0.0.1;
  outbox = k.stores.0.0.0;
  outbox_low = k.stores.0.0.1;
  entity = record { memory = k.memory.0.1.0; memory_low = k.memory.0.1.1; table = k.tables.0.0; table_low = k.tables.0.1; inbox = k.stores.0.1.0; inbox_low = k.stores.0.1.1 };
}
spared-at old new k Two = record {
  link = k.memory.1.0.0;
  link_low = k.memory.1.0.1;
  outbox = k.stores.1.0.0;
  outbox_low = k.stores.1.0.1;
  entity = record { memory = k.memory.1.1.0; memory_low = k.memory.1.1.1; table = k.tables.1.0; table_low = k.tables.1.1; inbox = k.stores.1.1.0; inbox_low = k.stores.1.1.1 };
}

module _ (laws : CleanLaws) (old new : WorldState) (sound : IsSound old) (kept : KeepsPuts old) (m : Moves old new) (puts : new.puts ≡ old.puts) where
  abbrev P : TransactionId → Option Put
  P = put_of (seen old)

  same : FindsMore P (put_of (seen new)) × FindsMore (put_of (seen new)) P
  same = same-puts (seen old) (seen new) (sends-one old new sound (λ t. (m.sides t).goes)) (sends-two old new sound (λ t. (m.sides t).goes)) puts

  -- what is known in terms of the puts found before
  known-now : (s : Side) (forth back : List Pdu) → AreKnown P (entity_at s new) (entity_at (other s) new) forth back →
      AreKnown (put_of (seen new)) (entity_at s new) (entity_at (other s) new) forth back
  known-now s forth back k = same-known P (put_of (seen new)) (entity_at s new) (entity_at (other s) new) forth back same.0 same.1 k

  order : (s : Side) → IsInOrder P (entity_at s old).table
  order s = in-order P (delivered_from (other s) old) (sound s).first (entity_at s old) (sound s).entity

  -- ---- a poll
  polled : (s : Side) → SendsOne s old new → (forth back : List Pdu) → Ways s old forth back → EventGoes s old new forth back
  polled s h forth back k =
      let e : EntityState = entity_at s old in
      let e1 : EntityState = entity_at s new in
      let th : EntityState = entity_at (other s) old in
      let th1 : EntityState = entity_at (other s) new in
      let t : TurnSays e = turn-says e k.known.0.none_stray h.spells in
      let p : Pdu = pdu_of t.entry t.content in
      let there : th1 ≡ th = ap (λ x. x.entity.state) h.marks.spares.station in
      let behind : List Pdu = forth ++ p ∷ [] in
      let swaps : SwapsPdus (arriving_from s new) behind = swapped-spelled (arriving_from s old ++ turn_octets (turn e) e ∷ []) (arriving_from s new) behind
      (polls-arriving s old new (sound s).ways h)
      (spelled-append (arriving_from s old) (turn_octets (turn e) e ∷ []) forth (p ∷ []) k.spelled (t.spells, tt)) in
      let now : List Pdu = swaps.swapped in
      let known : AreKnown P e1 th behind back = sends-known laws.stays P e e1 th forth back (delivered_from (other s) old) (sound s).first Done t (sound s).entity
      (are-peers old sound s) h.served k.known in
      record {
        forth_then = now;
        back_then = back;
        ways = record {
          spelled = swaps.spelled;
          spelled_back = subst (λ l. AreSpelled l back) (sym (same-arriving (other s) old new (back-marks s old new h.marks))) k.spelled_back;
          known = known-now s now back (subst (λ (x : EntityState). AreKnown P e1 x now back) (sym there)
              (swapped-known behind now back back swaps.are (swapped-none back) P e1 th known));
        };
        mine = λ put is. subst (λ (x : EntityState). Goes put e th forth back e1 x now back) (sym there)
            (goes-both put e th forth back e1 th behind back e1 th now back (mine-sends put P is.found e e1 (order s) t h.served th forth back)
            (goes-overtaken put e1 th behind back now back swaps.are (swapped-none back)));
        theirs = λ put is. subst (λ (x : EntityState). Goes put th e back forth x e1 back now) (sym there)
            (goes-both put th e back forth th e1 back behind th e1 back now (theirs-sends put P is.found e e1 (order s) t h.served th back forth)
            (goes-overtaken put th e1 back behind back now (swapped-none back) swaps.are));
      }

  -- the outbox didn't fail
  none-failed : (s : Side) → IsSparedAt s old new → FailsSource s old new → ⊥
  none-failed s spared h =
      let is : (station_at s new).entity.outbox_failures ≡ (station_at s old).entity.outbox_failures = spared.outbox in
      let low : (station_at s old).entity.outbox_failures < 2 ^ 64 - 1 = subst (λ n. n < 2 ^ 64 - 1) is spared.outbox_low in
      let more : (station_at s old).entity.outbox_failures < (station_at s new).entity.outbox_failures = h.failed.1 low in
      omega (arith, more, is)

  -- ---- a flush
  filled : (s : Side) → Fills s old new → (forth back : List Pdu) → Ways s old forth back → EventGoes s old new forth back
  filled s h forth back k =
      let e : EntityState = entity_at s old in
      let th : EntityState = entity_at (other s) old in
      let here : entity_at s new ≡ e = ap (λ (c : Counted). c.state) h.entity in
      let there : entity_at (other s) new ≡ th = ap (λ x. x.entity.state) h.marks.spares.station in
      record {
        forth_then = forth;
        back_then = back;
        ways = record {
          spelled = subst (λ l. AreSpelled l forth) (sym (fills-arriving s old new (sound s).ways h)) k.spelled;
          spelled_back = subst (λ l. AreSpelled l back) (sym (same-arriving (other s) old new (back-marks s old new h.marks))) k.spelled_back;
          known = known-now s forth back (subst (λ (x : EntityState). AreKnown P x (entity_at (other s) new) forth back) (sym here)
              (subst (λ (x : EntityState). AreKnown P e x forth back) (sym there) k.known));
        };
        mine = λ put is. subst (λ (x : EntityState). Goes put e th forth back x (entity_at (other s) new) forth back) (sym here)
            (subst (λ (x : EntityState). Goes put e th forth back e x forth back) (sym there) (goes-none put e th forth back));
        theirs = λ put is. subst (λ (x : EntityState). Goes put th e back forth (entity_at (other s) new) x back forth) (sym here)
            (subst (λ (x : EntityState). Goes put th e back forth x e back forth) (sym there) (goes-none put th e back forth));
      }

  -- ---- a delivery
  module _ (s : Side) (l : Lane) (h : DeliversFrame s l old new) (spared : IsSparedAt (other s) old new) (forth back : List Pdu) (k : Ways s old forth back) where
    abbrev there : EntityState
    there = entity_at (other s) old

    abbrev heard : List (List ℕ)
    heard = delivered_from s old ++ h.hears.more

    peer-is : there.config.peer ≡ (entity_at s old).config.entity
    peer-is = (sound (other s)).peer ∙ ap (λ t. (entity_at t old).config.entity) (other-other s)

    comes : (x : List ℕ) → Contains h.given x → ComesTrue there.config.peer P heard x
    comes x among =
        let sent : Contains (sent_from s old) x = given-sent laws.entity.in_whole s l old new h x among in
        record {
          among = given-heard laws.entity.in_whole s l old new h x among;
          says = λ i v spells. subst (λ (n : ℕ). SaysTruth n P i.id v) (sym peer-is) ((sound s).sent x sent i v spells).0;
        }

    sound-then : IsSoundEntity P heard (sound (other s)).first there
    sound-then =
        let now : IsSoundEntity P (delivered_from s old) (sound (other s)).first there =
        subst (λ (t : Side). IsSoundEntity P (delivered_from t old) (sound (other s)).first there) (other-other s) (sound (other s)).entity in
        laws.grounds.more P P (delivered_from s old) h.hears.more (sound (other s)).first there (λ id put is. is) now

    -- those of the lane whose frame came stand first
    swaps : SwapsPdus (h.given ++ arriving_from s new) forth
    swaps = swapped-spelled (arriving_from s old) (h.given ++ arriving_from s new) forth (delivers-arriving s l old new h spared.link spared.link_low) k.spelled

    two : InTwo h.given (arriving_from s new) swaps.swapped
    two = spelled-split h.given (arriving_from s new) swaps.swapped swaps.spelled

    known : AreKnown P there (entity_at s old) back (two.first ++ two.rest)
    known = subst (λ (ps : List Pdu). AreKnown P there (entity_at s old) back ps) two.joined
        (swapped-known back back forth swaps.swapped (swapped-none back) swaps.are P there (entity_at s old) (k.known.1, k.known.0))

    ran : AllRun laws.entity laws.hearing laws.stays P (puts-by-id (seen old)) heard (sound (other s)).first (entity_at s old) back two.first two.rest (station_at (other s) old).entity
        (station_at (other s) new).entity
    ran = all-run laws.entity laws.hearing laws.stays P (puts-by-id (seen old)) heard (sound (other s)).first (entity_at s old) back h.given two.first two.rest (station_at (other s) old).entity
        (station_at (other s) new).entity
        two.spelled h.heard known comes sound-then (kept.course.kinds (other s)) spared.entity

    delivered : EventGoes s old new forth back
    delivered =
        let e : EntityState = entity_at s old in
        let th1 : EntityState = entity_at (other s) new in
        let here : entity_at s new ≡ e = ap (λ x. x.entity.state) h.station in
        record {
          forth_then = two.rest;
          back_then = back;
          ways = record {
            spelled = two.spelled_rest;
            spelled_back = subst (λ ps. AreSpelled ps back) (sym (same-arriving (other s) old new (back-delivers s l old new h))) k.spelled_back;
            known = known-now s two.rest back (subst (λ (x : EntityState). AreKnown P x th1 two.rest back) (sym here) (ran.known.1, ran.known.0));
          };
          mine = λ put is. subst (λ (x : EntityState). Goes put e there forth back x th1 two.rest back) (sym here)
              (goes-both put e there forth back e there swaps.swapped back e th1 two.rest back (goes-overtaken put e there forth back swaps.swapped back swaps.are (swapped-none back))
              (subst (λ ps. Goes put e there ps back e th1 two.rest back) (sym two.joined)
              (ran.theirs_too put is.found (receivable old sound (λ t. (sound t).within) s forth back k.known put is.found is.own))));
          theirs = λ put is. subst (λ (x : EntityState). Goes put there e back forth th1 x back two.rest) (sym here)
              (goes-both put there e back forth there e back swaps.swapped th1 e back two.rest (goes-overtaken put there e back forth back swaps.swapped (swapped-none back) swaps.are)
              (subst (λ ps. Goes put there e back ps th1 e back two.rest) (sym two.joined) (ran.mine put is.found)));
        }

-- ---- each event of a settling
module _ (laws : CleanLaws) (old new : WorldState) (sound : IsSound old) (kept : KeepsPuts old) (spared : (s : Side) → IsSparedAt s old new) where
  same-runs : new ≡ old → RunsOn old new
  same-runs is = subst (λ (w : WorldState). RunsOn old w) (sym is) (runs-on-same old)

  polls-run : (d : Applied) (s : Side) → Moves old new → Polls d s old new → RunsOn old new
  polls-run did.Applied s m (inl h) = runs-by s old new (polled laws old new sound kept m h.marks.counts.puts s h)
  polls-run did.Applied s m (inr h) = absurd (none-failed laws old new sound kept m h.counts.puts s (spared s) h)
  polls-run did.Nothing s m h = same-runs h.1
  polls-run (did.Refused by) s m h = absurd h

  flushes-run : (d : Applied) (s : Side) → Moves old new → Flushes d s old new → RunsOn old new
  flushes-run did.Applied s m h = runs-by s old new (filled laws old new sound kept m h.0.marks.counts.puts s h.0)
  flushes-run did.Nothing s m h = same-runs h.1
  flushes-run (did.Refused by) s m h = absurd h

  delivers-run : (d : Applied) (s : Side) (l : Lane) → Moves old new → Delivers d s l old new → RunsOn old new
  delivers-run did.Applied s l m h = runs-by s old new (delivered laws old new sound kept m h.counts.puts s l h (spared (other s)))
  delivers-run did.Nothing s l m h = same-runs h.1
  delivers-run (did.Refused by) s l m h = absurd h

-- the puts of a station stay its own
pub puts-kept : CleanLaws → (e : Event) (d : Applied) (old new : WorldState) → Steps e d old new → IsSound old → (s : Side) (put : Put) → IsPutOf s put old → IsPutOf s put new
puts-kept laws e d old new h sound s put own =
    let m : Moves old new = event-moves laws.entity old new sound e d h in
    record { found = m.puts.finds put.id put own.found; own = own.own ∙ ap (λ (c : EntityConfig). c.entity) (sym (m.sides s).goes.config) }

pub settles-run : CleanLaws → (e : Event) (d : Applied) (old new : WorldState) → IsOfSettling e → Steps e d old new → KeepsAll (all_shortages old) (all_shortages new) → IsSound old → KeepsPuts old →
    RunsOn old new
settles-run laws (event.Poll s) d old new is h keeps sound kept = polls-run laws old new sound kept (spared-at old new keeps) d s (event-moves laws.entity old new sound (event.Poll s) d h) h
settles-run laws (event.Flush s) d old new is h keeps sound kept = flushes-run laws old new sound kept (spared-at old new keeps) d s (event-moves laws.entity old new sound (event.Flush s) d h) h
settles-run laws (event.Deliver s l) d old new is h keeps sound kept = delivers-run laws old new sound kept (spared-at old new keeps) d s l (event-moves laws.entity old new sound (event.Deliver s l) d h) h
settles-run laws (event.Put s source destination) d old new is h keeps sound kept = absurd is
settles-run laws (event.Cancel s id) d old new is h keeps sound kept = absurd is
settles-run laws (event.Suspend s id) d old new is h keeps sound kept = absurd is
settles-run laws (event.Resume s id) d old new is h keeps sound kept = absurd is
settles-run laws (event.Prompt s id keep_alive) d old new is h keeps sound kept = absurd is
settles-run laws (event.Tick s now) d old new is h keeps sound kept = absurd is
settles-run laws (event.Strike s l) d old new is h keeps sound kept = absurd is
settles-run laws (event.Damage s l octets) d old new is h keeps sound kept = absurd is
