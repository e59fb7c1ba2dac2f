-- A round of a recovery is an expiry after which nothing is lost.
use Rattle.std.proofs.Common.{◌≡◌, ◌≢◌, ◌≤◌, ℕ, true, false, List, [], ◌∷◌, max, Option, Some, None, refl, sym, ap, subst, ◌∙◌, arith}
use Rattle.std.specs.Prelude.{nat_le}
use Rattle.std.specs.FinMap as map
use Rattle.std.specs.Option.{option_map_or}
use Rattle.std.proofs.lemmas.Bool.{le-leb}
use Rattle.cfdp_header.specs.declared.value.TransactionId.{TransactionId}
use Rattle.cfdp_timers.specs.declared.kind.Kind.{Kind}
use Rattle.cfdp_timers.specs.declared.kind.Kind.TheVariants.{Inactivity}
use Rattle.cfdp_timers.specs.Armed.{Armed}
use Rattle.cfdp_timers.specs.ButInactivity.{IsLeastOther}
use Rattle.cfdp_timers.specs.Due.{is_due}
use Rattle.cfdp_timers.specs.Order.{Timer}
use Rattle.cfdp_sender.specs.Due.{sender_due}
use Rattle.cfdp_receiver.specs.Due.{receiver_due}
use Rattle.cfdp_entity.specs.Entity.{EntityState}
use Rattle.cfdp_entity.specs.Seen.{Seen, Sends, Receives}
use Rattle.cfdp_entity.specs.Table.{record_of}
use Rattle.station_pair.specs.declared.side.Side.{Side}
use Rattle.station_pair.specs.declared.side.Side.TheVariants.{One, Two}
use Rattle.link_sim.specs.Between.{AreSpelled, Pdu, of_id}
use Rattle.link_sim.specs.declared.event.Applied.{Applied}
use Rattle.link_sim.specs.declared.event.Applied.TheVariants as did
use Rattle.link_sim.specs.declared.event.Event.{Event}
use Rattle.link_sim.specs.declared.event.Event.TheVariants as event
use Rattle.link_sim.specs.Recovering.{IsNext, IsRound, Round, armed_at}
use Rattle.link_sim.specs.Settling.{AreOfSettling, IsOfSettling, IsSettled, KeepsAll, all_shortages}
use Rattle.link_sim.specs.World.State.{WorldState, arriving_from, entity_at}
use Rattle.link_sim.proofs.Clean.Ends.{no-pdus, none-of, rests-of}
use Rattle.link_sim.proofs.Clean.Puts.{stands-at}
use Rattle.link_sim.proofs.Clean.Settles.{CleanLaws}
use Rattle.link_sim.proofs.Found.Ends.{none-arrive}
use Rattle.link_sim.proofs.OnWay.World.{settled-on-way}
use Rattle.outages.specs.Outage.{Happening}
use Rattle.outages.specs.Spared.{AreSparing, GetsThrough, IsQuiet, IsSparing, NothingDueIn}
use Rattle.outages.specs.Tries.{IsCalm, time_told}
use Rattle.outages.proofs.Rising.{IsOfTurn, RiseAll, first-keeps, rise-both, rise-same, step-rises, then-keeps}
use Rattle.outages.proofs.Tracking.{IsReached, reached-next}

-- ---- a settled world
settled-due : (e : EntityState) (id : TransactionId) (o : Option Seen) → record_of id e.table.records ≡ o → ((s : Seen) → record_of id e.table.records ≡ Some s → NothingDueIn (Some s)) → NothingDueIn o
settled-due e id None is due = tt
settled-due e id (Some s) is due = due s is

pub settled-quiet : (w : WorldState) → IsReached w → IsSettled w → (id : TransactionId) → IsQuiet id w
settled-quiet w r settled id = record {
  due = λ s. settled-due (entity_at s w) id (record_of id (entity_at s w).table.records) refl (due s);
  on_way = λ s pdus spelled. ap (of_id id) (no-pdus pdus (subst (λ (l : List (List ℕ)). AreSpelled l pdus) (none-arrive s w (r.sound s).ways (settled-on-way s w (r.sound s).ways (r.rested s) (settled s))) spelled));
}
  where
    due : (s : Side) (q : Seen) → record_of id (entity_at s w).table.records ≡ Some q → NothingDueIn (Some q)
    due s (Sends x) is = none-of (sender_due x) (rests-of (entity_at s w) (settled s).rests id (Sends x) (stands-at id (entity_at s w).table.records (Sends x) is))
    due s (Receives x m) is = none-of (receiver_due x) (rests-of (entity_at s w) (settled s).rests id (Receives x m) (stands-at id (entity_at s w).table.records (Receives x m) is))

-- ---- its events
is-of-turn : (e : Event) → IsOfSettling e → IsOfTurn e
is-of-turn (event.Poll s) of = tt
is-of-turn (event.Flush s) of = tt
is-of-turn (event.Deliver s l) of = tt
is-of-turn (event.Strike s l) of = absurd of
is-of-turn (event.Tick s now) of = absurd of
is-of-turn (event.Damage s l octets) of = absurd of
is-of-turn (event.Put s source destination) of = absurd of
is-of-turn (event.Cancel s call) of = absurd of
is-of-turn (event.Suspend s call) of = absurd of
is-of-turn (event.Resume s call) of = absurd of
is-of-turn (event.Prompt s call keep_alive) of = absurd of

is-sparing : (id : TransactionId) (e : Event) (old new : WorldState) → IsOfSettling e → IsSparing id e old new
is-sparing id (event.Poll s) old new of = tt
is-sparing id (event.Flush s) old new of = tt
is-sparing id (event.Deliver s l) old new of = tt
is-sparing id (event.Strike s l) old new of = absurd of
is-sparing id (event.Tick s now) old new of = absurd of
is-sparing id (event.Damage s l octets) old new of = absurd of
is-sparing id (event.Put s source destination) old new of = absurd of
is-sparing id (event.Cancel s call) old new of = absurd of
is-sparing id (event.Suspend s call) old new of = absurd of
is-sparing id (event.Resume s call) old new of = absurd of
is-sparing id (event.Prompt s call keep_alive) old new of = absurd of

settling-rises : (steps : List (Event × Applied)) (old new : WorldState) → AreOfSettling steps old new → RiseAll old new
settling-rises [] old new same = subst (λ (w : WorldState). RiseAll old w) (sym same) (rise-same old)
settling-rises (s ∷ steps) old new (mid, of, step, more) = rise-both old mid new (step-rises s.0 s.1 old mid (is-of-turn s.0 of) step) (settling-rises steps mid new more)

pub settling-spares : (id : TransactionId) (steps : List (Event × Applied)) (old new : WorldState) → AreOfSettling steps old new → KeepsAll (all_shortages old) (all_shortages new) →
    (happened : List Happening) × AreSparing id happened old new
settling-spares id [] old new same keeps = ([], same)
settling-spares id (s ∷ steps) old new (mid, of, step, more) keeps =
    let one : RiseAll old mid = step-rises s.0 s.1 old mid (is-of-turn s.0 of) step in
    let two : RiseAll mid new = settling-rises steps mid new more in
    let rest = settling-spares id steps mid new more (then-keeps old mid new one two keeps) in
    (record { event = s.0; did = s.1; after = mid } ∷ rest.0, (is-sparing id s.0 old mid of, step, first-keeps old mid new one two keeps, rest.1))

-- ---- a round
settling-reached : CleanLaws → (steps : List (Event × Applied)) (old new : WorldState) → AreOfSettling steps old new → IsReached old → IsReached new
settling-reached all [] old new same r = subst IsReached (sym same) r
settling-reached all (s ∷ steps) old new (mid, of, step, more) r = settling-reached all steps mid new more (reached-next all s.0 s.1 old mid step r)

pub reached-round : CleanLaws → (old : WorldState) (r : Round) → IsReached old → IsRound old r → IsReached r.settled
reached-round all old r reached h =
    settling-reached all h.settles.only.steps r.ticked r.settled h.settles.only.are (reached-next all (event.Tick r.side r.now) did.Applied old r.ticked h.tells.ticks reached)

pub through-round : (old : WorldState) (r : Round) (id : TransactionId) (k : Kind) → IsReached old → IsReached r.settled → IsRound old r → k ≢ Inactivity →
    is_due (armed_at r.side old) (time_told r.side r.now old) (id, k) ≡ true → IsCalm id old (event.Tick r.side r.now) → GetsThrough id old r.settled
through-round old r id k reached after h apart due calm =
    let rest = settling-spares id h.settles.only.steps r.ticked r.settled h.settles.only.are h.settles.spared in
    record {
      rests = settled-quiet old reached h.rests id;
      before = [];
      held = old;
      spare_before = refl;
      side = r.side;
      now = r.now;
      ticked = r.ticked;
      ticks = h.tells.ticks;
      calm = calm;
      short_of_nothing = h.tells.spared;
      kind = k;
      answerable = apart;
      expires = due;
      rest = rest.0;
      spare = rest.1;
      quiet = settled-quiet r.settled after h.settled id;
    }

-- some timer expires in it
next-due : (armed : Armed) (now clock : ℕ) → IsLeastOther armed now → (id : TransactionId) × (k : Kind) × (k ≢ Inactivity) × (is_due armed (max clock now) (id, k) ≡ true)
next-due armed now clock h =
    let t : Timer = h.armed_so.0 in
    let late : now ≤ max clock now = omega arith in
    (t.0, t.1, h.armed_so.1, ap (λ o. option_map_or (λ d. nat_le d (max clock now)) o false) h.armed_so.2 ∙ le-leb now (max clock now) late)

pub some-due : (s : Side) (now : ℕ) (w : WorldState) → IsNext s now w → (id : TransactionId) × (k : Kind) × (k ≢ Inactivity) × (is_due (armed_at s w) (time_told s now w) (id, k) ≡ true)
some-due One now w h = next-due (armed_at One w) now (entity_at One w).table.now h
some-due Two now w h = next-due (armed_at Two w) now (entity_at Two w).table.now h.1
