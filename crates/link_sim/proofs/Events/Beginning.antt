-- Two stations in which nothing happened are sound; and what each event comes to.
use Rattle.std.proofs.Common.{◌≡◌, ℕ, List, [], ◌++◌, Option, refl, sym, ap, subst, ◌∙◌, inl, inr}
use Rattle.std.specs.Prelude.{Contains}
use Rattle.cfdp_header.specs.declared.value.TransactionId.{TransactionId}
use Rattle.cfdp_header.specs.Files.{FileMap}
use Rattle.cfdp_directives.specs.User.Completions.{completions}
use Rattle.cfdp_directives.specs.User.Put.{Put, inbox_after}
use Rattle.aos_frame.specs.declared.config.Lane.{Lane}
use Rattle.aos_frame.specs.declared.config.Lane.TheVariants.{Directives, Data}
use Rattle.mpdu.specs.Packets.{packets_of}
use Rattle.mpdu.specs.Packets as packets
use Rattle.link_stack.specs.Downward.{first_down, lane_down}
use Rattle.link_stack.specs.Upward.{first_up, lane_up}
use Rattle.cfdp_entity.specs.declared.request.Request.{Request}
use Rattle.cfdp_entity.specs.declared.request.Request.TheVariants as calls
use Rattle.cfdp_entity.specs.declared.config.EntityConfig.{EntityConfig}
use Rattle.cfdp_entity.specs.Config.{IsConfig}
use Rattle.cfdp_entity.specs.Entity.{EntityState, first_entity}
use Rattle.cfdp_entity.specs.Sound.{IsSound as IsSoundEntity}
use Rattle.cfdp_station.specs.Station.{StationState}
use Rattle.cfdp_station.specs.declared.config.StationConfig.{StationConfig}
use Rattle.station_pair.specs.declared.side.Side.{Side}
use Rattle.station_pair.specs.declared.side.Side.TheVariants.{One, Two}
use Rattle.link_sim.specs.declared.event.Event.{Event}
use Rattle.link_sim.specs.declared.event.Event.TheVariants as event
use Rattle.link_sim.specs.declared.event.Applied.{Applied}
use Rattle.link_sim.specs.declared.event.Applied.TheVariants as did
use Rattle.station_pair.specs.declared.refusal.Refusal.TheVariants as refusal
use Rattle.link_sim.specs.declared.event.AcceptedPut.{AcceptedPut}
use Rattle.station_pair.specs.declared.world_config.WorldConfig.{WorldConfig}
use Rattle.station_pair.specs.Stations.{IsWorldConfig, other}
use Rattle.link_sim.specs.OneWay.{pdus_sent, pdus_delivered}
use Rattle.link_sim.specs.World.State.{WorldState, AreWays, LanesState, delivered_from, entity_at, files_at, no_lanes, on_lane, sent_from, way, IsFirst}
use Rattle.link_sim.specs.World.Steps.{Puts, Calls, Polls, Flushes, Delivers, Strikes, Damages, Steps}
use Rattle.link_sim.specs.Theorem.{at, put_of, completions_at}
use Rattle.link_sim.specs.Observed.{seen}
use Rattle.link_sim.specs.Sound.{IsSound}
use Rattle.link_sim.proofs.Events.Keeping.{at-done, at-inbox}
use Rattle.link_sim.proofs.Lanes.Ways.{lane-same, strikes-loses}
use Rattle.link_sim.proofs.Work.WithinWorld.{first-within}
use Rattle.link_sim.proofs.Events.Moving.{EntityLaws, Moves, none-in, same-moves, stays-moves, put-moves, called-moves, told-moves, sent-moves, failed-moves, filled-moves, delivered-moves, lost-moves}

-- ---- the first world
both-none : {xs ys : List (List ℕ)} → xs ≡ [] → ys ≡ [] → xs ++ ys ≡ []
both-none {xs} {ys} a b = ap (λ l. l ++ ys) a ∙ b

abbrev config-at : Side → WorldConfig → StationConfig
config-at One c = c.one
config-at Two c = c.two

-- nothing was sent in a lane of a direction
none-in-lane : (l : Lane) (c e : StationConfig) → (pdus_sent (way (lane_down l (first_down c.sends c.capacity)) (on_lane l no_lanes) (lane_up l (first_up e.receives))) ≡ [])
    × (pdus_delivered (way (lane_down l (first_down c.sends c.capacity)) (on_lane l no_lanes) (lane_up l (first_up e.receives))) ≡ [])
unfolding packets_of packets.first_packets
none-in-lane Directives c e = (refl, refl)
none-in-lane Data c e = (refl, refl)

none-sent : (l : Lane) (c e : StationConfig) (s t : StationState) (k : LanesState) → s.down ≡ first_down c.sends c.capacity → t.up ≡ first_up e.receives → k ≡ no_lanes →
    (pdus_sent (way (lane_down l s.down) (on_lane l k) (lane_up l t.up)) ≡ []) × (pdus_delivered (way (lane_down l s.down) (on_lane l k) (lane_up l t.up)) ≡ [])
none-sent l c e s t k down up link =
    let is : way (lane_down l s.down) (on_lane l k) (lane_up l t.up) ≡ way (lane_down l (first_down c.sends c.capacity)) (on_lane l no_lanes) (lane_up l (first_up e.receives)) =
    lane-same l (first_down c.sends c.capacity) s.down no_lanes k (first_up e.receives) t.up down link up in
    (ap pdus_sent is ∙ (none-in-lane l c e).0, ap pdus_delivered is ∙ (none-in-lane l c e).1)

module _ (c : WorldConfig) (outboxes inboxes : FileMap × FileMap) (w : WorldState) (valid : IsWorldConfig c) (is : IsFirst c outboxes inboxes w) where
  entity-first : (s : Side) → entity_at s w ≡ first_entity (files_at s outboxes) (files_at s inboxes) (config-at s c).entity
  entity-first One = is.one.entity
  entity-first Two = is.two.entity

  pub files-first : (s : Side) → (entity_at s w).table.files ≡ files_at s inboxes
  files-first s = ap (λ (e : EntityState). e.table.files) (entity-first s)

  config-first : (s : Side) → IsConfig (config-at s c).entity
  config-first One = valid.one.entity
  config-first Two = valid.two.entity

  peers : (s : Side) → (config-at s c).entity.peer ≡ (config-at (other s) c).entity.entity
  peers One = valid.peer_of_one
  peers Two = sym valid.peer_of_two

  ways : (s : Side) → (sent_from s w ≡ []) × (delivered_from s w ≡ [])
  ways One =
      let none = λ (l : Lane). none-sent l c.one c.two w.one w.two w.from_one is.one.down is.two.up is.from_one in
      (both-none (none Directives).0 (none Data).0, both-none (none Directives).1 (none Data).1)
  ways Two =
      let none = λ (l : Lane). none-sent l c.two c.one w.two w.one w.from_two is.two.down is.one.up is.from_two in
      (both-none (none Directives).0 (none Data).0, both-none (none Directives).1 (none Data).1)

  pub sound-first : ((p : TransactionId → Option Put) (heard : List (List ℕ)) (sources files : FileMap) (config : EntityConfig) → IsConfig config →
      IsSoundEntity p heard files (first_entity sources files config)) →
      ((s : Side) → AreWays s w) → IsSound w
  sound-first law are_ways s =
      let e = entity-first s in
      record {
        ways = are_ways s;
        first = files_at s inboxes;
        all_kept = ap (λ (x : EntityState). x.table.gone) e;
        entity = subst (λ (x : EntityState). IsSoundEntity (put_of (seen w)) (delivered_from (other s) w) (files_at s inboxes) x) (sym e)
            (law (put_of (seen w)) (delivered_from (other s) w) (files_at s outboxes) (files_at s inboxes) (config-at s c).entity (config-first s));
        sent = λ text k. absurd (none-in text (subst (λ (l : List (List ℕ)). Contains l text) (ways s).0 k));
        peer = ap (λ (x : EntityState). x.config.peer) e ∙ peers s ∙ sym (ap (λ (x : EntityState). x.config.entity) (entity-first (other s)));
        within = first-within c outboxes inboxes w is s;
        numbers = λ p k. absurd (none-in p (subst (λ (l : List AcceptedPut). Contains l p) is.puts k));
      }

  -- nothing was completed yet
  pub inbox-first : (s : Side) → (at s (seen w)).inbox ≡ inbox_after (put_of (seen w)) (files_at s inboxes) (completions_at s (seen w))
  inbox-first s =
      let e : EntityState = first_entity (files_at s outboxes) (files_at s inboxes) (config-at s c).entity in
      let none : completions_at s (seen w) ≡ [] = at-done s w ∙ ap (λ (x : EntityState). completions x.config.entity x.table.told) (entity-first s) in
      at-inbox s w ∙ files-first s ∙ sym (ap (inbox_after (put_of (seen w)) (files_at s inboxes)) none)

-- ---- each event
module _ (laws : EntityLaws) (old new : WorldState) (sound : IsSound old) where
  put-by : (d : Applied) (s : Side) (source destination : List ℕ) → Puts d s source destination old new → Moves old new
  put-by did.Applied s source destination h = put-moves laws old new sound s source destination h
  put-by did.Nothing s source destination h = absurd h
  put-by (did.Refused (refusal.Put by)) s source destination h = stays-moves s old new sound h.stays
  put-by (did.Refused (refusal.Call by)) s source destination h = absurd h
  put-by (did.Refused refusal.LossRunTooLong) s source destination h = absurd h
  put-by (did.Refused refusal.NotDamaged) s source destination h = absurd h

  call-by : (d : Applied) (s : Side) (k : Request) (id : TransactionId) → Calls d s k id old new → Moves old new
  call-by did.Applied s k id h = called-moves laws old new sound s k id h
  call-by did.Nothing s k id h = absurd h
  call-by (did.Refused (refusal.Put by)) s k id h = absurd h
  call-by (did.Refused (refusal.Call by)) s k id h = same-moves old new sound h.same
  call-by (did.Refused refusal.LossRunTooLong) s k id h = absurd h
  call-by (did.Refused refusal.NotDamaged) s k id h = absurd h

  poll-by : (d : Applied) (s : Side) → Polls d s old new → Moves old new
  poll-by did.Applied s (inl h) = sent-moves laws old new sound s h
  poll-by did.Applied s (inr h) = failed-moves laws old new sound s h
  poll-by did.Nothing s h = same-moves old new sound h.1
  poll-by (did.Refused by) s h = absurd h

  flush-by : (d : Applied) (s : Side) → Flushes d s old new → Moves old new
  flush-by did.Applied s h = filled-moves laws old new sound s h.0
  flush-by did.Nothing s h = same-moves old new sound h.1
  flush-by (did.Refused by) s h = absurd h

  deliver-by : (d : Applied) (s : Side) (l : Lane) → Delivers d s l old new → Moves old new
  deliver-by did.Applied s l h = delivered-moves laws old new sound s l h
  deliver-by did.Nothing s l h = same-moves old new sound h.1
  deliver-by (did.Refused by) s l h = absurd h

  strike-by : (d : Applied) (s : Side) (l : Lane) → Strikes d s l old new → Moves old new
  strike-by did.Applied s l h = lost-moves laws old new sound s l (strikes-loses s l old new (sound s).ways h)
  strike-by did.Nothing s l h = same-moves old new sound h.1
  strike-by (did.Refused (refusal.Put by)) s l h = absurd h
  strike-by (did.Refused (refusal.Call by)) s l h = absurd h
  strike-by (did.Refused refusal.LossRunTooLong) s l h = same-moves old new sound h.same
  strike-by (did.Refused refusal.NotDamaged) s l h = absurd h

  damage-by : (d : Applied) (s : Side) (l : Lane) (octets : List ℕ) → Damages d s l octets old new → Moves old new
  damage-by did.Applied s l octets h = lost-moves laws old new sound s l h.loses
  damage-by did.Nothing s l octets h = same-moves old new sound h.1
  damage-by (did.Refused (refusal.Put by)) s l octets h = absurd h
  damage-by (did.Refused (refusal.Call by)) s l octets h = absurd h
  damage-by (did.Refused refusal.LossRunTooLong) s l octets h = same-moves old new sound h.same
  damage-by (did.Refused refusal.NotDamaged) s l octets h = same-moves old new sound h.same

  pub event-moves : (e : Event) (d : Applied) → Steps e d old new → Moves old new
  event-moves (event.Put s source destination) d h = put-by d s source destination h
  event-moves (event.Cancel s id) d h = call-by d s calls.Cancel id h
  event-moves (event.Suspend s id) d h = call-by d s calls.Suspend id h
  event-moves (event.Resume s id) d h = call-by d s calls.Resume id h
  event-moves (event.Prompt s id keep_alive) d h = call-by d s (calls.Prompt keep_alive) id h
  event-moves (event.Poll s) d h = poll-by d s h
  event-moves (event.Flush s) d h = flush-by d s h
  event-moves (event.Tick s now) did.Applied h = told-moves laws old new sound s now h
  event-moves (event.Tick s now) did.Nothing h = absurd h
  event-moves (event.Tick s now) (did.Refused by) h = absurd h
  event-moves (event.Deliver s l) d h = deliver-by d s l h
  event-moves (event.Strike s l) d h = strike-by d s l h
  event-moves (event.Damage s l octets) d h = damage-by d s l octets h
