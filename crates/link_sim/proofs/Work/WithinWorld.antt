-- No event takes what is held and sent at either station out of its bounds.
use Rattle.std.proofs.Common.{◌≡◌, ℕ, ◌≤◌, true, List, sym, ap, subst, inl, inr, arith}
use Rattle.aos_frame.specs.declared.config.Lane.{Lane}
use Rattle.cfdp_header.specs.declared.value.TransactionId.{TransactionId}
use Rattle.cfdp_header.specs.Files.{FileMap}
use Rattle.cfdp_directives.specs.Pdu.Codes.{size_limit}
use Rattle.cfdp_store.specs.declared.stored.Stored.{Stored}
use Rattle.cfdp_store.specs.declared.stored.Stored.TheVariants.{Done, Refused}
use Rattle.cfdp_entity.specs.declared.request.Request.{Request}
use Rattle.cfdp_entity.specs.declared.request.Request.TheVariants as calls
use Rattle.cfdp_entity.specs.Config.{IsConfig}
use Rattle.cfdp_entity.specs.Entity.{EntityState}
use Rattle.cfdp_entity.specs.Polling.{turn, served}
use Rattle.station_pair.specs.declared.side.Side.{Side}
use Rattle.link_sim.specs.declared.event.Event.{Event}
use Rattle.link_sim.specs.declared.event.Event.TheVariants as event
use Rattle.link_sim.specs.declared.event.Applied.{Applied}
use Rattle.link_sim.specs.declared.event.Applied.TheVariants as did
use Rattle.station_pair.specs.declared.refusal.Refusal.TheVariants as refusal
use Rattle.station_pair.specs.declared.world_config.WorldConfig.{WorldConfig}
use Rattle.station_pair.specs.Stations.{other}
use Rattle.link_sim.specs.Work.{AreWithin, most_offset}
use Rattle.link_sim.specs.World.State.{WorldState, station_at, entity_at, IsFirst}
use Rattle.link_sim.specs.World.Steps.{Spares, Stays, TakesPut, StepsAt, TellsTime, DeliversFrame, Puts, Calls, Polls, Flushes, Delivers, Strikes, Damages, Steps}
use Rattle.link_sim.proofs.Events.Keeping.{both, each}
use Rattle.link_sim.proofs.Work.Within.{within-first, within-put, within-called, within-ticked, within-served}
use Rattle.link_sim.proofs.Work.Entity.{within-hears-all}

abbrev Within : Side → WorldState → Type 0
Within s w = AreWithin most_offset (entity_at s w).table.records

limit : size_limit true ≤ most_offset
limit = omega arith

pub first-within : (c : WorldConfig) (outboxes inboxes : FileMap × FileMap) (w : WorldState) → IsFirst c outboxes inboxes w → (t : Side) → Within t w
first-within c outboxes inboxes w is = each (λ t. Within t w)
    (subst (λ (e : EntityState). AreWithin most_offset e.table.records) (sym is.one.entity) (within-first most_offset outboxes.0 inboxes.0 c.one.entity))
    (subst (λ (e : EntityState). AreWithin most_offset e.table.records) (sym is.two.entity) (within-first most_offset outboxes.1 inboxes.1 c.two.entity))

module _ (old new : WorldState) (config : (t : Side) → IsConfig (entity_at t old).config) (is : (t : Side) → Within t old) where
  -- an entity that is as it was
  kept : (t : Side) → entity_at t new ≡ entity_at t old → Within t new
  kept t e = subst (λ (x : EntityState). AreWithin most_offset x.table.records) (sym e) (is t)

  same-within : new ≡ old → (t : Side) → Within t new
  same-within e t = kept t (ap (entity_at t) e)

  -- of both entities one may have moved
  one-within : (s : Side) → Spares s old new → Within s new → (t : Side) → Within t new
  one-within s k here = both (λ t. Within t new) s here (kept (other s) (ap (λ x. x.entity.state) k.station))

  pub stays-within : (s : Side) → Stays s old new → (t : Side) → Within t new
  stays-within s h = one-within s h.links.spares (kept s h.entity)

  put-within : (s : Side) (source destination : List ℕ) → TakesPut s source destination old new → (t : Side) → Within t new
  put-within s source destination h = one-within s h.links.spares (within-put most_offset limit source destination h.id (entity_at s old) (entity_at s new) (config s) h.accepts (is s))

  called-within : (s : Side) (c : Request) (id : TransactionId) → StepsAt s c id old new → (t : Side) → Within t new
  called-within s c id h = one-within s h.links.spares (within-called most_offset limit c id (entity_at s old) (entity_at s new) h.called (is s))

  told-within : (s : Side) (now : ℕ) → TellsTime s now old new → (t : Side) → Within t new
  told-within s now h = one-within s h.links.spares (within-ticked most_offset limit now (entity_at s old).table (entity_at s new).table h.ticked (is s))

  served-within : (s : Side) (stored : Stored) → entity_at s new ≡ served stored (turn (entity_at s old)) (entity_at s old) → Within s new
  served-within s stored e = subst (λ (x : EntityState). AreWithin most_offset x.table.records) (sym e) (within-served most_offset limit stored (turn (entity_at s old)) (entity_at s old) (is s))

  delivered-within : (s : Side) (l : Lane) → DeliversFrame s l old new → (t : Side) → Within t new
  delivered-within s l h = both (λ t. Within t new) s (kept s (ap (λ x. x.entity.state) h.station))
      (within-hears-all most_offset limit h.given (station_at (other s) old).entity (station_at (other s) new).entity (is (other s)) h.heard)

  -- ---- any event
  put-by : (d : Applied) (s : Side) (source destination : List ℕ) → Puts d s source destination old new → (t : Side) → Within t new
  put-by did.Applied s source destination h = put-within s source destination h
  put-by did.Nothing s source destination h = absurd h
  put-by (did.Refused (refusal.Put by)) s source destination h = stays-within s h.stays
  put-by (did.Refused (refusal.Call by)) s source destination h = absurd h
  put-by (did.Refused refusal.LossRunTooLong) s source destination h = absurd h
  put-by (did.Refused refusal.NotDamaged) s source destination h = absurd h

  call-by : (d : Applied) (s : Side) (k : Request) (id : TransactionId) → Calls d s k id old new → (t : Side) → Within t new
  call-by did.Applied s k id h = called-within s k id h
  call-by did.Nothing s k id h = absurd h
  call-by (did.Refused (refusal.Put by)) s k id h = absurd h
  call-by (did.Refused (refusal.Call by)) s k id h = same-within h.same
  call-by (did.Refused refusal.LossRunTooLong) s k id h = absurd h
  call-by (did.Refused refusal.NotDamaged) s k id h = absurd h

  poll-by : (d : Applied) (s : Side) → Polls d s old new → (t : Side) → Within t new
  poll-by did.Applied s (inl h) = one-within s h.marks.spares (served-within s Done h.served)
  poll-by did.Applied s (inr h) = one-within s h.links.spares (served-within s Refused h.served)
  poll-by did.Nothing s h = same-within h.1
  poll-by (did.Refused by) s h = absurd h

  flush-by : (d : Applied) (s : Side) → Flushes d s old new → (t : Side) → Within t new
  flush-by did.Applied s h = one-within s h.0.marks.spares (kept s (ap (λ x. x.state) h.0.entity))
  flush-by did.Nothing s h = same-within h.1
  flush-by (did.Refused by) s h = absurd h

  deliver-by : (d : Applied) (s : Side) (l : Lane) → Delivers d s l old new → (t : Side) → Within t new
  deliver-by did.Applied s l h = delivered-within s l h
  deliver-by did.Nothing s l h = same-within h.1
  deliver-by (did.Refused by) s l h = absurd h

  strike-by : (d : Applied) (s : Side) (l : Lane) → Strikes d s l old new → (t : Side) → Within t new
  strike-by did.Applied s l h = one-within s h.spares (kept s (ap (λ x. x.entity.state) h.station))
  strike-by did.Nothing s l h = same-within h.1
  strike-by (did.Refused (refusal.Put by)) s l h = absurd h
  strike-by (did.Refused (refusal.Call by)) s l h = absurd h
  strike-by (did.Refused refusal.LossRunTooLong) s l h = same-within h.same
  strike-by (did.Refused refusal.NotDamaged) s l h = absurd h

  damage-by : (d : Applied) (s : Side) (l : Lane) (octets : List ℕ) → Damages d s l octets old new → (t : Side) → Within t new
  damage-by did.Applied s l octets h = both (λ t. Within t new) s (kept s (ap (λ x. x.entity.state) h.loses.station)) (kept (other s) (ap (λ x. x.state) h.loses.entity))
  damage-by did.Nothing s l octets h = same-within h.1
  damage-by (did.Refused (refusal.Put by)) s l octets h = absurd h
  damage-by (did.Refused (refusal.Call by)) s l octets h = absurd h
  damage-by (did.Refused refusal.LossRunTooLong) s l octets h = same-within h.same
  damage-by (did.Refused refusal.NotDamaged) s l octets h = same-within h.same

  pub event-within : (e : Event) (d : Applied) → Steps e d old new → (t : Side) → Within t new
  event-within (event.Put s source destination) d h = put-by d s source destination h
  event-within (event.Cancel s id) d h = call-by d s calls.Cancel id h
  event-within (event.Suspend s id) d h = call-by d s calls.Suspend id h
  event-within (event.Resume s id) d h = call-by d s calls.Resume id h
  event-within (event.Prompt s id keep_alive) d h = call-by d s (calls.Prompt keep_alive) id h
  event-within (event.Poll s) d h = poll-by d s h
  event-within (event.Flush s) d h = flush-by d s h
  event-within (event.Tick s now) did.Applied h = told-within s now h
  event-within (event.Tick s now) did.Nothing h = absurd h
  event-within (event.Tick s now) (did.Refused by) h = absurd h
  event-within (event.Deliver s l) d h = deliver-by d s l h
  event-within (event.Strike s l) d h = strike-by d s l h
  event-within (event.Damage s l octets) d h = damage-by d s l octets h
