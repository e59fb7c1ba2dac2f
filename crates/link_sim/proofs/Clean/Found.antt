-- Each accepted put is found, and is of one of the stations: so in a new world, and after every event.
use Rattle.std.proofs.Common.{◌≡◌, ℕ, zero, suc, ◌<◌, List, [], ◌∷◌, ◌⊎◌, inl, inr, sym, ap, subst, ◌∙◌, arith}
use Rattle.std.specs.Prelude.{Contains}
use Rattle.cfdp_header.specs.declared.value.TransactionId.{TransactionId}
use Rattle.cfdp_entity.specs.declared.config.EntityConfig.{EntityConfig}
use Rattle.cfdp_entity.specs.declared.request.Request.{Request}
use Rattle.cfdp_entity.specs.declared.request.Request.TheVariants as calls
use Rattle.cfdp_entity.specs.Sound.{next_put}
use Rattle.link_sim.specs.declared.event.AcceptedPut.{AcceptedPut}
use Rattle.link_sim.specs.declared.event.Applied.{Applied}
use Rattle.link_sim.specs.declared.event.Applied.TheVariants as did
use Rattle.link_sim.specs.declared.event.Event.{Event}
use Rattle.link_sim.specs.declared.event.Event.TheVariants as event
use Rattle.station_pair.specs.declared.refusal.Refusal.TheVariants as refusal
use Rattle.station_pair.specs.declared.side.Side.{Side}
use Rattle.link_sim.specs.Sound.{IsSound}
use Rattle.link_sim.specs.World.State.{WorldState, entity_at}
use Rattle.link_sim.specs.World.Steps.{TakesPut, Puts, Calls, Stays, Steps}
use Rattle.link_sim.proofs.Events.Beginning.{event-moves}
use Rattle.link_sim.specs.EveryPut.{AreFound, IsFound}
use Rattle.link_sim.proofs.Events.Keeping.{in-either}
use Rattle.link_sim.proofs.Events.Moving.{EntityLaws, Moves, stays-moves, found-now}

-- ---- the accepted puts are those of before, or one was accepted
abbrev Added : (old new : WorldState) → Type 0
Added old new = (new.puts ≡ old.puts) ⊎ ((s : Side) × (source : List ℕ) × (destination : List ℕ) × TakesPut s source destination old new)

module _ (old new : WorldState) where
  same-world : new ≡ old → Added old new
  same-world e = inl (ap (λ (w : WorldState). w.puts) e)

  put-added : (d : Applied) (s : Side) (source destination : List ℕ) → Puts d s source destination old new → Added old new
  put-added did.Applied s source destination h = inr (s, source, destination, h)
  put-added did.Nothing s source destination h = absurd h
  put-added (did.Refused (refusal.Put by)) s source destination h = inl h.stays.counts.puts
  put-added (did.Refused (refusal.Call by)) s source destination h = absurd h
  put-added (did.Refused refusal.LossRunTooLong) s source destination h = absurd h
  put-added (did.Refused refusal.NotDamaged) s source destination h = absurd h

  call-added : (d : Applied) (s : Side) (c : Request) (id : TransactionId) → Calls d s c id old new → Added old new
  call-added did.Applied s c id h = inl h.counts.puts
  call-added did.Nothing s c id h = absurd h
  call-added (did.Refused (refusal.Put by)) s c id h = absurd h
  call-added (did.Refused (refusal.Call by)) s c id h = same-world h.same
  call-added (did.Refused refusal.LossRunTooLong) s c id h = absurd h
  call-added (did.Refused refusal.NotDamaged) s c id h = absurd h

  added : (e : Event) (d : Applied) → Steps e d old new → Added old new
  added (event.Put s source destination) d h = put-added d s source destination h
  added (event.Cancel s id) d h = call-added d s calls.Cancel id h
  added (event.Suspend s id) d h = call-added d s calls.Suspend id h
  added (event.Resume s id) d h = call-added d s calls.Resume id h
  added (event.Prompt s id keep_alive) d h = call-added d s (calls.Prompt keep_alive) id h
  added (event.Poll s) did.Applied (inl h) = inl h.marks.counts.puts
  added (event.Poll s) did.Applied (inr h) = inl h.counts.puts
  added (event.Poll s) did.Nothing h = same-world h.1
  added (event.Poll s) (did.Refused by) h = absurd h
  added (event.Flush s) did.Applied h = inl h.0.marks.counts.puts
  added (event.Flush s) did.Nothing h = same-world h.1
  added (event.Flush s) (did.Refused by) h = absurd h
  added (event.Tick s now) did.Applied h = inl h.puts
  added (event.Tick s now) did.Nothing h = absurd h
  added (event.Tick s now) (did.Refused by) h = absurd h
  added (event.Deliver s l) did.Applied h = inl h.counts.puts
  added (event.Deliver s l) did.Nothing h = same-world h.1
  added (event.Deliver s l) (did.Refused by) h = absurd h
  added (event.Strike s l) did.Applied h = inl h.counts.puts
  added (event.Strike s l) did.Nothing h = same-world h.1
  added (event.Strike s l) (did.Refused (refusal.Put by)) h = absurd h
  added (event.Strike s l) (did.Refused (refusal.Call by)) h = absurd h
  added (event.Strike s l) (did.Refused refusal.LossRunTooLong) h = same-world h.same
  added (event.Strike s l) (did.Refused refusal.NotDamaged) h = absurd h
  added (event.Damage s l octets) did.Applied h = inl h.loses.counts.puts
  added (event.Damage s l octets) did.Nothing h = same-world h.1
  added (event.Damage s l octets) (did.Refused (refusal.Put by)) h = absurd h
  added (event.Damage s l octets) (did.Refused (refusal.Call by)) h = absurd h
  added (event.Damage s l octets) (did.Refused refusal.LossRunTooLong) h = same-world h.same
  added (event.Damage s l octets) (did.Refused refusal.NotDamaged) h = same-world h.same

  -- ---- found before, found now
  module _ (m : Moves old new) where
    still-found : (p : AcceptedPut) → IsFound old p → IsFound new p
    still-found p f = record {
      put = f.put;
      is_put = m.puts.finds p.id f.put f.is_put;
      side = f.side;
      own = f.own ∙ sym (ap (λ (c : EntityConfig). c.entity) (m.sides f.side).goes.config);
    }

    same-found : new.puts ≡ old.puts → AreFound old → AreFound new
    same-found same found p c = still-found p (found p (subst (λ (l : List AcceptedPut). Contains l p) same c))

is-one : (p q : AcceptedPut) → Contains (p ∷ []) q → p ≡ q
is-one p q (zero, low, e) = e
is-one p q (suc k, low, e) = absurd (omega (arith, low))

module _ (laws : EntityLaws) (old new : WorldState) (sound : IsSound old) where
  put-found : (m : Moves old new) (s : Side) (source destination : List ℕ) → TakesPut s source destination old new → AreFound old → AreFound new
  put-found m s source destination h found p c =
      let last : AcceptedPut = record { id = h.id; source = source; destination = destination } in
      let first : IsFound new last = record {
        put = next_put source destination (entity_at s old);
        is_put = found-now laws old new sound s source destination h;
        side = s;
        own = ap (λ (x : TransactionId). x.source) h.accepts.is_next ∙ sym (ap (λ (c : EntityConfig). c.entity) (m.sides s).goes.config);
      } in
      elim (in-either old.puts (last ∷ []) p (subst (λ (l : List AcceptedPut). Contains l p) h.puts c)) [
        | inl before ↦ still-found old new m p (found p before)
        | inr now ↦ subst (λ (q : AcceptedPut). IsFound new q) (is-one last p now) first
      ]

  pub steps-found : (e : Event) (d : Applied) → Steps e d old new → AreFound old → AreFound new
  steps-found e d h found =
      let m : Moves old new = event-moves laws old new sound e d h in
      elim (added old new e d h) [
        | inl same ↦ same-found old new m same found
        | inr put ↦ put-found m put.0 put.1 put.2 put.3 found
      ]

pub stays-found : (s : Side) (old new : WorldState) → IsSound old → Stays s old new → AreFound old → AreFound new
stays-found s old new sound h found = same-found old new (stays-moves s old new sound h) h.counts.puts found

-- at first there is none
pub first-found : (w : WorldState) → w.puts ≡ [] → AreFound w
first-found w none p c = absurd (none-in p (subst (λ (l : List AcceptedPut). Contains l p) none c))
  where
    none-in : (p : AcceptedPut) → Contains [] p → ⊥
    none-in p c = let k = c.0 in let low : k < 0 = c.1 in omega arith
