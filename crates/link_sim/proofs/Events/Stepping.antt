-- What a step comes to that may have found no memory.
use Rattle.std.proofs.Common.{◌≡◌, refl, sym, subst}
use Rattle.std.specs.Prelude.{Result, Ok, Err, IfOk, OnErr}
use Rattle.std.specs.declared.alloc.AllocError.{AllocError}
use Rattle.link_sim.specs.declared.event.Event.{Event}
use Rattle.link_sim.specs.declared.event.Applied.{Applied}
use Rattle.station_pair.specs.declared.side.Side.{Side}
use Rattle.link_sim.specs.World.State.{WorldState}
use Rattle.link_sim.specs.World.Steps.{FindsNoMemory, Stays, Steps, side_in}

-- if nothing changed, nothing but perhaps a count did
pub stays-same : (s : Side) (old new : WorldState) → new ≡ old → Stays s old new
stays-same s old new is = subst (Stays s old) (sym is) (record {
  entity = refl;
  links = record { ends = (refl, refl); link = refl; spares = record { station = refl; link = refl } };
  counts = record { puts = refl; ticks = refl };
})

-- what follows of each step, and of none, follows
pub by-step : (P : WorldState → WorldState → Type 0) (e : Event) (old new : WorldState) → ((did : Applied) → Steps e did old new → P old new) → (Stays (side_in e) old new → P old new) →
    (r : Result Applied AllocError) → IfOk r (λ did. Steps e did old new) → OnErr r (FindsNoMemory (side_in e) old new) → P old new
by-step P e old new step none (Ok did) s k = step did s
by-step P e old new step none (Err x) s k = none (stays-same (side_in e) old new k)

-- what follows of each answer follows of the one that came
pub ok-then : {X E : Type 0} (P Q : X → Type 0) → ((x : X) → P x → Q x) → (r : Result X E) → IfOk r P → IfOk r Q
ok-then P Q h (Ok x) p = h x p
ok-then P Q h (Err e) p = p
