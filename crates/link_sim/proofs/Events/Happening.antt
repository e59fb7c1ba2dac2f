-- Events that happen one after another.
use Rattle.std.proofs.Common.{List, [], ◌∷◌, ◌++◌, refl, subst, inl}
use Rattle.link_sim.specs.Running.{AreSteps, Called, Happens, Led}
use Rattle.link_sim.specs.World.State.{WorldState}
use Rattle.link_sim.specs.World.Steps.{Steps}
use Rattle.link_sim.specs.declared.event.Event.{Event}
use Rattle.link_sim.specs.declared.event.Applied.{Applied}
use Rattle.link_sim.proofs.Events.Leading.{many-both, many-none, many-one}

-- one more event, after the others
steps-more : (events : List Event) (did : List Applied) (e : Event) (d : Applied) (old mid new : WorldState) → AreSteps events did old mid → Steps e d mid new →
    AreSteps (events ++ e ∷ []) (did ++ d ∷ []) old new
steps-more [] [] e d old mid new before step = (new, subst (λ w. Steps e d w new) before step, refl)
steps-more [] (x ∷ did) e d old mid new before step = absurd before
steps-more (f ∷ events) [] e d old mid new before step = absurd before
steps-more (f ∷ events) (x ∷ did) e d old mid new before step = (before.0, before.1, steps-more events did e d before.0 mid new before.2 step)

pub happens-more : (events : List Event) (e : Event) (d : Applied) (old mid new : WorldState) → Happens events old mid → Steps e d mid new → Happens (events ++ e ∷ []) old new
happens-more events e d old mid new before step = (before.0 ++ d ∷ [], steps-more events before.0 e d old mid new before.1 step)

-- each event is a call
steps-led : (events : List Event) (did : List Applied) (old new : WorldState) → AreSteps events did old new → Led old new
steps-led [] [] old new same = many-none Called old new same
steps-led [] (x ∷ did) old new h = absurd h
steps-led (e ∷ events) [] old new h = absurd h
steps-led (e ∷ events) (d ∷ did) old new h = many-both Called old h.0 new (many-one Called old h.0 (inl (inl (e, d, h.1)))) (steps-led events did h.0 new h.2)

pub happens-led : (events : List Event) (old new : WorldState) → Happens events old new → Led old new
happens-led events old new h = steps-led events h.0 old new h.1
