-- Each event of a settling that does something lowers the work that remains, and the others keep it.
use Rattle.std.proofs.Common.{◌≡◌, ◌+◌, ◌<◌, ◌≤◌, List, [], ◌∷◌, sym, subst, arith}
use Rattle.link_sim.specs.Settling.{AreOfSettling, IsOfSettling}
use Rattle.link_sim.specs.Sound.{IsSound}
use Rattle.link_sim.specs.Work.{world_work}
use Rattle.link_sim.specs.World.State.{AreRested, WorldState}
use Rattle.link_sim.specs.World.Steps.{Steps}
use Rattle.link_sim.specs.declared.event.Applied.{Applied}
use Rattle.link_sim.specs.declared.event.Applied.TheVariants as did
use Rattle.link_sim.specs.declared.event.Event.{Event}
use Rattle.link_sim.specs.declared.event.Event.TheVariants as event
use Rattle.station_pair.specs.declared.side.Side.{Side}
use Rattle.link_sim.proofs.Events.Resting.{rests-kept}
use Rattle.link_sim.proofs.Work.Settling.{event-less}
use Rattle.promises.specs.Events.{one_if_done, done_count}

-- what every event keeps
abbrev pub Keeps : Type 0
Keeps = (e : Event) (d : Applied) (old new : WorldState) → IsSound old → Steps e d old new → IsSound new

abbrev AllRest : WorldState → Type 0
AllRest w = (s : Side) → AreRested s w

same-work : (old new : WorldState) → new ≡ old → 0 + world_work new ≤ world_work old
same-work old new same = subst (λ (w : WorldState). 0 + world_work w ≤ world_work old) (sym same) (omega arith)

less-work : (old new : WorldState) → world_work new < world_work old → 1 + world_work new ≤ world_work old
less-work old new low = omega (arith, low)

module _ (old new : WorldState) (sound : IsSound old) (rest : AllRest old) where
  one-falls : (e : Event) (d : Applied) → IsOfSettling e → Steps e d old new → one_if_done d + world_work new ≤ world_work old
  one-falls (event.Poll s) did.Applied of_it h = less-work old new (event-less old new sound rest (rests-kept old new sound rest (event.Poll s) did.Applied h) (event.Poll s) of_it h)
  one-falls (event.Poll s) did.Nothing of_it h = same-work old new h.1
  one-falls (event.Poll s) (did.Refused by) of_it h = absurd h
  one-falls (event.Flush s) did.Applied of_it h = less-work old new (event-less old new sound rest (rests-kept old new sound rest (event.Flush s) did.Applied h) (event.Flush s) of_it h)
  one-falls (event.Flush s) did.Nothing of_it h = same-work old new h.1
  one-falls (event.Flush s) (did.Refused by) of_it h = absurd h
  one-falls (event.Deliver s l) did.Applied of_it h = less-work old new (event-less old new sound rest (rests-kept old new sound rest (event.Deliver s l) did.Applied h) (event.Deliver s l) of_it h)
  one-falls (event.Deliver s l) did.Nothing of_it h = same-work old new h.1
  one-falls (event.Deliver s l) (did.Refused by) of_it h = absurd h
  one-falls (event.Put s source destination) d of_it h = absurd of_it
  one-falls (event.Cancel s id) d of_it h = absurd of_it
  one-falls (event.Suspend s id) d of_it h = absurd of_it
  one-falls (event.Resume s id) d of_it h = absurd of_it
  one-falls (event.Prompt s id keep_alive) d of_it h = absurd of_it
  one-falls (event.Tick s now) d of_it h = absurd of_it
  one-falls (event.Strike s l) d of_it h = absurd of_it
  one-falls (event.Damage s l octets) d of_it h = absurd of_it

pub steps-fall : Keeps → (steps : List (Event × Applied)) (old new : WorldState) → IsSound old → AllRest old → AreOfSettling steps old new → done_count steps + world_work new ≤ world_work old
steps-fall keeps [] old new sound rest same = same-work old new same
steps-fall keeps (s ∷ steps) old new sound rest (mid, of_it, step, more) =
    let first = one-falls old mid sound rest s.0 s.1 of_it step in
    let later = steps-fall keeps steps mid new (keeps s.0 s.1 old mid sound step) (rests-kept old mid sound rest s.0 s.1 step) more in
    omega (arith, first, later)
