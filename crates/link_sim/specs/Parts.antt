-- Proof-only: what the parts of a settling do.
use Rattle.std.specs.Prelude.{◌≡◌, ◌<◌, Bool, true, false, IfErr, IfOk, OnOk, Result}
use Rattle.link_sim.specs.declared.event.Applied.TheVariants as did
use Rattle.link_sim.specs.declared.event.Event.{Event}
use Rattle.station_pair.specs.declared.settle_error.SettleError.{SettleError}
use Rattle.link_sim.specs.Observed.{seen}
use Rattle.link_sim.specs.Onward.{GoesOnFrom}
use Rattle.link_sim.specs.Settling.{HasCauseFrom, LeadsTo}
use Rattle.link_sim.specs.World.State.{WorldState}
use Rattle.link_sim.specs.World.Steps.{Steps}
use Rattle.link_sim.specs.Work.{world_work}

-- A call leads on, and if it answers that anything happened, less may still be done.
pub record WorksOff {E : Type 0} (answer : Result Bool E) (old new : WorldState) : Type 0 where
  pub leads : LeadsTo (seen old) (seen new)
  pub less : IfOk answer (λ happened. happened ≡ true → world_work new < world_work old)

-- One event: it answers whether there was anything to do for it.
pub record TakesTurn {E : Type 0} (e : Event) (answer : Result Bool E) (old new : WorldState)
    : Type 0 where
  pub work : WorksOff answer old new
  pub idle : IfOk answer (λ happened. happened ≡ false → Steps e did.Nothing old new)

-- The events from one up to another, each as often as there was anything to do for it: whether any
-- did. All went well, and each transaction made a run of its own; or an error says why not.
pub record SettlesPart (from upto : Event) (answer : Result Bool SettleError)
    (old new : WorldState) : Type 0 where
  pub work : WorksOff answer old new
  pub same : IfOk answer (λ happened. happened ≡ false → new ≡ old)
  pub well : OnOk answer (GoesOnFrom from upto old new)
  pub cause : IfErr answer (λ error. HasCauseFrom from error old new)
