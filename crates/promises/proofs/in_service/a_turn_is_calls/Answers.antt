use Rattle.std.proofs.Common.{refl}
use Rattle.cfdp_port.proofs.GainLemmas.{GoesOnLaws}
use Rattle.promises.proofs.Shading.{early_so, turn_so}
use Rattle.promises.proofs.Turning.{stopped, turned}
use Rattle.promises.specs.Serving.{kept_sending}
use Rattle.promises.proofs.in_service.a_turn_is_calls.Goals as goal

pub returns : goal.returns
returns g c =
    let on = c.an_entity_goes_on.ensures in
    let laws : GoesOnLaws = record { ticked = on.ticked; heard = on.heard; dropped = on.dropped; served = on.served } in
    record {
      whole = λ config files theirs old new puts turn long.
          turned laws config theirs puts g.W.Wire.steps (kept_sending files old) (kept_sending files new)
          (turn_so files g.W.Wire.steps config.receives theirs theirs refl old new turn long).0;
      early = λ config files theirs old new puts turn long.
          stopped laws config theirs puts g.W.Wire.steps (kept_sending files old) (kept_sending files new)
          (early_so files g.W.Wire.steps config.receives theirs theirs refl old new turn long).0;
    }
