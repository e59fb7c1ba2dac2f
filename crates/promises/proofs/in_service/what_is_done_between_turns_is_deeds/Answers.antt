use Rattle.promises.proofs.Readying.{readied}
use Rattle.promises.proofs.in_service.what_is_done_between_turns_is_deeds.Goals as goal

pub returns : goal.returns
returns g c = λ config s old calls now station ready. readied g.W.Wire.steps config s old calls now station ready
