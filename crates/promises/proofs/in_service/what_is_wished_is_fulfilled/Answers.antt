use Rattle.promises.proofs.Wishing.{fulfilled}
use Rattle.promises.proofs.in_service.what_is_wished_is_fulfilled.Goals as goal

pub returns : goal.returns
returns c = fulfilled
