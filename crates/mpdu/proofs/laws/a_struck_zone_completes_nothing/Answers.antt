use Rattle.mpdu.proofs.Struck.{begun-struck, survivors-struck}
use Rattle.mpdu.proofs.laws.a_struck_zone_completes_nothing.Goals as goal

pub returns-clause-survivors : goal.returns-clause-survivors
returns-clause-survivors c z marks ps some whole = survivors-struck z marks 0 ps some whole

pub returns-clause-begun : goal.returns-clause-begun
returns-clause-begun c z marks ps some = begun-struck z marks 0 ps some
