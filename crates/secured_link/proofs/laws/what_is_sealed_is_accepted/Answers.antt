use Rattle.secured_link.proofs.Accepting.{sealed_arrives}
use Rattle.secured_link.proofs.laws.what_is_sealed_is_accepted.Goals as goal

pub returns : goal.returns
returns c = sealed_arrives
