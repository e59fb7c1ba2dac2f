use Rattle.secured_link.proofs.Lives.{only_handed_on}
use Rattle.secured_link.proofs.laws.only_what_was_sealed_is_handed_on.Goals as goal

pub returns : goal.returns
returns c = only_handed_on
