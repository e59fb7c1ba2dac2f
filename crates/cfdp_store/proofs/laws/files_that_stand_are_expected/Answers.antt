use Rattle.cfdp_store.proofs.ShownLemmas.{expected-all}
use Rattle.cfdp_store.proofs.laws.files_that_stand_are_expected.Goals as goal

pub returns : goal.returns
returns c = expected-all
