use Rattle.secured_link.proofs.Accepting.{arrive}
use Rattle.secured_link.proofs.laws.what_is_not_forged_is_accepted.Goals as goal

pub returns : goal.returns
returns c = λ o came all next theirs old kept most took none close. arrive theirs all next kept o came old most took close none
