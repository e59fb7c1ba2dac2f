use Rattle.cfdp_datagrams.proofs.Paces.{keeps-rate}
use Rattle.cfdp_datagrams.proofs.pacer.a_rate_is_kept.Goals as goal

pub returns : goal.returns
returns c = keeps-rate
