use Rattle.cfdp_sender.proofs.KeepsPut.{step-same, partly-same}
use Rattle.cfdp_sender.proofs.laws.a_sender_keeps_what_it_sends.Goals as goal

pub returns : goal.returns
returns c = record { step = step-same; partly = partly-same }
