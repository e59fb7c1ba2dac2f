use Rattle.cfdp_sender.proofs.Resting.{opened-rests, step-rests, partly-rests}
use Rattle.cfdp_sender.proofs.laws.a_closed_sender_rests.Goals as goal

pub returns : goal.returns
returns c = record { opened = opened-rests; stays = step-rests; partly = partly-rests }
