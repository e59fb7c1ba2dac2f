use Rattle.cfdp_endings.proofs.SenderAlone.{goes-on, opened-owes, step-owes, partly-owes}
use Rattle.cfdp_endings.proofs.laws.a_sender_is_never_silent.Goals as goal

pub returns : goal.returns
returns c = record { goes_on = goes-on; opened = opened-owes; stays = step-owes; partly = partly-owes }
