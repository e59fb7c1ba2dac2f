use Rattle.cfdp_sender.proofs.InFile.{held-in, opened-in, step-in}
use Rattle.cfdp_sender.proofs.laws.what_is_due_is_in_the_file.Goals as goal

pub returns : goal.returns
returns c = record { held = held-in; opened = opened-in; stays = step-in }
