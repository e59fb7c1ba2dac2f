use Rattle.cfdp_endings.proofs.ReceiverAlone.{goes-on}
use Rattle.cfdp_endings.proofs.laws.a_receiver_is_never_silent.Goals as goal

pub returns : goal.returns
returns c =
    let owes = c.a_finished_says_what_was_indicated.ensures in
    record { goes_on = goes-on; opened = owes.opened; closed = owes.closed; stays = owes.step }
