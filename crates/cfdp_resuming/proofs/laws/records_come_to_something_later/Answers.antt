use Rattle.cfdp_resuming.proofs.Tables.{StepLaws, table-later}
use Rattle.cfdp_resuming.proofs.laws.records_come_to_something_later.Goals as goal

pub returns : goal.returns
returns c =
    let laws : StepLaws = record { receiver = c.a_committed_receiver_comes_back.ensures.step; sender = c.a_sender_keeps_what_it_sends.ensures.step } in
    table-later laws
