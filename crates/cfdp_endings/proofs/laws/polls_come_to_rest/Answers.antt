use Rattle.cfdp_endings.proofs.Tables.{MachineLaws}
use Rattle.cfdp_endings.proofs.Dues.{poll-falls, polls-few}
use Rattle.cfdp_endings.proofs.laws.polls_come_to_rest.Goals as goal

pub returns : goal.returns
returns c =
    let owes = c.a_receiver_is_never_silent.ensures in
    let file = c.what_is_due_is_in_the_file.ensures in
    let laws : MachineLaws = record { in_file = file.stays; put = file.opened; step = owes.stays; opened = owes.opened; closed = owes.closed } in
    record { poll = λ stored e k some. poll-falls stored e k.table some; polls = λ answers old new k run. polls-few laws answers old new k.table run }
