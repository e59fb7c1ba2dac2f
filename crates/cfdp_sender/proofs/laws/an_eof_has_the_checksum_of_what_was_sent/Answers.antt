use Rattle.cfdp_sender.proofs.Truth.{ChecksumsGoOn, eof-whole, eof-front}
use Rattle.cfdp_sender.proofs.laws.an_eof_has_the_checksum_of_what_was_sent.Goals as goal

pub returns : goal.returns
returns c =
    let go_on = c.checksums_go_on.ensures in
    let law : ChecksumsGoOn = record { none = go_on.none; more = go_on.more; whole = go_on.whole } in
    record { whole = eof-whole law; front = eof-front law }
