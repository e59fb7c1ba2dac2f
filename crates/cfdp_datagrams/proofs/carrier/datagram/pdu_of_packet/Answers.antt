use Rattle.std.proofs.Common.{[], arith, sym}
use Rattle.std.proofs.lemmas.List.{append-nil}
use Rattle.cfdp_datagrams.specs.Carrier.{carrying}
use Rattle.cfdp_datagrams.proofs.carrier.datagram.pdu_of_packet.Goals as goal

pub returns-then-not-is_empty-clause-only : goal.returns-then-not-is_empty-clause-only
returns-then-not-is_empty-clause-only c packet_type count header pdu long some spelled =
    let found = c.in-Ok.ensures.only (carrying packet_type c.args.apid count header pdu) c.args.datagram.now [] spelled (sym (append-nil c.args.datagram.now)) in
    grind (arith, found.1, c.is_empty.ensures, c.if-not-is_empty.true)
