use Rattle.cfdp_dump.proofs.Runs.{packet_with}
use Rattle.cfdp_dump.proofs.dump.unit.write_packet.Goals as goal

pub returns-in-Some : goal.returns-in-Some
returns-in-Some g c =
    packet_with c.args.request c.args.packet.now _ _ _ _ _ _ (rw c.in-Some.is at c.pdu_in.ensures) c.packet_remark.ensures c.in_ok-write_remark.ensures c.write_pdu.ensures
