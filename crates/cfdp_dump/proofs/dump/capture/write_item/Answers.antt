use Rattle.std.proofs.Common.{sym}
use Rattle.captures.specs.Packets.{packet_text}
use Rattle.cfdp_dump.proofs.Runs.{item_faulty, item_passed, item_unit}
use Rattle.cfdp_dump.proofs.dump.capture.write_item.Goals as goal

pub returns-in-Ok : goal.returns-in-Ok
returns-in-Ok g c =
    rw c.in-Packet.is (item_unit c.args.whole c.args.request c.args.channels.now (packet_text c.in-Packet.packet) _ _ _ _ _
    (sym c.in-Ok.ensures.refused) c.in-Ok.ensures.found c.write_unit.ensures)

pub returns-in-Err : goal.returns-in-Err
returns-in-Err g c =
    rw c.in-Packet.is (item_passed c.args.whole c.args.request c.args.channels.now (packet_text c.in-Packet.packet) _ _ _ _
    (sym c.in-Err.ensures.refused) c.write_remark.ensures)

pub returns-in-Faulty : goal.returns-in-Faulty
returns-in-Faulty g c =
    rw c.in-Faulty.is (item_faulty c.args.whole c.args.request c.args.channels.now c.in-Faulty.fault c.saturating_sub-place.result _ _ _ c.saturating_sub-place.ensures
    c.write_remark-in-Faulty.ensures)
