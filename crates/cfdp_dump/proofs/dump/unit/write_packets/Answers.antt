use Rattle.std.proofs.Common.{[], arith}
use Rattle.std.proofs.lemmas.List.{take_more}
use Rattle.cfdp_dump.proofs.Runs.{packets_told, told_none}
use Rattle.cfdp_dump.proofs.dump.unit.write_packets.Goals as goal

pub loop-place-init : goal.loop-place-init
loop-place-init g c = told_none c.args.request _

pub loop-place-preserved : goal.loop-place-preserved
loop-place-preserved g c =
    rw (take_more c.args.packets.now c.loop-place.place [] (omega arith), ← c.get.ensures)
    (packets_told c.args.request _ c.get.result.now _ _ _ c.loop-place.invariant c.in_ok-write_packet.ensures)
