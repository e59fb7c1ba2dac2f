use Rattle.std.proofs.Common.{take}
use Rattle.std.specs.List.{flat_map}
use Rattle.cfdp_dump.specs.Spelled.Lines.{WritesLines}
use Rattle.cfdp_dump.specs.Dump.Told.{TellsTold, packet_told}
use Rattle.cfdp_dump.proofs.dump.unit.write_packets.Given as goal

-- the packets so far are written
abbrev pub invariant-loop-place : goal.invariant-loop-place
invariant-loop-place g l =
    WritesLines (TellsTold l.request) (flat_map packet_told (take l.place l.packets)) (g.W.Write.contents l.initial.out) (g.W.Write.contents l.out)
