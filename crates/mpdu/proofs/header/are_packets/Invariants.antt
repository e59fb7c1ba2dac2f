use Rattle.std.proofs.Common.{take}
use Rattle.mpdu.specs.Stream.{ArePackets}
use Rattle.mpdu.specs.Feeding.{octets_of_each}
use Rattle.mpdu.proofs.header.are_packets.Given as goal

abbrev pub invariant-loop-packet : goal.invariant-loop-packet
invariant-loop-packet l = ArePackets (octets_of_each (take l.packet-index l.packets))
