use Rattle.std.proofs.Common.{◌≡◌, ◌≤◌, ◌<◌, false, length, take}
use Rattle.mpdu.specs.Draining.{IsCarried}
use Rattle.mpdu.specs.Feeding.{octets_of_each}
use Rattle.mpdu.proofs.carrying.carry.Given as goal

abbrev pub invariant-loop-packet : goal.invariant-loop-packet
invariant-loop-packet l = record {
  sized : l.packer.size ≡ l.zone;
  held : l.packer.capacity ≡ 131072;
  buffer : length l.buffer.items ≡ l.zone;
  flag : l.packer.flushed ≡ false;
  place : l.sent ≤ length l.struck;
  emptied : length l.packer.waiting < l.packer.size;
  carried : IsCarried (octets_of_each (take l.packet-index l.packets)) l.struck l.zone l.packer l.reassembler l.counts.counter l.counts.monitor l.sent l.out;
}
