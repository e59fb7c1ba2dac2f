use Rattle.std.proofs.Common.{◌≡◌, ◌+◌, ◌%◌, ◌^◌, take}
use Rattle.cfdp_directives.specs.Pdu.Checksum.{sum_at}
use Rattle.cfdp_directives.proofs.pdu.checksum.sum_octets.Given as goal

abbrev pub invariant-loop-b : goal.invariant-loop-b
invariant-loop-b l = record { sum : l.sum ≡ (l.old + sum_at l.offset (take l.b-index l.bytes)) % 2 ^ 32; place : l.place ≡ (l.offset + l.b-index) % 4 }
