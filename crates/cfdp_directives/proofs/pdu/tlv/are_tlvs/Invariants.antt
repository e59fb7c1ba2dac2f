use Rattle.std.proofs.Common.{◌≡◌, length}
use Rattle.std.specs.Prelude.{is_some}
use Rattle.cfdp_directives.specs.Pdu.Tlv.{tlvs_of}
use Rattle.cfdp_directives.proofs.pdu.tlv.are_tlvs.Given as goal

abbrev pub invariant-loop-rest : goal.invariant-loop-rest
invariant-loop-rest l = is_some (tlvs_of l.rest) ≡ is_some (tlvs_of l.octets)

abbrev pub decreases-loop-rest : goal.decreases-loop-rest
decreases-loop-rest l = length l.rest
