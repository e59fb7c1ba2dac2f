use Rattle.std.proofs.Common.{◌≡◌, [], true, length}
use Rattle.std.specs.Prelude.{is_some, unwrap_or}
use Rattle.cfdp_directives.specs.Pdu.Tlv.{tlvs_of, location_of}
use Rattle.cfdp_directives.proofs.pdu.tlv.Tlvs.fault_location.Given as goal

abbrev pub invariant-loop-kind : goal.invariant-loop-kind
invariant-loop-kind l = record {
  whole : is_some (tlvs_of l.rest) ≡ true;
  same : location_of (unwrap_or (tlvs_of l.rest) []) ≡ location_of l.self;
}

abbrev pub decreases-loop-kind : goal.decreases-loop-kind
decreases-loop-kind l = length l.rest
