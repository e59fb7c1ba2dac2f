use Rattle.std.proofs.Common.{◌≡◌, ◌+◌, ◌*◌, ◌++◌, take}
use Rattle.std.specs.List.{flat_map}
use Rattle.cfdp_directives.specs.Pdu.Codes.{file_size_octets}
use Rattle.cfdp_directives.specs.Pdu.Pair.{pair, pair_octets}
use Rattle.cfdp_directives.proofs.pdu.pairs.put_pairs.Given as goal

abbrev pub invariant-loop-start : goal.invariant-loop-start
invariant-loop-start l = record {
  place : l.place ≡ l.at + pair_octets l.large * l.start-index;
  front : take l.place l.out ≡ take l.at l.fn.out ++ flat_map (pair (file_size_octets l.large)) (take l.start-index l.pairs);
}
