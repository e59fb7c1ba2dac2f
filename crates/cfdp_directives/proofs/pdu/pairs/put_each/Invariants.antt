use Rattle.std.proofs.Common.{◌≡◌, ◌+◌, ◌*◌, ◌++◌, length, take}
use Rattle.std.specs.List.{flat_map, AllByRecursion}
use Rattle.cfdp_directives.specs.Pdu.Codes.{file_size_octets}
use Rattle.cfdp_directives.specs.Pdu.Pair.{pair, pair_octets, IsPair}
use Rattle.cfdp_directives.proofs.pdu.pairs.put_each.Given as goal

abbrev pub invariant-loop-start : goal.invariant-loop-start
invariant-loop-start l = record {
  fits : AllByRecursion (IsPair (file_size_octets l.large)) l.pairs;
  place : l.place + pair_octets l.large * length l.pairs ≡ l.at + pair_octets l.large * length l.fn.pairs;
  front : take l.place l.out ++ flat_map (pair (file_size_octets l.large)) l.pairs ≡ take l.at l.fn.out ++ flat_map (pair (file_size_octets l.large)) l.fn.pairs;
}

abbrev pub decreases-loop-start : goal.decreases-loop-start
decreases-loop-start l = length l.pairs
