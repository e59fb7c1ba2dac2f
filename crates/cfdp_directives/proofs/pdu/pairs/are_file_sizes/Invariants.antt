use Rattle.std.proofs.Common.{take}
use Rattle.std.specs.List.{AllByRecursion}
use Rattle.cfdp_directives.specs.Pdu.Codes.{file_size_octets}
use Rattle.cfdp_directives.specs.Pdu.Pair.{IsPair}
use Rattle.cfdp_directives.proofs.pdu.pairs.are_file_sizes.Given as goal

abbrev pub invariant-loop-start : goal.invariant-loop-start
invariant-loop-start l = AllByRecursion (IsPair (file_size_octets l.large)) (take l.start-index l.pairs)
