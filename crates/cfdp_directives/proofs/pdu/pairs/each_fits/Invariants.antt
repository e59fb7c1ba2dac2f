use Rattle.std.proofs.Common.{length}
use Rattle.std.specs.Prelude.{◌↔◌}
use Rattle.std.specs.List.{AllByRecursion}
use Rattle.cfdp_directives.specs.Pdu.Codes.{file_size_octets}
use Rattle.cfdp_directives.specs.Pdu.Pair.{IsPair}
use Rattle.cfdp_directives.proofs.pdu.pairs.each_fits.Given as goal

abbrev pub invariant-loop-start : goal.invariant-loop-start
invariant-loop-start l = AllByRecursion (IsPair (file_size_octets l.large)) l.pairs ↔ AllByRecursion (IsPair (file_size_octets l.large)) l.fn.pairs

abbrev pub decreases-loop-start : goal.decreases-loop-start
decreases-loop-start l = length l.pairs
