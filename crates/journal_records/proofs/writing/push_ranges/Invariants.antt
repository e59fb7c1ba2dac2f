use Rattle.std.proofs.Common.{◌≡◌, ◌++◌, length, take}
use Rattle.std.specs.Int.{w64, to_be_bytes}
use Rattle.std.specs.List.{flat_map}
use Rattle.journal_records.specs.Writing.{range_octets}
use Rattle.journal_records.proofs.writing.push_ranges.Given as goal

abbrev pub invariant-loop-range : goal.invariant-loop-range
invariant-loop-range l = l.out.items ≡ l.fn.out.items ++ (to_be_bytes w64 (length l.ranges) ++ flat_map range_octets (take l.range-index l.ranges))
