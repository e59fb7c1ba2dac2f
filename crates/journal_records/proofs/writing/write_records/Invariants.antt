use Rattle.std.proofs.Common.{◌≡◌, ◌++◌, length, take}
use Rattle.std.specs.Int.{w64, to_be_bytes}
use Rattle.std.specs.List.{flat_map}
use Rattle.journal_records.specs.Writing.{record_octets}
use Rattle.journal_records.proofs.writing.write_records.Given as goal

abbrev pub invariant-loop-record : goal.invariant-loop-record
invariant-loop-record l = l.out.items ≡ to_be_bytes w64 (length l.records) ++ flat_map record_octets (take l.record-index l.records)
