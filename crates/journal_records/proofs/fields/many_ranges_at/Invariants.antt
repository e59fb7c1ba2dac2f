use Rattle.std.proofs.Common.{◌≡◌, ◌-◌}
use Rattle.journal_records.specs.Reading.{range_at, many_at}
use Rattle.journal_records.proofs.Parts.{with_front}
use Rattle.journal_records.proofs.fields.many_ranges_at.Given as goal

abbrev pub invariant-loop : goal.invariant-loop
invariant-loop l = with_front l.ranges.items (many_at range_at (l.count - l.counter) l.rest) ≡ many_at range_at l.count l.bytes
