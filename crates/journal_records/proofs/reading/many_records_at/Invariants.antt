use Rattle.std.proofs.Common.{◌≡◌, ◌-◌}
use Rattle.journal_records.specs.Reading.{record_at, many_at}
use Rattle.journal_records.proofs.Parts.{with_front}
use Rattle.journal_records.proofs.reading.many_records_at.Given as goal

abbrev pub invariant-loop : goal.invariant-loop
invariant-loop l = with_front l.records.items (many_at record_at (l.count - l.counter) l.rest) ≡ many_at record_at l.count l.bytes
