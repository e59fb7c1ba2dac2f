use Rattle.std.proofs.Common.{◌-◌, length}
use Rattle.journal_records.proofs.Journals.{ReadSoFar}
use Rattle.journal_records.proofs.journal.read_journal.Given as goal

abbrev pub invariant-loop-text : goal.invariant-loop-text
invariant-loop-text l = ReadSoFar l.bytes l.records.items l.end

abbrev pub decreases-loop-text : goal.decreases-loop-text
decreases-loop-text l = length l.bytes - l.end
