use Rattle.std.proofs.Common.{◌≡◌, length}
use Rattle.std.specs.Vec.Iter.{into_iter_items, into_iter_len}
use Rattle.transfer_journal.proofs.Taken.{Gathers}
use Rattle.transfer_journal.proofs.survey.Survey.of.Given as goal

-- with the records that are left, the survey has what all records say
abbrev pub invariant-loop-next : goal.invariant-loop-next
invariant-loop-next l = record {
  len : length (into_iter_items l.next-iterator) ≡ into_iter_len l.next-iterator;
  gathers : Gathers l.fn.addressing l.fn.records.items (into_iter_items l.next-iterator) l.survey;
}
