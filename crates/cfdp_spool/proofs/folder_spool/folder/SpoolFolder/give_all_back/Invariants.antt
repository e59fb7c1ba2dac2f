use Rattle.cfdp_spool.specs.Leaving.{OnlyDoes}
use Rattle.cfdp_spool.proofs.folder_spool.folder.SpoolFolder.give_all_back.Given as goal

abbrev pub invariant-loop-entry : goal.invariant-loop-entry
invariant-loop-entry l = record {
  can : (goal.iterator-loop-entry).can_next l.entry-iterator;
  finite : (goal.iterator-loop-entry).is_finite l.entry-iterator;
  only : OnlyDoes l.initial.self l.self;
}
