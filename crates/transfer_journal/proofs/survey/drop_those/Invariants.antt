use Rattle.std.proofs.Common.{◌≡◌, take}
use Rattle.transfer_journal.specs.Says.{is_in}
use Rattle.transfer_journal.specs.Survey.{with_none}
use Rattle.transfer_journal.proofs.survey.drop_those.Given as goal

-- those so far are dropped
abbrev pub invariant-loop-place : goal.invariant-loop-place
invariant-loop-place l =
    l.slots ≡ with_none (is_in l.source l.ranges) (take l.place l.ids) l.fn.slots
