use Rattle.std.proofs.Common.{◌≡◌, ◌++◌, drop}
use Rattle.std.specs.List.{flat_map}
use Rattle.std.specs.Option.{option_to_list}
use Rattle.transfer_journal.specs.Pending.{pending_by}
use Rattle.transfer_journal.proofs.journal.note_pending.Given as goal

-- with those that are left, all are there
abbrev pub invariant-loop-told : goal.invariant-loop-told
invariant-loop-told l =
    l.out.items ++ flat_map (λ told. option_to_list (pending_by told)) (drop l.told-index l.news)
    ≡ l.fn.out.items ++ flat_map (λ told. option_to_list (pending_by told)) l.news
