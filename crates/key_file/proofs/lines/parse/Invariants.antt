use Rattle.std.proofs.Common.{map}
use Rattle.key_file.specs.Apart.{IsDraft}
use Rattle.key_file.proofs.Entries.{HasKeys}
use Rattle.key_file.proofs.lines.parse.Given as goal

abbrev pub invariant-loop-words : goal.invariant-loop-words
invariant-loop-words l =
    IsDraft l.draft
    × HasKeys (map (λ x. x.now) l.yielded) l.draft
    × (goal.iterator-loop-words).can_next l.words-iterator
    × (goal.iterator-loop-words).is_finite l.words-iterator
