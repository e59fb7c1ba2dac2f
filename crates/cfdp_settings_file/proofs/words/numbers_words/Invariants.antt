use Rattle.std.proofs.Common.{◌≡◌, Some, map}
use Rattle.toml.specs.View.{members_view}
use Rattle.cfdp_settings_file.specs.Words.{before, numbers_words}
use Rattle.cfdp_settings_file.proofs.words.numbers_words.Given as goal

-- the words so far, with those of the keys that are left, are all
abbrev pub invariant-loop-key : goal.invariant-loop-key
invariant-loop-key l =
    before (Some (map (λ word. word.bytes.items) l.words.items))
    (numbers_words l.name (members_view l.key-iterator))
    ≡ numbers_words l.name (members_view l.initial.key-iterator)
