use Rattle.std.proofs.Common.{◌≡◌, Some, drop, map}
use Rattle.toml.specs.View.{table_view}
use Rattle.cfdp_settings_file.specs.Words.{before, table_words}
use Rattle.cfdp_settings_file.proofs.words.table_words.Given as goal

-- the words so far, with those of the options that are left, are all
abbrev pub invariant-loop-option : goal.invariant-loop-option
invariant-loop-option l =
    before (Some (map (λ word. word.bytes.items) l.words.items))
    (table_words (table_view l.table) (drop l.option-index l.options))
    ≡ table_words (table_view l.table) l.options
