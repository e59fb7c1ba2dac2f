use Rattle.std.proofs.Common.{◌≡◌, Some, drop, map}
use Rattle.toml.specs.View.{items_view}
use Rattle.cfdp_settings_file.specs.Words.{before, pairs_words}
use Rattle.cfdp_settings_file.proofs.words.pairs_words.Given as goal

-- the words so far, with those of the pairs that are left, are all
abbrev pub invariant-loop-pair : goal.invariant-loop-pair
invariant-loop-pair l =
    before (Some (map (λ word. word.bytes.items) l.words.items))
    (pairs_words l.name (items_view (drop l.pair-index l.pair-items)))
    ≡ pairs_words l.name (items_view l.pair-items)
