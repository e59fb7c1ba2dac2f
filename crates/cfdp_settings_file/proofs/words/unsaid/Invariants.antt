use Rattle.std.proofs.Common.{◌≡◌, ◌++◌, drop, map}
use Rattle.cfdp_settings_file.specs.Said.{counting}
use Rattle.cfdp_settings_file.proofs.words.unsaid.Given as goal

-- those that count so far, with those that are left, are all
abbrev pub invariant-loop-option : goal.invariant-loop-option
invariant-loop-option l =
    l.left.items ++ counting (map (λ word. word.bytes.items) l.said) (drop l.option-index l.options)
    ≡ counting (map (λ word. word.bytes.items) l.said) l.options
