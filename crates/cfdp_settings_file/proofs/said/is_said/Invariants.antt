use Rattle.std.proofs.Common.{◌≡◌, drop, map}
use Rattle.cfdp_settings_file.specs.Said as said
use Rattle.cfdp_settings_file.proofs.said.is_said.Given as goal

-- the words that are left say it if all do
abbrev pub invariant-loop-word : goal.invariant-loop-word
invariant-loop-word l =
    said.is_said l.name (map (λ word. word.bytes.items) (drop l.word-index l.words))
    ≡ said.is_said l.name (map (λ word. word.bytes.items) l.words)
