use Rattle.std.proofs.Common.{◌≡◌, map, take}
use Rattle.cfdp_command_line.proofs.station.copied.Given as goal

-- the words so far are copied
abbrev pub invariant-loop-word : goal.invariant-loop-word
invariant-loop-word l = map (λ word. word.bytes.items) l.copies.items ≡ map (λ word. word.now) (take l.word-index l.words)
