use Rattle.std.proofs.Common.{◌≡◌, ◌++◌, map, take}
use Rattle.cfdp_command_line.proofs.settings_file.push_all.Given as goal

-- the words so far stand after those that were there
abbrev pub invariant-loop-word : goal.invariant-loop-word
invariant-loop-word l =
    map (λ word. word.bytes.items) l.all.items
    ≡ map (λ word. word.bytes.items) l.fn.all.items
    ++ map (λ word. word.bytes.items) (take l.word-index l.words)
