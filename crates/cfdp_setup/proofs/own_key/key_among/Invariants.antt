use Rattle.std.proofs.Common.{◌≡◌, drop}
use Rattle.cfdp_setup.specs.Keys.{key_named}
use Rattle.cfdp_setup.proofs.own_key.key_among.Given as goal

-- none of the keys so far has that name
abbrev pub invariant-loop-key : goal.invariant-loop-key
invariant-loop-key l = key_named l.keys l.word ≡ key_named (drop l.key-index l.keys) l.word
