use Rattle.std.proofs.Common.{◌≡◌, map, length}
use Rattle.cfdp_setup.specs.Sets.{set_all}
use Rattle.cfdp_setup.proofs.sets.all_set.Given as goal

-- what is left sets of the setup so far what all words set of those before
abbrev pub invariant-loop-rest : goal.invariant-loop-rest
invariant-loop-rest l =
    set_all (map (λ word. word.bytes.items) l.rest) l.setup
    ≡ set_all (map (λ word. word.bytes.items) l.words) l.fn.before

-- each round takes two words
abbrev pub decreases-loop-rest : goal.decreases-loop-rest
decreases-loop-rest l = length l.rest
