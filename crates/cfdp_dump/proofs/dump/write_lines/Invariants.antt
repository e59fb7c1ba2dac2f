use Rattle.std.proofs.Common.{length}
use Rattle.std.specs.Option.{option_map}
use Rattle.cfdp_dump.proofs.Runs.{LinesFront}
use Rattle.cfdp_dump.proofs.dump.write_lines.Given as goal

-- what is whole of the lines before what is left is shown
abbrev pub invariant-loop-rest : goal.invariant-loop-rest
invariant-loop-rest g l =
    LinesFront l.request l.text l.rest (option_map (λ octets. octets.items) l.begun) l.channels (g.W.Write.contents l.initial.out) (g.W.Write.contents l.out)

-- what is left gets shorter
abbrev pub decreases-loop-rest : goal.decreases-loop-rest
decreases-loop-rest g l = length l.rest
