use Rattle.std.proofs.Common.{length}
use Rattle.cfdp_dump.proofs.Runs.{ItemsFront}
use Rattle.cfdp_dump.proofs.dump.capture.write_capture.Given as goal

-- what stands before what is left is shown
abbrev pub invariant-loop-rest : goal.invariant-loop-rest
invariant-loop-rest g l =
    ItemsFront l.request l.initial.capture l.file l.capture l.rest l.channels (g.W.Write.contents l.initial.out) (g.W.Write.contents l.out)

-- what is left gets shorter
abbrev pub decreases-loop-rest : goal.decreases-loop-rest
decreases-loop-rest g l = length l.rest
