use Rattle.std.proofs.Common.{arith}
use Rattle.cfdp_dump.proofs.DumpedLines.{cut_at_line_feed, cut_at_end}
use Rattle.cfdp_dump.proofs.dump.cut_line.Goals as goal

pub returns-in-Some-clause-lines : goal.returns-in-Some-clause-lines
returns-in-Some-clause-lines c =
    cut_at_line_feed _ _ _ (rw c.in-Some.is at c.cut_at_first.ensures.parts) c.cut_at_first.ensures.first

pub returns-in-None-clause-lines : goal.returns-in-None-clause-lines
returns-in-None-clause-lines c =
    cut_at_end _ _ _ c.requires (rw c.in-None.is at c.cut_at_first.ensures.parts) c.cut_at_first.ensures.first (grind arith)
