use Rattle.std.proofs.Common.{take}
use Rattle.std.specs.Io.KnownBytes.{Appends}
use Rattle.std.specs.List.{flat_map}
use Rattle.cfdp_any_order_script.specs.Answers.{answer_line}
use Rattle.cfdp_any_order_script.proofs.report.write_answers.Given as goal

-- the lines so far are written
abbrev pub invariant-loop-done : goal.invariant-loop-done
invariant-loop-done g l =
    Appends (g.W.Write.contents l.initial.out) (g.W.Write.contents l.out) (flat_map answer_line (take l.done-index l.answered))
