use Rattle.cfdp_operator.proofs.Hearing.{obeys_line}
use Rattle.cfdp_operator.proofs.operator_console.OperatorConsole.line_command.Goals as goal

pub returns-in-Some : goal.returns-in-Some
returns-in-Some g c =
    obeys_line c.args.self.now _ _ _ c.in_ok-speaker.speaker c.in_ok-speaker.line c.in-Some.command
    c.loop-line.invariant c.in_ok-speaker.ensures c.takes.ensures.same c.in-Some.ensures.asked
