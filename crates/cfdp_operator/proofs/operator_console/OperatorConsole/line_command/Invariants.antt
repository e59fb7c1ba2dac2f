use Rattle.cfdp_operator.specs.Commanded.{HearsOn}
use Rattle.cfdp_operator.proofs.operator_console.OperatorConsole.line_command.Given as goal

-- what was said since the call
abbrev pub invariant-loop-line : goal.invariant-loop-line
invariant-loop-line g l = HearsOn l.initial.self l.self
