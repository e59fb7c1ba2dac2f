use Rattle.std.proofs.Common.{inl}
use Rattle.cfdp_operator.proofs.Hearing.{said_later}
use Rattle.cfdp_operator.proofs.operator_console.OperatorConsoleConsole.next.Goals as goal

pub returns-in-Some-serves_console : goal.returns-in-Some-serves_console
returns-in-Some-serves_console g c =
    inl (said_later _ _ _ _ c.in_default.ensures c.in-Some-serves_console.ensures)
