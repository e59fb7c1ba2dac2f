use Rattle.std.proofs.lemmas.Result.{err_from_is_err_and}
use Rattle.cfdp_command_line.proofs.CommandWords.{fails-first}
use Rattle.cfdp_command_line.proofs.arguments.parse_by.Goals as goal

pub returns-in_err-request-clause-refused : goal.returns-in_err-request-clause-refused
returns-in_err-request-clause-refused c =
    let p = err_from_is_err_and c.from_residual.result c.from_residual.ensures.1 in
    rw (p.1, p.2) (fails-first _ _ c.in_err-request.field-0.0 c.in_err-request.ensures.refused)
