use Rattle.std.proofs.Common.{◌∙◌, sym}
use Rattle.cfdp_operator.proofs.Hearing.{obeyed}
use Rattle.cfdp_operator.proofs.operator_console.OperatorConsole.obeys.Goals as goal

pub returns-in-Ok-clause-asked : goal.returns-in-Ok-clause-asked
returns-in-Ok-clause-asked g c =
    let (kept, trimmed, reads) = c.parse_command.ensures in
    obeyed _ _ _ kept _ _ c.parse_command.result c.does.result
    (λ yes. sym c.octets.ensures ∙ c.split_form-is_json.ensures.json yes)
    (λ yes. sym c.octets.ensures ∙ c.split_form-is_json.ensures.text yes)
    trimmed reads c.in-Ok.is c.does.ensures.given
