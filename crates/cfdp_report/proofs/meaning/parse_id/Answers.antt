use Rattle.std.proofs.Common.{sym, ◌∙◌, Some, None}
use Rattle.cfdp_report.proofs.Parts.{id_numbers}
use Rattle.cfdp_report.proofs.meaning.parse_id.Goals as goal

pub returns-in-Some-Some : goal.returns-in-Some-Some
returns-in-Some-Some c =
    rw (c.cut_at_first.ensures.split, c.in-Some.is)
    (sym (id_numbers c.cut_at_first.result.0.now c.in-Some.number.now (Some c.in-Some-Some.source) (Some c.in-Some-Some.number)
    (sym c.in-Some-Some.is-0 ∙ c.parse_number.ensures) (sym c.in-Some-Some.is-1 ∙ c.parse_number-2.ensures)))

pub returns-in_default-2 : goal.returns-in_default-2
returns-in_default-2 c =
    rw (c.cut_at_first.ensures.split, c.in-Some.is)
    (sym (id_numbers c.cut_at_first.result.0.now c.in-Some.number.now (Some c.in_default-2.field-0-0) None
    (sym c.in_default-2.is-0 ∙ c.parse_number.ensures) (sym c.in_default-2.is-1 ∙ c.parse_number-2.ensures)))
