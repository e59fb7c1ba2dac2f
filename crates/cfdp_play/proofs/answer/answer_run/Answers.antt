use Rattle.std.proofs.Common.{inr, subst}
use Rattle.std.specs.Str.{IsUtf8}
use Rattle.std.proofs.lemmas.Result.{IfOk-weaker}
use Rattle.cfdp_play.proofs.answer.answer_run.Goals as goal

-- the report is no text
pub returns-in_default-from_utf8 : goal.returns-in_default-from_utf8
returns-in_default-from_utf8 c =
    IfOk-weaker c.fill-in_default-from_utf8.result _ _
    (λ _ status. inr (inr (
      status,
      record {
        exit = c.in_ok-ended.ended.ran.exit;
        report = c.in_ok-ended.ended.report.items;
        ended = c.in_ok-ended.ensures;
        no_text = subst (λ octets. ¬ IsUtf8 octets) c.as_slice.ensures.value
            c.in_default-from_utf8.ensures.cases.0;
      },
    )))
    c.fill-in_default-from_utf8.ensures.status
