use Rattle.std.proofs.Common.{sym, inr, refl}
use Rattle.cfdp_dump.specs.Spelled.Told.{TellsAsPdu, end_of}
use Rattle.cfdp_dump.specs.Spelled.Refusal.{refusal_text}
use Rattle.cfdp_dump.specs.declared.spelled.refusal.LineRefusal.TheVariants.{Pdu}
use Rattle.cfdp_dump.proofs.TextLines.{line_with_end}
use Rattle.cfdp_dump.proofs.spelled.write_pdu.Goals as goal

pub returns-in-Err : goal.returns-in-Err
returns-in-Err g c =
    line_with_end (TellsAsPdu c.args.form c.args.octets.now) _ (refusal_text (Pdu c.in-Err.error)) (end_of c.args.form) c.end.result.now _ _
    (inr (record { error = c.in-Err.error; fault = sym c.in-Err.ensures.refused; words = refl })) c.end.ensures c.writeln-in-Err.ensures.bytes
