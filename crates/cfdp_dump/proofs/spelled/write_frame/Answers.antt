use Rattle.std.proofs.Common.{length, sym, inl, inr, refl}
use Rattle.cfdp_dump.specs.Spelled.Told.{TellsAsFrame, end_of, frame_line}
use Rattle.cfdp_dump.specs.Spelled.Refusal.{frame_fault_text}
use Rattle.cfdp_dump.proofs.TextLines.{line_is_written, line_with_end}
use Rattle.cfdp_dump.proofs.spelled.write_frame.Goals as goal

pub returns-in-Ok : goal.returns-in-Ok
returns-in-Ok g c =
    let parts = c.in-Ok.parts in
    line_is_written (TellsAsFrame c.args.form c.args.shape c.args.octets.now) _
    (frame_line c.args.form c.in-Ok.frame.header c.in-Ok.frame.pointer c.args.shape.zone parts.insert.now parts.control.now parts.check.now) _ _
    (inl (record {
      header = c.in-Ok.frame.header;
      spelled = c.in-Ok.ensures.found;
      words = rw (c.in-Ok.ensures.pointer, c.in-Ok.ensures.insert, c.in-Ok.ensures.control, c.in-Ok.ensures.check) refl;
    })) c.writeln.ensures.bytes

pub returns-in-Err : goal.returns-in-Err
returns-in-Err g c =
    line_with_end (TellsAsFrame c.args.form c.args.shape c.args.octets.now) _ (frame_fault_text c.args.form c.in-Err.error c.args.shape (length c.args.octets.now)) (end_of c.args.form) c.end.result.now _ _
    (inr (record { error = c.in-Err.error; fault = sym c.in-Err.ensures.refused; words = refl })) c.end.ensures c.writeln-in-Err.ensures.bytes
