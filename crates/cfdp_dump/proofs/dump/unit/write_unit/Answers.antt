use Rattle.std.proofs.Common.{[], ◌∷◌}
use Rattle.cfdp_dump.specs.Dump.Told.{AsFrame, AsPdu}
use Rattle.cfdp_dump.specs.Dump.Units.{TellsUnit}
use Rattle.cfdp_dump.proofs.Runs.{frames_unit, pdus_unit, told_line, unit_told}
use Rattle.cfdp_dump.proofs.dump.unit.write_unit.Goals as goal

pub returns-in-Pdus : goal.returns-in-Pdus
returns-in-Pdus g c =
    unit_told (TellsUnit c.args.request c.args.channels.now c.args.octets.now) c.args.request (AsPdu c.args.octets.now ∷ []) c.args.channels.now _ _ _
    (pdus_unit c.args.request c.args.channels.now c.args.octets.now c.in-Pdus.is) (told_line c.args.request (AsPdu c.args.octets.now) _ _ _ c.write_pdu.ensures)

pub returns-in-Frames-2 : goal.returns-in-Frames-2
returns-in-Frames-2 g c =
    unit_told (TellsUnit c.args.request c.args.channels.now c.args.octets.now) c.args.request (AsFrame c.args.octets.now ∷ []) c.args.channels.now _ _ _
    (frames_unit c.args.request c.args.channels.now c.args.octets.now c.in-Frames-2.is c.if-request.false) (told_line c.args.request (AsFrame c.args.octets.now) _ _ _ c.write_frame.ensures)
