use Rattle.cfdp_dump.proofs.Runs.{piece_bad}
use Rattle.cfdp_dump.proofs.dump.write_piece.Goals as goal

pub returns-in-Some-Bad : goal.returns-in-Some-Bad
returns-in-Some-Bad g c =
    rw (c.in-Some-Bad.is, c.in-Some-Bad.field-0-is) (piece_bad c.args.request c.args.channels.now c.in-Some-Bad.before c.in-Some-Bad.digits.now _ _ _ c.write_bad_hex.ensures)
