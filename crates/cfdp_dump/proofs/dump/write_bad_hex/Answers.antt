use Rattle.cfdp_dump.proofs.Runs.{bad_line}
use Rattle.cfdp_dump.proofs.dump.write_bad_hex.Goals as goal

pub returns : goal.returns
returns g c =
    bad_line c.args.request c.args.before c.args.digits.now c.of-place.result.column c.of-place.result.is_told c.end.result.now _ _ _ c.of-place.ensures.said c.of-place.ensures.told c.end.ensures c.writeln.ensures.bytes
