use Rattle.std.proofs.Common.{arith}
use Rattle.crc.proofs.Tables.{step16}
use Rattle.crc.proofs.sixteen.with_octet.Goals as goal

pub returns : goal.returns
returns c = step16 c.args.check c.args.octet c.from.result (omega arith) (omega arith) c.from.ensures
