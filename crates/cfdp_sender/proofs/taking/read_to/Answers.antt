use Rattle.std.proofs.Common.{◌+◌, ◌-◌, arith}
use Rattle.std.proofs.lemmas.Slice.{drop-put_mid}
use Rattle.cfdp_sender.proofs.taking.read_to.Goals as goal

pub returns-clause-behind : goal.returns-clause-behind
returns-clause-behind g c =
    let end = c.args.at + c.args.count in
    drop-put_mid c.args.at (end - c.args.at) c.args.out.now c.read.new.out end (omega arith) (omega arith) (omega arith)
