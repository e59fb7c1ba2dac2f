use Rattle.std.proofs.Common.{◌+◌, ◌-◌, length, arith}
use Rattle.std.proofs.lemmas.Slice.{drop-put_mid}
use Rattle.cfd_bits.proofs.put_bytes.Goals as goal

pub returns-clause-behind : goal.returns-clause-behind
returns-clause-behind c =
    let end = c.args.at + length c.args.bytes.now in
    drop-put_mid c.args.at (end - c.args.at) c.args.out.now c.copy_from_slice.new.self end (omega arith) (omega arith) (omega arith)
