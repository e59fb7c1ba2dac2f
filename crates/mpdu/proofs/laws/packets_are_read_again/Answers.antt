use Rattle.std.proofs.Common.{refl}
use Rattle.mpdu.specs.Stream.{stream}
use Rattle.mpdu.proofs.Cuts.{packets_of-stream, packets_of_all}
use Rattle.mpdu.proofs.laws.packets_are_read_again.Goals as goal

pub returns-clause-before : goal.returns-clause-before
returns-clause-before c = packets_of-stream

pub returns-clause-alone : goal.returns-clause-alone
returns-clause-alone c ps whole = packets_of_all ps (stream ps) whole refl
