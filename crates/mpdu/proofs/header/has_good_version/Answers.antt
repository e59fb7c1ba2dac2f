use Rattle.std.proofs.Common.{nat_eq, ap}
use Rattle.mpdu.specs.Stream.{header_ok}
use Rattle.mpdu.proofs.header.has_good_version.Goals as goal

pub returns : goal.returns
unfolding header_ok
returns c = ap (λ n. nat_eq n 0) c.version.ensures.value
