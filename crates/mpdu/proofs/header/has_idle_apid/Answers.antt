use Rattle.std.proofs.Common.{nat_eq, ap}
use Rattle.mpdu.specs.Stream.{is_idle}
use Rattle.mpdu.proofs.header.has_idle_apid.Goals as goal

pub returns : goal.returns
unfolding is_idle
returns c = ap (λ n. nat_eq n 2047) c.apid.ensures.value
