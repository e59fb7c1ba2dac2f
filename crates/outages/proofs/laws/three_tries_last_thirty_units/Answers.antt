use Rattle.std.proofs.Common.{◌≡◌, ◌+◌, ◌-◌, ◌*◌, ◌<◌, ap, arith}
use Rattle.outages.specs.Lasting.{earliest, wait_at}
use Rattle.outages.proofs.laws.three_tries_last_thirty_units.Goals as goal

pub returns-clause-short : goal.returns-clause-short
returns-clause-short c id s k w clock wait first low =
    let all : (3 - 0) * wait_at s k w ≡ 30 = ap (λ n. (3 - 0) * n) wait in
    record { left = omega arith; early = omega (arith, wait, first, low, all); fits = omega (arith, wait, low) }

pub returns-clause-no_longer : goal.returns-clause-no_longer
returns-clause-no_longer c id s k w clock wait first h =
    let all : (3 - 0) * wait_at s k w ≡ 30 = ap (λ n. (3 - 0) * n) wait in
    let early : clock + wait_at s k w < earliest id s k w + (3 - 0) * wait_at s k w = h.early in
    omega (arith, wait, first, all, early)
