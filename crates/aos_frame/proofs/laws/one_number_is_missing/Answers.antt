use Rattle.std.proofs.Common.{ℕ, Bool, true, false, ◌+◌, ◌-◌, ◌%◌, ◌&&◌, arith}
use Rattle.aos_frame.specs.Counts.{counts_of, AreMissing}
use Rattle.aos_frame.proofs.laws.one_number_is_missing.Goals as goal

some_missing : (all : Bool) (before count : ℕ) → (n : ℕ) × AreMissing (counts_of all) before count n
some_missing true before count = ((count % counts_of true + (counts_of true - 1 - before % counts_of true)) % counts_of true, record { below = omega arith; reached = omega arith })
some_missing false before count = ((count % counts_of false + (counts_of false - 1 - before % counts_of false)) % counts_of false, record { below = omega arith; reached = omega arith })

pub returns-clause-some : goal.returns-clause-some
returns-clause-some c last this before count = some_missing (last && this) before count
