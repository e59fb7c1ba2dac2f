use Rattle.std.proofs.Common.{ℕ, subst, sym}
use Rattle.crc.specs.Division.{IsLeft}
use Rattle.crc.proofs.Divisions.{left_is_remainder, remainder_is_left}
use Rattle.crc.proofs.laws.what_is_left_is_the_remainder.Goals as goal

pub returns : goal.returns
returns c degree divisor count n r least most fits =
    (left_is_remainder degree divisor least most count n r fits, λ e. subst (λ (m : ℕ). IsLeft degree divisor n m) (sym e) (remainder_is_left degree divisor least most count n fits))
