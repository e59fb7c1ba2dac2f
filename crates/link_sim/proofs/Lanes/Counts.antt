-- The counts of drops of both lanes, which are reported as one number.
use Rattle.std.proofs.Common.{◌≡◌, ℕ, ◌-◌, ◌^◌, ◌<◌, ap, arith}
use Rattle.aos_frame.specs.Frame.{other_lane}
use Rattle.aos_frame.specs.declared.config.Lane.{Lane}
use Rattle.aos_frame.specs.declared.config.Lane.TheVariants.{Directives, Data}
use Rattle.link_stack.specs.Drops.{count_of}
use Rattle.link_stack.specs.Upward.{UpState, LinkReceiverState, lane_up, drop_count}

-- ---- none was counted
pub sum-none : (u : UpState) (n : ℕ) → drop_count u n ≡ 0 → (l : Lane) → count_of (lane_up l u).drops n ≡ 0
sum-none u n none Directives = omega (arith, none)
sum-none u n none Data = omega (arith, none)

pub none-sum : (u : UpState) (n : ℕ) → ((l : Lane) → count_of (lane_up l u).drops n ≡ 0) → drop_count u n ≡ 0
none-sum u n none = omega (arith, none Directives, none Data)

-- ---- none more was counted
-- if the other lane is as it was
pub sum-other : (old new : UpState) (n : ℕ) (l : Lane) → drop_count new n ≡ drop_count old n → drop_count new n < 2 ^ 64 - 1 →
    lane_up (other_lane l) new ≡ lane_up (other_lane l) old → count_of (lane_up l new).drops n ≡ count_of (lane_up l old).drops n
sum-other old new n Directives same low other = let there : count_of new.file_data.drops n ≡ count_of old.file_data.drops n = ap (λ (u : LinkReceiverState). count_of u.drops n) other in
    omega (arith, same, low, there)
sum-other old new n Data same low other = let there : count_of new.directives.drops n ≡ count_of old.directives.drops n = ap (λ (u : LinkReceiverState). count_of u.drops n) other in
    omega (arith, same, low, there)

-- each lane's count is below the limit if the sum is
pub sum-low : (u : UpState) (n : ℕ) → drop_count u n < 2 ^ 64 - 1 → (l : Lane) → count_of (lane_up l u).drops n < 2 ^ 64 - 1
sum-low u n low Directives = omega (arith, low)
sum-low u n low Data = omega (arith, low)

-- the sum is the same if both counts are
pub same-sum : (old new : UpState) (n : ℕ) → ((l : Lane) → count_of (lane_up l new).drops n ≡ count_of (lane_up l old).drops n) → drop_count new n ≡ drop_count old n
same-sum old new n same = omega (arith, same Directives, same Data)
