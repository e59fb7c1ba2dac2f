-- Numbers that are reserved before they are used: a file says that all below two numbers are, and a
-- number that is used lies below what it says.
use Rattle.std.specs.Prelude.{◌≡◌, ℕ, ◌+◌, ◌<◌, ◌≤◌, max, Option, IsSomeAnd, unwrap_or}
use Rattle.cfdp_files.specs.declared.reserving.Reserved.{Reserved}
use Rattle.cfdp_files.specs.declared.reserving.Taken.{Taken}

-- the number of a start's first transaction: the one that is said, or otherwise the first that was
-- not reserved before and is not below the least
abbrev pub first_number : Option ℕ → ℕ → Reserved → ℕ
first_number said least before = unwrap_or said (max before.numbers least)

-- A start takes these: a number for each put, all of them reserved, and counts of frames that were
-- not reserved before. What was reserved stays so.
pub record Begins (before : Reserved) (said : Option ℕ) (least puts : ℕ) (taken : Taken) : Type 0 where
  pub number : taken.beginning.number ≡ first_number said least before
  pub each_put : taken.numbers_end ≡ taken.beginning.number + puts
  pub numbers : taken.numbers_end ≤ taken.reserved.numbers
  pub numbers_stay : before.numbers ≤ taken.reserved.numbers
  pub new_frames : before.frames < taken.beginning.frames
  pub frames : taken.beginning.frames ≤ taken.reserved.frames
  pub accepted : taken.reserved.accepted ≡ before.accepted

-- A frame of this count may leave once these are reserved; nothing changes if it might before.
pub record Covers (before : Reserved) (count : ℕ) (after : Reserved) : Type 0 where
  pub covered : count < after.frames
  pub frames_stay : before.frames ≤ after.frames
  pub numbers : after.numbers ≡ before.numbers
  pub accepted : after.accepted ≡ before.accepted
  pub same : count < before.frames → after ≡ before

-- All numbers below this one may be used once these are reserved.
pub record Adds (before : Reserved) (end : ℕ) (after : Reserved) : Type 0 where
  pub numbers : end ≤ after.numbers
  pub numbers_stay : before.numbers ≤ after.numbers
  pub frames : after.frames ≡ before.frames
  pub accepted : after.accepted ≡ before.accepted

-- The peer's frame with this sequence number may be handed on once these are reserved; nothing
-- changes if it might before.
pub record Accepts (before : Reserved) (number : ℕ) (after : Reserved) : Type 0 where
  pub covered : IsSomeAnd after.accepted (λ reserved. number ≤ reserved)
  pub numbers : after.numbers ≡ before.numbers
  pub frames : after.frames ≡ before.frames
  pub same : IsSomeAnd before.accepted (λ reserved. number ≤ reserved) → after ≡ before
