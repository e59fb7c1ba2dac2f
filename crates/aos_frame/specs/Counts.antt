-- Frame counts of a virtual channel, and how many are missing (CCSDS 732.0-B-4, 4.1.2.4, 4.1.2.5).
use Rattle.std.specs.Prelude.{◌≡◌, ℕ, zero, suc, ◌+◌, ◌%◌, ◌^◌, ◌<◌, ◌==◌, ◌&&◌, Bool, true, false, Option, Some, None}
use Rattle.aos_frame.specs.declared.count.Continuity.{Continuity}
use Rattle.aos_frame.specs.declared.count.Continuity.TheVariants.{Follows, Gap}
use Rattle.aos_frame.specs.declared.count.SeenCount.{SeenCount}

-- the numbers that a frame count can be, with the count cycle as its upper 4 bits; the count after
-- the last is 0
abbrev pub frame_counts : ℕ
frame_counts = 2 ^ 28

-- the numbers that it can be without the count cycle
abbrev pub short_counts : ℕ
short_counts = 2 ^ 24

-- the numbers that the count of a frame can be, by its usage flag of the count cycle
abbrev pub counts_of : Bool → ℕ
counts_of true = frame_counts
counts_of false = short_counts

-- by how many counts two frames are compared: all 28 bits if both have the usage flag, otherwise
-- the lower 24
abbrev pub compared : Bool → Bool → ℕ
compared last this = counts_of (last && this)

-- So many counts are missing between the last one seen and this one, compared by so many counts.
pub record AreMissing (counts last count missing : ℕ) : Type 0 where
  pub below : missing < counts
  pub reached : (last + 1 + missing) % counts ≡ count % counts

-- what is reported if so many are missing
abbrev pub continuity : ℕ → Continuity
continuity zero = Follows
continuity (suc n) = Gap (suc n)

-- true if a frame with this count follows the last one seen: none is missing between them, or none
-- was seen
abbrev pub follows : Option SeenCount → SeenCount → Bool
follows None this = true
follows (Some last) this = (last.count
    + 1) % compared last.cycle this.cycle == this.count % compared last.cycle this.cycle

-- a count with the usage flag
abbrev pub with_cycle : ℕ → SeenCount
with_cycle count = record { count = count; cycle = true }

-- It is the count of frame n of a stream, with its usage flag; if all frames of the stream have the
-- flag, so must this one.
pub record CountsFrame (all : Bool) (n : ℕ) (seen : SeenCount) : Type 0 where
  pub count : seen.count ≡ n % counts_of seen.cycle
  pub cycle : all ≡ true → seen.cycle ≡ true
