-- Which of the frames that a station sends are lost, for a trial; and a wire that loses them.
use Rattle.std.specs.Prelude.{◌≡◌, ℕ, ◌-◌, ◌*◌, ◌^◌, ◌==◌, ◌||◌, nat_lt, Bool, true, false, if◌then◌else◌, IsErr}
use Rattle.rand_pcg.specs.Lcg.{Lcg, increment_of, started}
use Rattle.rand_pcg.specs.Pcg.{multiplier_64, pcg32}
use Rattle.cfdp_port.specs.Calls.{WireCall, Sent}

-- ---- which frames are lost

-- How many frames there are to each one that is lost, 0 if none is; how many it is to the next one
-- that is lost so; how many of a hundred are lost at random; and the state of the random generator.
pub record LossState : Type 0 where
  pub every : ℕ
  pub left : ℕ
  pub percent : ℕ
  pub generator : ℕ

-- how many frames it is to the next one that is lost, once one more has left
abbrev pub next_left : (every left : ℕ) → ℕ
next_left every left = if left == 1 then every else left - 1

-- the stream of the random generator: that of the reference
abbrev pub generator_stream : ℕ
generator_stream = 721347520444481703

-- the random generator at this state: PCG32
abbrev pub generator_at : ℕ → Lcg
generator_at state = record { state = state; increment = increment_of 64 generator_stream }

-- its state at the start, by a seed
abbrev pub generator_of_seed : ℕ → ℕ
generator_of_seed seed = (started 64 multiplier_64 seed (increment_of 64 generator_stream)).state

-- the number below 2 ^ 32 that it gives, and its state then
abbrev pub drawn : ℕ → ℕ
drawn generator = (pcg32 (generator_at generator)).0

abbrev pub generator_after : ℕ → ℕ
generator_after generator = (pcg32 (generator_at generator)).1.state

-- `true` if a number is among the first so many hundredths of those below 2 ^ 32
abbrev pub is_in_share : (percent number : ℕ) → Bool
is_in_share percent number = nat_lt (number * 100) (percent * 2 ^ 32)

-- The next frame is lost if it is the Nth one, or if the next random number is in the
-- share of those that are lost. Both go on by one, whichever takes it.
pub record LosesNext (old : LossState) (lost : Bool) (new : LossState) : Type 0 where
  pub says : lost ≡ (old.left == 1 || is_in_share old.percent (drawn old.generator))
  pub left : new.left ≡ next_left old.every old.left
  pub generator : new.generator ≡ generator_after old.generator
  pub every : new.every ≡ old.every
  pub percent : new.percent ≡ old.percent

-- ---- the wire

-- the wire after it, and what says which frames are lost
pub record LossyState (W L : Type 0) : Type 0 where
  pub wire : W
  pub losses : L

-- If a frame must be sent, it is asked if that is lost; for no other call.
abbrev pub Asks : {L : Type 0} → (L → Bool → L → Type 0) → WireCall → (lost : Bool) → (old new : L)
    → Type 0
Asks Loses (Sent frame answer) lost old new = Loses old lost new
Asks Loses _ lost old new = (lost ≡ false) × (new ≡ old)

-- what is answered if a frame is lost
abbrev pub IsRefused : WireCall → Type 0
IsRefused (Sent frame answer) = IsErr answer
IsRefused _ = Unit {0}

-- A call of the wire after it, with its own answer; or if the frame is lost, that wire isn't asked.
abbrev pub Passes : {W : Type 0} → (W → WireCall → W → Type 0) → (lost : Bool) → WireCall
    → (old new : W) → Type 0
Passes Steps true call old new = IsRefused call × (new ≡ old)
Passes Steps false call old new = Steps old call new

-- A frame that is sent is lost if the losses say so; all other calls are
-- calls of the wire after it.
pub record LosesSome {W L : Type 0} (Steps : W → WireCall → W → Type 0)
    (Loses : L → Bool → L → Type 0) (old : LossyState W L) (call : WireCall) (new : LossyState W L)
    : Type 0 where
  pub lost : Bool
  pub asks : Asks Loses call lost old.losses new.losses
  pub passes : Passes Steps lost call old.wire new.wire
