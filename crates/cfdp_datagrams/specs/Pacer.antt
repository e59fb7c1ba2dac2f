-- How fast frames leave.
use Rattle.std.specs.Prelude.{◌≡◌, ◌≤◌, ◌+◌, ◌*◌, ◌/◌, ◌==◌, ℕ, List, [], ◌∷◌, ◌++◌, length, max, if◌then◌else◌}
use Rattle.cfdp_datagrams.specs.declared.pacer.Pacer.{Pacer}

-- what a frame takes at so many a second, in nanoseconds; nothing if any number may leave
abbrev pub time_at : ℕ → ℕ
time_at rate = if rate == 0 then 0 else 1000000000 / rate

-- A frame left at this time: it might, and the next one is due a frame's time after it, or after
-- the time for which it was due.
pub record Leaves (time : ℕ) (old new : Pacer) : Type 0 where
  pub may : old.due ≤ time + old.slack
  pub due : new.due ≡ max old.due time + old.frame_time
  pub frame_time : new.frame_time ≡ old.frame_time
  pub slack : new.slack ≡ old.slack

-- Frames left at these times, one after another.
abbrev pub AllLeave : List ℕ → (old new : Pacer) → Type 0
AllLeave [] old new = new ≡ old
AllLeave (time ∷ times) old new = (mid : Pacer) × Leaves time old mid × AllLeave times mid new

-- Between the first and the last of any frames each took its time, except the slack.
abbrev pub KeepsRate : Type 0
KeepsRate = (first last : ℕ) (between : List ℕ) (old new : Pacer)
    → AllLeave (first ∷ between ++ last ∷ []) old new
    → first + old.frame_time + length between * old.frame_time ≤ last + old.slack
