-- The frames of a station on a link that keeps no order: which of them wait, and which arrived.
use Rattle.std.specs.Prelude.{◌≡◌, zero, suc, ◌+◌, ◌≤◌, ◌<◌, ◌-◌, ℕ, Bool, true, false, List, [], ◌∷◌, ◌++◌, Option, Some, None, length, count_by, drop, take, slice_get}
use Rattle.aos_frame.specs.declared.config.Lane.{Lane}
use Rattle.aos_frame.specs.declared.config.Lane.TheVariants.{Directives, Data}
use Rattle.any_order.specs.declared.answers.SentFrame.{SentFrame}
use Rattle.any_order.specs.Kept.{EndKept}
use Rattle.cfdp_any_order_script.specs.declared.links.Frames as declared

-- Those that wait, in the order sent, and those that arrived, in the order in which they arrived
-- first. What was lost or came damaged is in neither list.
pub record Frames : Type 0 where
  pub waiting : List SentFrame
  pub arrived : List SentFrame

abbrev pub shown : declared.Frames → Frames
shown f = record { waiting = f.waiting.items; arrived = f.arrived.items }

abbrev pub no_frames : Frames
no_frames = record { waiting = []; arrived = [] }

-- whether two lanes are one
abbrev pub same_lane : Lane → Lane → Bool
same_lane Directives Directives = true
same_lane Data Data = true
same_lane _ _ = false

-- whether a frame is of a lane, or of either if none is said
abbrev pub is_of : Option Lane → SentFrame → Bool
is_of None frame = true
is_of (Some lane) frame = same_lane lane frame.lane

abbrev pub count_of : Option Lane → List SentFrame → ℕ
count_of lane frames = count_by (is_of lane) frames

-- whether there are any
abbrev pub is_any : List SentFrame → Bool
is_any [] = false
is_any (frame ∷ frames) = true

-- It is at this index of a list, of the lane, and `before` frames of the lane stand before it.
pub record IsBehind (lane : Option Lane) (before : ℕ) (frames : List SentFrame) (place : ℕ)
    (frame : SentFrame) : Type 0 where
  pub there : slice_get frames place ≡ Some frame
  pub of : is_of lane frame ≡ true
  pub passed : count_of lane (take place frames) ≡ before

-- It arrived as the `back`th frame of the lane, counted from the last one as 1.
pub record IsBack (lane : Option Lane) (back : ℕ) (frames : List SentFrame) (frame : SentFrame)
    : Type 0 where
  pub place : ℕ
  pub there : slice_get frames place ≡ Some frame
  pub of : is_of lane frame ≡ true
  pub passed : count_of lane (drop (place + 1) frames) + 1 ≡ back

-- ---- frames that are made
-- `count` frames of a lane and a life, from the index `first` on
abbrev pub made_of : (life : ℕ) → Lane → (first count : ℕ) → List SentFrame
made_of life lane first zero = []
made_of life lane first (suc count) = made_of life lane first count
    ++ record { life = life; lane = lane; place = first + count } ∷ []

-- the frames that a station made since, in the order sent: directives go first
abbrev pub made_since : (old new : EndKept) → List SentFrame
made_since old new =
    made_of (length new.before) Directives (length old.latest.directives)
    (length new.latest.directives - length old.latest.directives)
    ++ made_of (length new.before) Data (length old.latest.file_data)
    (length new.latest.file_data - length old.latest.file_data)
