-- A sending end that is made again and again, as its station is, and what comes up at the other end
-- of the frames of all of them.
use Rattle.std.specs.Prelude.{◌≡◌, ℕ, ◌+◌, ◌<◌, List, [], ◌∷◌, ◌++◌, length, Contains, slice_index_or}
use Rattle.aos_frame.specs.Frame.{lane_channel}
use Rattle.aos_frame.specs.declared.config.LinkConfig.{LinkConfig}
use Rattle.aos_frame.specs.declared.config.Lane.{Lane}
use Rattle.link_stack.specs.AnyOrder.{IsStray}
use Rattle.link_stack.specs.Downward.{DownState, both_counted_from, first_down}
use Rattle.link_stack.specs.EndToEnd.{DoesAll, DownCall, keep_place, made_of, puts_of}

-- One of them: the number from which its frames are counted, and what was done with it. Numbers run
-- on over all of them; a frame's count is its number modulo 2^28.
pub record Life : Type 0 where
  pub first : ℕ
  pub calls : List DownCall

abbrev pub life_at : List Life → ℕ → Life
life_at lives k = slice_index_or lives k (record { first = 0; calls = [] })

-- the frames that it made of a lane, in order
abbrev pub made_in : Lane → Life → List (List ℕ)
made_in lane life = made_of lane life.calls

-- It was made as an end of the link is, and all that was done with it are these calls.
pub record IsLife (link : LinkConfig) (capacity : ℕ) (life : Life) : Type 0 where
  pub now : DownState
  pub does : DoesAll life.calls (both_counted_from life.first (first_down link capacity)) now

-- Between the numbers of any two of them at least one is left out, which no frame has.
abbrev pub AreApart : List Life → Type 0
AreApart lives = (lane : Lane) (j k : ℕ) → j < k → k < length lives →
    (life_at lives j).first + length (made_in lane (life_at lives j)) < (life_at lives k).first

-- What comes: a copy of the frame at this index of the frames that one of them made of a lane; or
-- octets of which no packet can come.
pub data ComingOf : Type 0 where
  CopyOf : (life : ℕ) → Lane → (place : ℕ) → ComingOf
  NoiseOf : List ℕ → ComingOf

abbrev pub octets_coming : List Life → ComingOf → List ℕ
octets_coming lives (CopyOf life lane place) =
    slice_index_or (made_in lane (life_at lives life)) place []
octets_coming lives (NoiseOf octets) = octets

-- Each copy is of a frame that was made.
abbrev pub AreComingOf : LinkConfig → List Life → List ComingOf → Type 0
AreComingOf link lives [] = Unit {0}
AreComingOf link lives (CopyOf life lane place ∷ came) =
    (life < length lives) × (place < length (made_in lane (life_at lives life)))
    × AreComingOf link lives came
AreComingOf link lives (NoiseOf octets ∷ came) =
    ((lane : Lane) → IsStray (lane_channel lane link) octets) × AreComingOf link lives came

-- the numbers of the frames of a lane among them
abbrev pub numbers_of : Lane → List Life → List ComingOf → List ℕ
numbers_of lane lives [] = []
numbers_of lane lives (CopyOf life its place ∷ came) =
    keep_place lane its ((life_at lives life).first + place) (numbers_of lane lives came)
numbers_of lane lives (NoiseOf octets ∷ came) = numbers_of lane lives came

-- These PDUs were appended, and each of them was put into a lane of one of the sending ends.
pub record WerePutIn (lives : List Life) (before after : List (List ℕ)) : Type 0 where
  pub given : List (List ℕ)
  pub appended : after ≡ before ++ given
  pub put : (pdu : List ℕ) → Contains given pdu →
      (k : ℕ) × ((k < length lives) × ((lane : Lane) × Contains (puts_of lane (life_at lives k).calls) pdu))
