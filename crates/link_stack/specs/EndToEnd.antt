-- From the PDUs that are put into a sending end to the PDUs that come up at the other one.
use Rattle.std.specs.Prelude.{◌≡◌, ℕ, ◌+◌, ◌<◌, ◌≤◌, max, true, List, [], ◌∷◌, ◌++◌, length, Option, Some, None, Contains, slice_index_or}
use Rattle.aos_frame.specs.Frame.{lane_channel, other_lane}
use Rattle.aos_frame.specs.declared.config.LinkConfig.{LinkConfig}
use Rattle.aos_frame.specs.declared.config.Lane.{Lane}
use Rattle.aos_frame.specs.declared.config.Lane.TheVariants.{Directives, Data}
use Rattle.link_stack.specs.AnyOrder.{IsStray, IsWithinCounts}
use Rattle.link_stack.specs.Downward.{DownState, Flushes, MakesFrame, SendsPdu, lane_down}

-- What is done with a sending end: a PDU is put into a lane, the begun zone of a lane is filled, or
-- a frame of a lane is made, with these octets.
pub data DownCall : Type 0 where
  Put : Lane → List ℕ → DownCall
  Fill : Lane → DownCall
  Make : Lane → List ℕ → DownCall

-- what that does, by the clauses of `send`, `flush` and `next_frame`
abbrev pub Does : DownCall → DownState → DownState → Type 0
Does (Put lane pdu) old new =
    SendsPdu pdu old.packet_count (lane_down lane old) (lane_down lane new)
    × (lane_down (other_lane lane) new ≡ lane_down (other_lane lane) old)
Does (Fill lane) old new =
    Flushes (lane_down lane old) (lane_down lane new)
    × (lane_down (other_lane lane) new ≡ lane_down (other_lane lane) old)
Does (Make lane frame) old new =
    MakesFrame frame (lane_down lane old) (lane_down lane new)
    × (lane_down (other_lane lane) new ≡ lane_down (other_lane lane) old)

abbrev pub DoesAll : List DownCall → DownState → DownState → Type 0
DoesAll [] old new = new ≡ old
DoesAll (call ∷ calls) old new = (mid : DownState) × Does call old mid × DoesAll calls mid new

-- the PDUs that were put into a lane, and the frames that were made of it, in order
abbrev pub put_by : Lane → DownCall → List (List ℕ)
put_by Directives (Put Directives pdu) = pdu ∷ []
put_by Data (Put Data pdu) = pdu ∷ []
put_by lane call = []

abbrev pub puts_of : Lane → List DownCall → List (List ℕ)
puts_of lane [] = []
puts_of lane (call ∷ calls) = put_by lane call ++ puts_of lane calls

abbrev pub made_by : Lane → DownCall → List (List ℕ)
made_by Directives (Make Directives frame) = frame ∷ []
made_by Data (Make Data frame) = frame ∷ []
made_by lane call = []

abbrev pub made_of : Lane → List DownCall → List (List ℕ)
made_of lane [] = []
made_of lane (call ∷ calls) = made_by lane call ++ made_of lane calls

-- What comes at the other end: the frame at this index of the frames that were made of a lane, from
-- 0; or octets of which no packet can come.
pub data Coming : Type 0 where
  Copy : Lane → ℕ → Coming
  Noise : List ℕ → Coming

abbrev pub coming_octets : List DownCall → Coming → List ℕ
coming_octets calls (Copy lane place) = slice_index_or (made_of lane calls) place []
coming_octets calls (Noise octets) = octets

-- Each index is one of a frame that was made.
abbrev pub AreComing : LinkConfig → List DownCall → List Coming → Type 0
AreComing link calls [] = Unit {0}
AreComing link calls (Copy lane place ∷ came) =
    (place < length (made_of lane calls)) × AreComing link calls came
AreComing link calls (Noise octets ∷ came) =
    ((lane : Lane) → IsStray (lane_channel lane link) octets) × AreComing link calls came

-- the indices of the frames of a lane among them
abbrev pub keep_place : (lane its : Lane) → ℕ → List ℕ → List ℕ
keep_place Directives Directives place places = place ∷ places
keep_place Data Data place places = place ∷ places
keep_place lane its place places = places

abbrev pub places_of : Lane → List Coming → List ℕ
places_of lane [] = []
places_of lane (Copy its place ∷ came) = keep_place lane its place (places_of lane came)
places_of lane (Noise octets ∷ came) = places_of lane came

-- Each number is within the counts of 28 bits of the number right before it; the first, of the last
-- one before all, if there is one.
abbrev pub AreNear : Option ℕ → List ℕ → Type 0
AreNear last [] = Unit {0}
AreNear None (n ∷ ns) = AreNear (Some n) ns
AreNear (Some before) (n ∷ ns) = IsWithinCounts true before n × AreNear (Some n) ns

-- Each is less than `late` after the greatest one before it, and at most `ahead` before that.
abbrev pub AreInWindow : (late ahead newest : ℕ) → List ℕ → Type 0
AreInWindow late ahead newest [] = Unit {0}
AreInWindow late ahead newest (n ∷ ns) =
    (newest < n + late) × (n ≤ newest + ahead) × AreInWindow late ahead (max newest n) ns

-- These PDUs were appended, and each of them was put into one of the lanes.
pub record WerePut (calls : List DownCall) (before after : List (List ℕ)) : Type 0 where
  pub given : List (List ℕ)
  pub appended : after ≡ before ++ given
  pub put : (pdu : List ℕ) → Contains given pdu → (lane : Lane) × Contains (puts_of lane calls) pdu
