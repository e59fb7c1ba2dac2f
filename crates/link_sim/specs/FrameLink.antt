-- The frames of one direction of a link, lane by lane, and what became of them.
use Rattle.std.specs.Prelude.{ℕ, ◌+◌, ◌-◌, ◌^◌, min, nat_lt, if◌then◌else◌, Bool, true, false, List, [], length, slice_get, slice_index_or, Option, Some, None, zero, suc, ◌∷◌, take, drop}
use Rattle.aos_frame.specs.Counts.{frame_counts}
use Rattle.aos_frame.specs.declared.config.Lane.{Lane}
use Rattle.aos_frame.specs.declared.config.Lane.TheVariants.{Directives, Data}
use Rattle.link_sim.specs.declared.mark.Mark.{Mark}
use Rattle.link_sim.specs.declared.mark.Mark.TheVariants.{Waiting, Delivered, Struck}

-- the most frames that may be struck in a row: one more would be taken for none, since there are no
-- more frame counts (CCSDS 732.0-B-4, 4.1.2.4)
abbrev pub most_struck : ℕ
most_struck = frame_counts - 1

-- Of a lane: all frames sent, in order; of each how many frames of both lanes were sent before it;
-- and the marks of those that no longer wait, in the same order: `true` if delivered, `false` if
-- struck. How many of the last of these were struck in a row; how many buffers there are for frames
-- to come, each with room for its frame, place and mark; and the octets of a frame.
pub record FrameLinkState : Type 0 where
  pub frames : List (List ℕ)
  pub places : List ℕ
  pub marks : List Bool
  pub run : ℕ
  pub blanks : ℕ
  pub len : ℕ

-- what became of the frame at a place
abbrev pub mark_told : Option Bool → Mark
mark_told None = Waiting
mark_told (Some true) = Delivered
mark_told (Some false) = Struck

abbrev pub mark_at : FrameLinkState → ℕ → Mark
mark_at link place = mark_told (slice_get link.marks place)

-- the oldest frame that waits
abbrev pub oldest : FrameLinkState → List ℕ
oldest link = slice_index_or link.frames (length link.marks) []

-- ---- both lanes
pub record FrameLinksState : Type 0 where
  pub directives : FrameLinkState
  pub file_data : FrameLinkState

abbrev pub lane_of_links : Lane → FrameLinksState → FrameLinkState
lane_of_links Directives k = k.directives
lane_of_links Data k = k.file_data

-- how many frames were sent, of both lanes, or the greatest number if there are more
abbrev pub frames_sent : FrameLinksState → ℕ
frames_sent k = min (length k.directives.frames + length k.file_data.frames) (2 ^ 64 - 1)

-- the place, over both lanes, of the oldest frame that waits in a lane
abbrev pub oldest_place : FrameLinkState → Option ℕ
oldest_place k = slice_get k.places (length k.marks)

abbrev pub earlier : (directives file_data : Option ℕ) → Option Lane
earlier None None = None
earlier (Some a) None = Some Directives
earlier None (Some b) = Some Data
earlier (Some a) (Some b) = if nat_lt b a then Some Data else Some Directives

-- the lane of the frame that was sent first, of those that wait in either
abbrev pub first_sent : FrameLinksState → Option Lane
first_sent k = earlier (oldest_place k.directives) (oldest_place k.file_data)

-- ---- in one buffer
-- so many pieces of the octets, each of this length, one after the other
unfoldable pub pieces : (len count : ℕ) → List ℕ → List (List ℕ)
pieces len zero octets = []
pieces len (suc count) octets = take len octets ∷ pieces len count (drop len octets)
