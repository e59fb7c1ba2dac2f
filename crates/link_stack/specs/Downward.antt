-- The sending end of a link, and the stream of packets that each of its two lanes was given.
use Rattle.std.specs.Prelude.{◌≡◌, ℕ, ◌-◌, ◌%◌, ◌*◌, ◌+◌, ◌^◌, ◌<◌, ◌≤◌, ◌++◌, ◌∷◌, nat_le, Bool, false, List, [], length, take, drop, replicate, Option, Some, None, if◌then◌else◌}
use Rattle.aos_frame.specs.LinkFields.{sealed}
use Rattle.aos_frame.specs.Counts.{frame_counts}
use Rattle.aos_frame.specs.Frame.{lane_channel}
use Rattle.aos_frame.specs.declared.config.ChannelConfig.{ChannelConfig}
use Rattle.aos_frame.specs.declared.config.LinkConfig.{LinkConfig}
use Rattle.aos_frame.specs.declared.config.Lane.{Lane}
use Rattle.aos_frame.specs.declared.config.Lane.TheVariants.{Directives, Data}
use Rattle.mpdu.specs.Packets.{busy}
use Rattle.mpdu.specs.Packing.{PackerState, IsAt, flush_of, idle_packet}
use Rattle.mpdu.specs.Stream.{stream}
use Rattle.link_stack.specs.Frames.{AreOfLink, frame_of, packet_of, pdus_in, zone_in}

-- A lane of a sending end: its channel of the link; the most octets of packets that may wait, the
-- octets that do, the index among them at which the next packet starts or will, and whether a
-- flush's packet came last; the count of the next frame; and its operational control field.
pub record LinkSenderState : Type 0 where
  pub link : ChannelConfig
  pub capacity : ℕ
  pub waiting : List ℕ
  pub first : ℕ
  pub flushed : Bool
  pub frame_count : ℕ
  pub control : ℕ

-- its packer
abbrev pub packing : LinkSenderState → PackerState
packing d = record {
  size = d.link.zone;
  capacity = d.capacity;
  waiting = d.waiting;
  first =
      d.first;
  flushed = d.flushed;
}

-- the octets of the longest PDU for which there is room, 0 if there is none: a packet has 6 more
-- octets
abbrev pub room : LinkSenderState → ℕ
room d = d.capacity - length d.waiting - 6

-- Its stream is these packets, all of the link, and that many frames of it were made.
pub record IsDown (down : LinkSenderState) (ps : List (List ℕ)) (made : ℕ) : Type 0 where
  pub packed : IsAt (packing down) ps made
  pub of_link : AreOfLink down.link ps
  pub counted : down.frame_count ≡ made % frame_counts

-- ---- what the calls do to a lane
-- The link, the capacity, the count of frames and the control field are as they were.
abbrev pub IsFixed : (old new : LinkSenderState) → Type 0
IsFixed old new =
    (new.link ≡ old.link) × (new.capacity ≡ old.capacity) × (new.frame_count ≡ old.frame_count)
    × (new.control ≡ old.control)

-- The stream is longer by one packet, which has this PDU and this count.
pub record SendsPdu (pdu : List ℕ) (count : ℕ) (old new : LinkSenderState) : Type 0 where
  pub sends : (ps : List (List ℕ)) (made : ℕ) → IsDown old ps made →
      IsDown new (ps ++ packet_of old.link count pdu ∷ []) made
  pub carries : pdus_in (busy (packet_of old.link count pdu ∷ [])) ≡ pdu ∷ []
  pub waiting : new.waiting ≡ old.waiting ++ packet_of old.link count pdu
  pub len : length new.waiting ≡ length old.waiting + 6 + length pdu
  pub unflushed : new.flushed ≡ false
  pub fixed : IsFixed old new

-- The stream is longer by an idle packet, which fills the begun zone, or no zone is begun and
-- nothing changed. A second flush adds nothing.
pub record Flushes (old new : LinkSenderState) : Type 0 where
  pub sends : (ps : List (List ℕ)) (made : ℕ) → IsDown old ps made →
      IsDown new (ps ++ flush_of (packing old)) made
  pub one : length (flush_of (packing old)) ≤ 1
  pub idle : busy (flush_of (packing old)) ≡ []
  pub once : flush_of (packing new) ≡ []
  pub same : flush_of (packing old) ≡ [] → new ≡ old
  pub waiting : new.waiting ≡ old.waiting ++ stream (flush_of (packing old))
  pub fixed : IsFixed old new

-- frame n of the packets' stream, as the lane sends it: with the fields of its channel
abbrev pub sealed_frame : LinkSenderState → List (List ℕ) → ℕ → List ℕ
sealed_frame d ps n = sealed d.link.fields (frame_of d.link ps n) d.control

-- The oldest whole zone became a bare frame: of a stream, its next one after the frames made.
pub record MakesBare (bare : List ℕ) (old new : LinkSenderState) : Type 0 where
  pub long : length bare ≡ 8 + old.link.zone
  pub stream : (ps : List (List ℕ)) (made : ℕ) → IsDown old ps made →
      (bare ≡ frame_of old.link ps made)
      × (made * old.link.zone + old.link.zone ≤ length (stream ps)) × IsDown new ps (made + 1)
  pub zone : drop 8 bare ≡ take old.link.zone old.waiting
  pub waiting : new.waiting ≡ drop old.link.zone old.waiting
  pub fixed : (new.link ≡ old.link) × (new.capacity ≡ old.capacity)
      × (new.flushed ≡ old.flushed) × (new.control ≡ old.control)

-- The oldest whole zone became a frame: of a stream, its next one after the frames made, with the
-- fields of the channel.
pub record MakesFrame (frame : List ℕ) (old new : LinkSenderState) : Type 0 where
  pub is_next : (ps : List (List ℕ)) (made : ℕ) → IsDown old ps made →
      frame ≡ sealed_frame old ps made
  pub inside : (ps : List (List ℕ)) (made : ℕ) → IsDown old ps made →
      made * old.link.zone + old.link.zone ≤ length (stream ps)
  pub after : (ps : List (List ℕ)) (made : ℕ) → IsDown old ps made → IsDown new ps (made + 1)
  pub zone : zone_in old.link frame ≡ take old.link.zone old.waiting
  pub waiting : new.waiting ≡ drop old.link.zone old.waiting
  pub link : new.link ≡ old.link
  pub capacity : new.capacity ≡ old.capacity
  pub flushed : new.flushed ≡ old.flushed
  pub control : new.control ≡ old.control
  pub fits : old.control < 2 ^ 32

-- ---- both lanes
-- Both lanes of a sending end, and the count of the next packet, which runs over both.
pub record DownState : Type 0 where
  pub directives : LinkSenderState
  pub file_data : LinkSenderState
  pub packet_count : ℕ

abbrev pub lane_down : Lane → DownState → LinkSenderState
lane_down Directives d = d.directives
lane_down Data d = d.file_data

-- The link and the capacity of each lane are as they were.
abbrev pub KeepsLanes : (old new : DownState) → Type 0
KeepsLanes old new =
    (new.directives.link ≡ old.directives.link)
    × (new.directives.capacity ≡ old.directives.capacity)
    × (new.file_data.link ≡ old.file_data.link)
    × (new.file_data.capacity ≡ old.file_data.capacity)

-- No more waits in a lane than its capacity and what a flush adds.
abbrev pub IsBounded : DownState → Type 0
IsBounded d =
    (length d.directives.waiting ≤ d.directives.capacity + 2047)
    × (length d.file_data.waiting ≤ d.file_data.capacity + 2047)

-- a lane that sent nothing, if so many octets of packets may wait
abbrev pub first_lane_down : ChannelConfig → ℕ → LinkSenderState
first_lane_down link capacity = record {
  link = link;
  capacity = capacity;
  waiting = [];
  first = 0;
  flushed = false;
  frame_count = 0;
  control = 0;
}

-- the end of a link that sent nothing: each lane has the capacity
abbrev pub first_down : LinkConfig → ℕ → DownState
first_down link capacity = record {
  directives = first_lane_down (lane_channel Directives link) capacity;
  file_data = first_lane_down (lane_channel Data link) capacity;
  packet_count = 0;
}

-- true if a whole zone waits in a lane
abbrev pub has_whole : LinkSenderState → Bool
has_whole d = nat_le d.link.zone (length d.waiting)

-- ---- frames counted from a number on
-- the lane, whose frames are counted from this number on
abbrev pub counted_from : ℕ → LinkSenderState → LinkSenderState
counted_from count d = record d { frame_count = count % frame_counts }

-- both lanes so
abbrev pub both_counted_from : ℕ → DownState → DownState
both_counted_from count d = record d {
  directives = counted_from count d.directives;
  file_data = counted_from count d.file_data;
}

-- ---- the operational control field
-- the lane, whose frames have this control field from now on
abbrev pub controlled : ℕ → LinkSenderState → LinkSenderState
controlled control d = record d { control = control }

-- both lanes so
abbrev pub both_controlled : ℕ → DownState → DownState
both_controlled control d = record d {
  directives = controlled control d.directives;
  file_data = controlled control d.file_data;
}

-- so many idle packets, each of which fills a zone
abbrev pub idle_zones : (zone count : ℕ) → List (List ℕ)
idle_zones zone count = replicate count (idle_packet zone)

-- the lane whose frame leaves next: directives go first
abbrev pub frame_lane : DownState → Option Lane
frame_lane d =
    if has_whole d.directives then Some Directives
    else if has_whole d.file_data then Some Data
    else None
