-- The receiving end of a link: what one frame does to it, whatever it is, and what the frames of a
-- stream leave.
use Rattle.std.specs.Prelude.{◌≡◌, ◌⊎◌, ℕ, ◌+◌, ◌-◌, ◌*◌, ◌^◌, ◌<◌, ◌≤◌, nat_le, min, Bool, true, false, ◌==◌, ◌&&◌, not, if◌then◌else◌, Option, Some, None, IfSome, List, [], ◌∷◌, ◌++◌, length, take, drop, replicate}
use Rattle.cfd_bits.specs.Field.{field}
use Rattle.aos_frame.specs.LinkFields.{control_in}
use Rattle.aos_frame.specs.Counts.{counts_of, follows, CountsFrame}
use Rattle.aos_frame.specs.Frame.{frame_fault, lane_channel, seen_in}
use Rattle.aos_frame.specs.declared.count.SeenCount.{SeenCount}
use Rattle.aos_frame.specs.declared.config.ChannelConfig.{ChannelConfig}
use Rattle.aos_frame.specs.declared.config.LinkConfig.{LinkConfig}
use Rattle.aos_frame.specs.declared.config.Lane.{Lane}
use Rattle.aos_frame.specs.declared.config.Lane.TheVariants.{Directives, Data}
use Rattle.aos_frame.specs.declared.error.FrameError.{FrameError}
use Rattle.aos_frame.specs.declared.error.FrameError.TheVariants.{OnlyIdle}
use Rattle.mpdu.specs.MpduHeader.{pointer_of}
use Rattle.mpdu.specs.Stream.{ArePackets, stream, begun, survivors}
use Rattle.mpdu.specs.Packing.{ZoneOf}
use Rattle.mpdu.specs.Reading.{reading, held_at, resync, bad_count, is_some}
use Rattle.link_stack.specs.declared.drops.LinkDrop.{LinkDrop}
use Rattle.link_stack.specs.declared.drops.LinkDrop.TheVariants.{Frame, Resync, BadPacket, NoMemory}
use Rattle.link_stack.specs.Frames.{packet_drop, mpdu_in, zone_in, AreOfLink, IsSealed, pdus_in}
use Rattle.link_stack.specs.Drops.{counted, all_counted, count_of}

-- A lane of a receiving end: its channel of the link, the count of the last frame seen with its
-- usage flag of the count cycle, what is held of a begun packet, the counts of drops, and the
-- operational control field that came last.
pub record LinkReceiverState : Type 0 where
  pub link : ChannelConfig
  pub last : Option SeenCount
  pub begun : List ℕ
  pub drops : List ℕ
  pub control : Option ℕ

-- the PDUs of the packets that carry one of the link
abbrev pub with_pdu : Option LinkDrop → List ℕ → List (List ℕ) → List (List ℕ)
with_pdu None packet pdus = drop 6 packet ∷ pdus
with_pdu (Some cause) packet pdus = pdus

abbrev pub pdus_of : ChannelConfig → List (List ℕ) → List (List ℕ)
pdus_of link [] = []
pdus_of link (p ∷ ps) = with_pdu (packet_drop link p) p (pdus_of link ps)

-- why the others carry none
abbrev pub with_drop : Option LinkDrop → List LinkDrop → List LinkDrop
with_drop None drops = drops
with_drop (Some cause) drops = cause ∷ drops

abbrev pub drops_of : ChannelConfig → List (List ℕ) → List LinkDrop
drops_of link [] = []
drops_of link (p ∷ ps) = with_drop (packet_drop link p) (drops_of link ps)

-- each must have a whole header at least
abbrev pub AreLong : List (List ℕ) → Type 0
AreLong [] = Unit {0}
AreLong (p ∷ ps) = (6 ≤ length p) × AreLong ps

-- what is dropped of a zone: at most one Resync, and a BadPacket for each bad header
abbrev pub zone_drops : Bool → ℕ → List LinkDrop
zone_drops true bad = Resync ∷ replicate bad BadPacket
zone_drops false bad = replicate bad BadPacket

-- What a frame is read as: the count seen last and what is held of a begun packet after it, the
-- whole packets that aren't idle, and what is reported of the frame and its zone.
pub record FrameRead : Type 0 where
  pub last : Option SeenCount
  pub begun : List ℕ
  pub packets : List (List ℕ)
  pub told : List LinkDrop

-- a frame of idle data only
abbrev pub idle_read : SeenCount → FrameRead
idle_read seen = record { last = Some seen; begun = []; packets = []; told = Frame OnlyIdle ∷ [] }

-- a zone whose packets are read, in a frame that follows the last one seen or doesn't
abbrev pub packets_read : Option SeenCount → List ℕ → Bool → ℕ → List ℕ → FrameRead
packets_read last begun follows at zone =
    record {
      last = last;
      begun = (reading begun follows at zone).begun;
      packets = (reading begun follows at zone).out;
      told = zone_drops (resync (length zone) begun follows at zone)
          (bad_count (length zone) (held_at follows begun) at zone);
    }

-- an M_PDU, after the count of its frame; if the pointer is 2046, it has idle data only (CCSDS
-- 732.0-B-4, 4.1.4.2.3)
abbrev pub mpdu_read : LinkReceiverState → SeenCount → List ℕ → FrameRead
mpdu_read up seen mpdu =
    if pointer_of mpdu == 2046 then idle_read seen
    else packets_read (Some seen) up.begun (follows up.last seen) (pointer_of mpdu) (drop 2 mpdu)

-- A frame of another link, or none, changes only the count of its cause.
abbrev pub read_unless : Option FrameError → LinkReceiverState → List ℕ → FrameRead
read_unless (Some error) up frame = record {
  last = up.last;
  begun = up.begun;
  packets = [];
  told =
      Frame error ∷ [];
}
read_unless None up frame = mpdu_read up (seen_in frame) (mpdu_in up.link frame)

abbrev pub frame_read : LinkReceiverState → List ℕ → FrameRead
frame_read up frame = read_unless (frame_fault frame up.link) up frame

-- the operational control field that came last, once a frame came: the frame's, if it is one of the
-- channel
abbrev pub control_unless : Option FrameError → LinkReceiverState → List ℕ → Option ℕ
control_unless (Some error) up frame = up.control
control_unless None up frame = control_in up.link.fields frame

abbrev pub control_after : LinkReceiverState → List ℕ → Option ℕ
control_after up frame = control_unless (frame_fault frame up.link) up frame

-- The frame has a zone to read: it is one of the link, and its pointer isn't the one of idle data.
pub record HasZone (link : ChannelConfig) (frame : List ℕ) : Type 0 where
  pub of_link : frame_fault frame link ≡ None
  pub not_idle : (pointer_of (mpdu_in link frame) == 2046) ≡ false

-- All of it was taken: its PDUs were appended, and each drop counted.
pub record Takes (read : FrameRead) (up new : LinkReceiverState)
    (old out : List (List ℕ)) : Type 0 where
  pub link : new.link ≡ up.link
  pub last : new.last ≡ read.last
  pub begun : new.begun ≡ read.begun
  pub drops : new.drops ≡ all_counted (all_counted up.drops read.told)
      (drops_of up.link read.packets)
  pub pdus : out ≡ old ++ pdus_of up.link read.packets

-- A front of it was taken, and nothing is held: there was no memory to hand out a packet that the
-- zone completes, and NoMemory was counted in place of the zone's drops.
pub record TakesFront (read : FrameRead) (up new : LinkReceiverState)
    (old out : List (List ℕ)) : Type 0 where
  pub link : new.link ≡ up.link
  pub last : new.last ≡ read.last
  pub begun : new.begun ≡ []
  pub some : 1 ≤ length read.packets
  pub count : ℕ
  pub drops : new.drops ≡ all_counted (counted up.drops NoMemory)
      (drops_of up.link (take count read.packets))
  pub pdus : out ≡ old ++ pdus_of up.link (take count read.packets)

-- The receiving end is in the state in which the delivered frames of this stream leave it. The
-- marks say which frames were delivered; the last `missed` were lost, which must be fewer than the
-- counts: than 2^28 if all frames of the stream have the usage flag of the count cycle, otherwise
-- than 2^24.
pub record IsUpOf (all : Bool) (up : LinkReceiverState) (ps : List (List ℕ)) (marks : List Bool)
    (missed : ℕ) : Type 0 where
  pub packets_whole : ArePackets ps
  pub of_link : AreOfLink up.link ps
  pub few : missed < counts_of all
  pub seen : IfSome up.last (λ last. (n : ℕ) × CountsFrame all n last
      × (length marks ≡ n + 1 + missed))
  pub unseen : up.last ≡ None → up.begun ≡ []
  pub as_left : held_at (missed == 0) up.begun ≡ begun up.link.zone marks 0 ps
  pub counts : length up.drops ≡ 12

-- the same of a stream whose frames a sending end made: all have the flag
abbrev pub IsUp : LinkReceiverState → List (List ℕ) → List Bool → ℕ → Type 0
IsUp up ps marks missed = IsUpOf true up ps marks missed

-- The frame after the marked ones of the packets' stream, as a sending end makes it.
pub record IsNextFrame (link : ChannelConfig) (ps : List (List ℕ)) (marks : List Bool)
    (frame : List ℕ) : Type 0 where
  pub inside : length marks * link.zone + link.zone ≤ length (stream ps)
  pub sealed : IsSealed link ps (length marks) frame

-- The frame after the marked ones, whoever makes it: a frame of the link with that count and that
-- zone. If not all frames of the stream have the flag, it may have it or not.
pub record IsNextFrameOf (all : Bool) (link : ChannelConfig) (ps : List (List ℕ)) (marks : List Bool)
    (frame : List ℕ) : Type 0 where
  pub of_link : frame_fault frame link ≡ None
  pub counted : CountsFrame all (length marks) (seen_in frame)
  pub zoned : ZoneOf ps (length marks) link.zone (pointer_of (mpdu_in link frame))
      (zone_in link frame)

-- It was taken whole: appended are the PDUs of the survivors that it completes. Nothing is dropped
-- except a begun packet, if a frame was missed.
pub record TakesNextOf (all : Bool) (up new : LinkReceiverState) (ps : List (List ℕ))
    (marks : List Bool) (missed : ℕ) (old out : List (List ℕ)) : Type 0 where
  pub after : IsUpOf all new ps (marks ++ true ∷ []) 0
  pub added : List (List ℕ)
  pub completed : survivors up.link.zone (marks ++ true ∷ []) 0 ps
      ≡ survivors up.link.zone marks 0 ps ++ added
  pub pdus : out ≡ old ++ pdus_in added
  pub drops : new.drops ≡ all_counted up.drops
      (zone_drops (not (missed == 0) && is_some up.begun) 0)
  pub link : new.link ≡ up.link
  pub memory : count_of new.drops 11 ≡ count_of up.drops 11

abbrev pub TakesNext : LinkReceiverState → LinkReceiverState → List (List ℕ) → List Bool → ℕ →
    List (List ℕ) → List (List ℕ) → Type 0
TakesNext up new ps marks missed old out = TakesNextOf true up new ps marks missed old out

-- A front of these PDUs was appended, since there was no memory for one of them, and the end is as
-- if the frame had been struck.
pub record TakesNextFrontOf (all : Bool) (up new : LinkReceiverState) (ps : List (List ℕ))
    (marks : List Bool) (old out : List (List ℕ)) : Type 0 where
  pub after : IsUpOf all new ps (marks ++ false ∷ []) 0
  pub added : List (List ℕ)
  pub completed : survivors up.link.zone (marks ++ true ∷ []) 0 ps
      ≡ survivors up.link.zone marks 0 ps ++ added
  pub some : 1 ≤ length added
  pub count : ℕ
  pub pdus : out ≡ old ++ pdus_in (take count added)
  pub drops : new.drops ≡ counted up.drops NoMemory
  pub link : new.link ≡ up.link
  pub memory : 1 ≤ count_of new.drops 11

abbrev pub TakesNextFront : LinkReceiverState → LinkReceiverState → List (List ℕ) → List Bool →
    List (List ℕ) → List (List ℕ) → Type 0
TakesNextFront up new ps marks old out = TakesNextFrontOf true up new ps marks old out

-- ---- both lanes
pub record UpState : Type 0 where
  pub directives : LinkReceiverState
  pub file_data : LinkReceiverState

abbrev pub lane_up : Lane → UpState → LinkReceiverState
lane_up Directives u = u.directives
lane_up Data u = u.file_data

-- a lane that took no frame
abbrev pub first_lane_up : ChannelConfig → LinkReceiverState
first_lane_up link = record {
  link = link;
  last = None;
  begun = [];
  drops = replicate 12 0;
  control = None;
}

-- the end of a link that took no frame
abbrev pub first_up : LinkConfig → UpState
first_up link = record {
  directives = first_lane_up (lane_channel Directives link);
  file_data = first_lane_up (lane_channel Data link);
}

-- the lane that takes a frame: the lane of its virtual channel. If it is of neither, or no frame,
-- it goes to the lane of directives, which drops and counts it.
abbrev pub lane_of : UpState → List ℕ → Lane
lane_of u frame =
    if nat_le 2 (length frame) && field frame 10 6 == u.file_data.link.virtual_channel then Data
    else Directives

-- how often a cause was counted, on either lane; if it is the greatest value, it stays so
abbrev pub drop_count : UpState → ℕ → ℕ
drop_count u number =
    min (count_of u.directives.drops number + count_of u.file_data.drops number) (2 ^ 64 - 1)

-- A frame was taken by the end of its lane, which gave the PDUs of the packets that the frame
-- completes, or a front of them if it found no memory. If it is a stream's next frame, they are the
-- PDUs of the survivors that it completes, also if another implementation makes the frames, and not
-- all of them have the usage flag of the count cycle.
pub record LaneTakes (frame : List ℕ) (up new : LinkReceiverState) (old out : List (List ℕ))
    : Type 0 where
  -- what any frame does
  pub takes : Takes (frame_read up frame) up new old out
      ⊎ (HasZone up.link frame × TakesFront (frame_read up frame) up new old out)
  -- what the next frame of a stream does, if the end is as the frames before it leave it
  pub next : (ps : List (List ℕ)) (marks : List Bool) (missed : ℕ) → IsUp up ps marks missed →
      IsNextFrame up.link ps marks frame →
      TakesNext up new ps marks missed old out ⊎ TakesNextFront up new ps marks old out
  -- the same of a stream that anyone makes
  pub others : (all : Bool) (ps : List (List ℕ)) (marks : List Bool) (missed : ℕ) →
      IsUpOf all up ps marks missed → IsNextFrameOf all up.link ps marks frame →
      TakesNextOf all up new ps marks missed old out
      ⊎ TakesNextFrontOf all up new ps marks old out
  -- so if nothing was given before, given are the PDUs of the survivors that this frame completes,
  -- unless it found no memory
  pub delivered : (ps : List (List ℕ)) (marks : List Bool) (missed : ℕ) → IsUp up ps marks missed →
      IsNextFrame up.link ps marks frame → old ≡ [] →
      (pdus_in (survivors up.link.zone (marks ++ true ∷ []) 0 ps)
      ≡ pdus_in (survivors up.link.zone marks 0 ps) ++ out)
      ⊎ (new.drops ≡ counted up.drops NoMemory)
  -- the operational control field of a frame of the channel is kept
  pub control : new.control ≡ control_after up frame
