-- Frames that are delivered in any order, and any number of times, and among them what is no frame.
use Rattle.std.specs.Prelude.{◌≡◌, ◌≢◌, ◌⊎◌, ℕ, ◌+◌, ◌<◌, ◌≤◌, Bool, true, List, [], ◌∷◌, ◌++◌, length, Option, Some, None, IfSome, Contains}
use Rattle.cfd_bits.specs.Field.{field}
use Rattle.aos_frame.specs.Counts.{counts_of, follows, CountsFrame}
use Rattle.aos_frame.specs.Frame.{frame_fault, lane_channel, other_lane, seen_in}
use Rattle.aos_frame.specs.declared.config.ChannelConfig.{ChannelConfig}
use Rattle.aos_frame.specs.declared.config.LinkConfig.{LinkConfig}
use Rattle.aos_frame.specs.declared.config.Lane.{Lane}
use Rattle.aos_frame.specs.declared.config.Lane.TheVariants.{Directives, Data}
use Rattle.mpdu.specs.MpduHeader.{pointer_of}
use Rattle.mpdu.specs.Packets.{busy}
use Rattle.mpdu.specs.Packing.{ZoneOf}
use Rattle.mpdu.specs.Parts.{IsPartOf}
use Rattle.mpdu.specs.Stream.{ArePackets, begun}
use Rattle.link_stack.specs.Frames.{mpdu_in, zone_in, pdus_in}
use Rattle.link_stack.specs.Upward.{LinkReceiverState, UpState, LaneTakes, lane_of, lane_up}

-- A frame that is delivered: its lane, all packets that its lane's stream ever has, its number in
-- that stream, from 0, and its octets.
pub record Delivery : Type 0 where
  pub lane : Lane
  pub packets : List (List ℕ)
  pub number : ℕ
  pub octets : List ℕ

-- It is that frame of the stream, whoever makes it: a frame of the channel with zone `number` of
-- these packets, and its first header pointer (CCSDS 732.0-B-4, 4.1.4.2).
pub record IsFrameOf (link : ChannelConfig) (d : Delivery) : Type 0 where
  pub packets_whole : ArePackets d.packets
  pub of_link : frame_fault d.octets link ≡ None
  pub zoned : ZoneOf d.packets d.number link.zone (pointer_of (mpdu_in link d.octets))
      (zone_in link d.octets)

-- No packet can come of these octets: they are no frame of the channel, or they have idle data
-- only.
abbrev pub IsStray : ChannelConfig → List ℕ → Type 0
IsStray link octets = (frame_fault octets link ≢ None) ⊎ (pointer_of (mpdu_in link octets) ≡ 2046)

-- ---- what the counts show
-- If the count of the second frame follows the count of the first, the second is the frame after
-- the first one in the same stream.
abbrev pub CountsTell : (before after : Delivery) → Type 0
CountsTell before after =
    follows (Some (seen_in before.octets)) (seen_in after.octets) ≡ true →
    (after.packets ≡ before.packets) × (after.number ≡ before.number + 1)

-- Of two numbers the second is greater by at most as many as there are counts, or smaller by less
-- than that less one.
pub record IsWithinCounts (all : Bool) (before after : ℕ) : Type 0 where
  pub in_front : after ≤ before + counts_of all
  pub behind : before + 1 < after + counts_of all

-- Both frames have the counts of their numbers, which are within the counts; and no frame of one
-- stream has the number after one of another.
pub record AreCounted (all : Bool) (before after : Delivery) : Type 0 where
  pub first : CountsFrame all before.number (seen_in before.octets)
  pub second : CountsFrame all after.number (seen_in after.octets)
  pub within : IsWithinCounts all before.number after.number
  pub apart : after.number ≡ before.number + 1 → after.packets ≡ before.packets

-- the same frame, if one more packet is in the stream
abbrev pub grown : List ℕ → Delivery → Delivery
grown packet d = record d { packets = d.packets ++ packet ∷ [] }

-- ---- one lane
-- What is held of a begun packet is what some of the frames up to this one leave, the last seen.
pub record IsLeftBy (up : LinkReceiverState) (d : Delivery) : Type 0 where
  pub seen : up.last ≡ Some (seen_in d.octets)
  pub marks : List Bool
  pub up_to : length marks ≡ d.number + 1
  pub held : up.begun ≡ begun up.link.zone marks 0 d.packets

-- so of the last frame seen of a stream, or nothing is held
abbrev pub IsLeft : LinkReceiverState → Option Delivery → Type 0
IsLeft up None = up.begun ≡ []
IsLeft up (Some d) = IsLeftBy up d

-- What a lane does with a frame of a stream: it appends, in order, what some of the packets that
-- are not idle carry, and is left so.
pub record TakesAny (up new : LinkReceiverState) (d : Delivery) (old out : List (List ℕ))
    : Type 0 where
  pub link : new.link ≡ up.link
  pub after : IsLeftBy new d
  pub given : List (List ℕ)
  pub appended : out ≡ old ++ given
  pub sent : IsPartOf given (pdus_in (busy d.packets))

-- What it does with other octets: it appends nothing, and is left as it was, or holds nothing.
pub record TakesStray (up new : LinkReceiverState) (last : Option Delivery)
    (old out : List (List ℕ)) : Type 0 where
  pub link : new.link ≡ up.link
  pub after : IsLeft new last ⊎ IsLeft new None
  pub appended : out ≡ old

-- ---- both lanes
-- Each lane has its channel of the link, and is left by the last of its frames.
pub record AreLeft (link : LinkConfig) (u : UpState) (last : Lane → Option Delivery)
    : Type 0 where
  pub links : (lane : Lane) → (lane_up lane u).link ≡ lane_channel lane link
  pub left : (lane : Lane) → IsLeft (lane_up lane u) (last lane)

-- nothing is known of a last frame
abbrev pub no_last : Lane → Option Delivery
no_last lane = None

-- what is the last frame of each lane, once this one came
abbrev pub last_of : (lane its : Lane) → Delivery → Option Delivery → Option Delivery
last_of Directives Directives d last = Some d
last_of Data Data d last = Some d
last_of lane its d last = last

abbrev pub now_last : Delivery → (Lane → Option Delivery) → Lane → Option Delivery
now_last d last lane = last_of lane d.lane d (last lane)

-- What `receive` of a receiving end does with a frame, clause by clause.
pub record Receives (frame : List ℕ) (old new : UpState) (before after : List (List ℕ))
    : Type 0 where
  pub taken : LaneTakes frame (lane_up (lane_of old frame) old) (lane_up (lane_of old frame) new)
      before after
  pub other : lane_up (other_lane (lane_of old frame)) new
      ≡ lane_up (other_lane (lane_of old frame)) old
  pub lane : (lane : Lane) → 2 ≤ length frame →
      field frame 10 6 ≡ (lane_up lane old).link.virtual_channel → lane_of old frame ≡ lane

-- A frame of a stream gives, in order, what some of the packets that are not idle carry.
pub record GivesSent (link : LinkConfig) (new : UpState) (last : Lane → Option Delivery)
    (d : Delivery) (before after : List (List ℕ)) : Type 0 where
  pub left : AreLeft link new (now_last d last)
  pub given : List (List ℕ)
  pub appended : after ≡ before ++ given
  pub sent : IsPartOf given (pdus_in (busy d.packets))

-- Other octets give nothing; of each lane the last frame is as it was, or nothing is known of it.
pub record GivesNone (link : LinkConfig) (new : UpState) (last : Lane → Option Delivery)
    (before after : List (List ℕ)) : Type 0 where
  pub now : Lane → Option Delivery
  pub fewer : (lane : Lane) → (now lane ≡ last lane) ⊎ (now lane ≡ None)
  pub left : AreLeft link new now
  pub appended : after ≡ before

-- ---- one after another
-- what comes: a frame of a stream, or octets of which no packet can come
pub data Arrival : Type 0 where
  OfStream : Delivery → Arrival
  Stray : List ℕ → Arrival

abbrev pub octets_in : Arrival → List ℕ
octets_in (OfStream d) = d.octets
octets_in (Stray octets) = octets

abbrev pub AreArrivals : LinkConfig → List Arrival → Type 0
AreArrivals link [] = Unit {0}
AreArrivals link (OfStream d ∷ came) =
    IsFrameOf (lane_channel d.lane link) d × AreArrivals link came
AreArrivals link (Stray octets ∷ came) =
    ((lane : Lane) → IsStray (lane_channel lane link) octets) × AreArrivals link came

-- The counts say of each frame of a stream whether it follows the last one of its lane.
abbrev pub CountsTellAll : (Lane → Option Delivery) → List Arrival → Type 0
CountsTellAll last [] = Unit {0}
CountsTellAll last (OfStream d ∷ came) =
    IfSome (last d.lane) (λ before. CountsTell before d) × CountsTellAll (now_last d last) came
CountsTellAll last (Stray octets ∷ came) = CountsTellAll last came

-- what it does with all of these, one after another
abbrev pub ReceivesAll : List (List ℕ) → (old new : UpState) → (before after : List (List ℕ)) →
    Type 0
ReceivesAll [] old new before after = (new ≡ old) × (after ≡ before)
ReceivesAll (frame ∷ frames) old new before after =
    (mid : UpState) × (between : List (List ℕ))
    × Receives frame old mid before between × ReceivesAll frames mid new between after

-- These were appended, and each of them is what a packet that is not idle carries, of the stream of
-- one of these frames.
pub record ComesOf (came : List Arrival) (before after : List (List ℕ)) : Type 0 where
  pub given : List (List ℕ)
  pub appended : after ≡ before ++ given
  pub sent : (pdu : List ℕ) → Contains given pdu →
      (d : Delivery) × Contains came (OfStream d) × Contains (pdus_in (busy d.packets)) pdu
