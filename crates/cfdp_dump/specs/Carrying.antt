-- What the frames of any virtual channels carry (CCSDS 732.0-B-4, 4.1.2.4, 4.1.2.5, 4.1.4.2), by
-- the frames that were seen before.
use Rattle.std.specs.Prelude.{◌≡◌, ◌⊎◌, ℕ, ◌+◌, ◌<◌, ◌≤◌, ◌==◌, ◌&&◌, Bool, true, false, if◌then◌else◌, Option, Some, None, MatchOption, List, [], ◌∷◌, ◌++◌, length, drop}
use Rattle.std.specs.List.{All}
use Rattle.aos_frame.specs.Counts.{AreMissing, compared}
use Rattle.aos_frame.specs.declared.count.SeenCount.{SeenCount}
use Rattle.aos_frame.specs.declared.header.FrameHeader.{FrameHeader}
use Rattle.mpdu.specs.MpduHeader.{pointer_of}
use Rattle.mpdu.specs.Reading.{bad_count, held_at, reading, resync}
use Rattle.cfdp_dump.specs.declared.channel.Carried.{Carried}
use Rattle.cfdp_dump.specs.declared.channel.Channel.{Channel}

-- a channel: its spacecraft and number, the count of the last frame seen, and what is held of a
-- begun packet; before its first frame neither is there
abbrev pub is_of : FrameHeader → Channel → Bool
is_of h c = (c.spacecraft == h.spacecraft) && (c.virtual_channel == h.virtual_channel)

abbrev pub fresh : FrameHeader → Channel
fresh h = record {
  spacecraft = h.spacecraft;
  virtual_channel = h.virtual_channel;
  monitor = None;
  reassembler = [];
}

-- the count of a frame
abbrev pub count_of : FrameHeader → SeenCount
count_of h = record { count = h.count; cycle = h.cycle }

-- what a frame carries: how many frames are missing before it, whether it has only idle data,
-- whether a begun packet was cut off or its pointer lies outside its zone, how many headers are of
-- another version than 000, and the packets that end in it and aren't idle
pub record CarriedText : Type 0 where
  pub missing : ℕ
  pub only_idle : Bool
  pub cut_off : Bool
  pub bad : ℕ
  pub packets : List (List ℕ)

abbrev pub carried_text : Carried → CarriedText
carried_text c = record {
  missing = c.missing;
  only_idle = c.only_idle;
  cut_off = c.notes.resync;
  bad = c.notes.bad;
  packets = c.packets;
}

-- a channel that has seen a frame, and holds nothing of a begun packet
abbrev pub seen_only : FrameHeader → Channel → Channel
seen_only h c = record c { monitor = Some (count_of h); reassembler = [] }

-- So many frames of a channel are missing before this count: none before the first one seen.
abbrev pub IsMissing : Option SeenCount → SeenCount → ℕ → Type 0
IsMissing None this missing = missing ≡ 0
IsMissing (Some last) this missing =
    AreMissing (compared last.cycle this.cycle) last.count this.count missing

-- What its zone gives after what is held, if it follows the last one seen or doesn't; and what is
-- held then.
pub record ZoneCarries (held : List ℕ) (follows : Bool) (pointer : ℕ) (zone : List ℕ)
    (carried : CarriedText) (left : List ℕ) : Type 0 where
  pub packets : carried.packets ≡ (reading held follows pointer zone).out
  pub begun : left ≡ (reading held follows pointer zone).begun
  pub cut_off : carried.cut_off ≡ resync (length zone) held follows pointer zone
  pub bad : carried.bad ≡ bad_count (length zone) (held_at follows held) pointer zone

-- a zone of idle data has no packets, and ends what is begun (4.1.4.2.3)
pub record IdleCarries (carried : CarriedText) (left : List ℕ) : Type 0 where
  pub packets : carried.packets ≡ []
  pub begun : left ≡ []
  pub cut_off : carried.cut_off ≡ false
  pub bad : carried.bad ≡ 0

-- A frame of a channel, by its header and its M_PDU, carries this, and leaves the channel so.
pub record Carries (c : Channel) (h : FrameHeader) (mpdu : List ℕ) (carried : CarriedText)
    (after : Channel) : Type 0 where
  pub spacecraft : after.spacecraft ≡ c.spacecraft
  pub virtual_channel : after.virtual_channel ≡ c.virtual_channel
  pub seen : after.monitor ≡ Some (count_of h)
  pub missing : IsMissing c.monitor (count_of h) carried.missing
  pub only_idle : carried.only_idle ≡ (pointer_of mpdu == 2046)
  pub idle : carried.only_idle ≡ true → IdleCarries carried after.reassembler
  pub zone : carried.only_idle ≡ false → ZoneCarries c.reassembler (carried.missing == 0)
      (pointer_of mpdu) (drop 2 mpdu) carried after.reassembler

-- ---- all channels whose frames were seen
-- the channel of a frame; if it isn't there, none of its frames was seen before
abbrev pub channel_of : FrameHeader → List Channel → Channel
channel_of h [] = fresh h
channel_of h (c ∷ cs) = if is_of h c then c else channel_of h cs

-- all channels, with that one as it is afterwards
abbrev pub with_channel : FrameHeader → Channel → List Channel → List Channel
with_channel h after [] = after ∷ []
with_channel h after (c ∷ cs) = if is_of h c then after ∷ cs else c ∷ with_channel h after cs

-- A frame of a channel that is followed carries this, and no other channel changes.
pub record FrameCarries (channels : List Channel) (h : FrameHeader) (mpdu : List ℕ)
    (carried : CarriedText) (after : List Channel) : Type 0 where
  pub channel : Channel
  pub carries : Carries (channel_of h channels) h mpdu carried channel
  pub others : after ≡ with_channel h channel channels

-- There are 64 channels, and the frame is of none of them. Then nothing changes.
pub record IsUnfollowed (channels : List Channel) (h : FrameHeader) (after : List Channel)
    : Type 0 where
  pub full : 64 ≤ length channels
  pub other : All (λ c. is_of h c ≡ false) channels
  pub same : after ≡ channels

-- There was no memory for a frame: nothing changed, or its channel has seen it, and holds nothing of
-- a begun packet. No other channel changes.
abbrev pub LacksMemory : List Channel → FrameHeader → List Channel → Type 0
LacksMemory channels h after = (after ≡ channels)
    ⊎ (after ≡ with_channel h (seen_only h (channel_of h channels)) channels)
