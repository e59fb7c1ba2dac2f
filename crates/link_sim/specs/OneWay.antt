-- One lane of a direction of a link: what was sent, what became of its frames, and what was
-- delivered.
use Rattle.std.specs.Prelude.{◌≡◌, ◌≢◌, ℕ, ◌+◌, ◌-◌, ◌*◌, ◌^◌, ◌<◌, ◌≤◌, ◌⊎◌, ◌==◌, ◌&&◌, Bool, true, false, List, [], ◌∷◌, ◌++◌, length, map, not, replicate, slice_index_or, nat_le, nat_lt, if◌then◌else◌}
use Rattle.std.specs.List.{list_any}
use Rattle.aos_frame.specs.Frame.{IsChannel, frame_len}
use Rattle.aos_frame.specs.declared.config.ChannelConfig.{ChannelConfig}
use Rattle.mpdu.specs.Stream.{stream, survivors}
use Rattle.mpdu.specs.Packets.{packets_of, busy}
use Rattle.mpdu.specs.Parts.{IsPartOf, AreAmong}
use Rattle.mpdu.specs.Reading.{held_at}
use Rattle.link_stack.specs.Frames.{pdus_in, zone_in}
use Rattle.link_stack.specs.Drops.{count_of}
use Rattle.link_stack.specs.Downward.{LinkSenderState, IsDown, sealed_frame}
use Rattle.link_stack.specs.Upward.{LinkReceiverState, IsUp}
use Rattle.link_sim.specs.FrameLink.{FrameLinkState}

-- Its two ends; all frames sent, in order; the marks of those that no longer wait, in the same
-- order; and how many of the last of these were struck in a row.
pub record OneWayState : Type 0 where
  pub down : LinkSenderState
  pub up : LinkReceiverState
  pub frames : List (List ℕ)
  pub marks : List Bool
  pub run : ℕ

-- what lies between these two ends
abbrev pub one_way : LinkSenderState → FrameLinkState → LinkReceiverState → OneWayState
one_way down link up = record {
  down = down;
  up = up;
  frames = link.frames;
  marks = link.marks;
  run = link.run;
}

-- ---- what was sent and delivered, read from the frames, the marks and the octets that wait
-- the packet zones of frames of a channel, joined
abbrev pub zones_of : ChannelConfig → List (List ℕ) → List ℕ
zones_of link frames = stream (map (λ f. zone_in link f) frames)

-- the octets sent: the zones of the frames, and then the octets that wait
abbrev pub octets_sent : OneWayState → List ℕ
octets_sent w = zones_of w.down.link w.frames ++ w.down.waiting

-- the packets that they spell
abbrev pub packets_sent : OneWayState → List (List ℕ)
packets_sent w = packets_of (octets_sent w)

-- the PDUs put on the link, delivered or not
abbrev pub pdus_sent : OneWayState → List (List ℕ)
pdus_sent w = pdus_in (busy (packets_sent w))

-- the PDUs delivered: the PDUs of the packets all of whose frames were delivered
abbrev pub pdus_delivered : OneWayState → List (List ℕ)
pdus_delivered w = pdus_in (survivors w.up.link.zone w.marks 0 (packets_sent w))

-- ---- what is on its way
-- of packets that begin at an octet, in a row, those that end after a limit
abbrev pub behind : (limit from : ℕ) → List (List ℕ) → List (List ℕ)
behind limit from [] = []
behind limit from (p ∷ ps) =
    if nat_le (from + length p) limit then behind limit (from + length p) ps else p ∷ ps

-- the PDUs on their way: the PDUs of the packets an octet of which must still be taken, in order
abbrev pub on_way : OneWayState → List (List ℕ)
on_way w = pdus_in (busy (behind (length w.marks * w.down.link.zone) 0 (packets_sent w)))

-- ---- what will arrive, if no more is lost
-- of packets that begin at an octet, in a row, those that end after a limit: but if nothing is held
-- of the one that the limit cuts, only those after it
abbrev pub unbroken : (limit from : ℕ) → (held : List ℕ) → List (List ℕ) → List (List ℕ)
unbroken limit from held [] = []
unbroken limit from held (p ∷ ps) =
    if nat_le (from + length p) limit then unbroken limit (from + length p) held ps
    else if nat_lt from limit && nat_le (length held) 0 then ps else p ∷ ps

-- the PDUs on their way except for the first one, if the front of its packet was lost
abbrev pub arriving : OneWayState → List (List ℕ)
arriving w = pdus_in (busy (unbroken (length w.marks * w.down.link.zone) 0
    (held_at (w.run == 0) w.up.begun) (packets_sent w)))

-- ---- what every direction keeps
-- The end that sends, if its stream is these packets.
pub record IsSent (w : OneWayState) (ps : List (List ℕ)) : Type 0 where
  pub valid : IsChannel w.down.link
  pub made : IsDown w.down ps (length w.frames)
  pub frames : (n : ℕ) → n < length w.frames →
      slice_index_or w.frames n [] ≡ sealed_frame w.down ps n
  pub fits : w.down.control < 2 ^ 32
  pub octets : octets_sent w ≡ stream ps
  pub taken : length w.marks ≤ length w.frames

-- The last `run` frames taken were struck, and the one before them, if there is one, was delivered.
pub record EndsStruck (marks : List Bool) (run : ℕ) : Type 0 where
  pub before : List Bool
  pub joined : marks ≡ before ++ replicate run false
  pub end : (before ≡ []) ⊎ ((earlier : List Bool) × (before ≡ earlier ++ true ∷ []))

-- The end that receives. `read` says which of the frames taken were delivered and found memory: all
-- that were delivered, if no drop was counted for lack of memory (number 11).
pub record IsReceived (up : LinkReceiverState) (ps : List (List ℕ)) (marks : List Bool)
    (run : ℕ) : Type 0 where
  pub read : List Bool
  pub end : IsUp up ps read run
  pub among : AreAmong read marks
  pub all_read : count_of up.drops 11 ≡ 0 → read ≡ marks
  pub struck : EndsStruck marks run

pub record IsOneWayOf (w : OneWayState) (ps : List (List ℕ)) : Type 0 where
  pub same_link : w.up.link ≡ w.down.link
  pub sent : IsSent w ps
  pub received : IsReceived w.up ps w.marks w.run

-- The packets are those that the frames and the waiting octets spell.
abbrev pub IsOneWay : OneWayState → Type 0
IsOneWay w = IsOneWayOf w (packets_sent w)

-- Between events no whole zone waits, and after a flush nothing but octets of its idle packet.
pub record IsRested (w : OneWayState) : Type 0 where
  pub none_waits : length w.down.waiting < w.down.link.zone
  pub filled : w.down.flushed ≡ true →
      busy (behind (length w.frames * w.down.link.zone) 0 (packets_sent w)) ≡ []

-- between events; and the buffers fit the link's frames
pub record IsCarried (down : LinkSenderState) (link : FrameLinkState)
    (up : LinkReceiverState) : Type 0 where
  pub way : IsOneWay (one_way down link up)
  pub rested : IsRested (one_way down link up)
  pub fits : link.len ≡ frame_len down.link

-- ---- what the steps do
-- These packets more were sent, which carry the PDUs with these texts; nothing was delivered.
pub record SendsMore (old new : OneWayState) (qs texts : List (List ℕ)) : Type 0 where
  pub way : IsOneWay new
  pub packets : packets_sent new ≡ packets_sent old ++ qs
  pub pdus : pdus_sent new ≡ pdus_sent old ++ texts
  pub delivered : pdus_delivered new ≡ pdus_delivered old

-- Nothing more was sent, and nothing was delivered.
pub record SendsNone (old new : OneWayState) : Type 0 where
  pub way : IsOneWay new
  pub packets : packets_sent new ≡ packets_sent old
  pub delivered : pdus_delivered new ≡ pdus_delivered old

-- A frame was delivered: `more` are the PDUs that it delivers, and `given` are those of them that
-- were given, in order: all of them, if no drop was counted for lack of memory (number 11).
pub record HearsMore (old new : OneWayState) (given : List (List ℕ)) : Type 0 where
  pub way : IsOneWay new
  pub packets : packets_sent new ≡ packets_sent old
  pub more : List (List ℕ)
  pub delivered : pdus_delivered new ≡ pdus_delivered old ++ more
  pub part : IsPartOf given more
  pub all : count_of new.up.drops 11 ≡ 0 → given ≡ more
  -- if no such drop was counted now, they are the first of those that were expected
  pub lands : count_of new.up.drops 11 ≡ count_of old.up.drops 11
      → count_of new.up.drops 11 < 2 ^ 64 - 1 → arriving old ≡ given ++ arriving new
  -- in any case they are a front of those; and if one was counted now, nothing is held of a packet
  pub rest : List (List ℕ)
  pub front : arriving old ≡ given ++ rest
  pub let_go : count_of new.up.drops 11 ≢ count_of old.up.drops 11 → new.up.begun ≡ []
  -- nothing was dropped there, if no frame was lost before either
  pub clear : list_any not old.marks ≡ false → count_of new.up.drops 11 ≡ 0
      → new.up.drops ≡ old.up.drops
  -- a drop that was counted so stays counted
  pub memory : count_of new.up.drops 11 ≡ 0 → count_of old.up.drops 11 ≡ 0
