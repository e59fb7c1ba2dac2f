-- What an event does to a lane of what a station sent, as the other end sees it.
use Rattle.std.proofs.Common.{◌≡◌, ℕ, ◌+◌, ◌-◌, ◌%◌, ◌<◌, ◌≤◌, Bool, true, false, ◌||◌, ◌==◌, List, [], ◌∷◌, ◌++◌, length, refl, sym, ap, subst, ◌∙◌, inl, inr, arith, length-append}
use Rattle.std.proofs.lemmas.Bool.{cases_Bool}
use Rattle.std.proofs.lemmas.List.{append-nil}
use Rattle.std.proofs.Math.Nat.{mod-eq_of_lt}
use Rattle.mpdu.specs.Packing.{flush_of, idle_packet, idle_len}
use Rattle.mpdu.specs.Stream.{stream}
use Rattle.mpdu.proofs.Packed.{idle_len-low}
use Rattle.cfd_bits.specs.Field.{field}
use Rattle.link_stack.specs.Frames.{packet_of}
use Rattle.aos_frame.specs.Frame.{IsChannel, IsLink, frame_len, lane_channel, other_lane}
use Rattle.aos_frame.specs.declared.config.ChannelConfig.{ChannelConfig}
use Rattle.aos_frame.specs.declared.config.LinkConfig.{LinkConfig}
use Rattle.aos_frame.specs.declared.config.Lane.{Lane}
use Rattle.aos_frame.specs.declared.config.Lane.TheVariants.{Directives, Data}
use Rattle.link_stack.specs.Downward.{DownState, LinkSenderState, Flushes, IsDown, SendsPdu, first_down, first_lane_down, lane_down, packing, sealed_frame}
use Rattle.link_stack.specs.Upward.{LinkReceiverState, IsUp, UpState, first_lane_up, first_up, lane_of, lane_up}
use Rattle.cfdp_station.specs.Link.{FlushesBoth, IsNotWhole}
use Rattle.cfdp_station.specs.Station.{StationState}
use Rattle.cfdp_station.specs.Taking.{GivesPdus, TakesFrame}
use Rattle.link_sim.specs.declared.event.Applied.{Applied}
use Rattle.link_sim.specs.declared.event.Applied.TheVariants as did
use Rattle.station_pair.specs.declared.refusal.Refusal.TheVariants as refusal
use Rattle.link_sim.specs.FrameLink.{FrameLinkState, FrameLinksState, lane_of_links, oldest}
use Rattle.link_sim.specs.AtStation.{AddsNone, AreCarried, AreSameLinks, AreSetUp, CarryOn, FrameArrivesAt, HearsAt, IsSameEnd, IsSameLink, IsSameMarks, OnlySends, PullsAll, PullsBoth, StrikesAt}
use Rattle.link_sim.specs.OneWay.{OneWayState, IsOneWay, IsOneWayOf, IsCarried, IsRested, SendsMore, SendsNone, HearsMore, one_way, packets_sent}
use Rattle.link_sim.proofs.Lanes.Frames.{sealed-channel}
use Rattle.link_sim.proofs.Lanes.Each.{each-lane, either-lane, lane-valid}
use Rattle.link_sim.proofs.Ways.Carried.{same_way, sent_on}
use Rattle.link_sim.proofs.Ways.First.{first-down_lane, first-up_lane}
use Rattle.link_sim.proofs.OnWay.Rests.{length-idle, idle_len-fills, rests-unflushed, rests-flushed}
use Rattle.link_sim.proofs.Ways.Pulling.{pulled_none}
use Rattle.link_sim.proofs.Ways.Receiving.{delivers, next_frame, strikes}
use Rattle.link_sim.proofs.Ways.Sending.{new_way, way_is}
use Rattle.link_sim.proofs.Ways.Sends.{sends, flushes}

-- ---- at first
pub first_carried : (d : LinkSenderState) (u : LinkReceiverState) (k : FrameLinkState) (link : ChannelConfig) (capacity len : ℕ) → IsChannel link → d ≡ first_lane_down link capacity → IsDown d [] 0 →
    u ≡ first_lane_up link → IsUp u [] [] 0 → k ≡ record { frames = []; places = []; marks = []; run = 0; blanks = 0; len = len } → len ≡ frame_len d.link → IsCarried d k u
first_carried d u k link capacity len valid e down f up new fits =
    let n : FrameLinkState = record { frames = []; places = []; marks = []; run = 0; blanks = 0; len = len } in
    let is : IsOneWayOf (one_way d n u) [] = new_way d u link capacity valid e down f up in
    let all : IsCarried d n u = record {
      way = way_is (one_way d n u) [] is;
      rested = rests-unflushed (one_way d n u) (omega (arith, ap (λ x. length x.waiting) e, ap (λ x. x.link.zone) e, valid.least_zone)) (ap (λ x. x.flushed) e);
      fits = fits;
    } in
    subst (λ (x : FrameLinkState). IsCarried d x u) (sym new) all

pub first-lanes : (d : DownState) (u : UpState) (k : FrameLinksState) (link : LinkConfig) (capacity len : ℕ) → IsLink link → d ≡ first_down link capacity →
    ((l : Lane) → IsDown (lane_down l d) [] 0) → u ≡ first_up link → ((l : Lane) → IsUp (lane_up l u) [] [] 0) →
    ((l : Lane) → lane_of_links l k ≡ record { frames = []; places = []; marks = []; run = 0; blanks = 0; len = len }) → ((l : Lane) → len ≡ frame_len (lane_down l d).link) → AreCarried d k u
first-lanes d u k link capacity len valid down sent up taken none fits l =
    first_carried (lane_down l d) (lane_up l u) (lane_of_links l k) (lane_channel l link) capacity len (lane-valid l link valid)
    (ap (λ (x : DownState). lane_down l x) down ∙ first-down_lane l link capacity) (sent l) (ap (λ (x : UpState). lane_up l x) up ∙ first-up_lane l link) (taken l) (none l) (fits l)

-- ---- what is sent
-- room was made, a PDU went down, and frames were made of all whole zones
pub moved_on : (d e f : LinkSenderState) (k m n : FrameLinkState) (u : LinkReceiverState) (pdu : List ℕ) (count : ℕ) → IsCarried d k u → IsSameLink k m → SendsPdu pdu count d e → AddsNone e f m n →
    IsSameEnd e f → IsSameMarks m n → length f.waiting < e.link.zone →
    IsCarried f n u × SendsMore (one_way d k u) (one_way f n u) (packet_of d.link count pdu ∷ []) (pdu ∷ [])
moved_on d e f k m n u pdu count is same sent pulled fixed marks waits =
    let l : OneWayState = one_way d k u in
    let more : SendsMore l (one_way e k u) (packet_of d.link count pdu ∷ []) (pdu ∷ []) =
    sends l e count pdu is.way (sent.sends (packets_sent l) (length k.frames) is.way.sent.made) sent.carries sent.waiting (sent.fixed.0, sent.fixed.3) in
    let rested : IsRested (one_way f n u) = rests-unflushed (one_way f n u) (omega (arith, waits, ap (λ x. x.zone) fixed.0)) (fixed.2 ∙ sent.unflushed) in
    sent_on d e f k m n u (packet_of d.link count pdu ∷ []) (pdu ∷ []) is same more pulled sent.fixed.0 fixed.0 marks.2 (λ x. rested)

-- room was made, a flush filled the begun zone, and frames were made of all whole zones
pub filled_on : (d e f : LinkSenderState) (k m n : FrameLinkState) (u : LinkReceiverState) → IsCarried d k u → IsSameLink k m → Flushes d e → AddsNone e f m n →
    IsSameEnd e f → IsSameMarks m n → length f.waiting < e.link.zone → IsCarried f n u × SendsMore (one_way d k u) (one_way f n u) (flush_of (packing d)) []
filled_on d e f k m n u is same sent pulled fixed marks waits =
    let l : OneWayState = one_way d k u in
    let more : SendsMore l (one_way e k u) (flush_of (packing d)) [] =
    flushes l e is.way (sent.sends (packets_sent l) (length k.frames) is.way.sent.made) sent.same (sent.one, sent.idle) sent.waiting (sent.fixed.0, sent.fixed.3) in
    let room : length f.waiting < d.link.zone = omega (arith, waits, ap (λ x. x.zone) sent.fixed.0) in
    let kept : flush_of (packing d) ≡ [] → f.flushed ≡ d.flushed = λ (x : flush_of (packing d) ≡ []). fixed.2 ∙ ap (λ y. y.flushed) (sent.same x) in
    sent_on d e f k m n u (flush_of (packing d)) [] is same more pulled sent.fixed.0 fixed.0 marks.2 (λ x. rests-flushed l (one_way f n u) is.way is.rested x refl room kept)

-- a flush that leaves no whole zone added nothing
pub flushed_none : (d e : LinkSenderState) → Flushes d e → length e.waiting < d.link.zone → flush_of (packing d) ≡ []
flushed_none d e h waits =
    let z : ℕ = d.link.zone in
    let w : ℕ = length d.waiting in
    let t : Bool = d.flushed || (w % z == 0) in
    let none : t ≡ true → flush_of (packing d) ≡ [] = λ (e : t ≡ true). rw e refl in
    let some : t ≡ false → flush_of (packing d) ≡ [] = λ (x : t ≡ false).
    let free : ℕ = z - w % z in
    let one : flush_of (packing d) ≡ idle_packet (idle_len free) ∷ [] = rw x refl in
    let size : length (idle_packet (idle_len free)) ≡ idle_len free = length-idle (idle_len free) (idle_len-low free) in
    let now : e.waiting ≡ d.waiting ++ idle_packet (idle_len free) = h.waiting ∙ ap (λ qs. d.waiting ++ stream qs) one ∙ ap (λ q. d.waiting ++ q) (append-nil (idle_packet (idle_len free))) in
    let long : length e.waiting ≡ w + idle_len free = ap length now ∙ length-append d.waiting (idle_packet (idle_len free)) ∙ ap (λ n. w + n) size in
    let less : w < z = omega (arith, waits, long) in
    let rest : w % z ≡ w = mod-eq_of_lt less in
    absurd (omega (arith, long, waits, rest, idle_len-fills free)) in
    elim (cases_Bool t) [ inl e ↦ none e | inr e ↦ some e ]

-- ---- all whole zones of a lane became frames
pub moved_all : (d e f : LinkSenderState) (k m n : FrameLinkState) (u : LinkReceiverState) (pdu : List ℕ) (count : ℕ) → IsCarried d k u → IsSameLink k m → SendsPdu pdu count d e →
    PullsAll e f m n → IsCarried f n u × SendsMore (one_way d k u) (one_way f n u) (packet_of d.link count pdu ∷ []) (pdu ∷ [])
moved_all d e f k m n u pdu count is room sent p =
    moved_on d e f k m n u pdu count is room sent p.way p.fixed p.marks (omega (arith, p.none_whole, ap (λ x. x.zone) p.fixed.0))

pub filled_all : (d e f : LinkSenderState) (k m n : FrameLinkState) (u : LinkReceiverState) → IsCarried d k u → IsSameLink k m → Flushes d e → PullsAll e f m n →
    IsCarried f n u × SendsMore (one_way d k u) (one_way f n u) (flush_of (packing d)) []
filled_all d e f k m n u is room sent p = filled_on d e f k m n u is room sent p.way p.fixed p.marks (omega (arith, p.none_whole, ap (λ x. x.zone) p.fixed.0))

-- if no whole zone waited in a lane, and nothing was sent in it, it stays
pub stays_all : (d e f : LinkSenderState) (k m n : FrameLinkState) → e ≡ d → IsNotWhole d → IsSameLink k m → PullsAll e f m n → (f ≡ d) × IsSameLink k n
stays_all d e f k m n same less room p = elim p.made [
  | inl s ↦ (s.0 ∙ same, subst (λ (x : FrameLinkState). IsSameLink k x) (sym s.1) room)
  | inr w ↦ absurd (omega (arith, w.0, less, ap (λ (x : LinkSenderState). x.link.zone) same, ap (λ (x : LinkSenderState). length x.waiting) same))
]

-- if a flush made no frame, it added nothing
pub none_filled : (d e f : LinkSenderState) (k m n : FrameLinkState) → IsSameLink k m → Flushes d e → PullsAll e f m n → length n.frames ≤ length m.frames →
    (flush_of (packing d) ≡ []) × (f ≡ d) × IsSameLink k n
none_filled d e f k m n room sent p few =
    let same : (f ≡ e) × (n ≡ m) = elim p.made [ inl s ↦ s | inr w ↦ absurd (omega (arith, w.1, few)) ] in
    let less : length e.waiting < d.link.zone = omega (arith, p.none_whole, ap (λ (x : LinkSenderState). length x.waiting) same.0, ap (λ x. x.zone) p.fixed.0, ap (λ x. x.zone) sent.fixed.0) in
    let none : flush_of (packing d) ≡ [] = flushed_none d e sent less in
    (none, same.0 ∙ sent.same none, subst (λ (x : FrameLinkState). IsSameLink k x) (sym same.1) room)

-- a lane that stays is carried still
pub carried_same : (d f : LinkSenderState) (k n : FrameLinkState) (u : LinkReceiverState) → f ≡ d → IsSameLink k n → IsCarried d k u → IsCarried f n u
carried_same d f k n u down same is =
    let way : one_way f n u ≡ one_way d k u = ap (λ (x : LinkSenderState). one_way x n u) down ∙ same_way d k n u same in
    record {
      way = subst IsOneWay (sym way) is.way;
      rested = subst IsRested (sym way) is.rested;
      fits = same.3 ∙ is.fits ∙ ap (λ (x : LinkSenderState). frame_len x.link) (sym down);
    }

-- ---- both lanes
pub same_down : (d e : DownState) → ((l : Lane) → lane_down l e ≡ lane_down l d) → e.packet_count ≡ d.packet_count → e ≡ d
same_down d e lanes count =
    let a : e.directives ≡ d.directives = lanes Directives in
    let b : e.file_data ≡ d.file_data = lanes Data in
    λ i. record { directives = a i; file_data = b i; packet_count = count i }

pub carry_same : (d f : DownState) (k n : FrameLinksState) → f ≡ d → AreSameLinks k n → CarryOn d f k n
carry_same d f k n down same l u is = carried_same (lane_down l d) (lane_down l f) (lane_of_links l k) (lane_of_links l n) u (ap (λ (x : DownState). lane_down l x) down) (same l) is

-- ---- what arrives
-- The oldest frame that waits in a lane comes to the end of that lane.
comes_to : (l : Lane) (d : LinkSenderState) (k : FrameLinkState) (old new : StationState) (frame : List ℕ) → IsCarried d k (lane_up l old.up) → length k.marks < length k.frames →
    frame ≡ oldest k → TakesFrame frame old new → lane_of old.up frame ≡ l
comes_to l d k old new frame is there e taken =
    let ps : List (List ℕ) = packets_sent (one_way d k (lane_up l old.up)) in
    let made : frame ≡ sealed_frame d ps (length k.marks) = e ∙ is.way.sent.frames (length k.marks) there in
    let virtual_channel : (2 ≤ length (sealed_frame d ps (length k.marks))) × (field (sealed_frame d ps (length k.marks)) 10 6 ≡ d.link.virtual_channel) =
    sealed-channel d ps (length k.marks) is.way.sent.valid is.way.sent.fits in
    taken.lane l (subst (λ (f : List ℕ). 2 ≤ length f) (sym made) virtual_channel.0)
    (ap (λ (f : List ℕ). field f 10 6) made ∙ virtual_channel.1 ∙ ap (λ x. x.virtual_channel) (sym is.way.same_link))

pub delivered_at : (l : Lane) (d : LinkSenderState) (k : FrameLinkState) (old new : StationState) (frame : List ℕ) → IsCarried d k (lane_up l old.up) → length k.marks < length k.frames →
    frame ≡ oldest k → TakesFrame frame old new → HearsAt l d k (record k { marks = k.marks ++ true ∷ []; run = 0 }) old new
delivered_at l d k old new frame is there e taken =
    let w : OneWayState = one_way d k (lane_up l old.up) in
    let here : lane_of old.up frame ≡ l = comes_to l d k old new frame is there e taken in
    let given : GivesPdus frame (lane_up l old.up) (lane_up l new.up) taken.pdus = subst (λ (x : Lane). GivesPdus frame (lane_up x old.up) (lane_up x new.up) taken.pdus) here taken.given in
    let after : OneWayState = record w { up = lane_up l new.up; marks = w.marks ++ true ∷ []; run = 0 } in
    let r : (heard : List (List ℕ)) × (taken.pdus ≡ [] ++ heard) × HearsMore w after heard =
    delivers w (lane_up l new.up) [] taken.pdus is.way there (given.next (packets_sent w) is.way.received.read k.run is.way.received.end (next_frame w frame is.way there e)) in
    let is_rested : IsRested (one_way d (record k { marks = k.marks ++ true ∷ []; run = 0 }) (lane_up l new.up)) = record { none_waits = is.rested.none_waits; filled = is.rested.filled } in
    let hears : HearsMore w after taken.pdus = subst (λ x. HearsMore w after x) (sym r.1) r.2 in
    record {
      carried = record { way = hears.way; rested = is_rested; fits = is.fits };
      given = taken.pdus;
      gives = subst (λ (f : List ℕ). GivesPdus f (lane_up l old.up) (lane_up l new.up) taken.pdus) e given;
      hears = hears;
      heard = taken.heard;
      other_up = subst (λ (x : Lane). lane_up (other_lane x) new.up ≡ lane_up (other_lane x) old.up) here taken.other;
    }

-- ---- what is lost
pub struck_at : (r : Applied) (d : LinkSenderState) (k m : FrameLinkState) (u : LinkReceiverState) → StrikesAt r k m → IsCarried d k u → IsCarried d m u × SendsNone (one_way d k u) (one_way d m u)
struck_at did.Applied d k m u h is =
    let s : SendsNone (one_way d k u) (one_way d (record k { marks = k.marks ++ false ∷ []; run = k.run + 1 }) u) = strikes (one_way d k u) is.way h.waits h.few in
    subst (λ (x : FrameLinkState). IsCarried d x u × SendsNone (one_way d k u) (one_way d x u)) (sym h.marked)
    (record { way = s.way; rested = record { none_waits = is.rested.none_waits; filled = is.rested.filled }; fits = is.fits }, s)
struck_at did.Nothing d k m u h is =
    subst (λ (x : FrameLinkState). IsCarried d x u × SendsNone (one_way d k u) (one_way d x u)) (sym h.1) (is, pulled_none (one_way d k u) is.way)
struck_at (did.Refused (refusal.Put by)) d k m u h is = absurd h
struck_at (did.Refused (refusal.Call by)) d k m u h is = absurd h
struck_at (did.Refused refusal.LossRunTooLong) d k m u h is =
    subst (λ (x : FrameLinkState). IsCarried d x u × SendsNone (one_way d k u) (one_way d x u)) (sym h.same) (is, pulled_none (one_way d k u) is.way)
struck_at (did.Refused refusal.NotDamaged) d k m u h is = absurd h

-- ---- both lanes
-- a frame of one lane is lost
pub struck_all : (l : Lane) (r : Applied) (d : DownState) (k n : FrameLinksState) (u : UpState) → StrikesAt r (lane_of_links l k) (lane_of_links l n) →
    lane_of_links (other_lane l) n ≡ lane_of_links (other_lane l) k → AreCarried d k u → AreCarried d n u
struck_all l r d k n u h other is = either-lane (λ m. IsCarried (lane_down m d) (lane_of_links m n) (lane_up m u)) l
    ((struck_at r (lane_down l d) (lane_of_links l k) (lane_of_links l n) (lane_up l u) h (is l)).0)
    (subst (λ (x : FrameLinkState). IsCarried (lane_down (other_lane l) d) x (lane_up (other_lane l) u)) (sym other) (is (other_lane l)))

-- a frame of one lane arrives
pub arrived_all : (l : Lane) (r : Applied) (d : DownState) (k n : FrameLinksState) (old new : StationState) → FrameArrivesAt r l (lane_of_links l k) (lane_of_links l n) old new →
    lane_of_links (other_lane l) n ≡ lane_of_links (other_lane l) k → AreCarried d k old.up → AreCarried d n new.up
arrived_all l did.Applied d k n old new h other is =
    let o : Lane = other_lane l in
    let x : HearsAt l (lane_down l d) (lane_of_links l k) (lane_of_links l n) old new = h.hears (lane_down l d) (is l) in
    either-lane (λ m. IsCarried (lane_down m d) (lane_of_links m n) (lane_up m new.up)) l x.carried
    (subst (λ (y : FrameLinkState). IsCarried (lane_down o d) y (lane_up o new.up)) (sym other) (subst (λ (y : LinkReceiverState). IsCarried (lane_down o d) (lane_of_links o k) y) (sym x.other_up) (is o)))
arrived_all l did.Nothing d k n old new h other is = either-lane (λ m. IsCarried (lane_down m d) (lane_of_links m n) (lane_up m new.up)) l (same l h.1) (same (other_lane l) other)
  where
    same : (m : Lane) → lane_of_links m n ≡ lane_of_links m k → IsCarried (lane_down m d) (lane_of_links m n) (lane_up m new.up)
    same m e = subst (λ (y : FrameLinkState). IsCarried (lane_down m d) y (lane_up m new.up)) (sym e) (subst (λ (y : StationState). IsCarried (lane_down m d) (lane_of_links m k) (lane_up m y.up)) (sym h.2) (is m))
arrived_all l (did.Refused by) d k n old new h other is = absurd h

-- which leaves the end that sends as it was
pub arrived-down : (r : Applied) (l : Lane) (k n : FrameLinkState) (old new : StationState) → FrameArrivesAt r l k n old new → new.down ≡ old.down
arrived-down did.Applied l k n old new h = h.down
arrived-down did.Nothing l k n old new h = ap (λ (s : StationState). s.down) h.2
arrived-down (did.Refused by) l k n old new h = absurd h

-- ---- how the end that receives is set up
pub first-set-up : (u : UpState) (link : LinkConfig) → u ≡ first_up link → AreSetUp link u
first-set-up u link is l = ap (λ (x : UpState). (lane_up l x).link) is ∙ each-lane (λ m. (lane_up m (first_up link)).link ≡ lane_channel m link) refl refl l

-- between ends that are joined it stays what it is at the end that sends
pub arrived-set-up : (link : LinkConfig) (d : DownState) (k n : FrameLinksState) (old new : UpState) → AreCarried d k old → AreCarried d n new → AreSetUp link old → AreSetUp link new
arrived-set-up link d k n old new before after is l = (after l).way.same_link ∙ sym (before l).way.same_link ∙ is l

-- ---- a flush, and the frames that it makes
pub flushed-sends : (old mid new : StationState) (links room links_now : FrameLinksState) → AreSameLinks links room → FlushesBoth old.down mid.down → mid.up ≡ old.up →
    PullsBoth mid new room links_now → OnlySends old new links links_now
flushed-sends old mid new links room links_now kept flushed up p = record {
  carried = λ l (u : LinkReceiverState) is. (filled_all (lane_down l old.down) (lane_down l mid.down) (lane_down l new.down) (lane_of_links l links) (lane_of_links l room) (lane_of_links l links_now) u is
      (kept l) (flushed.lanes l) (p.lanes l)).0;
  capacity = λ l. (p.lanes l).fixed.1 ∙ (flushed.lanes l).fixed.1;
  marks = λ l. ((p.lanes l).marks.0 ∙ (kept l).1, (p.lanes l).marks.1 ∙ (kept l).2, (p.lanes l).marks.2 ∙ (kept l).3);
  up = p.rest.1 ∙ up;
}
