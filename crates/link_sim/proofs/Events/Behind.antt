-- A station that keeps its frames back until it was polled and flushed, beside one of a world, whose
-- frames leave at once: both do the same, and are the same once all frames have left. First of one
-- lane, then of both.
use Rattle.std.proofs.Common.{◌≡◌, ℕ, zero, suc, ◌+◌, ◌-◌, ◌*◌, ◌%◌, ◌^◌, ◌<◌, ◌≤◌, Bool, true, false, ◌||◌, ◌==◌, if◌then◌else◌, None, List, [], ◌∷◌, ◌++◌, ◌⊎◌, length, take, drop, get_or, refl, sym, ap, subst, ◌∙◌, inl, inr, arith, length-append, length-drop}
use Rattle.std.proofs.lemmas.Bool.{cases_lt}
use Rattle.std.proofs.lemmas.List.{append-nil, append_assoc, drop-drop, drop_at}
use Rattle.std.proofs.Math.Nat.{mul-le-mul_right, mul-add-mod_self_right}
use Rattle.cfd_bits.proofs.Fields.{length-octets}
use Rattle.aos_frame.specs.Counts.{frame_counts}
use Rattle.aos_frame.specs.declared.header.FrameHeader.{FrameHeader}
use Rattle.aos_frame.specs.Frame.{IsChannel, header_octets, other_lane}
use Rattle.aos_frame.specs.declared.config.ChannelConfig.{ChannelConfig}
use Rattle.aos_frame.specs.declared.config.Lane.{Lane}
use Rattle.aos_frame.specs.declared.config.Lane.TheVariants.{Directives, Data}
use Rattle.aos_frame.proofs.Spelling.{length-header_octets}
use Rattle.aos_frame.proofs.RoundTrip.{opens_sealed}
use Rattle.mpdu.specs.MpduHeader.{pointer_octets}
use Rattle.mpdu.specs.Stream.{IsPacket, is_idle, stream, zone, first_header_pointer}
use Rattle.mpdu.specs.Packets.{busy, packets_of}
use Rattle.mpdu.specs.Packing.{PackerState, IsAt, flush_of, idle_packet, idle_len, next_start, skip}
use Rattle.mpdu.proofs.Packed.{pushed, zone_taken}
use Rattle.link_stack.specs.Frames.{AreOfLink, packet_drop, packet_of, frame_of, pdus_in, zone_in}
use Rattle.link_stack.specs.Downward.{DownState, LinkSenderState, Flushes, IsDown, MakesFrame, SendsPdu, lane_down, packing, sealed_frame}
use Rattle.link_stack.specs.Upward.{LinkReceiverState, UpState, lane_up}
use Rattle.cfdp_station.specs.Link.{FlushesBoth, IsNotWhole}
use Rattle.link_sim.specs.FrameLink.{FrameLinkState, FrameLinksState, lane_of_links}
use Rattle.link_sim.specs.AtStation.{AddsNone, AreCarried, AreSameMarks, FillsLaneAt, IsSameEnd, IsSameLink, IsSameMarks, KeepsLaneAt, SendsAt}
use Rattle.link_sim.specs.OneWay.{OneWayState, IsOneWay, IsCarried, SendsMore, one_way, packets_sent, pdus_sent, zones_of}
use Rattle.link_sim.proofs.Events.AtStations.{filled_on, flushed_none, moved_on}
use Rattle.link_sim.proofs.Lanes.Each.{each-lane}
use Rattle.link_sim.proofs.Lanes.Frames.{frame-channel}
use Rattle.link_sim.proofs.OnWay.Rests.{sent-octets}
use Rattle.link_sim.proofs.Ways.Pulling.{pulled_more, pulls}
use Rattle.link_sim.proofs.Ways.Sending.{last_of_link, last_whole, sealed-same}
use Rattle.link_sim.proofs.Ways.Sends.{one_at_most}

-- ---- all whole zones become frames
-- after its two headers a frame has its zone
behind_headers : (link : ChannelConfig) (ps : List (List ℕ)) (n : ℕ) → drop 8 (frame_of link ps n) ≡ zone link.zone (n * link.zone) (stream ps)
behind_headers link ps n =
    let h : FrameHeader = record { spacecraft = link.spacecraft; virtual_channel = link.virtual_channel; count = n % frame_counts; cycle = true } in
    let p : List ℕ = pointer_octets (first_header_pointer link.zone (n * link.zone) 0 ps) in
    let body : List ℕ = zone link.zone (n * link.zone) (stream ps) in
    let size : length (header_octets h ++ p) ≡ 8 = omega (arith, length-append (header_octets h) p, length-header_octets h, length-octets 2 (first_header_pointer link.zone (n * link.zone) 0 ps)) in
    ap (λ l. drop 8 l) (sym (append_assoc (header_octets h) p body)) ∙ drop_at (header_octets h ++ p) body 8 size

-- so of the frame as it is sent
sealed_zone : (d : LinkSenderState) (ps : List (List ℕ)) (n : ℕ) → IsChannel d.link → d.control < 256 ^ 4 → zone_in d.link (sealed_frame d ps n) ≡ zone d.link.zone (n * d.link.zone) (stream ps)
sealed_zone d ps n valid fits =
    let bare : List ℕ = frame_of d.link ps n in
    let o = opens_sealed d.link.fields bare d.control (omega (arith, (frame-channel d.link ps n valid).0)) fits in
    ap (λ l. drop 2 l) o.3 ∙ drop-drop 2 6 bare ∙ behind_headers d.link ps n

-- the next frame of an end that sends, and what it and its link are then
abbrev sent_of : LinkSenderState → FrameLinkState → List (List ℕ)
sent_of d k = packets_of (zones_of d.link k.frames ++ d.waiting)

abbrev next_frame_of : LinkSenderState → FrameLinkState → List ℕ
next_frame_of d k = sealed_frame d (sent_of d k) (length k.frames)

abbrev next_down : LinkSenderState → FrameLinkState → LinkSenderState
next_down d k = record d {
  waiting = drop d.link.zone d.waiting;
  first = skip d.link.zone d.link.zone d.first d.waiting - d.link.zone;
  frame_count = (length k.frames + 1) % frame_counts;
}

abbrev next_link : LinkSenderState → FrameLinkState → FrameLinkState
next_link d k = record k { frames = k.frames ++ next_frame_of d k ∷ [] }

adds_one : (d : LinkSenderState) (k : FrameLinkState) → d.link.zone ≤ length d.waiting → AddsNone d (next_down d k) k (next_link d k)
adds_one d k whole up is =
    let l : OneWayState = one_way d k up in
    let ps : List (List ℕ) = packets_sent l in
    let n : ℕ = length k.frames in
    let at : IsAt (packing d) ps n = is.sent.made.packed in
    let inside : n * d.link.zone + d.link.zone ≤ length (stream ps) = omega (arith, ap length at.rest, length-drop (n * d.link.zone) (stream ps), at.below, whole) in
    let down : IsDown (next_down d k) ps (n + 1) = record { packed = zone_taken (packing d) ps n whole at; of_link = is.sent.made.of_link; counted = refl } in
    pulls l (next_down d k) (next_frame_of d k) is (refl, inside, down)
    (sealed_zone d ps n is.sent.valid is.sent.fits ∙ ap (λ w. take d.link.zone w) (sym at.rest)) refl (refl, refl)

-- What all whole zones leave.
record PulledAll (d : LinkSenderState) (k : FrameLinkState) : Type 0 where
  pub down : LinkSenderState
  pub link : FrameLinkState
  pub adds : AddsNone d down k link
  pub fixed : IsSameEnd d down
  pub marks : IsSameMarks k link
  pub none_whole : length down.waiting < d.link.zone
  pub made : ((down ≡ d) × (link ≡ k)) ⊎ (length k.frames < length link.frames)
  pub more : List (List ℕ)
  pub grows : link.frames ≡ k.frames ++ more

pulled_here : (d : LinkSenderState) (k : FrameLinkState) → length d.waiting < d.link.zone → PulledAll d k
pulled_here d k waits = record {
  down = d;
  link = k;
  adds = λ up is. record { way = is; packets = refl; delivered = refl };
  fixed = (refl, refl, refl, refl);
  marks = (refl, refl, refl);
  none_whole = waits;
  made = inl (refl, refl);
  more = [];
  grows = sym (append-nil k.frames);
}

pulled_further : (d : LinkSenderState) (k : FrameLinkState) → d.link.zone ≤ length d.waiting → PulledAll (next_down d k) (next_link d k) → PulledAll d k
pulled_further d k whole rest =
    let longer : length (next_link d k).frames ≡ length k.frames + 1 = length-append k.frames (next_frame_of d k ∷ []) in
    record {
      down = rest.down;
      link = rest.link;
      adds = λ (up : LinkReceiverState) (is : IsOneWay (one_way d k up)).
          let a = adds_one d k whole up is in
          pulled_more (one_way d k up) (one_way (next_down d k) (next_link d k) up) (one_way rest.down rest.link up) a (rest.adds up a.way);
      fixed = rest.fixed;
      marks = rest.marks;
      none_whole = rest.none_whole;
      made = inr (elim rest.made [
        | inl same ↦ omega (arith, longer, ap (λ (x : FrameLinkState). length x.frames) same.1)
        | inr m ↦ omega (arith, longer, m)
      ]);
      more = next_frame_of d k ∷ rest.more;
      grows = rest.grows ∙ append_assoc k.frames (next_frame_of d k ∷ []) rest.more;
    }

pulled_all : (fuel : ℕ) (d : LinkSenderState) (k : FrameLinkState) → 1 ≤ d.link.zone → length d.waiting ≤ fuel → PulledAll d k
pulled_all zero d k least few = pulled_here d k (omega (arith, least, few))
pulled_all (suc fuel) d k least few = elim (cases_lt (length d.waiting) d.link.zone) [
  | inl c ↦ pulled_here d k c
  | inr c ↦ pulled_further d k c (pulled_all fuel (next_down d k) (next_link d k) least (omega (arith, length-drop d.link.zone d.waiting, least, few, c)))
]

-- ---- an end that lags
-- Of the stream of an end `d` of a world, whose frames left, `l` has made only so many.
pub record IsBehind (l d : LinkSenderState) (k : FrameLinkState) (u : LinkReceiverState) (sent : ℕ) : Type 0 where
  pub carried : IsCarried d k u
  pub made : IsDown l (packets_sent (one_way d k u)) sent
  pub link : d.link ≡ l.link
  pub capacity : d.capacity ≡ l.capacity
  pub flushed : d.flushed ≡ l.flushed
  pub control : d.control ≡ l.control

is_itself : (d : LinkSenderState) (k : FrameLinkState) (u : LinkReceiverState) → IsCarried d k u → IsBehind d d k u (length k.frames)
is_itself d k u is = record { carried = is; made = is.way.sent.made; link = refl; capacity = refl; flushed = refl; control = refl }

-- what waits of the same stream, if some of its zones are taken
waits_more : (p : PackerState) (ps : List (List ℕ)) (taken : ℕ) → IsAt p ps taken → length (stream ps) ≡ taken * p.size + length p.waiting
waits_more p ps taken at = omega (arith, ap length at.rest, length-drop (taken * p.size) (stream ps), at.below)

-- of two ends of a stream, that which has less than a zone left has made as many frames at least
no_further : (z n more few w v : ℕ) → n ≡ more * z + w → n ≡ few * z + v → v < z → more ≤ few
no_further z n more few w v a b less = elim (cases_lt few more) [
  | inl c ↦ absurd (let one : (few + 1) * z ≡ few * z + z = omega arith in
      let le : (few + 1) * z ≤ more * z = mul-le-mul_right z (let h : few + 1 ≤ more = omega arith in h) in
      omega (arith, one, le, a, b, less))
  | inr c ↦ c
]

module _ (l d : LinkSenderState) (k : FrameLinkState) (u : LinkReceiverState) (sent : ℕ) (is : IsBehind l d k u sent) where
  abbrev ps : List (List ℕ)
  ps = packets_sent (one_way d k u)

  abbrev same_zone : d.link.zone ≡ l.link.zone
  same_zone = ap (λ x. x.zone) is.link

  -- the length of the stream, by either end
  by_l : length (stream ps) ≡ sent * d.link.zone + length l.waiting
  by_l = waits_more (packing l) ps sent is.made.packed ∙ ap (λ z. sent * z + length l.waiting) (sym same_zone)

  by_d : length (stream ps) ≡ length k.frames * d.link.zone + length d.waiting
  by_d = sent-octets (one_way d k u) is.carried.way

  few_sent : sent ≤ length k.frames
  few_sent = no_further d.link.zone (length (stream ps)) sent (length k.frames) (length l.waiting) (length d.waiting) by_l by_d is.carried.rested.none_waits

  -- what waits at either differs by whole zones
  pub same_rest : (n : ℕ) → (length l.waiting + n) % l.link.zone ≡ (length d.waiting + n) % d.link.zone
  same_rest n =
      let j : ℕ = length k.frames - sent in
      let sum : sent + j ≡ length k.frames = (let few = few_sent in omega arith) in
      let split : (sent + j) * d.link.zone ≡ sent * d.link.zone + j * d.link.zone = omega arith in
      let all : length l.waiting + n ≡ j * d.link.zone + (length d.waiting + n) = omega (arith, by_l, by_d, split, ap (λ x. x * d.link.zone) sum) in
      ap (λ z. (length l.waiting + n) % z) (sym same_zone) ∙ ap (λ m. m % d.link.zone) all ∙ mul-add-mod_self_right j d.link.zone (length d.waiting + n)

  -- ---- a frame of the lagging one leaves
  pub frame_leaves : (now : LinkSenderState) (frame : List ℕ) → MakesFrame frame l now →
      IsBehind now d k u (sent + 1) × (sent < length k.frames) × (frame ≡ get_or k.frames sent [])
  frame_leaves now frame made =
      let inside : sent * l.link.zone + l.link.zone ≤ length (stream ps) = made.inside ps sent is.made in
      let whole : sent * d.link.zone + d.link.zone ≤ length (stream ps) = subst (λ z. sent * z + z ≤ length (stream ps)) (sym same_zone) inside in
      let below : sent < length k.frames = elim (cases_lt sent (length k.frames)) [
        | inl c ↦ c
        | inr c ↦ absurd (let le : length k.frames * d.link.zone ≤ sent * d.link.zone = mul-le-mul_right d.link.zone c in omega (arith, le, whole, by_d, is.carried.rested.none_waits))
      ] in (
        record {
          carried = is.carried;
          made = made.after ps sent is.made;
          link = is.link ∙ sym made.link;
          capacity = is.capacity ∙ sym made.capacity;
          flushed = is.flushed ∙ sym made.flushed;
          control = is.control ∙ sym made.control;
        },
        below,
        made.is_next ps sent is.made ∙ sealed-same l d ps sent (sym is.link, sym is.control) ∙ sym (is.carried.way.sent.frames sent below),
      )

  -- ---- all frames have left
  pub caught_up : length l.waiting < l.link.zone → (l ≡ d) × (sent ≡ length k.frames)
  caught_up waits =
      let less : length l.waiting < d.link.zone = omega (arith, waits, same_zone) in
      let most : length k.frames ≤ sent = no_further d.link.zone (length (stream ps)) (length k.frames) sent (length d.waiting) (length l.waiting) by_d by_l less in
      let all : sent ≡ length k.frames = (let few = few_sent in omega arith) in
      let one = is.made.packed in
      let two = is.carried.way.sent.made.packed in
      let at : sent * l.link.zone ≡ length k.frames * d.link.zone = ap (λ n. n * l.link.zone) all ∙ ap (λ z. length k.frames * z) (sym same_zone) in
      let waiting : l.waiting ≡ d.waiting = one.rest ∙ ap (λ n. drop n (stream ps)) at ∙ sym two.rest in
      let first : l.first ≡ d.first = one.start ∙ ap (λ n. next_start n 0 ps) at ∙ sym two.start in
      let count : l.frame_count ≡ d.frame_count = is.made.counted ∙ ap (λ n. n % frame_counts) all ∙ sym is.carried.way.sent.made.counted in
      let link : l.link ≡ d.link = sym is.link in
      let capacity : l.capacity ≡ d.capacity = sym is.capacity in
      let flushed : l.flushed ≡ d.flushed = sym is.flushed in
      let control : l.control ≡ d.control = sym is.control in (
        (λ i. record {
          link = link i;
          capacity = capacity i;
          waiting = waiting i;
          first = first i;
          flushed = flushed i;
          frame_count = count i;
          control = control i;
        }),
        all,
      )

-- ---- packets that go down at both
-- Both ends were given these packets, which carry the PDUs with these texts; the frames of the one
-- of a world have left.
pub record GoesDown (l_now d : LinkSenderState) (k : FrameLinkState) (u : LinkReceiverState) (sent : ℕ) (qs texts : List (List ℕ)) : Type 0 where
  pub down : LinkSenderState
  pub link : FrameLinkState
  pub behind : IsBehind l_now down link u sent
  pub sends : SendsAt d down k link qs texts
  pub none_whole : length down.waiting < down.link.zone
  pub marks : IsSameMarks k link
  pub more : List (List ℕ)
  pub grows : link.frames ≡ k.frames ++ more

-- all are of the link, with one more that is
all_of_link : (link : ChannelConfig) (ps : List (List ℕ)) (q : List ℕ) → AreOfLink link ps → ((is_idle q ≡ true) ⊎ (packet_drop link q ≡ None)) → AreOfLink link (ps ++ q ∷ [])
all_of_link link [] q all is = (is, tt)
all_of_link link (p ∷ ps) q all is = (all.0, all_of_link link ps q all.1 is)

-- an end with one packet more, and what comes of its streams
abbrev given : LinkSenderState → List ℕ → Bool → LinkSenderState
given d q flushed = record d { waiting = d.waiting ++ q; flushed = flushed }

given_is : (d : LinkSenderState) (q : List ℕ) (flushed : Bool) → IsPacket q → ((is_idle q ≡ true) ⊎ (packet_drop d.link q ≡ None)) → (ps : List (List ℕ)) (made : ℕ) → IsDown d ps made →
    IsDown (given d q flushed) (ps ++ q ∷ []) made
given_is d q flushed packet ours ps made is = record {
  packed = pushed (packing d) ps made q packet is.packed flushed;
  of_link = all_of_link d.link ps q is.of_link ours;
  counted = is.counted;
}

-- what a flush adds, by whether one came last and how far the begun zone is filled
abbrev flush_by : Bool → ℕ → ℕ → List (List ℕ)
flush_by flushed rest size = if flushed || (rest == 0) then [] else idle_packet (idle_len (size - rest)) ∷ []

same_flush : (x y : LinkSenderState) → x.flushed ≡ y.flushed → length x.waiting % x.link.zone ≡ length y.waiting % y.link.zone → x.link ≡ y.link → flush_of (packing x) ≡ flush_of (packing y)
same_flush x y flushed rest link =
    ap (λ f. flush_by f (length x.waiting % x.link.zone) x.link.zone) flushed
    ∙ ap (λ n. flush_by y.flushed n x.link.zone) rest
    ∙ ap (λ (c : ChannelConfig). flush_by y.flushed (length y.waiting % y.link.zone) c.zone) link

module _ (l l_now d : LinkSenderState) (k : FrameLinkState) (u : LinkReceiverState) (sent : ℕ) (is : IsBehind l d k u sent) where
  abbrev before : List (List ℕ)
  before = packets_sent (one_way d k u)

  -- a packet that the lagging one was given can be given to the other
  its_packet : (q : List ℕ) → IsDown l_now (before ++ q ∷ []) sent → l_now.link ≡ l.link → IsPacket q × ((is_idle q ≡ true) ⊎ (packet_drop d.link q ≡ None))
  its_packet q down link = (
    last_whole before q down.packed.packets_whole,
    subst (λ (x : ChannelConfig). (is_idle q ≡ true) ⊎ (packet_drop x q ≡ None)) (link ∙ sym is.link) (last_of_link l_now.link before q down.of_link),
  )

  pub pdu_goes : (pdu : List ℕ) (count : ℕ) → SendsPdu pdu count l l_now → GoesDown l_now d k u sent (packet_of d.link count pdu ∷ []) (pdu ∷ [])
  pdu_goes pdu count sends =
      let q : List ℕ = packet_of d.link count pdu in
      let same : packet_of l.link count pdu ≡ q = ap (λ x. packet_of x count pdu) (sym is.link) in
      let down : IsDown l_now (before ++ q ∷ []) sent = subst (λ (x : List ℕ). IsDown l_now (before ++ x ∷ []) sent) same (sends.sends before sent is.made) in
      let its : IsPacket q × ((is_idle q ≡ true) ⊎ (packet_drop d.link q ≡ None)) = its_packet q down sends.fixed.0 in
      let e : LinkSenderState = given d q false in
      let goes : SendsPdu pdu count d e = record {
        sends = given_is d q false its.0 its.1;
        carries = subst (λ (x : List ℕ). pdus_in (busy (x ∷ [])) ≡ pdu ∷ []) same sends.carries;
        waiting = refl;
        len = omega (arith, sends.len, ap length sends.waiting, length-append l.waiting (packet_of l.link count pdu), ap length same, length-append d.waiting q);
        unflushed = refl;
        fixed = (refl, refl, refl, refl);
      } in
      let p : PulledAll e k = pulled_all (length e.waiting) e k (omega (arith, is.carried.way.sent.valid.least_zone)) (omega arith) in
      let on : (up : LinkReceiverState) → IsCarried d k up → IsCarried p.down p.link up × SendsMore (one_way d k up) (one_way p.down p.link up) (q ∷ []) (pdu ∷ []) =
      λ (up : LinkReceiverState) (at : IsCarried d k up). moved_on d e p.down k k p.link up pdu count at (refl, refl, refl, refl) goes p.adds p.fixed p.marks p.none_whole in
      let here = on u is.carried in
      record {
        down = p.down;
        link = p.link;
        behind = record {
          carried = here.0;
          made = subst (λ (x : List (List ℕ)). IsDown l_now x sent) (sym here.1.packets) down;
          link = p.fixed.0 ∙ is.link ∙ sym sends.fixed.0;
          capacity = p.fixed.1 ∙ is.capacity ∙ sym sends.fixed.1;
          flushed = p.fixed.2 ∙ sym sends.unflushed;
          control = p.fixed.3 ∙ is.control ∙ sym sends.fixed.3;
        };
        sends = λ (up : LinkReceiverState) (at : IsCarried d k up). (on up at).1;
        none_whole = (let zone = ap (λ x. x.zone) p.fixed.0 in omega (arith, p.none_whole, zone));
        marks = p.marks;
        more = p.more;
        grows = p.grows;
      }

  -- ---- a flush
  abbrev qs : List (List ℕ)
  qs = flush_of (packing d)

  its_flush : flush_of (packing l) ≡ qs
  its_flush =
      let none : (n : ℕ) → n + 0 ≡ n = λ (n : ℕ). omega arith in
      let rest : length l.waiting % l.link.zone ≡ length d.waiting % d.link.zone =
      ap (λ n. n % l.link.zone) (sym (none (length l.waiting))) ∙ same_rest l d k u sent is 0 ∙ ap (λ n. n % d.link.zone) (none (length d.waiting)) in
      same_flush l d (sym is.flushed) rest (sym is.link)

  -- Both added an idle packet, and more frames of the one of a world have left.
  pub record Fills : Type 0 where
    pub goes : GoesDown l_now d k u sent qs []
    pub some : qs ≡ [] → ⊥
    pub most : length qs ≤ 1
    pub more : length k.frames < length goes.link.frames

  flush_fills : Flushes l l_now → (q : List ℕ) → qs ≡ q ∷ [] → Fills
  flush_fills f q one =
      let all : flush_of (packing l) ≡ q ∷ [] = its_flush ∙ one in
      let down : IsDown l_now (before ++ qs) sent = subst (λ (x : List (List ℕ)). IsDown l_now (before ++ x) sent) its_flush (f.sends before sent is.made) in
      let its : IsPacket q × ((is_idle q ≡ true) ⊎ (packet_drop d.link q ≡ None)) = its_packet q (subst (λ (x : List (List ℕ)). IsDown l_now (before ++ x) sent) one down) f.fixed.0 in
      let e : LinkSenderState = given d q l_now.flushed in
      let waits : l_now.waiting ≡ l.waiting ++ q = f.waiting ∙ ap (λ x. l.waiting ++ stream x) all ∙ ap (λ x. l.waiting ++ x) (append-nil q) in
      let rest : length e.waiting % e.link.zone ≡ length l_now.waiting % l_now.link.zone =
      ap (λ n. n % d.link.zone) (length-append d.waiting q) ∙ sym (same_rest l d k u sent is (length q))
      ∙ ap (λ n. n % l.link.zone) (sym (length-append l.waiting q)) ∙ ap (λ x. length x % l.link.zone) (sym waits) ∙ ap (λ (c : ChannelConfig). length l_now.waiting % c.zone) (sym f.fixed.0) in
      let goes : Flushes d e = record {
        sends = λ (ps : List (List ℕ)) (made : ℕ) (at : IsDown d ps made).
            subst (λ (x : List (List ℕ)). IsDown e (ps ++ x) made) (sym one) (given_is d q l_now.flushed its.0 its.1 ps made at);
        one = subst (λ (x : List (List ℕ)). length x ≤ 1) its_flush f.one;
        idle = ap busy (sym its_flush) ∙ f.idle;
        once = same_flush e l_now refl rest (is.link ∙ sym f.fixed.0) ∙ f.once;
        same = λ (none : qs ≡ []). absurd (let bad : q ∷ [] ≡ [] = sym one ∙ none in cc);
        waiting = sym (ap (λ x. d.waiting ++ stream x) one ∙ ap (λ x. d.waiting ++ x) (append-nil q));
        fixed = (refl, refl, refl, refl);
      } in
      let p : PulledAll e k = pulled_all (length e.waiting) e k (omega (arith, is.carried.way.sent.valid.least_zone)) (omega arith) in
      let on : (up : LinkReceiverState) → IsCarried d k up → IsCarried p.down p.link up × SendsMore (one_way d k up) (one_way p.down p.link up) qs [] =
      λ (up : LinkReceiverState) (at : IsCarried d k up). filled_on d e p.down k k p.link up at (refl, refl, refl, refl) goes p.adds p.fixed p.marks p.none_whole in
      let here = on u is.carried in
      let longer : length k.frames < length p.link.frames = elim p.made [
        | inl same ↦ absurd (let none : qs ≡ [] = flushed_none d e goes (subst (λ (x : LinkSenderState). length x.waiting < d.link.zone) same.0 p.none_whole) in
            let bad : q ∷ [] ≡ [] = sym one ∙ none in cc)
        | inr m ↦ m
      ] in
      record {
        goes = record {
          down = p.down;
          link = p.link;
          behind = record {
            carried = here.0;
            made = subst (λ (x : List (List ℕ)). IsDown l_now x sent) (sym here.1.packets) down;
            link = p.fixed.0 ∙ is.link ∙ sym f.fixed.0;
            capacity = p.fixed.1 ∙ is.capacity ∙ sym f.fixed.1;
            flushed = p.fixed.2;
            control = p.fixed.3 ∙ is.control ∙ sym f.fixed.3;
          };
          sends = λ (up : LinkReceiverState) (at : IsCarried d k up). (on up at).1;
          none_whole = (let zone = ap (λ x. x.zone) p.fixed.0 in omega (arith, p.none_whole, zone));
          marks = p.marks;
          more = p.more;
          grows = p.grows;
        };
        some = λ (none : qs ≡ []). (let bad : q ∷ [] ≡ [] = sym one ∙ none in cc);
        most = goes.one;
        more = longer;
      }

  pub flush_goes : Flushes l l_now → ((qs ≡ []) × (l_now ≡ l)) ⊎ Fills
  flush_goes f = elim (one_at_most qs (subst (λ (x : List (List ℕ)). length x ≤ 1) its_flush f.one)) [
    | inl none ↦ inl (none, f.same (its_flush ∙ none))
    | inr some ↦ inr (flush_fills f some.0 some.1)
  ]

-- ---- a lane that stays
-- It is given nothing.
abbrev stays : (l l_now d : LinkSenderState) (k : FrameLinkState) (u : LinkReceiverState) (sent : ℕ) (packets : List (List ℕ)) → IsBehind l d k u sent → l_now ≡ l → packets ≡ [] →
    GoesDown l_now d k u sent packets []
stays l l_now d k u sent packets is same none = record {
  down = d;
  link = k;
  behind = subst (λ (x : LinkSenderState). IsBehind x d k u sent) (sym same) is;
  sends = subst (λ (x : List (List ℕ)). SendsAt d d k k x []) (sym none) (λ (up : LinkReceiverState) (at : IsCarried d k up). record {
    way = at.way;
    packets = sym (append-nil (packets_sent (one_way d k up)));
    pdus = sym (append-nil (pdus_sent (one_way d k up)));
    delivered = refl;
  });
  none_whole = is.carried.rested.none_waits;
  marks = (refl, refl, refl);
  more = [];
  grows = sym (append-nil k.frames);
}

-- What a flush does to a lane, also if it adds nothing.
pub record Flushed (l l_now d : LinkSenderState) (k : FrameLinkState) (u : LinkReceiverState) (sent : ℕ) : Type 0 where
  pub goes : GoesDown l_now d k u sent (flush_of (packing d)) []
  pub most : length (flush_of (packing d)) ≤ 1
  pub same : flush_of (packing d) ≡ [] → (goes.down ≡ d) × (goes.link ≡ k)
  pub more : ((flush_of (packing d) ≡ []) × (l_now ≡ l)) ⊎ (length k.frames < length goes.link.frames)

flush_lane : (l l_now d : LinkSenderState) (k : FrameLinkState) (u : LinkReceiverState) (sent : ℕ) → IsBehind l d k u sent → Flushes l l_now → Flushed l l_now d k u sent
flush_lane l l_now d k u sent is f = elim (flush_goes l l_now d k u sent is f) [
  | inl h ↦ record {
    goes = stays l l_now d k u sent (flush_of (packing d)) is h.1 h.0;
    most = omega (arith, ap (λ (x : List (List ℕ)). length x) h.0);
    same = λ none. (refl, refl);
    more = inl h;
  }
  | inr h ↦ record {
    goes = h.goes;
    most = h.most;
    same = λ none. absurd (h.some none);
    more = inr h.more;
  }
]

-- ---- both lanes
-- Of both streams of an end `d` of a world, whose frames left, `l` has made only so many of each lane.
pub record AreBehind (l d : DownState) (k : FrameLinksState) (u : UpState) (sent : Lane → ℕ) : Type 0 where
  pub lanes : (x : Lane) → IsBehind (lane_down x l) (lane_down x d) (lane_of_links x k) (lane_up x u) (sent x)
  pub packet_count : d.packet_count ≡ l.packet_count

-- how many frames there are of each lane
abbrev pub all_sent : FrameLinksState → Lane → ℕ
all_sent k x = length (lane_of_links x k).frames

pub none_behind : (d : DownState) (k : FrameLinksState) (u : UpState) → AreCarried d k u → AreBehind d d k u (all_sent k)
none_behind d k u are = record { lanes = λ (x : Lane). is_itself (lane_down x d) (lane_of_links x k) (lane_up x u) (are x); packet_count = refl }

-- What both lanes of the one of a world have become.
pub record GoDown (l_now d : DownState) (k : FrameLinksState) (u : UpState) (sent : Lane → ℕ) : Type 0 where
  pub down : DownState
  pub link : FrameLinksState
  pub behind : AreBehind l_now down link u sent
  pub none_whole : (x : Lane) → IsNotWhole (lane_down x down)
  pub marks : AreSameMarks k link
  pub more : Lane → List (List ℕ)
  pub grows : (x : Lane) → (lane_of_links x link).frames ≡ (lane_of_links x k).frames ++ more x

abbrev each_more : (directives file_data : List (List ℕ)) → Lane → List (List ℕ)
each_more directives file_data Directives = directives
each_more directives file_data Data = file_data

abbrev both_go : (l_now d : DownState) (k : FrameLinksState) (u : UpState) (sent : Lane → ℕ) (count : ℕ) → count ≡ l_now.packet_count → (packets texts packets_two texts_two : List (List ℕ)) →
    GoesDown l_now.directives d.directives k.directives u.directives (sent Directives) packets texts →
    GoesDown l_now.file_data d.file_data k.file_data u.file_data (sent Data) packets_two texts_two → GoDown l_now d k u sent
both_go l_now d k u sent count same packets texts packets_two texts_two one two =
    let down : DownState = record { directives = one.down; file_data = two.down; packet_count = count } in
    let link : FrameLinksState = record { directives = one.link; file_data = two.link } in
    record {
      down = down;
      link = link;
      behind = record {
        lanes = each-lane (λ (x : Lane). IsBehind (lane_down x l_now) (lane_down x down) (lane_of_links x link) (lane_up x u) (sent x)) one.behind two.behind;
        packet_count = same;
      };
      none_whole = each-lane (λ (x : Lane). IsNotWhole (lane_down x down)) one.none_whole two.none_whole;
      marks = each-lane (λ (x : Lane). IsSameMarks (lane_of_links x k) (lane_of_links x link)) one.marks two.marks;
      more = each_more one.more two.more;
      grows = each-lane (λ (x : Lane). (lane_of_links x link).frames ≡ (lane_of_links x k).frames ++ each_more one.more two.more x) one.grows two.grows;
    }

-- ---- a PDU goes down its lane
-- The packets of the other lane are as they were.
pub record SendsDown (x : Lane) (pdu : List ℕ) (l_now d : DownState) (k : FrameLinksState) (u : UpState) (sent : Lane → ℕ) : Type 0 where
  pub goes : GoDown l_now d k u sent
  pub sends : SendsAt (lane_down x d) (lane_down x goes.down) (lane_of_links x k) (lane_of_links x goes.link) (packet_of (lane_down x d).link d.packet_count pdu ∷ []) (pdu ∷ [])
  pub packet_count : goes.down.packet_count ≡ (d.packet_count + 1) % 16384
  pub other : KeepsLaneAt (other_lane x) d goes.down k goes.link

module _ (l l_now d : DownState) (k : FrameLinksState) (u : UpState) (sent : Lane → ℕ) (are : AreBehind l d k u sent) (pdu : List ℕ)
    (count : l_now.packet_count ≡ (l.packet_count + 1) % 16384) where
  its_count : (d.packet_count + 1) % 16384 ≡ l_now.packet_count
  its_count = ap (λ n. (n + 1) % 16384) are.packet_count ∙ sym count

  goes_down : (x : Lane) → SendsPdu pdu l.packet_count (lane_down x l) (lane_down x l_now) →
      GoesDown (lane_down x l_now) (lane_down x d) (lane_of_links x k) (lane_up x u) (sent x) (packet_of (lane_down x d).link d.packet_count pdu ∷ []) (pdu ∷ [])
  goes_down x sends = pdu_goes (lane_down x l) (lane_down x l_now) (lane_down x d) (lane_of_links x k) (lane_up x u) (sent x) (are.lanes x) pdu d.packet_count
      (subst (λ n. SendsPdu pdu n (lane_down x l) (lane_down x l_now)) (sym are.packet_count) sends)

  pub sends_down : (x : Lane) → SendsPdu pdu l.packet_count (lane_down x l) (lane_down x l_now) → lane_down (other_lane x) l_now ≡ lane_down (other_lane x) l →
      SendsDown x pdu l_now d k u sent
  sends_down Directives sends other =
      let one = goes_down Directives sends in
      let two = stays l.file_data l_now.file_data d.file_data k.file_data u.file_data (sent Data) [] (are.lanes Data) other refl in
      record {
        goes = both_go l_now d k u sent ((d.packet_count + 1) % 16384) its_count (packet_of d.directives.link d.packet_count pdu ∷ []) (pdu ∷ []) [] [] one two;
        sends = one.sends;
        packet_count = refl;
        other = record { down = refl; link = (refl, refl, refl, refl) };
      }
  sends_down Data sends other =
      let one = stays l.directives l_now.directives d.directives k.directives u.directives (sent Directives) [] (are.lanes Directives) other refl in
      let two = goes_down Data sends in
      record {
        goes = both_go l_now d k u sent ((d.packet_count + 1) % 16384) its_count [] [] (packet_of d.file_data.link d.packet_count pdu ∷ []) (pdu ∷ []) one two;
        sends = two.sends;
        packet_count = refl;
        other = record { down = refl; link = (refl, refl, refl, refl) };
      }

-- ---- both lanes are flushed
-- a lane that is as it was
same_link : {k n : FrameLinkState} → n ≡ k → IsSameLink k n
same_link {k} {n} same = subst (λ (x : FrameLinkState). IsSameLink k x) (sym same) (refl, refl, refl, refl)

-- A lane of both at least has more frames.
pub record FillsBoth (l_now d : DownState) (k : FrameLinksState) (u : UpState) (sent : Lane → ℕ) : Type 0 where
  pub goes : GoDown l_now d k u sent
  pub lanes : (x : Lane) → FillsLaneAt x d goes.down k goes.link
  pub packet_count : goes.down.packet_count ≡ d.packet_count
  pub more : (x : Lane) × (length (lane_of_links x k).frames < length (lane_of_links x goes.link).frames)

module _ (l l_now d : DownState) (k : FrameLinksState) (u : UpState) (sent : Lane → ℕ) (are : AreBehind l d k u sent) (f : FlushesBoth l l_now) where
  each : (x : Lane) → Flushed (lane_down x l) (lane_down x l_now) (lane_down x d) (lane_of_links x k) (lane_up x u) (sent x)
  each x = flush_lane (lane_down x l) (lane_down x l_now) (lane_down x d) (lane_of_links x k) (lane_up x u) (sent x) (are.lanes x) (f.lanes x)

  abbrev flushed_both : GoDown l_now d k u sent
  flushed_both = both_go l_now d k u sent d.packet_count (are.packet_count ∙ sym f.packet_count) (flush_of (packing d.directives)) [] (flush_of (packing d.file_data)) []
      (each Directives).goes (each Data).goes

  fills_both : (x : Lane) × (length (lane_of_links x k).frames < length (lane_of_links x flushed_both.link).frames) → FillsBoth l_now d k u sent
  fills_both more = record {
    goes = flushed_both;
    lanes = each-lane (λ (x : Lane). FillsLaneAt x d flushed_both.down k flushed_both.link)
        (record {
          sends = (each Directives).goes.sends;
          most = (each Directives).most;
          same = λ none. record { down = ((each Directives).same none).0; link = same_link ((each Directives).same none).1 };
          none_whole = (each Directives).goes.none_whole;
        })
        (record {
          sends = (each Data).goes.sends;
          most = (each Data).most;
          same = λ none. record { down = ((each Data).same none).0; link = same_link ((each Data).same none).1 };
          none_whole = (each Data).goes.none_whole;
        });
    packet_count = refl;
    more = more;
  }

  -- both lanes are as they were
  unchanged : (l_now.directives ≡ l.directives) → (l_now.file_data ≡ l.file_data) → l_now ≡ l
  unchanged one two = λ i. record { directives = one i; file_data = two i; packet_count = f.packet_count i }

  pub flush_both : (((x : Lane) → flush_of (packing (lane_down x d)) ≡ []) × (l_now ≡ l)) ⊎ FillsBoth l_now d k u sent
  flush_both = elim (each Directives).more [
    | inl one ↦ elim (each Data).more [
      | inl two ↦ inl (each-lane (λ (x : Lane). flush_of (packing (lane_down x d)) ≡ []) one.0 two.0, unchanged one.1 two.1)
      | inr two ↦ inr (fills_both (Data, two))
    ]
    | inr one ↦ inr (fills_both (Directives, one))
  ]

-- ---- frames of both lanes leave
-- as many of each lane, and one more of this one
abbrev pub one_more : Lane → (Lane → ℕ) → Lane → ℕ
one_more Directives sent Directives = sent Directives + 1
one_more Directives sent Data = sent Data
one_more Data sent Directives = sent Directives
one_more Data sent Data = sent Data + 1

pub lane_leaves : (x : Lane) (l now d : DownState) (k : FrameLinksState) (u : UpState) (sent : Lane → ℕ) (frame : List ℕ) → AreBehind l d k u sent →
    MakesFrame frame (lane_down x l) (lane_down x now) → lane_down (other_lane x) now ≡ lane_down (other_lane x) l → now.packet_count ≡ l.packet_count →
    AreBehind now d k u (one_more x sent) × (sent x < length (lane_of_links x k).frames) × (frame ≡ get_or (lane_of_links x k).frames (sent x) [])
lane_leaves Directives l now d k u sent frame are made other count =
    let f = frame_leaves l.directives d.directives k.directives u.directives (sent Directives) (are.lanes Directives) now.directives frame made in
    let two : IsBehind now.file_data d.file_data k.file_data u.file_data (sent Data) =
    subst (λ (y : LinkSenderState). IsBehind y d.file_data k.file_data u.file_data (sent Data)) (sym other) (are.lanes Data) in (
      record {
        lanes = each-lane (λ (x : Lane). IsBehind (lane_down x now) (lane_down x d) (lane_of_links x k) (lane_up x u) (one_more Directives sent x)) f.0 two;
        packet_count = are.packet_count ∙ sym count;
      },
      f.1,
      f.2,
    )
lane_leaves Data l now d k u sent frame are made other count =
    let f = frame_leaves l.file_data d.file_data k.file_data u.file_data (sent Data) (are.lanes Data) now.file_data frame made in
    let one : IsBehind now.directives d.directives k.directives u.directives (sent Directives) =
    subst (λ (y : LinkSenderState). IsBehind y d.directives k.directives u.directives (sent Directives)) (sym other) (are.lanes Directives) in (
      record {
        lanes = each-lane (λ (x : Lane). IsBehind (lane_down x now) (lane_down x d) (lane_of_links x k) (lane_up x u) (one_more Data sent x)) one f.0;
        packet_count = are.packet_count ∙ sym count;
      },
      f.1,
      f.2,
    )

-- no whole frame waits in either lane: all have left
pub all_left : (l d : DownState) (k : FrameLinksState) (u : UpState) (sent : Lane → ℕ) → AreBehind l d k u sent → ((x : Lane) → IsNotWhole (lane_down x l)) →
    (l ≡ d) × ((x : Lane) → sent x ≡ length (lane_of_links x k).frames)
all_left l d k u sent are waits =
    let at : (x : Lane) → (lane_down x l ≡ lane_down x d) × (sent x ≡ length (lane_of_links x k).frames) =
    λ (x : Lane). caught_up (lane_down x l) (lane_down x d) (lane_of_links x k) (lane_up x u) (sent x) (are.lanes x) (waits x) in
    let one : l.directives ≡ d.directives = (at Directives).0 in
    let two : l.file_data ≡ d.file_data = (at Data).0 in
    let count : l.packet_count ≡ d.packet_count = sym are.packet_count in
    ((λ i. record { directives = one i; file_data = two i; packet_count = count i }), λ (x : Lane). (at x).1)
