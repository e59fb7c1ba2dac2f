-- The sending end of a lane.
use Rattle.std.proofs.Common.{◌≡◌, ℕ, ◌+◌, ◌*◌, ◌<◌, ◌≤◌, Bool, true, false, not, None, List, [], ◌∷◌, ◌++◌, ◌⊎◌, length, drop, refl, sym, ap, subst, ◌∙◌, inl, arith}
use Rattle.std.proofs.lemmas.List.{append_assoc, map-append}
use Rattle.std.proofs.Math.Nat.{mul-le-mul_right}
use Rattle.aos_frame.specs.LinkFields.{sealed}
use Rattle.aos_frame.specs.Frame.{IsChannel}
use Rattle.aos_frame.specs.declared.config.ChannelConfig.{ChannelConfig}
use Rattle.mpdu.specs.Stream.{stream, survivors, keep, is_idle, IsPacket, ArePackets}
use Rattle.mpdu.proofs.Later.{stream-push}
use Rattle.mpdu.proofs.Later.{survivors-push}
use Rattle.link_stack.specs.Frames.{packet_drop, AreOfLink, frame_of, pdus_in}
use Rattle.link_stack.specs.Downward.{LinkSenderState, IsDown, first_lane_down, sealed_frame}
use Rattle.link_stack.specs.Upward.{LinkReceiverState, IsUp, first_lane_up}
use Rattle.link_stack.proofs.Grown.{frame-push, up-push}
use Rattle.mpdu.specs.Packets.{busy}
use Rattle.link_sim.specs.OneWay.{OneWayState, zones_of, octets_sent, packets_sent, pdus_delivered, IsSent, IsReceived, IsOneWayOf, IsOneWay}
use Rattle.mpdu.proofs.Cuts.{packets_of_all}
use Rattle.mpdu.proofs.Parts.{among-length}

-- the packets that it spells are those that it was made of
pub spells : (l : OneWayState) (ps : List (List ℕ)) → IsOneWayOf l ps → packets_sent l ≡ ps
spells l ps is = packets_of_all ps (octets_sent l) is.sent.made.packed.packets_whole is.sent.octets

pub way_is : (l : OneWayState) (ps : List (List ℕ)) → IsOneWayOf l ps → IsOneWay l
way_is l ps is = subst (λ qs. IsOneWayOf l qs) (sym (spells l ps is)) is

-- nothing was sent yet
pub new_way : (d : LinkSenderState) (u : LinkReceiverState) (link : ChannelConfig) (capacity : ℕ) → IsChannel link →
    d ≡ first_lane_down link capacity → IsDown d [] 0 → u ≡ first_lane_up link → IsUp u [] [] 0 →
    IsOneWayOf (record { down = d; up = u; frames = []; marks = []; run = 0 }) []
new_way d u link capacity valid e down f up =
    record {
      same_link = ap (λ x. x.link) f ∙ sym (ap (λ x. x.link) e);
      sent = record {
        valid = subst IsChannel (sym (ap (λ x. x.link) e)) valid;
        made = down;
        frames = λ n h. absurd (omega arith);
        fits = omega (arith, ap (λ x. x.control) e);
        octets = ap (λ x. x.waiting) e;
        taken = omega arith;
      };
      received = record {
        read = [];
        end = up;
        among = tt;
        all_read = λ z. refl;
        struck = record { before = []; joined = refl; end = inl refl };
      };
    }

-- the frames made lie in the stream
pub made_inside : (l : OneWayState) (ps : List (List ℕ)) → IsSent l ps → length l.frames * l.down.link.zone ≤ length (stream ps)
made_inside l ps is = is.made.packed.below

pub frame_inside : (l : OneWayState) (ps : List (List ℕ)) → IsSent l ps → (n : ℕ) → n < length l.frames → n * l.down.link.zone + l.down.link.zone ≤ length (stream ps)
frame_inside l ps is n h =
    let z : ℕ = l.down.link.zone in
    let one : (n + 1) * z ≡ n * z + z = omega arith in
    let le : n + 1 ≤ length l.frames = omega arith in
    omega (arith, mul-le-mul_right z le, made_inside l ps is)

pub taken_inside : (l : OneWayState) (ps : List (List ℕ)) → IsSent l ps → (n : ℕ) → n ≤ length l.frames → n * l.down.link.zone ≤ length (stream ps)
taken_inside l ps is n h = omega (arith, mul-le-mul_right l.down.link.zone h, made_inside l ps is)

-- of the packets of an end, the last
pub last_whole : (ps : List (List ℕ)) (q : List ℕ) → ArePackets (ps ++ q ∷ []) → IsPacket q
last_whole [] q h = h.0
last_whole (p ∷ ps) q h = last_whole ps q h.1

pub last_of_link : (link : ChannelConfig) (ps : List (List ℕ)) (q : List ℕ) → AreOfLink link (ps ++ q ∷ []) → (is_idle q ≡ true) ⊎ (packet_drop link q ≡ None)
last_of_link link [] q h = h.0
last_of_link link (p ∷ ps) q h = last_of_link link ps q h.1

-- the receiving half, if one packet more was sent
received_more : (l : OneWayState) (ps : List (List ℕ)) (q : List ℕ) → IsOneWayOf l ps → IsPacket q → ((is_idle q ≡ true) ⊎ (packet_drop l.down.link q ≡ None)) →
    IsReceived l.up (ps ++ q ∷ []) l.marks l.run
received_more l ps q is packet ours =
    let r = is.received in
    let zone : l.up.link.zone ≡ l.down.link.zone = ap (λ x. x.zone) is.same_link in
    let few : length r.read ≡ length l.marks = among-length r.read l.marks r.among in
    let room : length l.marks * l.up.link.zone ≤ length (stream ps) = omega (arith, taken_inside l ps is.sent (length l.marks) is.sent.taken, ap (λ z. length l.marks * z) zone) in
    let room2 : length r.read * l.up.link.zone ≤ length (stream ps) = omega (arith, room, ap (λ n. n * l.up.link.zone) few) in
    let ours_up : (is_idle q ≡ true) ⊎ (packet_drop l.up.link q ≡ None) = subst (λ k. (is_idle q ≡ true) ⊎ (packet_drop k q ≡ None)) (sym is.same_link) ours in
    record {
      read = r.read;
      end = up-push l.up ps q r.read l.run packet ours_up room2 r.end;
      among = r.among;
      all_read = r.all_read;
      struck = r.struck;
    }

-- The channel and the control field of an end are those of another.
abbrev pub SameChannel : (d e : LinkSenderState) → Type 0
SameChannel d e = (d.link ≡ e.link) × (d.control ≡ e.control)

-- so it sends the same frames
pub sealed-same : (d e : LinkSenderState) (ps : List (List ℕ)) (n : ℕ) → SameChannel d e → sealed_frame d ps n ≡ sealed_frame e ps n
sealed-same d e ps n same =
    ap (λ (c : ChannelConfig). sealed c.fields (frame_of c ps n) d.control) same.0 ∙ ap (λ (k : ℕ). sealed e.link.fields (frame_of e.link ps n) k) same.1

-- One packet more was sent.
pub sent_more : (l : OneWayState) (d : LinkSenderState) (ps : List (List ℕ)) (q : List ℕ) → IsOneWayOf l ps → IsDown d (ps ++ q ∷ []) (length l.frames) → d.waiting ≡ l.down.waiting ++ q →
    SameChannel d l.down → IsOneWayOf (record l { down = d }) (ps ++ q ∷ [])
sent_more l d ps q is down waits same =
    let link : d.link ≡ l.down.link = same.0 in
    let packet : IsPacket q = last_whole ps q down.packed.packets_whole in
    let ours : (is_idle q ≡ true) ⊎ (packet_drop l.down.link q ≡ None) = subst (λ k. (is_idle q ≡ true) ⊎ (packet_drop k q ≡ None)) link (last_of_link d.link ps q down.of_link) in
    record {
      same_link = is.same_link ∙ sym link;
      sent = record {
        valid = subst IsChannel (sym link) is.sent.valid;
        made = down;
        frames = λ n h. is.sent.frames n h ∙ ap (λ (f : List ℕ). sealed l.down.link.fields f l.down.control) (sym (frame-push l.down.link ps q n (frame_inside l ps is.sent n h)))
            ∙ sym (sealed-same d l.down (ps ++ q ∷ []) n same);
        fits = omega (arith, same.1, is.sent.fits);
        octets = ap (λ (c : ChannelConfig). zones_of c l.frames ++ d.waiting) link ∙ ap (λ w. zones_of l.down.link l.frames ++ w) waits
            ∙ sym (append_assoc (zones_of l.down.link l.frames) l.down.waiting q) ∙ ap (λ w. w ++ q) is.sent.octets ∙ sym (stream-push ps q);
        taken = is.sent.taken;
      };
      received = received_more l ps q is packet ours;
    }

-- so no PDU was delivered
pub none_delivered : (l : OneWayState) (d : LinkSenderState) (ps : List (List ℕ)) (q : List ℕ) → IsOneWayOf l ps → IsPacket q → packets_sent (record l { down = d }) ≡ ps ++ q ∷ [] →
    pdus_delivered (record l { down = d }) ≡ pdus_delivered l
none_delivered l d ps q is packet e =
    let zone : l.up.link.zone ≡ l.down.link.zone = ap (λ x. x.zone) is.same_link in
    let room : length l.marks * l.up.link.zone ≤ length (stream ps) = omega (arith, taken_inside l ps is.sent (length l.marks) is.sent.taken, ap (λ z. length l.marks * z) zone) in
    ap (λ s. pdus_in (survivors l.up.link.zone l.marks 0 s)) e
    ∙ ap pdus_in (survivors-push l.up.link.zone l.marks 0 ps q packet (omega (arith, room)))
    ∙ ap (λ s. pdus_in (survivors l.up.link.zone l.marks 0 s)) (sym (spells l ps is))

keep_behind : (k : Bool) (p : List ℕ) (l m : List (List ℕ)) → keep k p (l ++ m) ≡ keep k p l ++ m
keep_behind true p l m = refl
keep_behind false p l m = refl

pub busy-append : (ps qs : List (List ℕ)) → busy (ps ++ qs) ≡ busy ps ++ busy qs
busy-append [] qs = refl
busy-append (p ∷ ps) qs = ap (λ l. keep (not (is_idle p)) p l) (busy-append ps qs) ∙ keep_behind (not (is_idle p)) p (busy ps) (busy qs)

-- the PDUs of packets sent and of those after them
pub pdus_more : (ps qs : List (List ℕ)) → pdus_in (busy (ps ++ qs)) ≡ pdus_in (busy ps) ++ pdus_in (busy qs)
pdus_more ps qs = ap pdus_in (busy-append ps qs) ∙ map-append (λ p. drop 6 p) (busy ps) (busy qs)
