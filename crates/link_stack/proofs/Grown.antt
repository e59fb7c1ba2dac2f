-- Exported: laws of a link's stream.
use Rattle.std.proofs.Common.{◌≡◌, ℕ, ◌+◌, ◌*◌, ◌%◌, ◌<◌, ◌≤◌, Bool, true, false, Option, Some, None, IfSome, List, [], ◌∷◌, ◌++◌, ◌⊎◌, length, drop, refl, sym, ap, ◌∙◌, arith, length-append}
use Rattle.std.proofs.lemmas.Bool.{ne_eqb}
use Rattle.cfd_bits.specs.Field.{field, octets}
use Rattle.aos_frame.specs.LinkFields.{sealed}
use Rattle.aos_frame.specs.Counts.{frame_counts, counts_of, CountsFrame}
use Rattle.aos_frame.specs.declared.count.SeenCount.{SeenCount}
use Rattle.aos_frame.specs.Frame.{IsChannel, frame_octets}
use Rattle.aos_frame.specs.declared.config.ChannelConfig.{ChannelConfig}
use Rattle.aos_frame.specs.declared.header.FrameHeader.{FrameHeader}
use Rattle.space_packet.specs.Packet.{SpellsPacket}
use Rattle.space_packet.proofs.Spelling.{written_packet_is_read}
use Rattle.mpdu.specs.Stream.{IsPacket, ArePackets, stream, zone, first_header_pointer, is_idle}
use Rattle.mpdu.specs.Reading.{held_at}
use Rattle.mpdu.proofs.Struck.{begun-struck, begun-none}
use Rattle.mpdu.proofs.Later.{ArePackets-push, begun-push, zone-push, pointer-push}
use Rattle.link_stack.specs.Frames.{packet_drop, AreOfLink, carrying, packet_of, frame_of, IsSealed, pdus_in}
use Rattle.link_stack.specs.Upward.{LinkReceiverState, IsUpOf}
use Rattle.mpdu.specs.Packets.{busy}
use Rattle.link_stack.proofs.Sent.{ours, of_link-push}

seen_missed : (all : Bool) (last : Option SeenCount) (marks : List Bool) (missed : ℕ) → IfSome last (λ l. (n : ℕ) × CountsFrame all n l × (length marks ≡ n + 1 + missed)) →
    IfSome last (λ l. (n : ℕ) × CountsFrame all n l × (length (marks ++ false ∷ []) ≡ n + 1 + (missed + 1)))
seen_missed all None marks missed h = tt
seen_missed all (Some l) marks missed (n, e, f) = (n, e, omega (arith, length-append marks (false ∷ [])))

pub struck_is_missed : {all : Bool} (up : LinkReceiverState) (ps : List (List ℕ)) (marks : List Bool) (missed : ℕ) → 0 < up.link.zone → missed + 1 < counts_of all → IsUpOf all up ps marks missed →
    IsUpOf all up ps (marks ++ false ∷ []) (missed + 1)
struck_is_missed up ps marks missed some few is =
    let lost : missed + 1 ≡ 0 → ⊥ = λ (e : missed + 1 ≡ 0). omega (arith, e) in
    record {
      packets_whole = is.packets_whole;
      of_link = is.of_link;
      few = few;
      seen = seen_missed _ up.last marks missed is.seen;
      unseen = is.unseen;
      as_left = ap (λ b. held_at b up.begun) (ne_eqb (missed + 1) 0 lost) ∙ sym (begun-struck up.link.zone marks 0 ps some);
      counts = is.counts;
    }

pub some_counts : (all : Bool) → 0 < counts_of all
some_counts true = omega arith
some_counts false = omega arith

pub new_is : (all : Bool) (link : ChannelConfig) (ps : List (List ℕ)) (counts : List ℕ) → length counts ≡ 12 → ArePackets ps → AreOfLink link ps →
    IsUpOf all (record { link = link; last = None; begun = []; drops = counts; control = None }) ps [] 0
new_is all link ps counts size whole ours_all =
    record { packets_whole = whole; of_link = ours_all; few = some_counts all; seen = tt; unseen = λ e. refl; as_left = sym (begun-none link.zone ps whole); counts = size }

pub frame-push : (link : ChannelConfig) (ps : List (List ℕ)) (q : List ℕ) (n : ℕ) → n * link.zone + link.zone ≤ length (stream ps) → frame_of link (ps ++ q ∷ []) n ≡ frame_of link ps n
frame-push link ps q n h =
    let header : FrameHeader = record { spacecraft = link.spacecraft; virtual_channel = link.virtual_channel; count = n % frame_counts; cycle = true } in
    let e : ℕ = n * link.zone in
    ap (λ p. frame_octets header (octets 2 p ++ zone link.zone e (stream (ps ++ q ∷ [])))) (pointer-push link.zone e 0 ps q (omega (arith, h)))
    ∙ ap (λ l. frame_octets header (octets 2 (first_header_pointer link.zone e 0 ps) ++ l)) (zone-push link.zone e ps q h)

-- the same of the sealed frame
pub sealed-push : (link : ChannelConfig) (ps : List (List ℕ)) (q : List ℕ) (n : ℕ) (frame : List ℕ) → n * link.zone + link.zone ≤ length (stream ps) → IsSealed link ps n frame →
    IsSealed link (ps ++ q ∷ []) n frame
sealed-push link ps q n frame h is =
    record { control = is.control; fits = is.fits; octets = is.octets ∙ ap (λ l. sealed link.fields l is.control) (sym (frame-push link ps q n h)) }

pub up-push : {all : Bool} (up : LinkReceiverState) (ps : List (List ℕ)) (q : List ℕ) (marks : List Bool) (missed : ℕ) → IsPacket q → ((is_idle q ≡ true) ⊎ (packet_drop up.link q ≡ None)) →
    length marks * up.link.zone ≤ length (stream ps) →
    IsUpOf all up ps marks missed → IsUpOf all up (ps ++ q ∷ []) marks missed
up-push up ps q marks missed packet carries_one room is =
    record {
      packets_whole = ArePackets-push ps q is.packets_whole packet;
      of_link = of_link-push up.link ps q is.of_link carries_one;
      few = is.few;
      seen = is.seen;
      unseen = is.unseen;
      as_left =
          is.as_left ∙ sym (begun-push up.link.zone marks 0 ps q packet (omega (arith, room)));
      counts = is.counts;
    }

pub carries : (link : ChannelConfig) (count : ℕ) (pdu : List ℕ) → IsChannel link → count < 16384 → 1 ≤ length pdu → length pdu ≤ 65536 → SpellsPacket (carrying link count pdu) (packet_of link count pdu)
carries link count pdu valid low some fits =
    written_packet_is_read (carrying link count pdu) (record { apid = omega (arith, valid.apid); count = low; some = some; fits = fits })

pub carried : (link : ChannelConfig) (count : ℕ) (pdu : List ℕ) → IsChannel link → count < 16384 → 1 ≤ length pdu → length pdu ≤ 65536 →
    (packet_drop link (packet_of link count pdu) ≡ None) × (is_idle (packet_of link count pdu) ≡ false) × (drop 6 (packet_of link count pdu) ≡ pdu)
unfolding is_idle
carried link count pdu valid low some fits =
    let s : SpellsPacket (carrying link count pdu) (packet_of link count pdu) = carries link count pdu valid low some fits in
    let busy : field (packet_of link count pdu) 5 11 ≡ 2047 → ⊥ = λ (e : field (packet_of link count pdu) 5 11 ≡ 2047). omega (arith, e, s.apid, valid.apid) in
    (ours link (carrying link count pdu) (packet_of link count pdu) s refl refl refl, ne_eqb (field (packet_of link count pdu) 5 11) 2047 busy, s.body)

-- so the PDU is what it carries
pub its_pdu : (link : ChannelConfig) (count : ℕ) (pdu : List ℕ) → IsChannel link → count < 16384 → 1 ≤ length pdu → length pdu ≤ 65536 → pdus_in (busy (packet_of link count pdu ∷ [])) ≡ pdu ∷ []
its_pdu link count pdu valid low some fits =
    let c : (packet_drop link (packet_of link count pdu) ≡ None) × (is_idle (packet_of link count pdu) ≡ false) × (drop 6 (packet_of link count pdu) ≡ pdu) =
    carried link count pdu valid low some fits in
    rw (c.1) (ap (λ x. x ∷ []) c.2)
