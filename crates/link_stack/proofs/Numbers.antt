-- Frames by their numbers: what the counts show, and packets sent later.
use Rattle.std.proofs.Common.{◌≡◌, ℕ, ◌+◌, ◌*◌, ◌%◌, ◌<◌, ◌≤◌, max, Bool, true, false, Some, List, [], ◌∷◌, length, refl, sym, ap, ◌∙◌, arith, length-append}
use Rattle.std.proofs.lemmas.Bool.{eq-eqb, eqb-true}
use Rattle.aos_frame.specs.Counts.{frame_counts, counts_of, compared, follows, with_cycle}
use Rattle.aos_frame.specs.Frame.{seen_in}
use Rattle.aos_frame.specs.declared.config.ChannelConfig.{ChannelConfig}
use Rattle.aos_frame.specs.declared.count.SeenCount.{SeenCount}
use Rattle.mpdu.specs.Stream.{IsPacket, stream}
use Rattle.mpdu.proofs.Later.{ArePackets-push, stream-push, begun-push, zone-push, pointer-push}
use Rattle.link_stack.specs.Upward.{LinkReceiverState}
use Rattle.link_stack.specs.AnyOrder.{Delivery, IsFrameOf, IsLeftBy, CountsTell, AreCounted, grown}
use Rattle.link_stack.specs.EndToEnd.{AreNear, AreInWindow}

-- ---- what the counts show
told_next : (all a b : Bool) (l t n m : ℕ) → (all ≡ true → a ≡ true) → (all ≡ true → b ≡ true) → l ≡ n % counts_of a → t ≡ m % counts_of b → m ≤ n + counts_of all → n + 1 < m + counts_of all →
    (l + 1) % compared a b ≡ t % compared a b → m ≡ n + 1
told_next true true true l t n m f g e k front behind same = omega arith
told_next true false b l t n m f g e k front behind same = absurd (let bad : false ≡ true = f refl in cc)
told_next true true false l t n m f g e k front behind same = absurd (let bad : false ≡ true = g refl in cc)
told_next false true true l t n m f g e k front behind same = omega arith
told_next false true false l t n m f g e k front behind same = omega arith
told_next false false true l t n m f g e k front behind same = omega arith
told_next false false false l t n m f g e k front behind same = omega arith

pub numbers_tell : (all : Bool) (before after : Delivery) → AreCounted all before after → CountsTell before after
numbers_tell all before after c follow =
    let l : SeenCount = seen_in before.octets in
    let t : SeenCount = seen_in after.octets in
    let k : ℕ = compared l.cycle t.cycle in
    let next : after.number ≡ before.number + 1 =
    told_next all l.cycle t.cycle l.count t.count before.number after.number c.first.cycle c.second.cycle c.first.count c.second.count c.within.in_front c.within.behind
    (eqb-true ((l.count + 1) % k) (t.count % k) follow) in
    (c.apart next, next)

-- the first frame beyond
pub beyond_next : (n : ℕ) → follows (Some (with_cycle (n % frame_counts))) (with_cycle ((n + 1 + frame_counts) % frame_counts)) ≡ true
beyond_next n = eq-eqb ((n % frame_counts + 1) % frame_counts) ((n + 1 + frame_counts) % frame_counts % frame_counts) (omega arith)

pub before_next : (n : ℕ) → follows (Some (with_cycle ((n + frame_counts) % frame_counts))) (with_cycle ((n + 1) % frame_counts)) ≡ true
before_next n = eq-eqb (((n + frame_counts) % frame_counts + 1) % frame_counts) ((n + 1) % frame_counts % frame_counts) (omega arith)

-- ---- windows

pub window_near : (late ahead newest last : ℕ) (ns : List ℕ) → late + ahead ≤ frame_counts + 1 → late < frame_counts → last ≤ newest → newest < last + late → AreInWindow late ahead newest ns →
    AreNear (Some last) ns
window_near late ahead newest last [] sum few le lt h = tt
window_near late ahead newest last (n ∷ ns) sum few le lt h = (
  record { in_front = omega (arith, h.0, h.1); behind = omega (arith, h.0, h.1) },
  window_near late ahead (max newest n) n ns sum few (omega arith) (omega (arith, h.0)) h.2,
)

-- ---- packets sent later
pub frame_grown : (link : ChannelConfig) (d : Delivery) (q : List ℕ) → IsPacket q → IsFrameOf link d → IsFrameOf link (grown q d)
frame_grown link d q packet of =
    let z : ℕ = link.zone in
    let e : ℕ = d.number * z in
    let room : e + z ≤ length (stream d.packets) = of.zoned.inside in
    record {
      packets_whole = ArePackets-push d.packets q of.packets_whole packet;
      of_link = of.of_link;
      zoned = record {
        inside = omega (arith, room, ap length (stream-push d.packets q), length-append (stream d.packets) q);
        pointed = of.zoned.pointed ∙ sym (pointer-push z e 0 d.packets q (omega (arith, room)));
        cut_out = of.zoned.cut_out ∙ sym (zone-push z e d.packets q room);
      };
    }

pub left_grown : (up : LinkReceiverState) (d : Delivery) (q : List ℕ) → IsPacket q → d.number * up.link.zone + up.link.zone ≤ length (stream d.packets) → IsLeftBy up d → IsLeftBy up (grown q d)
left_grown up d q packet room is =
    let z : ℕ = up.link.zone in
    let ends : length is.marks * z ≡ d.number * z + z = ap (λ n. n * z) is.up_to ∙ omega arith in
    record {
      seen = is.seen;
      marks = is.marks;
      up_to = is.up_to;
      held = is.held ∙ sym (begun-push z is.marks 0 d.packets q packet (omega (arith, ends, room)));
    }
