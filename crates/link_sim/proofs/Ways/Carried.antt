-- What the steps of a link do to a lane between events.
use Rattle.std.proofs.Common.{◌≡◌, ℕ, List, sym, ap, subst, ◌∙◌}
use Rattle.aos_frame.specs.Frame.{frame_len}
use Rattle.mpdu.specs.Packets.{busy}
use Rattle.link_stack.specs.Frames.{pdus_in}
use Rattle.link_stack.specs.Downward.{LinkSenderState}
use Rattle.link_stack.specs.Upward.{LinkReceiverState}
use Rattle.link_sim.specs.FrameLink.{FrameLinkState}
use Rattle.link_sim.specs.AtStation.{IsSameLink}
use Rattle.link_sim.specs.OneWay.{OneWayState, IsOneWay, IsCarried, IsRested, SendsNone, SendsMore, one_way}

-- a lane that has more buffers is the same
pub same_way : (d : LinkSenderState) (k m : FrameLinkState) (u : LinkReceiverState) → IsSameLink k m → one_way d m u ≡ one_way d k u
same_way d k m u (f, g, r, n) =
    let a : one_way d m u ≡ record { down = d; up = u; frames = k.frames; marks = m.marks; run = m.run } = ap (λ x. record { down = d; up = u; frames = x; marks = m.marks; run = m.run }) f in
    let b : record { down = d; up = u; frames = k.frames; marks = m.marks; run = m.run } ≡ record { down = d; up = u; frames = k.frames; marks = k.marks; run = m.run } =
    ap (λ x. record { down = d; up = u; frames = k.frames; marks = x; run = m.run }) g in
    a ∙ b ∙ ap (λ x. record { down = d; up = u; frames = k.frames; marks = k.marks; run = x }) r

-- room was made, packets were sent, and then frames were made of all whole zones
pub sent_on : (d e f : LinkSenderState) (k m n : FrameLinkState) (u : LinkReceiverState) (qs texts : List (List ℕ)) → IsCarried d k u → IsSameLink k m →
    SendsMore (one_way d k u) (one_way e k u) qs texts → ((up : LinkReceiverState) → IsOneWay (one_way e m up) → SendsNone (one_way e m up) (one_way f n up)) →
    e.link ≡ d.link → f.link ≡ e.link → n.len ≡ m.len → (SendsMore (one_way d k u) (one_way f n u) qs texts → IsRested (one_way f n u)) → IsCarried f n u
    × SendsMore (one_way d k u) (one_way f n u) qs texts
sent_on d e f k m n u qs texts is same more pulled link link2 len rests =
    let s : SendsMore (one_way d k u) (one_way e m u) qs texts = subst (λ (x : OneWayState). SendsMore (one_way d k u) x qs texts) (sym (same_way e k m u same)) more in
    let p : SendsNone (one_way e m u) (one_way f n u) = pulled u s.way in
    let all : SendsMore (one_way d k u) (one_way f n u) qs texts = record {
      way = p.way;
      packets = p.packets ∙ s.packets;
      pdus = ap (λ ps. pdus_in (busy ps)) p.packets ∙ s.pdus;
      delivered = p.delivered ∙ s.delivered;
    } in
    let carried : IsCarried f n u = record { way = p.way; rested = rests all; fits = len ∙ same.3 ∙ is.fits ∙ ap frame_len (sym (link2 ∙ link)) } in
    (carried, all)
