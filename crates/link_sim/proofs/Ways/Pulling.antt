-- A frame is made of what waits.
use Rattle.std.proofs.Common.{◌≡◌, ℕ, ◌+◌, ◌-◌, ◌*◌, ◌<◌, ◌≤◌, List, [], ◌∷◌, ◌++◌, length, take, drop, map, get_or, refl, sym, ap, subst, ◌∙◌, inl, inr, arith, length-append}
use Rattle.std.proofs.lemmas.Bool.{cases_lt}
use Rattle.std.proofs.lemmas.List.{map-append, append_assoc, take-append-drop}
use Rattle.std.proofs.Math.ListN.{get_or-append}
use Rattle.std.proofs.Math.Seq.{get_or-append_seam}
use Rattle.aos_frame.specs.Frame.{IsChannel}
use Rattle.aos_frame.specs.declared.config.ChannelConfig.{ChannelConfig}
use Rattle.mpdu.specs.Stream.{stream, survivors}
use Rattle.mpdu.proofs.Later.{stream-push}
use Rattle.link_stack.specs.Frames.{pdus_in, zone_in}
use Rattle.link_stack.specs.Downward.{LinkSenderState, IsDown, sealed_frame}
use Rattle.link_sim.specs.OneWay.{OneWayState, zones_of, octets_sent, packets_sent, IsOneWayOf, IsOneWay, SendsNone}
use Rattle.link_sim.proofs.Ways.Sending.{SameChannel, sealed-same, spells, way_is}

pub zones-push : (link : ChannelConfig) (frames : List (List ℕ)) (f : List ℕ) → zones_of link (frames ++ f ∷ []) ≡ zones_of link frames ++ zone_in link f
zones-push link frames f = ap stream (map-append (λ x. zone_in link x) frames (f ∷ [])) ∙ stream-push (map (λ x. zone_in link x) frames) (zone_in link f)

pub pulls : (l : OneWayState) (d : LinkSenderState) (frame : List ℕ) → IsOneWay l →
    (frame ≡ sealed_frame l.down (packets_sent l) (length l.frames)) × (length l.frames * l.down.link.zone + l.down.link.zone ≤ length (stream (packets_sent l)))
    × IsDown d (packets_sent l) (length l.frames + 1) → zone_in l.down.link frame ≡ take l.down.link.zone l.down.waiting →
    d.waiting ≡ drop l.down.link.zone l.down.waiting → SameChannel d l.down → SendsNone l (record l { down = d; frames = l.frames ++ frame ∷ [] })
pulls l d frame is (text, inside, down) cut rest channel =
    let link : d.link ≡ l.down.link = channel.0 in
    let ps : List (List ℕ) = packets_sent l in
    let n : ℕ = length l.frames in
    let z : ℕ = l.down.link.zone in
    let w : List ℕ = l.down.waiting in
    let new : OneWayState = record l { down = d; frames = l.frames ++ frame ∷ [] } in
    let more : length (l.frames ++ frame ∷ []) ≡ n + 1 = length-append l.frames (frame ∷ []) in
    let before_all : List ℕ = zones_of l.down.link l.frames in
    let same : octets_sent new ≡ octets_sent l =
    ap (λ (c : ChannelConfig). zones_of c (l.frames ++ frame ∷ []) ++ d.waiting) link
    ∙ ap (λ x. x ++ d.waiting) (zones-push l.down.link l.frames frame ∙ ap (λ x. before_all ++ x) cut) ∙ ap (λ x. (before_all ++ take z w) ++ x) rest
    ∙ append_assoc before_all (take z w) (drop z w) ∙ ap (λ x. before_all ++ x) (take-append-drop z w) in
    let each : (k : ℕ) → k < length (l.frames ++ frame ∷ []) → get_or (l.frames ++ frame ∷ []) k [] ≡ sealed_frame d ps k = λ (k : ℕ) (h : k < length (l.frames ++ frame ∷ [])).
    let before : k < n → get_or (l.frames ++ frame ∷ []) k [] ≡ sealed_frame d ps k = λ (b : k < n).
    get_or-append l.frames (frame ∷ []) [] k b ∙ is.sent.frames k b ∙ sym (sealed-same d l.down ps k channel) in
    let last : n ≤ k → get_or (l.frames ++ frame ∷ []) k [] ≡ sealed_frame d ps k = λ (b : n ≤ k).
    let here : k ≡ n = omega arith in
    ap (λ x. get_or (l.frames ++ frame ∷ []) x []) here ∙ get_or-append_seam l.frames frame [] [] ∙ text ∙ sym (sealed-same d l.down ps n channel) ∙ ap (λ x. sealed_frame d ps x) (sym here) in
    elim (cases_lt k n) [ inl b ↦ before b | inr b ↦ last b ] in
    let after : IsOneWayOf new ps = record {
      same_link = is.same_link ∙ sym link;
      sent = record {
        valid = subst IsChannel (sym link) is.sent.valid;
        made = subst (λ k. IsDown d ps k) (sym more) down;
        frames = each;
        fits = omega (arith, channel.1, is.sent.fits);
        octets = same ∙ is.sent.octets;
        taken = omega (arith, is.sent.taken);
      };
      received = is.received;
    } in
    record { way = way_is new ps after; packets = spells new ps after; delivered = ap (λ x. pdus_in (survivors l.up.link.zone l.marks 0 x)) (spells new ps after) }

pub pulled_none : (l : OneWayState) → IsOneWay l → SendsNone l l
pulled_none l is = record { way = is; packets = refl; delivered = refl }

pub pulled_more : (l m n : OneWayState) → SendsNone l m → SendsNone m n → SendsNone l n
pulled_more l m n p q = record { way = q.way; packets = q.packets ∙ p.packets; delivered = q.delivered ∙ p.delivered }

-- one buffer fewer, and one zone
pub one_less : (w z m n y after : ℕ) → after ≡ w - z → n + 1 ≡ m → y ≡ z → w < m * z + z → after < n * y + y
one_less w z m n y after e more same h =
    let one : m * z ≡ n * z + z = ap (λ k. k * z) (sym more) ∙ (let f : (n + 1) * z ≡ n * z + z = omega arith in f) in
    let goal : after < n * z + z = elim (cases_lt w z) [ inl c ↦ omega (arith, e, one, h, c) | inr c ↦ omega (arith, e, one, h, c) ] in
    subst (λ k. after < n * k + k) (sym same) goal
