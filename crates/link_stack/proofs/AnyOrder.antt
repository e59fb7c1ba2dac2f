-- Frames in any order: each is read as in some order that could be.
use Rattle.std.proofs.Common.{◌≡◌, ℕ, zero, suc, ◌+◌, ◌*◌, ◌<◌, ◌≤◌, ◌==◌, Bool, true, false, Option, Some, None, IfSome, List, [], ◌∷◌, ◌++◌, length, take, drop, refl, sym, ap, subst, ◌∙◌, inl, inr, arith, length-append, length-take, length-drop}
use Rattle.std.proofs.lemmas.Bool.{cases_Bool}
use Rattle.aos_frame.specs.Counts.{follows}
use Rattle.aos_frame.specs.Frame.{IsChannel, seen_in}
use Rattle.aos_frame.specs.declared.config.ChannelConfig.{ChannelConfig}
use Rattle.mpdu.specs.Stream.{ArePackets, stream, zone, first_header_pointer, begun, survivors}
use Rattle.mpdu.specs.Packets.{busy}
use Rattle.mpdu.specs.Packing.{ZoneOf}
use Rattle.mpdu.specs.Parts.{IsPartOf}
use Rattle.mpdu.specs.Reading.{step, held_at}
use Rattle.mpdu.specs.Feeding.{IsNext}
use Rattle.mpdu.specs.MpduHeader.{pointer_of}
use Rattle.mpdu.proofs.NextZone.{IsReadRight, next_is_read, pointer_is_not_idle}
use Rattle.mpdu.proofs.Struck.{begun-struck, begun-none}
use Rattle.mpdu.proofs.Fewer.{survivors-busy}
use Rattle.mpdu.proofs.Parts.{part-none, part-all, part-append, part-part, part-take, part-map, part-behind}
use Rattle.link_stack.specs.declared.drops.LinkDrop.{LinkDrop}
use Rattle.link_stack.specs.Frames.{packet_drop, mpdu_in, pdus_in}
use Rattle.link_stack.specs.Upward.{LinkReceiverState, FrameRead, pdus_of, with_pdu, packets_read, frame_read, Takes, TakesFront, LaneTakes}
use Rattle.link_stack.specs.AnyOrder.{Delivery, IsFrameOf, CountsTell, IsLeft, TakesAny}
use Rattle.link_stack.proofs.Streams.{packets_are_read}

-- marks of so many frames, none of which came
abbrev pub none_came : ℕ → List Bool
none_came zero = []
none_came (suc n) = none_came n ++ false ∷ []

pub none_came-length : (n : ℕ) → length (none_came n) ≡ n
none_came-length zero = refl
none_came-length (suc n) = omega (arith, length-append (none_came n) (false ∷ []), none_came-length n)

pub none_came-begun : (z n : ℕ) (ps : List (List ℕ)) → 0 < z → ArePackets ps → begun z (none_came n) 0 ps ≡ []
none_came-begun z zero ps some whole = begun-none z ps whole
none_came-begun z (suc n) ps some whole = begun-struck z (none_came n) 0 ps some

-- Some of the frames before this one leave what is held at it.
pub record IsHeld (z : ℕ) (ps : List (List ℕ)) (n : ℕ) (held : List ℕ) : Type 0 where
  pub marks : List Bool
  pub before : length marks ≡ n
  pub left : held ≡ begun z marks 0 ps

nothing_is_held : (z n : ℕ) (ps : List (List ℕ)) (held : List ℕ) → 0 < z → ArePackets ps → held ≡ [] → IsHeld z ps n held
nothing_is_held z n ps held some whole none = record { marks = none_came n; before = none_came-length n; left = none ∙ sym (none_came-begun z n ps some whole) }

held_none : (b : Bool) (held : List ℕ) → held ≡ [] → held_at b held ≡ []
held_none true held none = none
held_none false held none = refl

pub held_before : (up : LinkReceiverState) (last : Option Delivery) (d : Delivery) → 0 < up.link.zone → ArePackets d.packets → IsLeft up last → IfSome last (λ b. CountsTell b d) →
    IsHeld up.link.zone d.packets d.number (held_at (follows up.last (seen_in d.octets)) up.begun)
held_before up None d some whole is tell =
    nothing_is_held up.link.zone d.number d.packets (held_at (follows up.last (seen_in d.octets)) up.begun) some whole (held_none (follows up.last (seen_in d.octets)) up.begun is)
held_before up (Some b) d some whole is tell =
    let f : Bool = follows up.last (seen_in d.octets) in
    let G : Type 0 = IsHeld up.link.zone d.packets d.number (held_at f up.begun) in
    let on : f ≡ true → G = λ (e : f ≡ true).
    let same = tell (ap (λ l. follows l (seen_in d.octets)) (sym is.seen) ∙ e) in
    record {
      marks = is.marks;
      before = is.up_to ∙ sym same.1;
      left = ap (λ t. held_at t up.begun) e ∙ is.held ∙ ap (λ ps. begun up.link.zone is.marks 0 ps) (sym same.0);
    } in
    let off : f ≡ false → G = λ (e : f ≡ false).
    nothing_is_held up.link.zone d.number d.packets (held_at f up.begun) some whole (ap (λ t. held_at t up.begun) e) in
    elim (cases_Bool f) [ inl e ↦ on e | inr e ↦ off e ]

part-back : {A : Type 0} (xs ys : List A) → IsPartOf ys (xs ++ ys)
part-back xs ys = part-append [] xs ys ys (part-none xs) (part-all ys)

part-with : (o : Option LinkDrop) (p : List ℕ) (xs ys : List (List ℕ)) → IsPartOf xs ys → IsPartOf (with_pdu o p xs) (drop 6 p ∷ ys)
part-with None p xs ys h = inl (refl, h)
part-with (Some cause) p xs ys h = part-behind xs (drop 6 p) ys h

pdus_part : (link : ChannelConfig) (ps : List (List ℕ)) → IsPartOf (pdus_of link ps) (pdus_in ps)
pdus_part link [] = refl
pdus_part link (p ∷ ps) = part-with (packet_drop link p) p (pdus_of link ps) (pdus_in ps) (pdus_part link ps)

-- what packets of a stream give was sent
given_part : (link : ChannelConfig) (xs ps : List (List ℕ)) → IsPartOf xs (busy ps) → IsPartOf (pdus_of link xs) (pdus_in (busy ps))
given_part link xs ps h = part-part (pdus_of link xs) (pdus_in xs) (pdus_in (busy ps)) (pdus_part link xs) (part-map (λ p. drop 6 p) xs (busy ps) h)

-- the octets of a zone of a stream
pub zone_size : (z n : ℕ) (ps : List (List ℕ)) (at : ℕ) (oct : List ℕ) → ZoneOf ps n z at oct → length oct ≡ z
zone_size z n ps at oct zo = ap (λ l. length l) zo.cut_out ∙ omega (arith, zo.inside, length-take z (drop (n * z) (stream ps)), length-drop (n * z) (stream ps))

-- A frame read: what is held then, and what it gives.
pub record IsReadSo (up : LinkReceiverState) (d : Delivery) (read : FrameRead) : Type 0 where
  pub seen : read.last ≡ Some (seen_in d.octets)
  pub marks : List Bool
  pub before : length marks ≡ d.number
  pub held : read.begun ≡ begun up.link.zone (marks ++ true ∷ []) 0 d.packets
  pub sent : IsPartOf read.packets (busy d.packets)

pub read_so : (up : LinkReceiverState) (last : Option Delivery) (d : Delivery) → IsChannel up.link → IsFrameOf up.link d → IsLeft up last → IfSome last (λ b. CountsTell b d) →
    IsReadSo up d (frame_read up d.octets)
read_so up last d valid of left tell =
    let z : ℕ = up.link.zone in
    let ps : List (List ℕ) = d.packets in
    let n : ℕ = d.number in
    let at : ℕ = pointer_of (mpdu_in up.link d.octets) in
    let oct : List ℕ = drop 2 (mpdu_in up.link d.octets) in
    let f : Bool = follows up.last (seen_in d.octets) in
    let held : List ℕ = held_at f up.begun in
    let h : IsHeld z ps n held = held_before up last d (omega (arith, valid.least_zone)) of.packets_whole left tell in
    let m : List Bool = h.marks in
    let size : length oct ≡ z = zone_size z n ps at oct of.zoned in
    let P : ℕ → Type 0 = λ (k : ℕ). (held ≡ begun k m 0 ps) × (length m * k + k ≤ length (stream ps)) × (at ≡ first_header_pointer k (length m * k) 0 ps)
    × (oct ≡ zone k (length m * k) (stream ps)) in
    let Q : ℕ → Type 0 = λ (i : ℕ). (i * z + z ≤ length (stream ps)) × (at ≡ first_header_pointer z (i * z) 0 ps) × (oct ≡ zone z (i * z) (stream ps)) in
    let there : Q (length m) = subst Q (sym h.before) (of.zoned.inside, of.zoned.pointed, of.zoned.cut_out) in
    let at_z : P z = (h.left, there.0, there.1, there.2) in
    let at_len : P (length oct) = subst P (sym size) at_z in
    let next : IsNext ps m held at oct = record { packets_whole = of.packets_whole; as_left = at_len.0; inside = at_len.1; pointed = at_len.2; cut_out = at_len.3 } in
    let lo : 6 ≤ length oct = omega (arith, size, valid.least_zone) in
    let hi : length oct ≤ 2040 = omega (arith, size, valid.most_zone) in
    let fed : IsReadRight ps m up.begun f at oct = next_is_read ps m up.begun f at oct lo hi next in
    let out : List (List ℕ) = (step (length oct) held at oct).out in
    let given : survivors z (m ++ true ∷ []) 0 ps ≡ survivors z m 0 ps ++ out =
    subst (λ (k : ℕ). survivors k (m ++ true ∷ []) 0 ps ≡ survivors k m 0 ps ++ out) size fed.given in
    let all : IsPartOf (survivors z m 0 ps ++ out) (busy ps) = subst (λ (l : List (List ℕ)). IsPartOf l (busy ps)) given (survivors-busy z (m ++ true ∷ []) 0 ps) in
    let zoned : IsReadSo up d (packets_read (Some (seen_in d.octets)) up.begun f at oct) =
    record {
      seen = refl;
      marks = m;
      before = h.before;
      held = fed.left ∙ ap (λ k. begun k (m ++ true ∷ []) 0 ps) size;
      sent = part-part out (survivors z m 0 ps ++ out) (busy ps) (part-back (survivors z m 0 ps) out) all;
    } in
    let busy_zone : (at == 2046) ≡ false = ap (λ k. k == 2046) of.zoned.pointed ∙ pointer_is_not_idle z (n * z) 0 ps valid.most_zone in
    subst (λ (r : FrameRead). IsReadSo up d r) (sym (packets_are_read up d.octets of.of_link busy_zone)) zoned

takes_all : (up new : LinkReceiverState) (d : Delivery) (old out : List (List ℕ)) → IsReadSo up d (frame_read up d.octets) → Takes (frame_read up d.octets) up new old out →
    TakesAny up new d old out
takes_all up new d old out r t =
    record {
      link = t.link;
      after = record {
        seen = t.last ∙ r.seen;
        marks = r.marks ++ true ∷ [];
        up_to = omega (arith, length-append r.marks (true ∷ []), r.before);
        held = t.begun ∙ r.held ∙ ap (λ (l : ChannelConfig). begun l.zone (r.marks ++ true ∷ []) 0 d.packets) (sym t.link);
      };
      given = pdus_of up.link (frame_read up d.octets).packets;
      appended = t.pdus;
      sent = given_part up.link (frame_read up d.octets).packets d.packets r.sent;
    }

takes_some : (up new : LinkReceiverState) (d : Delivery) (old out : List (List ℕ)) → 0 < up.link.zone → IsReadSo up d (frame_read up d.octets) → TakesFront (frame_read up d.octets) up new old out →
    TakesAny up new d old out
takes_some up new d old out some r t =
    let packets : List (List ℕ) = (frame_read up d.octets).packets in
    let front : IsPartOf (take t.count packets) (busy d.packets) = part-part (take t.count packets) packets (busy d.packets) (part-take t.count packets) r.sent in
    record {
      link = t.link;
      after = record {
        seen = t.last ∙ r.seen;
        marks = r.marks ++ false ∷ [];
        up_to = omega (arith, length-append r.marks (false ∷ []), r.before);
        held = t.begun ∙ sym (begun-struck up.link.zone r.marks 0 d.packets some) ∙ ap (λ (l : ChannelConfig). begun l.zone (r.marks ++ false ∷ []) 0 d.packets) (sym t.link);
      };
      given = pdus_of up.link (take t.count packets);
      appended = t.pdus;
      sent = given_part up.link (take t.count packets) d.packets front;
    }

pub takes_any : (up new : LinkReceiverState) (last : Option Delivery) (d : Delivery) (old out : List (List ℕ)) → IsChannel up.link → IsFrameOf up.link d → IsLeft up last →
    IfSome last (λ b. CountsTell b d) → LaneTakes d.octets up new old out → TakesAny up new d old out
takes_any up new last d old out valid of left tell l =
    let r : IsReadSo up d (frame_read up d.octets) = read_so up last d valid of left tell in
    elim l.takes [
      | inl t ↦ takes_all up new d old out r t
      | inr t ↦ takes_some up new d old out (omega (arith, valid.least_zone)) r t.1
    ]
