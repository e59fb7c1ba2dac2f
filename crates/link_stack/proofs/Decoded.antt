-- The next frame of a stream, read.
use Rattle.std.proofs.Common.{◌≡◌, ℕ, ◌+◌, ◌*◌, ◌%◌, ◌<◌, ◌≤◌, ◌==◌, ◌&&◌, not, Bool, true, false, None, List, ◌++◌, length, drop, refl, sym, ap, subst, ◌∙◌, arith, length-take, length-drop, length-append}
use Rattle.std.proofs.lemmas.Bool.{eq-eqb, ne_eqb}
use Rattle.cfd_bits.specs.Field.{field}
use Rattle.cfd_bits.proofs.Fields.{length-octets}
use Rattle.aos_frame.specs.LinkFields.{is_intact, sealed}
use Rattle.aos_frame.specs.Counts.{frame_counts, CountsFrame}
use Rattle.aos_frame.specs.Frame.{IsChannel, SpellsFrame, frame_fault, frame_len, count_in, seen_in}
use Rattle.aos_frame.specs.declared.config.ChannelConfig.{ChannelConfig}
use Rattle.aos_frame.specs.declared.header.FrameHeader.{FrameHeader}
use Rattle.aos_frame.specs.declared.count.SeenCount.{SeenCount}
use Rattle.aos_frame.proofs.Spelling.{written_frame_is_read}
use Rattle.mpdu.specs.Stream.{stream, zone, first_header_pointer}
use Rattle.mpdu.specs.MpduHeader.{pointer_of, pointer_octets}
use Rattle.mpdu.proofs.NextZone.{pointer_fits, pointer_is_not_idle, written_pointer}
use Rattle.link_stack.specs.Frames.{mpdu_in, mpdu_of, frame_of}
use Rattle.link_stack.specs.Upward.{IsNextFrame, IsNextFrameOf}

pub record IsDecoded (all : Bool) (link : ChannelConfig) (ps : List (List ℕ)) (n : ℕ) (frame : List ℕ) : Type 0 where
  pub sound : frame_fault frame link ≡ None
  pub count : CountsFrame all n (seen_in frame)
  pub pointer : pointer_of (mpdu_in link frame) ≡ first_header_pointer link.zone (n * link.zone) 0 ps
  pub not_idle : (pointer_of (mpdu_in link frame) == 2046) ≡ false
  pub zone_is : drop 2 (mpdu_in link frame) ≡ zone link.zone (n * link.zone) (stream ps)
  pub size : length (drop 2 (mpdu_in link frame)) ≡ link.zone

is_whole : (check whole : Bool) → (check ≡ true → whole ≡ true) → (check && not whole) ≡ false
is_whole false whole h = refl
is_whole true true h = refl
is_whole true false h = let no = h refl in absurd cc

-- what spells a frame has no fault
pub no_fault : (link : ChannelConfig) (h : FrameHeader) (text : List ℕ) → SpellsFrame link h text → frame_fault text link ≡ None
no_fault link h text s =
    let busy : field text 10 6 ≡ 63 → ⊥ = λ (e : field text 10 6 ≡ 63). omega (arith, e, s.virtual_channel, s.carries_packets) in
    rw (
      eq-eqb (length text) (frame_len link) s.size,
      is_whole link.fields.error_control (is_intact text) s.intact,
      eq-eqb (field text 0 2) 1 s.version,
      eq-eqb (field text 40 1) 0 s.not_replayed,
      eq-eqb (field text 42 2) 0 s.two_bits,
      eq-eqb (field text 2 8) link.spacecraft (s.spacecraft ∙ s.our_spacecraft),
      ne_eqb (field text 10 6) 63 busy,
      eq-eqb (field text 10 6) link.virtual_channel (s.virtual_channel ∙ s.our_channel),
    ) refl

-- what a header that is spelled says of its count
pub seen_is : (link : ChannelConfig) (h : FrameHeader) (text : List ℕ) → SpellsFrame link h text → seen_in text ≡ record { count = h.count; cycle = h.cycle }
seen_is link h text s =
    let seen : ℕ → Bool → SeenCount = λ (n : ℕ) (b : Bool). record { count = n; cycle = b } in
    ap (λ b. seen (count_in b text) b) s.cycle ∙ ap (λ n. seen n h.cycle) s.count

long_zone : (link : ChannelConfig) (ps : List (List ℕ)) (n : ℕ) → n * link.zone + link.zone ≤ length (stream ps) → length (zone link.zone (n * link.zone) (stream ps)) ≡ link.zone
long_zone link ps n room = omega (arith, length-take link.zone (drop (n * link.zone) (stream ps)), length-drop (n * link.zone) (stream ps))

pub decoded : (all : Bool) (link : ChannelConfig) (ps : List (List ℕ)) (marks : List Bool) (frame : List ℕ) → IsChannel link → IsNextFrameOf all link ps marks frame →
    IsDecoded all link ps (length marks) frame
decoded all link ps marks frame valid next =
    let n : ℕ = length marks in
    record {
      sound = next.of_link;
      count = next.counted;
      pointer = next.zoned.pointed;
      not_idle = ap (λ k. k == 2046) next.zoned.pointed ∙ pointer_is_not_idle link.zone (n * link.zone) 0 ps valid.most_zone;
      zone_is = next.zoned.cut_out;
      size = ap (λ l. length l) next.zoned.cut_out ∙ long_zone link ps n next.zoned.inside;
    }

-- A frame that a sending end makes is one of a stream whose frames all have the flag.
pub made_is_next : (link : ChannelConfig) (ps : List (List ℕ)) (marks : List Bool) (frame : List ℕ) → IsChannel link → link.spacecraft < 256 → IsNextFrame link ps marks frame →
    IsNextFrameOf true link ps marks frame
made_is_next link ps marks frame valid byte next =
    let n : ℕ = length marks in
    let h : FrameHeader = record { spacecraft = link.spacecraft; virtual_channel = link.virtual_channel; count = n % frame_counts; cycle = true } in
    let p : ℕ = first_header_pointer link.zone (n * link.zone) 0 ps in
    let body : List ℕ = zone link.zone (n * link.zone) (stream ps) in
    let long : length body ≡ link.zone = long_zone link ps n next.inside in
    let two : length (pointer_octets p) ≡ 2 = length-octets 2 p in
    let all : length (mpdu_of link ps n) ≡ 2 + link.zone = omega (arith, length-append (pointer_octets p) body) in
    let k : ℕ = next.sealed.control in
    let read : SpellsFrame link h (sealed link.fields (frame_of link ps n) k) × (mpdu_in link (sealed link.fields (frame_of link ps n) k) ≡ mpdu_of link ps n) =
    written_frame_is_read link h (mpdu_of link ps n) k (record { spacecraft = byte; virtual_channel = valid.virtual_channel; count = omega arith }) refl refl all next.sealed.fits in
    let s : SpellsFrame link h frame = subst (SpellsFrame link h) (sym next.sealed.octets) read.0 in
    let behind : mpdu_in link frame ≡ pointer_octets p ++ body = ap (λ l. mpdu_in link l) next.sealed.octets ∙ read.1 in
    let again = written_pointer p body (pointer_fits link.zone (n * link.zone) 0 ps valid.most_zone) in
    record {
      of_link = no_fault link h frame s;
      counted = subst (λ (c : SeenCount). CountsFrame true n c) (sym (seen_is link h frame s)) (record { count = refl; cycle = λ e. e });
      zoned = record { inside = next.inside; pointed = ap (λ l. pointer_of l) behind ∙ again.0; cut_out = ap (λ l. drop 2 l) behind ∙ again.1 };
    }
