-- The frames of a stream, taken in order.
use Rattle.std.proofs.Common.{◌≡◌, ◌≢◌, slice_index_or, ℕ, zero, suc, ◌+◌, ◌*◌, ◌<◌, ◌≤◌, ◌==◌, ◌&&◌, not, if◌then◌else◌, Bool, true, false, Option, Some, None, IfSome, List, [], ◌∷◌, ◌++◌, ◌⊎◌, length, take, drop, refl, sym, ap, subst, ◌∙◌, inl, inr, arith, length-append}
use Rattle.std.proofs.lemmas.Bool.{cases_Bool}
use Rattle.std.proofs.lemmas.List.{map-append, length-set, get_or-set_same, get_or-set_other}
use Rattle.aos_frame.specs.Counts.{follows, CountsFrame}
use Rattle.aos_frame.specs.Frame.{IsChannel, frame_fault, seen_in}
use Rattle.aos_frame.specs.declared.count.SeenCount.{SeenCount}
use Rattle.aos_frame.specs.declared.config.ChannelConfig.{ChannelConfig}
use Rattle.mpdu.specs.Stream.{ArePackets, stream, zone, first_header_pointer, begun, survivors, arrived, keep, is_idle}
use Rattle.mpdu.specs.Reading.{step, held_at, resync, bad_count, is_some}
use Rattle.mpdu.specs.Feeding.{IsNext}
use Rattle.mpdu.specs.MpduHeader.{pointer_of}
use Rattle.mpdu.proofs.NextZone.{IsReadRight, next_is_read}
use Rattle.mpdu.proofs.Struck.{begun-struck}
use Rattle.link_stack.specs.declared.drops.LinkDrop.TheVariants.{NoMemory}
use Rattle.link_stack.specs.Frames.{packet_drop, mpdu_in, AreOfLink, pdus_in}
use Rattle.cfd_bits.specs.Counting.{raised}
use Rattle.link_stack.specs.Drops.{counted, all_counted, count_of}
use Rattle.link_stack.specs.Upward.{LinkReceiverState, FrameRead, pdus_of, drops_of, with_pdu, with_drop, zone_drops, idle_read, packets_read, read_unless, frame_read, Takes, TakesFront, HasZone, IsUpOf, IsUp, IsNextFrame, IsNextFrameOf, TakesNextOf, TakesNextFrontOf, TakesNext, TakesNextFront, LaneTakes, control_after}
use Rattle.link_stack.proofs.Decoded.{IsDecoded, decoded, made_is_next}
use Rattle.link_stack.proofs.Grown.{some_counts}
use Rattle.mpdu.proofs.Following.{held_follows}

-- How the count of drops by 11 changes.
resync_length : (counts : List ℕ) (b : Bool) → length (all_counted counts (zone_drops b 0)) ≡ length counts
unfolding counted
resync_length counts true = length-set counts 6 (raised (slice_index_or counts 6 0))
resync_length counts false = refl

resync_keeps : (counts : List ℕ) (b : Bool) → count_of (all_counted counts (zone_drops b 0)) 11 ≡ count_of counts 11
unfolding counted
resync_keeps counts true =
    let other : 10 ≢ 6 = λ (e : 10 ≡ 6). omega (arith, e) in
    get_or-set_other counts 6 10 (raised (slice_index_or counts 6 0)) 0 other
resync_keeps counts false = refl

no_memory_length : (counts : List ℕ) → length (counted counts NoMemory) ≡ length counts
unfolding counted
no_memory_length counts = length-set counts 10 (raised (slice_index_or counts 10 0))

no_memory_told : (counts new : List ℕ) → length counts ≡ 12 → new ≡ counted counts NoMemory → 1 ≤ count_of new 11
unfolding counted
no_memory_told counts new size e =
    let lt : 10 < length counts = omega arith in
    let told : count_of new 11 ≡ raised (slice_index_or counts 10 0) = ap (λ l. count_of l 11) e ∙ get_or-set_same counts 10 (raised (slice_index_or counts 10 0)) 0 lt in
    omega (arith, told)

-- packets that all carry a PDU of the link
abbrev pub AreOurs : ChannelConfig → List (List ℕ) → Type 0
AreOurs link [] = Unit {0}
AreOurs link (p ∷ ps) = (packet_drop link p ≡ None) × AreOurs link ps

ours-keep : (link : ChannelConfig) (b : Bool) (p : List ℕ) (ps : List (List ℕ)) → ((is_idle p ≡ true) ⊎ (packet_drop link p ≡ None)) → AreOurs link ps → AreOurs link (keep (b && not (is_idle p)) p ps)
ours-keep link false p ps is all = all
ours-keep link true p ps (inr e) all =
    elim (cases_Bool (is_idle p)) [ inl f ↦ rw f all | inr f ↦ rw f (e, all) ]
ours-keep link true p ps (inl e) all = rw e all

pub ours_survive : (link : ChannelConfig) (z : ℕ) (marks : List Bool) (a : ℕ) (ps : List (List ℕ)) → AreOfLink link ps → AreOurs link (survivors z marks a ps)
ours_survive link z marks a [] all = tt
ours_survive link z marks a (p ∷ ps) all =
    ours-keep link (arrived z 0 marks a (a + length p)) p (survivors z marks (a + length p) ps) all.0 (ours_survive link z marks (a + length p) ps all.1)

ours-behind : (link : ChannelConfig) (xs ys : List (List ℕ)) → AreOurs link (xs ++ ys) → AreOurs link ys
ours-behind link [] ys all = all
ours-behind link (x ∷ xs) ys all = ours-behind link xs ys all.1

ours-take : (link : ChannelConfig) (n : ℕ) (xs : List (List ℕ)) → AreOurs link xs → AreOurs link (take n xs)
ours-take link zero xs all = tt
ours-take link (suc n) [] all = tt
ours-take link (suc n) (x ∷ xs) all = (all.0, ours-take link n xs all.1)

pdus-all : (link : ChannelConfig) (ps : List (List ℕ)) → AreOurs link ps → pdus_of link ps ≡ pdus_in ps
pdus-all link [] all = refl
pdus-all link (p ∷ ps) all = ap (λ o. with_pdu o p (pdus_of link ps)) all.0 ∙ ap (λ l. drop 6 p ∷ l) (pdus-all link ps all.1)

drops-none : (link : ChannelConfig) (ps : List (List ℕ)) → AreOurs link ps → drops_of link ps ≡ []
drops-none link [] all = refl
drops-none link (p ∷ ps) all = ap (λ o. with_drop o (drops_of link ps)) all.0 ∙ drops-none link ps all.1

-- a frame of the link with packets in its zone
pub packets_are_read : (up : LinkReceiverState) (frame : List ℕ) → frame_fault frame up.link ≡ None → (pointer_of (mpdu_in up.link frame) == 2046) ≡ false →
    frame_read up frame ≡ packets_read (Some (seen_in frame)) up.begun (follows up.last (seen_in frame)) (pointer_of (mpdu_in up.link frame)) (drop 2 (mpdu_in up.link frame))
packets_are_read up frame sound busy =
    let count : SeenCount = seen_in frame in
    ap (λ e. read_unless e up frame) sound ∙ ap (λ b. if b then idle_read count
    else packets_read (Some count) up.begun (follows up.last count) (pointer_of (mpdu_in up.link frame)) (drop 2 (mpdu_in up.link frame))) busy

-- what is read of it
pub record IsRight (all : Bool) (up : LinkReceiverState) (ps : List (List ℕ)) (marks : List Bool) (missed : ℕ) (read : FrameRead) : Type 0 where
  pub last : SeenCount
  pub seen : read.last ≡ Some last
  pub counted : CountsFrame all (length marks) last
  pub held : read.begun ≡ begun up.link.zone (marks ++ true ∷ []) 0 ps
  pub given : survivors up.link.zone (marks ++ true ∷ []) 0 ps ≡ survivors up.link.zone marks 0 ps ++ read.packets
  pub ours : AreOurs up.link read.packets
  pub told : read.told ≡ zone_drops (not (missed == 0) && is_some up.begun) 0

pub right : (all : Bool) (up : LinkReceiverState) (ps : List (List ℕ)) (marks : List Bool) (missed : ℕ) (frame : List ℕ) → IsChannel up.link → IsUpOf all up ps marks missed → ArePackets ps →
    length marks * up.link.zone + up.link.zone ≤ length (stream ps) →
    IsDecoded all up.link ps (length marks) frame → IsRight all up ps marks missed (frame_read up frame)
right all up ps marks missed frame valid is whole room d =
    let z : ℕ = up.link.zone in
    let n : ℕ = length marks in
    let at : ℕ = pointer_of (mpdu_in up.link frame) in
    let oct : List ℕ = drop 2 (mpdu_in up.link frame) in
    let f : Bool = follows up.last (seen_in frame) in
    let held : List ℕ = held_at f up.begun in
    let told = held_follows all up.last (seen_in frame) n missed up.begun is.few is.seen is.unseen d.count in
    let P : ℕ → Type 0 = λ (k : ℕ). (held ≡ begun k marks 0 ps) × (n * k + k ≤ length (stream ps)) × (at ≡ first_header_pointer k (n * k) 0 ps) × (oct ≡ zone k (n * k) (stream ps)) in
    let at_z : P z = (told.0 ∙ is.as_left, room, d.pointer, d.zone_is) in
    let at_len : P (length oct) = subst P (sym d.size) at_z in
    let next : IsNext ps marks held at oct = record { packets_whole = whole; as_left = at_len.0; inside = at_len.1; pointed = at_len.2; cut_out = at_len.3 } in
    let lo : 6 ≤ length oct = omega (arith, d.size, valid.least_zone) in
    let hi : length oct ≤ 2040 = omega (arith, d.size, valid.most_zone) in
    let fed : IsReadRight ps marks up.begun f at oct = next_is_read ps marks up.begun f at oct lo hi next in
    let given : survivors z (marks ++ true ∷ []) 0 ps ≡ survivors z marks 0 ps ++ (step (length oct) held at oct).out =
    subst (λ (k : ℕ). survivors k (marks ++ true ∷ []) 0 ps ≡ survivors k marks 0 ps ++ (step (length oct) held at oct).out) d.size fed.given in
    let ours : AreOurs up.link (step (length oct) held at oct).out =
    ours-behind up.link (survivors z marks 0 ps) (step (length oct) held at oct).out
    (subst (λ (l : List (List ℕ)). AreOurs up.link l) given (ours_survive up.link z (marks ++ true ∷ []) 0 ps is.of_link)) in
    let tells : zone_drops (resync (length oct) up.begun f at oct) (bad_count (length oct) held at oct) ≡ zone_drops (not (missed == 0) && is_some up.begun) 0 =
    ap (λ b. zone_drops b (bad_count (length oct) held at oct)) (fed.resync ∙ told.1)
    ∙ ap (λ k. zone_drops (not (missed == 0) && is_some up.begun) k) fed.bad in
    let zoned : IsRight all up ps marks missed (packets_read (Some (seen_in frame)) up.begun f at oct) =
    record { last = seen_in frame; seen = refl; counted = d.count; held = fed.left ∙ ap (λ k. begun k (marks ++ true ∷ []) 0 ps) d.size; given = given; ours = ours; told = tells } in
    subst (λ (r : FrameRead). IsRight all up ps marks missed r) (sym (packets_are_read up frame d.sound d.not_idle)) zoned

seen_last : (all : Bool) (last : Option SeenCount) (l : SeenCount) (marks : List Bool) (b : Bool) → last ≡ Some l → CountsFrame all (length marks) l →
    IfSome last (λ l. (n : ℕ) × CountsFrame all n l × (length (marks ++ b ∷ []) ≡ n + 1 + 0))
seen_last all last l marks b e counted =
    rw e (length marks, counted, omega (arith, length-append marks (b ∷ [])))

pub next_taken : (all : Bool) (up new : LinkReceiverState) (ps : List (List ℕ)) (marks : List Bool) (missed : ℕ) (frame : List ℕ) (old out : List (List ℕ)) → IsUpOf all up ps marks missed →
    IsRight all up ps marks missed (frame_read up frame) →
    Takes (frame_read up frame) up new old out → TakesNextOf all up new ps marks missed old out
next_taken all up new ps marks missed frame old out is r t =
    let packets = (frame_read up frame).packets in
    let known : new.last ≡ Some r.last = t.last ∙ r.seen in
    let b : Bool = not (missed == 0) && is_some up.begun in
    let shown : new.drops ≡ all_counted up.drops (zone_drops b 0) =
    t.drops ∙ ap (λ l. all_counted (all_counted up.drops (frame_read up frame).told) l) (drops-none up.link packets r.ours) ∙ ap (λ l. all_counted up.drops l) r.told in
    record {
      after = record {
        packets_whole = is.packets_whole;
        of_link = subst (λ (l : ChannelConfig). AreOfLink l ps) (sym t.link) is.of_link;
        few = some_counts all;
        seen = seen_last all new.last r.last marks true known r.counted;
        unseen = λ (none : new.last ≡ None). absurd (let bad : Some r.last ≡ None = sym known ∙ none in cc);
        counts = ap (λ l. length l) shown ∙ resync_length up.drops b ∙ is.counts;
        as_left = t.begun ∙ r.held ∙ ap (λ (l : ChannelConfig). begun l.zone (marks ++ true ∷ []) 0 ps) (sym t.link);
      };
      added = packets;
      completed = r.given;
      pdus = t.pdus ∙ ap (λ l. old ++ l) (pdus-all up.link packets r.ours);
      drops = shown;
      link = t.link;
      memory = ap (λ l. count_of l 11) shown ∙ resync_keeps up.drops b;
    }

pub part_taken : (all : Bool) (up new : LinkReceiverState) (ps : List (List ℕ)) (marks : List Bool) (missed : ℕ) (frame : List ℕ) (old out : List (List ℕ)) → 0 < up.link.zone →
    IsUpOf all up ps marks missed → IsRight all up ps marks missed (frame_read up frame) →
    TakesFront (frame_read up frame) up new old out → TakesNextFrontOf all up new ps marks old out
part_taken all up new ps marks missed frame old out some is r t =
    let packets = (frame_read up frame).packets in
    let n : ℕ = t.count in
    let known : new.last ≡ Some r.last = t.last ∙ r.seen in
    let ours : AreOurs up.link (take n packets) = ours-take up.link n packets r.ours in
    let lost : new.drops ≡ counted up.drops NoMemory = t.drops ∙ ap (λ l. all_counted (counted up.drops NoMemory) l) (drops-none up.link (take n packets) ours) in
    record {
      after = record {
        packets_whole = is.packets_whole;
        of_link = subst (λ (l : ChannelConfig). AreOfLink l ps) (sym t.link) is.of_link;
        few = some_counts all;
        seen = seen_last all new.last r.last marks false known r.counted;
        unseen = λ (none : new.last ≡ None). t.begun;
        counts = ap (λ l. length l) lost ∙ no_memory_length up.drops ∙ is.counts;
        as_left = t.begun ∙ sym (begun-struck up.link.zone marks 0 ps some) ∙ ap (λ (l : ChannelConfig). begun l.zone (marks ++ false ∷ []) 0 ps) (sym t.link);
      };
      added = packets;
      completed = r.given;
      some = t.some;
      count = n;
      pdus = t.pdus ∙ ap (λ l. old ++ l) (pdus-all up.link (take n packets) ours);
      drops = lost;
      link = t.link;
      memory = no_memory_told up.drops new.drops is.counts lost;
    }

-- whichever it was
pub taken_either : (all : Bool) (whole : Bool) (up new : LinkReceiverState) (ps : List (List ℕ)) (marks : List Bool) (missed : ℕ) (frame : List ℕ) (old out : List (List ℕ)) → IsChannel up.link →
    IsUpOf all up ps marks missed → IsNextFrameOf all up.link ps marks frame →
    (whole ≡ true → Takes (frame_read up frame) up new old out) → (whole ≡ false → HasZone up.link frame × TakesFront (frame_read up frame) up new old out) →
    TakesNextOf all up new ps marks missed old out ⊎ TakesNextFrontOf all up new ps marks old out
taken_either all whole up new ps marks missed frame old out valid is next whole_is front =
    let d : IsDecoded all up.link ps (length marks) frame = decoded all up.link ps marks frame valid next in
    let r : IsRight all up ps marks missed (frame_read up frame) = right all up ps marks missed frame valid is is.packets_whole next.zoned.inside d in
    elim (cases_Bool whole) [
      | inl e ↦ inl (next_taken all up new ps marks missed frame old out is r (whole_is e))
      | inr e ↦ inr (part_taken all up new ps marks missed frame old out (omega (arith, valid.least_zone)) is r (front e).1)
    ]

-- what an `out` has that was empty
pub all_given : (all : Bool) (up new : LinkReceiverState) (ps : List (List ℕ)) (marks : List Bool) (missed : ℕ) (old out : List (List ℕ)) → old ≡ [] →
    TakesNextOf all up new ps marks missed old out ⊎ TakesNextFrontOf all up new ps marks old out →
    (pdus_in (survivors up.link.zone (marks ++ true ∷ []) 0 ps) ≡ pdus_in (survivors up.link.zone marks 0 ps) ++ out) ⊎ (new.drops ≡ counted up.drops NoMemory)
all_given all up new ps marks missed old out none (inl t) =
    let before : List (List ℕ) = survivors up.link.zone marks 0 ps in
    let given : out ≡ pdus_in t.added = t.pdus ∙ ap (λ l. l ++ pdus_in t.added) none in
    inl (ap pdus_in t.completed ∙ map-append (λ p. drop 6 p) before t.added ∙ ap (λ l. pdus_in before ++ l) (sym given))
all_given all up new ps marks missed old out none (inr t) = inr t.drops

-- all that a frame does to its lane
pub lane_takes : (whole : Bool) (up new : LinkReceiverState) (frame : List ℕ) (old out : List (List ℕ)) → IsChannel up.link → up.link.spacecraft < 256 → new.control ≡ control_after up frame →
    (whole ≡ true → Takes (frame_read up frame) up new old out) → (whole ≡ false → HasZone up.link frame × TakesFront (frame_read up frame) up new old out) →
    LaneTakes frame up new old out
lane_takes whole up new frame old out valid byte control whole_is front =
    let others : (all : Bool) (ps : List (List ℕ)) (marks : List Bool) (missed : ℕ) → IsUpOf all up ps marks missed → IsNextFrameOf all up.link ps marks frame →
    TakesNextOf all up new ps marks missed old out ⊎ TakesNextFrontOf all up new ps marks old out =
    λ all ps marks missed is next. taken_either all whole up new ps marks missed frame old out valid is next whole_is front in
    let next : (ps : List (List ℕ)) (marks : List Bool) (missed : ℕ) → IsUp up ps marks missed → IsNextFrame up.link ps marks frame →
    TakesNext up new ps marks missed old out ⊎ TakesNextFront up new ps marks old out =
    λ ps marks missed is made. others true ps marks missed is (made_is_next up.link ps marks frame valid byte made) in
    record {
      takes = elim (cases_Bool whole) [ inl e ↦ inl (whole_is e) | inr e ↦ inr (front e) ];
      next = next;
      others = others;
      delivered = λ ps marks missed is made none. all_given true up new ps marks missed old out none (next ps marks missed is made);
      control = control;
    }
