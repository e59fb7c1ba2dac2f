-- From the calls of a sending end to what comes up at the other.
use Rattle.std.proofs.Common.{◌≡◌, ℕ, zero, suc, ◌+◌, ◌*◌, ◌<◌, ◌≤◌, not, Bool, true, false, Option, Some, None, IfSome, List, [], ◌∷◌, ◌++◌, ◌⊎◌, length, drop, map, slice_index_or, refl, sym, ap, subst, ◌∙◌, inl, inr, arith, length-append}
use Rattle.std.specs.List.{Contains}
use Rattle.std.proofs.lemmas.Bool.{cases_lt}
use Rattle.std.proofs.lemmas.List.{append_assoc, append-nil, map-append, get_or_append_left, get_or-append-add, drop_all}
use Rattle.aos_frame.specs.Counts.{CountsFrame}
use Rattle.aos_frame.specs.Frame.{IsChannel, IsLink, frame_fault, lane_channel, seen_in}
use Rattle.aos_frame.specs.declared.config.ChannelConfig.{ChannelConfig}
use Rattle.aos_frame.specs.declared.config.LinkConfig.{LinkConfig}
use Rattle.aos_frame.specs.declared.config.Lane.{Lane}
use Rattle.aos_frame.specs.declared.config.Lane.TheVariants.{Directives, Data}
use Rattle.mpdu.specs.MpduHeader.{pointer_of}
use Rattle.mpdu.specs.Packets.{busy}
use Rattle.mpdu.specs.Packing.{ZoneOf, flush_of}
use Rattle.mpdu.specs.Stream.{ArePackets, stream, keep, is_idle}
use Rattle.mpdu.proofs.Later.{stream-push}
use Rattle.link_stack.specs.Downward.{DownState, LinkSenderState, IsDown, SendsPdu, Flushes, MakesFrame, packing, lane_down, first_lane_down, first_down, counted_from, both_counted_from, idle_zones}
use Rattle.link_stack.specs.Frames.{IsSealed, mpdu_in, packet_of, pdus_in}
use Rattle.link_stack.specs.Upward.{UpState, IsNextFrameOf, first_up}
use Rattle.link_stack.specs.AnyOrder.{Delivery, IsWithinCounts, CountsTell, CountsTellAll, Arrival, OfStream, Stray, octets_in, AreArrivals, no_last, now_last, ReceivesAll, ComesOf}
use Rattle.link_stack.specs.EndToEnd.{DownCall, Put, Fill, Make, Does, DoesAll, put_by, puts_of, made_by, made_of, Coming, Copy, Noise, coming_octets, AreComing, places_of, AreNear, WerePut}
use Rattle.link_stack.proofs.Decoded.{made_is_next}
use Rattle.link_stack.proofs.Grown.{sealed-push}
use Rattle.link_stack.proofs.Counted.{counted_is, are_idle}
use Rattle.link_stack.proofs.AnyOrder.{none_came, none_came-length}
use Rattle.link_stack.proofs.AnyLanes.{valid_lane, of_both, tell_less, all_were_sent}
use Rattle.link_stack.proofs.Numbers.{numbers_tell}

-- ---- one lane of the sending end
-- These octets are frame n of the stream.
pub record IsMadeAt (link : ChannelConfig) (ps : List (List ℕ)) (n : ℕ) (frame : List ℕ) : Type 0 where
  pub sealed : IsSealed link ps n frame
  pub inside : n * link.zone + link.zone ≤ length (stream ps)

made_push : (link : ChannelConfig) (ps : List (List ℕ)) (q : List ℕ) (n : ℕ) (frame : List ℕ) → IsMadeAt link ps n frame → IsMadeAt link (ps ++ q ∷ []) n frame
made_push link ps q n frame is =
    record {
      sealed = sealed-push link ps q n frame is.inside is.sealed;
      inside = omega (arith, is.inside, ap length (stream-push ps q), length-append (stream ps) q);
    }

made_more : (link : ChannelConfig) (ps qs : List (List ℕ)) (n : ℕ) (frame : List ℕ) → IsMadeAt link ps n frame → IsMadeAt link (ps ++ qs) n frame
made_more link ps [] n frame is = subst (λ l. IsMadeAt link l n frame) (sym (append-nil ps)) is
made_more link ps (q ∷ qs) n frame is =
    subst (λ l. IsMadeAt link l n frame) (append_assoc ps (q ∷ []) qs) (made_more link (ps ++ q ∷ []) qs n frame (made_push link ps q n frame is))

-- Its stream is these packets, which carry the PDUs put in; and these frames were made of it, from
-- this number on.
pub record IsStreamSo (link : ChannelConfig) (first : ℕ) (d : LinkSenderState) (ps puts frames : List (List ℕ)) : Type 0 where
  pub same_link : d.link ≡ link
  pub down : IsDown d ps (first + length frames)
  pub pdus : pdus_in (busy ps) ≡ puts
  pub made : (i : ℕ) → i < length frames → IsMadeAt link ps (first + i) (slice_index_or frames i [])

keep_behind : (b : Bool) (p : List ℕ) (l m : List (List ℕ)) → keep b p (l ++ m) ≡ keep b p l ++ m
keep_behind true p l m = refl
keep_behind false p l m = refl

busy_append : (ps qs : List (List ℕ)) → busy (ps ++ qs) ≡ busy ps ++ busy qs
busy_append [] qs = refl
busy_append (p ∷ ps) qs = ap (λ l. keep (not (is_idle p)) p l) (busy_append ps qs) ∙ keep_behind (not (is_idle p)) p (busy ps) (busy qs)

pdus_more : (ps qs : List (List ℕ)) → pdus_in (busy (ps ++ qs)) ≡ pdus_in (busy ps) ++ pdus_in (busy qs)
pdus_more ps qs = ap pdus_in (busy_append ps qs) ∙ map-append (λ p. drop 6 p) (busy ps) (busy qs)

no_more : (link : ChannelConfig) (first : ℕ) (d : LinkSenderState) (ps puts frames : List (List ℕ)) → IsStreamSo link first d ps puts frames → IsStreamSo link first d ps (puts ++ []) (frames ++ [])
no_more link first d ps puts frames is =
    subst (λ l. IsStreamSo link first d ps l (frames ++ [])) (sym (append-nil puts)) (subst (λ l. IsStreamSo link first d ps puts l) (sym (append-nil frames)) is)

put_so : (link : ChannelConfig) (first : ℕ) (old new : LinkSenderState) (ps puts frames : List (List ℕ)) (pdu : List ℕ) (count : ℕ) → SendsPdu pdu count old new → IsStreamSo link first old ps puts frames →
    IsStreamSo link first new (ps ++ packet_of old.link count pdu ∷ []) (puts ++ pdu ∷ []) (frames ++ [])
put_so link first old new ps puts frames pdu count s is =
    let q : List ℕ = packet_of old.link count pdu in
    subst (λ l. IsStreamSo link first new (ps ++ q ∷ []) (puts ++ pdu ∷ []) l) (sym (append-nil frames)) (record {
      same_link = s.fixed.0 ∙ is.same_link;
      down = s.sends ps (first + length frames) is.down;
      pdus = pdus_more ps (q ∷ []) ∙ ap (λ l. l ++ pdus_in (busy (q ∷ []))) is.pdus ∙ ap (λ l. puts ++ l) s.carries;
      made = λ i lt. made_more link ps (q ∷ []) (first + i) (slice_index_or frames i []) (is.made i lt);
    })

fill_so : (link : ChannelConfig) (first : ℕ) (old new : LinkSenderState) (ps puts frames : List (List ℕ)) → Flushes old new → IsStreamSo link first old ps puts frames →
    IsStreamSo link first new (ps ++ flush_of (packing old)) (puts ++ []) (frames ++ [])
fill_so link first old new ps puts frames s is =
    let qs : List (List ℕ) = flush_of (packing old) in
    subst (λ l. IsStreamSo link first new (ps ++ qs) (puts ++ []) l) (sym (append-nil frames)) (record {
      same_link = s.fixed.0 ∙ is.same_link;
      down = s.sends ps (first + length frames) is.down;
      pdus = pdus_more ps qs ∙ ap (λ l. l ++ pdus_in (busy qs)) is.pdus ∙ ap (λ l. puts ++ pdus_in l) s.idle;
      made = λ i lt. made_more link ps qs (first + i) (slice_index_or frames i []) (is.made i lt);
    })

make_so : (link : ChannelConfig) (first : ℕ) (old new : LinkSenderState) (ps puts frames : List (List ℕ)) (frame : List ℕ) → MakesFrame frame old new → IsStreamSo link first old ps puts frames →
    IsStreamSo link first new ps (puts ++ []) (frames ++ frame ∷ [])
make_so link first old new ps puts frames frame s is =
    let n : ℕ = first + length frames in
    let more : length (frames ++ frame ∷ []) ≡ length frames + 1 = length-append frames (frame ∷ []) in
    let sum : n + 1 ≡ first + length (frames ++ frame ∷ []) = omega arith in
    let this : IsMadeAt link ps n frame =
    subst (λ (c : ChannelConfig). IsMadeAt c ps n frame) is.same_link (record { sealed = record { control = old.control; fits = s.fits; octets = s.is_next ps n is.down }; inside = s.inside ps n is.down }) in
    let at_end : slice_index_or (frames ++ frame ∷ []) (length frames + 0) [] ≡ frame = get_or-append-add frames (frame ∷ []) 0 [] in
    subst (λ l. IsStreamSo link first new ps l (frames ++ frame ∷ [])) (sym (append-nil puts)) (record {
      same_link = s.link ∙ is.same_link;
      down = subst (λ k. IsDown new ps k) sum (s.after ps n is.down);
      pdus = is.pdus;
      made = λ (i : ℕ) (lt : i < length (frames ++ frame ∷ [])).
          elim (cases_lt i (length frames)) [
            | inl c ↦ subst (λ l. IsMadeAt link ps (first + i) l) (sym (get_or_append_left frames (frame ∷ []) [] i c)) (is.made i c)
            | inr c ↦
                let last : i ≡ length frames + 0 = omega arith in
                let its : slice_index_or (frames ++ frame ∷ []) i [] ≡ frame = ap (λ k. slice_index_or (frames ++ frame ∷ []) k []) last ∙ at_end in
                let num : n ≡ first + i = omega arith in
                subst (λ l. IsMadeAt link ps (first + i) l) (sym its) (subst (λ k. IsMadeAt link ps k frame) num this)
          ];
    })

-- ---- both lanes of it
-- what a lane's stream is then
pub record IsSomeStream (link : ChannelConfig) (first : ℕ) (d : LinkSenderState) (puts frames : List (List ℕ)) : Type 0 where
  pub packets : List (List ℕ)
  pub is : IsStreamSo link first d packets puts frames

some_stream : (link : ChannelConfig) (first : ℕ) (d : LinkSenderState) (ps puts frames : List (List ℕ)) → IsStreamSo link first d ps puts frames → IsSomeStream link first d puts frames
some_stream link first d ps puts frames is = record { packets = ps; is = is }

kept_so : (link : ChannelConfig) (first : ℕ) (old new : LinkSenderState) (puts frames : List (List ℕ)) → new ≡ old → IsSomeStream link first old puts frames →
    IsSomeStream link first new (puts ++ []) (frames ++ [])
kept_so link first old new puts frames same s =
    subst (λ (d : LinkSenderState). IsSomeStream link first d (puts ++ []) (frames ++ [])) (sym same)
    (some_stream link first old s.packets (puts ++ []) (frames ++ []) (no_more link first old s.packets puts frames s.is))

call_so : (lane : Lane) (call : DownCall) (link : ChannelConfig) (first : ℕ) (old new : DownState) (puts frames : List (List ℕ)) → Does call old new →
    IsSomeStream link first (lane_down lane old) puts frames → IsSomeStream link first (lane_down lane new) (puts ++ put_by lane call) (frames ++ made_by lane call)
call_so Directives (Put Directives pdu) link first old new puts frames does s =
    some_stream link first new.directives _ (puts ++ pdu ∷ []) (frames ++ []) (put_so link first old.directives new.directives s.packets puts frames pdu old.packet_count does.0 s.is)
call_so Data (Put Data pdu) link first old new puts frames does s =
    some_stream link first new.file_data _ (puts ++ pdu ∷ []) (frames ++ []) (put_so link first old.file_data new.file_data s.packets puts frames pdu old.packet_count does.0 s.is)
call_so Directives (Fill Directives) link first old new puts frames does s =
    some_stream link first new.directives _ (puts ++ []) (frames ++ []) (fill_so link first old.directives new.directives s.packets puts frames does.0 s.is)
call_so Data (Fill Data) link first old new puts frames does s =
    some_stream link first new.file_data _ (puts ++ []) (frames ++ []) (fill_so link first old.file_data new.file_data s.packets puts frames does.0 s.is)
call_so Directives (Make Directives frame) link first old new puts frames does s =
    some_stream link first new.directives _ (puts ++ []) (frames ++ frame ∷ []) (make_so link first old.directives new.directives s.packets puts frames frame does.0 s.is)
call_so Data (Make Data frame) link first old new puts frames does s =
    some_stream link first new.file_data _ (puts ++ []) (frames ++ frame ∷ []) (make_so link first old.file_data new.file_data s.packets puts frames frame does.0 s.is)
call_so Directives (Put Data pdu) link first old new puts frames does s = kept_so link first old.directives new.directives puts frames does.1 s
call_so Data (Put Directives pdu) link first old new puts frames does s = kept_so link first old.file_data new.file_data puts frames does.1 s
call_so Directives (Fill Data) link first old new puts frames does s = kept_so link first old.directives new.directives puts frames does.1 s
call_so Data (Fill Directives) link first old new puts frames does s = kept_so link first old.file_data new.file_data puts frames does.1 s
call_so Directives (Make Data frame) link first old new puts frames does s = kept_so link first old.directives new.directives puts frames does.1 s
call_so Data (Make Directives frame) link first old new puts frames does s = kept_so link first old.file_data new.file_data puts frames does.1 s

calls_so : (lane : Lane) (calls : List DownCall) (link : ChannelConfig) (first : ℕ) (old new : DownState) (puts frames : List (List ℕ)) → DoesAll calls old new →
    IsSomeStream link first (lane_down lane old) puts frames → IsSomeStream link first (lane_down lane new) (puts ++ puts_of lane calls) (frames ++ made_of lane calls)
calls_so lane [] link first old new puts frames same s =
    let kept : IsSomeStream link first (lane_down lane new) puts frames = subst (λ (d : DownState). IsSomeStream link first (lane_down lane d) puts frames) (sym same) s in
    some_stream link first (lane_down lane new) kept.packets (puts ++ []) (frames ++ []) (no_more link first (lane_down lane new) kept.packets puts frames kept.is)
calls_so lane (call ∷ calls) link first old new puts frames (mid, does, all) s =
    let one : IsSomeStream link first (lane_down lane mid) (puts ++ put_by lane call) (frames ++ made_by lane call) = call_so lane call link first old mid puts frames does s in
    let more : IsSomeStream link first (lane_down lane new) (puts ++ put_by lane call ++ puts_of lane calls) (frames ++ made_by lane call ++ made_of lane calls) =
    calls_so lane calls link first mid new (puts ++ put_by lane call) (frames ++ made_by lane call) all one in
    subst (λ l. IsSomeStream link first (lane_down lane new) l (frames ++ (made_by lane call ++ made_of lane calls))) (append_assoc puts (put_by lane call) (puts_of lane calls))
    (subst (λ l. IsSomeStream link first (lane_down lane new) (puts ++ put_by lane call ++ puts_of lane calls) l) (append_assoc frames (made_by lane call) (made_of lane calls)) more)

-- the beginning
new_lane : (c : ChannelConfig) (capacity : ℕ) → IsDown (first_lane_down c capacity) [] 0
new_lane c capacity =
    record {
      packed = record { packets_whole = tt; below = omega arith; rest = sym (drop_all (0 * c.zone) [] (omega arith)); start = omega arith };
      of_link = tt;
      counted = refl;
    }

begins_so : (c : ChannelConfig) (capacity first : ℕ) → IsChannel c → IsSomeStream c first (counted_from first (first_lane_down c capacity)) [] []
begins_so c capacity first valid =
    let lo : 7 ≤ c.zone = omega (arith, valid.least_zone) in
    let hi : c.zone ≤ 2046 = omega (arith, valid.most_zone) in
    let down : IsDown (counted_from first (first_lane_down c capacity)) (idle_zones c.zone first) first = counted_is (first_lane_down c capacity) first lo hi (new_lane c capacity) in
    let sum : first ≡ first + 0 = omega arith in
    record {
      packets = idle_zones c.zone first;
      is = record {
        same_link = refl;
        down = subst (λ k. IsDown (counted_from first (first_lane_down c capacity)) (idle_zones c.zone first) k) sum down;
        pdus = ap pdus_in (are_idle c.zone first lo hi);
        made = λ i lt. absurd (omega (arith, lt));
      };
    }

starts_so : (link : LinkConfig) (capacity first : ℕ) (start : DownState) (lane : Lane) → IsLink link → start ≡ both_counted_from first (first_down link capacity) →
    IsSomeStream (lane_channel lane link) first (lane_down lane start) [] []
starts_so link capacity first start Directives valid is =
    subst (λ (d : DownState). IsSomeStream (lane_channel Directives link) first d.directives [] []) (sym is) (begins_so (lane_channel Directives link) capacity first (valid_lane link Directives valid))
starts_so link capacity first start Data valid is =
    subst (λ (d : DownState). IsSomeStream (lane_channel Data link) first d.file_data [] []) (sym is) (begins_so (lane_channel Data link) capacity first (valid_lane link Data valid))

pub ends_so : (link : LinkConfig) (capacity first : ℕ) (calls : List DownCall) (start now : DownState) (lane : Lane) → IsLink link → start ≡ both_counted_from first (first_down link capacity) →
    DoesAll calls start now → IsSomeStream (lane_channel lane link) first (lane_down lane now) (puts_of lane calls) (made_of lane calls)
ends_so link capacity first calls start now lane valid is all =
    calls_so lane calls (lane_channel lane link) first start now [] [] all (starts_so link capacity first start lane valid is)

-- ---- the frames that were made
pub record IsMadeFrame (link : ChannelConfig) (ps : List (List ℕ)) (n : ℕ) (frame : List ℕ) : Type 0 where
  pub sound : frame_fault frame link ≡ None
  pub counted : CountsFrame true n (seen_in frame)
  pub zoned : ZoneOf ps n link.zone (pointer_of (mpdu_in link frame)) (drop 2 (mpdu_in link frame))

made_frame : (link : ChannelConfig) (ps : List (List ℕ)) (n : ℕ) (frame : List ℕ) → IsChannel link → link.spacecraft < 256 → IsMadeAt link ps n frame → IsMadeFrame link ps n frame
made_frame link ps n frame valid byte is =
    let m : List Bool = none_came n in
    let at : IsMadeAt link ps (length m) frame = subst (λ k. IsMadeAt link ps k frame) (sym (none_came-length n)) is in
    let next : IsNextFrameOf true link ps m frame = made_is_next link ps m frame valid byte (record { inside = at.inside; sealed = at.sealed }) in
    subst (λ k. IsMadeFrame link ps k frame) (none_came-length n) (record { sound = next.of_link; counted = next.counted; zoned = next.zoned })

-- What the calls leave: of each lane the packets of its stream.
pub record AreStreams (link : LinkConfig) (first : ℕ) (calls : List DownCall) (streams : Lane → List (List ℕ)) : Type 0 where
  pub packets_whole : (lane : Lane) → ArePackets (streams lane)
  pub pdus : (lane : Lane) → pdus_in (busy (streams lane)) ≡ puts_of lane calls
  pub made : (lane : Lane) (i : ℕ) → i < length (made_of lane calls) → IsMadeFrame (lane_channel lane link) (streams lane) (first + i) (slice_index_or (made_of lane calls) i [])

pub are_streams : (link : LinkConfig) (first : ℕ) (calls : List DownCall) (now : DownState) → IsLink link → link.spacecraft < 256 →
    (s : (lane : Lane) → IsSomeStream (lane_channel lane link) first (lane_down lane now) (puts_of lane calls) (made_of lane calls)) → AreStreams link first calls (λ lane. (s lane).packets)
are_streams link first calls now valid byte s =
    record {
      packets_whole = λ lane. (s lane).is.down.packed.packets_whole;
      pdus = λ lane. (s lane).is.pdus;
      made = λ lane i lt. made_frame (lane_channel lane link) (s lane).packets (first + i) (slice_index_or (made_of lane calls) i []) (valid_lane link lane valid) byte ((s lane).is.made i lt);
    }

-- ---- what comes
abbrev copy : ℕ → List DownCall → (Lane → List (List ℕ)) → Lane → ℕ → Delivery
copy first calls streams lane place = record { lane = lane; packets = streams lane; number = first + place; octets = slice_index_or (made_of lane calls) place [] }

abbrev arrival : ℕ → List DownCall → (Lane → List (List ℕ)) → Coming → Arrival
arrival first calls streams (Copy lane place) = OfStream (copy first calls streams lane place)
arrival first calls streams (Noise octets) = Stray octets

same_octets : (first : ℕ) (calls : List DownCall) (streams : Lane → List (List ℕ)) (came : List Coming) → map octets_in (map (arrival first calls streams) came) ≡ map (coming_octets calls) came
same_octets first calls streams [] = refl
same_octets first calls streams (Copy lane place ∷ came) = ap (λ l. slice_index_or (made_of lane calls) place [] ∷ l) (same_octets first calls streams came)
same_octets first calls streams (Noise octets ∷ came) = ap (λ l. octets ∷ l) (same_octets first calls streams came)

are_arrivals : (link : LinkConfig) (first : ℕ) (calls : List DownCall) (streams : Lane → List (List ℕ)) (came : List Coming) → AreStreams link first calls streams → AreComing link calls came →
    AreArrivals link (map (arrival first calls streams) came)
are_arrivals link first calls streams [] s are = tt
are_arrivals link first calls streams (Copy lane place ∷ came) s are =
    let m = s.made lane place are.0 in (
      record { packets_whole = s.packets_whole lane; of_link = m.sound; zoned = m.zoned },
      are_arrivals link first calls streams came s are.1,
    )
are_arrivals link first calls streams (Noise octets ∷ came) s are = (are.0, are_arrivals link first calls streams came s are.1)

-- the counts show of two copies that are near whether one follows the other
copies_tell : (link : LinkConfig) (first : ℕ) (calls : List DownCall) (streams : Lane → List (List ℕ)) (lane : Lane) (m n : ℕ) → AreStreams link first calls streams → m < length (made_of lane calls) →
    n < length (made_of lane calls) → IsWithinCounts true m n → CountsTell (copy first calls streams lane m) (copy first calls streams lane n)
copies_tell link first calls streams lane m n s hm hn near =
    numbers_tell true (copy first calls streams lane m) (copy first calls streams lane n) (record {
      first = (s.made lane m hm).counted;
      second = (s.made lane n hn).counted;
      within = record { in_front = omega (arith, near.in_front); behind = omega (arith, near.behind) };
      apart = λ e. refl;
    })

abbrev last_copy : ℕ → List DownCall → (Lane → List (List ℕ)) → Lane → Option ℕ → Option Delivery
last_copy first calls streams lane None = None
last_copy first calls streams lane (Some m) = Some (copy first calls streams lane m)

-- each is known by the last of its lane
next_tells : (link : LinkConfig) (first : ℕ) (calls : List DownCall) (streams : Lane → List (List ℕ)) (lane : Lane) (last : Option ℕ) (n : ℕ) (ns : List ℕ) → AreStreams link first calls streams →
    n < length (made_of lane calls) → IfSome last (λ m. m < length (made_of lane calls)) → AreNear last (n ∷ ns) →
    IfSome (last_copy first calls streams lane last) (λ b. CountsTell b (copy first calls streams lane n)) × AreNear (Some n) ns
next_tells link first calls streams lane None n ns s lt before near = (tt, near)
next_tells link first calls streams lane (Some m) n ns s lt before near = (copies_tell link first calls streams lane m n s before lt near.0, near.1)

-- the last places of both lanes
abbrev last_place : Option ℕ → Option ℕ → Lane → Option ℕ
last_place a b Directives = a
last_place a b Data = b

abbrev last_copies : ℕ → List DownCall → (Lane → List (List ℕ)) → Option ℕ → Option ℕ → Lane → Option Delivery
last_copies first calls streams a b lane = last_copy first calls streams lane (last_place a b lane)

all_tell : (link : LinkConfig) (first : ℕ) (calls : List DownCall) (streams : Lane → List (List ℕ)) (a b : Option ℕ) (came : List Coming) → AreStreams link first calls streams → AreComing link calls came →
    IfSome a (λ m. m < length (made_of Directives calls)) → IfSome b (λ m. m < length (made_of Data calls)) → AreNear a (places_of Directives came) → AreNear b (places_of Data came) →
    CountsTellAll (last_copies first calls streams a b) (map (arrival first calls streams) came)
all_tell link first calls streams a b [] s are ha hb na nb = tt
all_tell link first calls streams a b (Noise octets ∷ came) s are ha hb na nb = all_tell link first calls streams a b came s are.1 ha hb na nb
all_tell link first calls streams a b (Copy Directives n ∷ came) s are ha hb na nb =
    let t = next_tells link first calls streams Directives a n (places_of Directives came) s are.0 ha na in
    let d : Delivery = copy first calls streams Directives n in
    let last : Lane → Option Delivery = last_copies first calls streams a b in
    let now : Lane → Option Delivery = last_copies first calls streams (Some n) b in
    let rest : CountsTellAll now (map (arrival first calls streams) came) = all_tell link first calls streams (Some n) b came s are.1 are.0 hb t.1 nb in
    let same : (lane : Lane) → (now_last d last lane ≡ now lane) ⊎ (now_last d last lane ≡ None) = of_both (λ lane. (now_last d last lane ≡ now lane) ⊎ (now_last d last lane ≡ None)) Directives (inl refl) (inl refl) in
    (t.0, tell_less (now_last d last) now (map (arrival first calls streams) came) same rest)
all_tell link first calls streams a b (Copy Data n ∷ came) s are ha hb na nb =
    let t = next_tells link first calls streams Data b n (places_of Data came) s are.0 hb nb in
    let d : Delivery = copy first calls streams Data n in
    let last : Lane → Option Delivery = last_copies first calls streams a b in
    let now : Lane → Option Delivery = last_copies first calls streams a (Some n) in
    let rest : CountsTellAll now (map (arrival first calls streams) came) = all_tell link first calls streams a (Some n) came s are.1 ha are.0 na t.1 in
    let same : (lane : Lane) → (now_last d last lane ≡ now lane) ⊎ (now_last d last lane ≡ None) = of_both (λ lane. (now_last d last lane ≡ now lane) ⊎ (now_last d last lane ≡ None)) Data (inl refl) (inl refl) in
    (t.0, tell_less (now_last d last) now (map (arrival first calls streams) came) same rest)

-- of which stream it is
abbrev packets_in : Arrival → List (List ℕ)
packets_in (OfStream d) = d.packets
packets_in (Stray octets) = []

its_stream : (first : ℕ) (calls : List DownCall) (streams : Lane → List (List ℕ)) (came : List Coming) (d : Delivery) → Contains (map (arrival first calls streams) came) (OfStream d) →
    (lane : Lane) × (streams lane ≡ d.packets)
its_stream first calls streams [] d (k, lt, is) = absurd (omega (arith, lt))
its_stream first calls streams (Copy lane place ∷ came) d (zero, lt, is) = (lane, ap packets_in is)
its_stream first calls streams (Noise octets ∷ came) d (zero, lt, is) = absurd cc
its_stream first calls streams (Copy lane place ∷ came) d (suc k, lt, is) = its_stream first calls streams came d (k, omega (arith, lt), is)
its_stream first calls streams (Noise octets ∷ came) d (suc k, lt, is) = its_stream first calls streams came d (k, omega (arith, lt), is)

pub all_were_put : (link : LinkConfig) (capacity first : ℕ) (calls : List DownCall) (start now : DownState) (came : List Coming) (up new : UpState) (before after : List (List ℕ)) → IsLink link →
    link.spacecraft < 256 → start ≡ both_counted_from first (first_down link capacity) → DoesAll calls start now → AreComing link calls came →
    ((lane : Lane) → AreNear None (places_of lane came)) → up ≡ first_up link → ReceivesAll (map (coming_octets calls) came) up new before after → WerePut calls before after
all_were_put link capacity first calls start now came up new before after valid byte is all are near fresh r =
    let each : (lane : Lane) → IsSomeStream (lane_channel lane link) first (lane_down lane now) (puts_of lane calls) (made_of lane calls) =
    λ lane. ends_so link capacity first calls start now lane valid is all in
    let streams : Lane → List (List ℕ) = λ lane. (each lane).packets in
    let s : AreStreams link first calls streams = are_streams link first calls now valid byte each in
    let taken : ReceivesAll (map octets_in (map (arrival first calls streams) came)) up new before after =
    subst (λ l. ReceivesAll l up new before after) (sym (same_octets first calls streams came)) r in
    let told : CountsTellAll no_last (map (arrival first calls streams) came) =
    tell_less no_last (last_copies first calls streams None None) (map (arrival first calls streams) came) (λ lane. inr refl)
    (all_tell link first calls streams None None came s are tt tt (near Directives) (near Data)) in
    let c : ComesOf (map (arrival first calls streams) came) before after =
    all_were_sent link (map (arrival first calls streams) came) up new before after valid (are_arrivals link first calls streams came s are) fresh
    told taken in
    record {
      given = c.given;
      appended = c.appended;
      put = λ (pdu : List ℕ) (there : Contains c.given pdu).
          let sent = c.sent pdu there in
          let its = its_stream first calls streams came sent.0 sent.1 in
          let same : pdus_in (busy (sent.0).packets) ≡ puts_of (its.0) calls = ap (λ l. pdus_in (busy l)) (sym its.1) ∙ s.pdus its.0 in
          (its.0, subst (λ l. Contains l pdu) same sent.2);
    }
