-- Frames of both lanes in any order, one after another.
use Rattle.std.proofs.Common.{◌≡◌, ◌≢◌, ℕ, suc, ◌≤◌, ◌==◌, ◌&&◌, not, if◌then◌else◌, Bool, true, false, Option, Some, None, IfSome, List, [], ◌∷◌, ◌++◌, ◌⊎◌, length, drop, map, refl, sym, ap, subst, ◌∙◌, inl, inr, arith}
use Rattle.std.specs.List.{Contains}
use Rattle.std.proofs.lemmas.Bool.{eq-eqb, eqb-true}
use Rattle.std.proofs.lemmas.List.{append_assoc, append-nil}
use Rattle.std.proofs.lemmas.List.Elements.{Contains-append_cases}
use Rattle.cfd_bits.specs.Field.{field}
use Rattle.aos_frame.specs.LinkFields.{is_intact}
use Rattle.aos_frame.specs.Counts.{follows}
use Rattle.aos_frame.specs.Frame.{IsChannel, IsLink, frame_fault, frame_len, idle_channel, lane_channel, other_lane, seen_in}
use Rattle.aos_frame.specs.declared.config.ChannelConfig.{ChannelConfig}
use Rattle.aos_frame.specs.declared.config.LinkConfig.{LinkConfig}
use Rattle.aos_frame.specs.declared.config.Lane.{Lane}
use Rattle.aos_frame.specs.declared.config.Lane.TheVariants.{Directives, Data}
use Rattle.aos_frame.specs.declared.error.FrameError.{FrameError}
use Rattle.aos_frame.specs.declared.error.FrameError.TheVariants.{Length, Version, OtherProfile, OtherSpacecraft, OtherChannel, OnlyIdle, Damaged}
use Rattle.mpdu.specs.Stream.{begun}
use Rattle.mpdu.specs.Packets.{busy}
use Rattle.mpdu.specs.Parts.{IsPartOf}
use Rattle.mpdu.specs.MpduHeader.{pointer_of}
use Rattle.mpdu.proofs.Parts.{part-contains}
use Rattle.link_stack.specs.Frames.{mpdu_in, pdus_in}
use Rattle.link_stack.specs.Upward.{LinkReceiverState, UpState, FrameRead, LaneTakes, Takes, HasZone, frame_read, read_unless, mpdu_read, idle_read, packets_read, pdus_of, first_up, lane_of, lane_up}
use Rattle.link_stack.specs.AnyOrder.{Delivery, IsFrameOf, IsStray, CountsTell, IsLeft, TakesAny, TakesStray, AreLeft, no_last, last_of, now_last, Receives, GivesSent, GivesNone, Arrival, OfStream, Stray, octets_in, AreArrivals, CountsTellAll, ReceivesAll, ComesOf}
use Rattle.link_stack.proofs.AnyOrder.{takes_any}

-- ---- octets of which no packet can come
-- what such octets are read as
record IsReadStray (up : LinkReceiverState) (last : Option Delivery) (read : FrameRead) : Type 0 where
  pub packets : read.packets ≡ []
  pub after : ((read.last ≡ up.last) × (read.begun ≡ up.begun)) ⊎ (read.begun ≡ [])

refused_so : (up : LinkReceiverState) (last : Option Delivery) (frame : List ℕ) (error : FrameError) → IsReadStray up last (read_unless (Some error) up frame)
refused_so up last frame error = record { packets = refl; after = inl (refl, refl) }

idle_so : (up : LinkReceiverState) (last : Option Delivery) (frame : List ℕ) → pointer_of (mpdu_in up.link frame) ≡ 2046 → IsReadStray up last (read_unless None up frame)
idle_so up last frame idle =
    let e : (pointer_of (mpdu_in up.link frame) == 2046) ≡ true = eq-eqb (pointer_of (mpdu_in up.link frame)) 2046 idle in
    let is : mpdu_read up (seen_in frame) (mpdu_in up.link frame) ≡ idle_read (seen_in frame) =
    ap (λ b. if b then idle_read (seen_in frame)
    else packets_read (Some (seen_in frame)) up.begun (follows up.last (seen_in frame)) (pointer_of (mpdu_in up.link frame)) (drop 2 (mpdu_in up.link frame))) e in
    subst (λ (r : FrameRead). IsReadStray up last r) (sym is) (record { packets = refl; after = inr refl })

either_so : (up : LinkReceiverState) (last : Option Delivery) (frame : List ℕ) (fault : Option FrameError) → (fault ≢ None) ⊎ (pointer_of (mpdu_in up.link frame) ≡ 2046) →
    IsReadStray up last (read_unless fault up frame)
either_so up last frame (Some error) h = refused_so up last frame error
either_so up last frame None (inl other) = absurd (other refl)
either_so up last frame None (inr idle) = idle_so up last frame idle

stray_zone : (link : ChannelConfig) (frame : List ℕ) → IsStray link frame → HasZone link frame → ⊥
stray_zone link frame (inl other) zone = other zone.of_link
stray_zone link frame (inr idle) zone = absurd (let bad : true ≡ false = sym (eq-eqb (pointer_of (mpdu_in link frame)) 2046 idle) ∙ zone.not_idle in cc)

left_same : (up new : LinkReceiverState) (last : Option Delivery) → new.link ≡ up.link → new.last ≡ up.last → new.begun ≡ up.begun → IsLeft up last → IsLeft new last
left_same up new None link seen kept is = kept ∙ is
left_same up new (Some d) link seen kept is =
    record { seen = seen ∙ is.seen; marks = is.marks; up_to = is.up_to; held = kept ∙ is.held ∙ ap (λ (l : ChannelConfig). begun l.zone is.marks 0 d.packets) (sym link) }

pub takes_stray : (up new : LinkReceiverState) (last : Option Delivery) (frame : List ℕ) (old out : List (List ℕ)) → IsStray up.link frame → IsLeft up last → LaneTakes frame up new old out →
    TakesStray up new last old out
takes_stray up new last frame old out stray left l =
    let r : IsReadStray up last (frame_read up frame) = either_so up last frame (frame_fault frame up.link) stray in
    let whole : Takes (frame_read up frame) up new old out → TakesStray up new last old out = λ (t : Takes (frame_read up frame) up new old out).
    record {
      link = t.link;
      after = elim r.after [
        | inl same ↦ inl (left_same up new last t.link (t.last ∙ same.0) (t.begun ∙ same.1) left)
        | inr none ↦ inr (t.begun ∙ none)
      ];
      appended = t.pdus ∙ ap (λ ps. old ++ pdus_of up.link ps) r.packets ∙ append-nil old;
    } in
    elim l.takes [ inl t ↦ whole t | inr t ↦ absurd (stray_zone up.link frame stray t.0) ]

-- ---- the lane of a frame
not_fault : (b : Bool) (e : FrameError) (rest : Option FrameError) → (if b then Some e else rest) ≡ None → (b ≡ false) × (rest ≡ None)
not_fault true e rest h = absurd cc
not_fault false e rest h = (refl, h)

not_false : (b : Bool) → not b ≡ false → b ≡ true
not_false true h = refl
not_false false h = absurd cc

-- what is a frame of the channel has its length and its channel
pub fault_none : (text : List ℕ) (c : ChannelConfig) → frame_fault text c ≡ None → (length text ≡ frame_len c) × (field text 10 6 ≡ c.virtual_channel)
fault_none text c h =
    let r7 : Option FrameError = if not (field text 10 6 == c.virtual_channel) then Some OtherChannel
    else None in
    let r6 : Option FrameError = if field text 10 6 == idle_channel then Some OnlyIdle
    else r7 in
    let r5 : Option FrameError = if not (field text 2 8 == c.spacecraft) then Some OtherSpacecraft
    else r6 in
    let r4 : Option FrameError = if not (field text 42 2 == 0) then Some OtherProfile
    else r5 in
    let r3 : Option FrameError = if not (field text 40 1 == 0) then Some OtherProfile
    else r4 in
    let r2 : Option FrameError = if not (field text 0 2 == 1) then Some Version
    else r3 in
    let r1 : Option FrameError = if c.fields.error_control && not (is_intact text) then Some Damaged
    else r2 in
    let a = not_fault (not (length text == frame_len c)) Length r1 h in
    let h2 = (not_fault (c.fields.error_control && not (is_intact text)) Damaged r2 a.1).1 in
    let h3 = (not_fault (not (field text 0 2 == 1)) Version r3 h2).1 in
    let h4 = (not_fault (not (field text 40 1 == 0)) OtherProfile r4 h3).1 in
    let h5 = (not_fault (not (field text 42 2 == 0)) OtherProfile r5 h4).1 in
    let h6 = (not_fault (not (field text 2 8 == c.spacecraft)) OtherSpacecraft r6 h5).1 in
    let h7 = (not_fault (field text 10 6 == idle_channel) OnlyIdle r7 h6).1 in
    let i = not_fault (not (field text 10 6 == c.virtual_channel)) OtherChannel None h7 in (
      eqb-true (length text) (frame_len c) (not_false (length text == frame_len c) a.0),
      eqb-true (field text 10 6) c.virtual_channel (not_false (field text 10 6 == c.virtual_channel) i.0),
    )

-- ---- both lanes
pub valid_lane : (link : LinkConfig) (lane : Lane) → IsLink link → IsChannel (lane_channel lane link)
valid_lane link Directives valid = record { virtual_channel = valid.virtual_channel; least_zone = valid.least_zone; most_zone = valid.most_zone; apid = valid.apid; fields = valid.fields }
valid_lane link Data valid = record { virtual_channel = valid.data_virtual_channel; least_zone = valid.least_zone; most_zone = valid.most_zone; apid = valid.apid; fields = valid.fields }

-- what holds of a lane and of the other one, holds of each
pub of_both : (P : Lane → Type 0) (its : Lane) → P its → P (other_lane its) → (lane : Lane) → P lane
of_both P Directives here there Directives = here
of_both P Directives here there Data = there
of_both P Data here there Data = here
of_both P Data here there Directives = there

last_its : (lane : Lane) (d : Delivery) (last : Option Delivery) → last_of lane lane d last ≡ Some d
last_its Directives d last = refl
last_its Data d last = refl

last_other : (lane : Lane) (d : Delivery) (last : Option Delivery) → last_of (other_lane lane) lane d last ≡ last
last_other Directives d last = refl
last_other Data d last = refl

-- One lane took something, and the other one is as it was.
lanes_are : (link : LinkConfig) (u new : UpState) (its : Lane) (last now : Lane → Option Delivery) → AreLeft link u last → (lane_up its new).link ≡ (lane_up its u).link → IsLeft (lane_up its new) (now its) →
    lane_up (other_lane its) new ≡ lane_up (other_lane its) u → now (other_lane its) ≡ last (other_lane its) → AreLeft link new now
lanes_are link u new its last now is link_kept left other same =
    let there : IsLeft (lane_up (other_lane its) new) (now (other_lane its)) =
    subst (λ (o : Option Delivery). IsLeft (lane_up (other_lane its) new) o) (sym same)
    (subst (λ (x : LinkReceiverState). IsLeft x (last (other_lane its))) (sym other) (is.left (other_lane its))) in
    record {
      links = of_both (λ lane. (lane_up lane new).link ≡ lane_channel lane link) its (link_kept ∙ is.links its) (ap (λ (x : LinkReceiverState). x.link) other ∙ is.links (other_lane its));
      left = of_both (λ lane. IsLeft (lane_up lane new) (now lane)) its left there;
    }

-- A frame of a stream is taken by its lane.
its_lane : (link : LinkConfig) (u new : UpState) (last : Lane → Option Delivery) (d : Delivery) (old out : List (List ℕ)) → AreLeft link u last → IsFrameOf (lane_channel d.lane link) d →
    Receives d.octets u new old out → lane_of u d.octets ≡ d.lane
its_lane link u new last d old out is of r =
    let known = fault_none d.octets (lane_channel d.lane link) of.of_link in
    let long : 2 ≤ length d.octets = omega (arith, known.0) in
    r.lane d.lane long (known.1 ∙ ap (λ (c : ChannelConfig). c.virtual_channel) (sym (is.links d.lane)))

pub gives_sent : (link : LinkConfig) (u new : UpState) (last : Lane → Option Delivery) (d : Delivery) (old out : List (List ℕ)) → IsLink link → AreLeft link u last → IsFrameOf (lane_channel d.lane link) d →
    IfSome (last d.lane) (λ b. CountsTell b d) → Receives d.octets u new old out → GivesSent link new last d old out
gives_sent link u new last d old out valid is of tell r =
    let its : Lane = d.lane in
    let lane : lane_of u d.octets ≡ its = its_lane link u new last d old out is of r in
    let taken : LaneTakes d.octets (lane_up its u) (lane_up its new) old out = subst (λ (l : Lane). LaneTakes d.octets (lane_up l u) (lane_up l new) old out) lane r.taken in
    let other : lane_up (other_lane its) new ≡ lane_up (other_lane its) u = subst (λ (l : Lane). lane_up (other_lane l) new ≡ lane_up (other_lane l) u) lane r.other in
    let same : (lane_up its u).link ≡ lane_channel its link = is.links its in
    let t : TakesAny (lane_up its u) (lane_up its new) d old out =
    takes_any (lane_up its u) (lane_up its new) (last its) d old out (subst IsChannel (sym same) (valid_lane link its valid)) (subst (λ (c : ChannelConfig). IsFrameOf c d) (sym same) of) (is.left its) tell taken in
    record {
      left = lanes_are link u new its last (now_last d last) is t.link
          (subst (λ (o : Option Delivery). IsLeft (lane_up its new) o) (sym (last_its its d (last its))) t.after) other (last_other its d (last (other_lane its)));
      given = t.given;
      appended = t.appended;
      sent = t.sent;
    }

-- if nothing is known any more of the last frame of a lane
abbrev forget_of : (lane its : Lane) → Option Delivery → Option Delivery
forget_of Directives Directives last = None
forget_of Data Data last = None
forget_of lane its last = last

forget_its : (lane : Lane) (last : Option Delivery) → forget_of lane lane last ≡ None
forget_its Directives last = refl
forget_its Data last = refl

forget_other : (lane : Lane) (last : Option Delivery) → forget_of (other_lane lane) lane last ≡ last
forget_other Directives last = refl
forget_other Data last = refl

pub gives_none : (link : LinkConfig) (u new : UpState) (last : Lane → Option Delivery) (octets : List ℕ) (old out : List (List ℕ)) → AreLeft link u last →
    ((lane : Lane) → IsStray (lane_channel lane link) octets) → Receives octets u new old out → GivesNone link new last old out
gives_none link u new last octets old out is stray r =
    let its : Lane = lane_of u octets in
    let its_stray : IsStray (lane_up its u).link octets = subst (λ (c : ChannelConfig). IsStray c octets) (sym (is.links its)) (stray its) in
    let t : TakesStray (lane_up its u) (lane_up its new) (last its) old out = takes_stray (lane_up its u) (lane_up its new) (last its) octets old out its_stray (is.left its) r.taken in
    let forget : Lane → Option Delivery = λ lane. forget_of lane its (last lane) in
    elim t.after [
      | inl same ↦ record { now = last; fewer = λ lane. inl refl; left = lanes_are link u new its last last is t.link same r.other refl; appended = t.appended }
      | inr none ↦ record {
        now = forget;
        fewer = of_both (λ lane. (forget lane ≡ last lane) ⊎ (forget lane ≡ None)) its (inr (forget_its its (last its))) (inl (forget_other its (last (other_lane its))));
        left = lanes_are link u new its last forget is t.link
            (subst (λ (o : Option Delivery). IsLeft (lane_up its new) o) (sym (forget_its its (last its))) none) r.other (forget_other its (last (other_lane its)));
        appended = t.appended;
      }
    ]

-- ---- one after another
-- less is required if less is known of the last frames
known_less : (d : Delivery) (now last : Option Delivery) → (now ≡ last) ⊎ (now ≡ None) → IfSome last (λ b. CountsTell b d) → IfSome now (λ b. CountsTell b d)
known_less d now last (inl same) tell = subst (λ (o : Option Delivery). IfSome o (λ b. CountsTell b d)) (sym same) tell
known_less d now last (inr none) tell = subst (λ (o : Option Delivery). IfSome o (λ b. CountsTell b d)) (sym none) tt

last_less : (lane its : Lane) (d : Delivery) (now last : Option Delivery) → (now ≡ last) ⊎ (now ≡ None) →
    (last_of lane its d now ≡ last_of lane its d last) ⊎ (last_of lane its d now ≡ None)
last_less Directives Directives d now last h = inl refl
last_less Data Data d now last h = inl refl
last_less Directives Data d now last h = h
last_less Data Directives d now last h = h

pub tell_less : (now last : Lane → Option Delivery) (came : List Arrival) → ((lane : Lane) → (now lane ≡ last lane) ⊎ (now lane ≡ None)) → CountsTellAll last came → CountsTellAll now came
tell_less now last [] less h = tt
tell_less now last (OfStream d ∷ came) less h = (
  known_less d (now d.lane) (last d.lane) (less d.lane) h.0,
  tell_less (now_last d now) (now_last d last) came (λ lane. last_less lane d.lane d (now lane) (last lane) (less lane)) h.1,
)
tell_less now last (Stray octets ∷ came) less h = tell_less now last came less h

contains_head : {A : Type 0} (a : A) (xs : List A) → Contains (a ∷ xs) a
contains_head a xs = (0, omega arith, refl)

contains_tail : {A : Type 0} (a : A) (xs : List A) (x : A) → Contains xs x → Contains (a ∷ xs) x
contains_tail a xs x (k, lt, is) = (suc k, omega arith, is)

-- what came of a frame, or of one after it
comes_first : (d : Delivery) (came : List Arrival) (old mid new given : List (List ℕ)) → mid ≡ old ++ given → IsPartOf given (pdus_in (busy d.packets)) → ComesOf came mid new →
    ComesOf (OfStream d ∷ came) old new
comes_first d came old mid new given one sent more =
    record {
      given = given ++ more.given;
      appended = more.appended ∙ ap (λ l. l ++ more.given) one ∙ append_assoc old given more.given;
      sent = λ (pdu : List ℕ) (there : Contains (given ++ more.given) pdu).
          elim (Contains-append_cases given more.given pdu there) [
            | inl now ↦ (d, contains_head (OfStream d) came, part-contains given (pdus_in (busy d.packets)) pdu sent now)
            | inr later ↦ let r = more.sent pdu later in (r.0, contains_tail (OfStream d) came (OfStream r.0) r.1, r.2)
          ];
    }

comes_later : (octets : List ℕ) (came : List Arrival) (old mid new : List (List ℕ)) → mid ≡ old → ComesOf came mid new → ComesOf (Stray octets ∷ came) old new
comes_later octets came old mid new same more =
    record {
      given = more.given;
      appended = more.appended ∙ ap (λ l. l ++ more.given) same;
      sent = λ (pdu : List ℕ) (there : Contains more.given pdu). let r = more.sent pdu there in (r.0, contains_tail (Stray octets) came (OfStream r.0) r.1, r.2);
    }

pub all_come : (link : LinkConfig) (came : List Arrival) (u new : UpState) (last : Lane → Option Delivery) (old out : List (List ℕ)) → IsLink link → AreArrivals link came → AreLeft link u last →
    CountsTellAll last came → ReceivesAll (map octets_in came) u new old out → ComesOf came old out
all_come link [] u new last old out valid of left tell r =
    record { given = []; appended = r.1 ∙ sym (append-nil old); sent = λ pdu there. absurd (omega (arith, there.1)) }
all_come link (Stray octets ∷ came) u new last old out valid of left tell (mid, between, r, more) =
    let s : GivesNone link mid last old between = gives_none link u mid last octets old between left of.0 r in
    comes_later octets came old between out s.appended
    (all_come link came mid new s.now between out valid of.1 s.left (tell_less s.now last came s.fewer tell) more)
all_come link (OfStream d ∷ came) u new last old out valid of left tell (mid, between, r, more) =
    let s : GivesSent link mid last d old between = gives_sent link u mid last d old between valid left of.0 tell.0 r in
    comes_first d came old between out s.given s.appended s.sent (all_come link came mid new (now_last d last) between out valid of.1 s.left tell.1 more)

pub first_left : (link : LinkConfig) (u : UpState) → u ≡ first_up link → AreLeft link u no_last
first_left link u is =
    let first : AreLeft link (first_up link) no_last =
    record {
      links = of_both (λ lane. (lane_up lane (first_up link)).link ≡ lane_channel lane link) Directives refl refl;
      left = of_both (λ lane. IsLeft (lane_up lane (first_up link)) None) Directives refl refl;
    } in
    subst (λ (x : UpState). AreLeft link x no_last) (sym is) first

-- What the frames of both lanes give, from the first on.
pub all_were_sent : (link : LinkConfig) (came : List Arrival) (u new : UpState) (old out : List (List ℕ)) → IsLink link → AreArrivals link came → u ≡ first_up link →
    CountsTellAll no_last came → ReceivesAll (map octets_in came) u new old out → ComesOf came old out
all_were_sent link came u new old out valid of is tell r = all_come link came u new no_last old out valid of (first_left link u is) tell r
