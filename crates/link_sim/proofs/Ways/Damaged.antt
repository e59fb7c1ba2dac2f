-- A lane that takes a damaged frame counts it, and is otherwise as it was.
use Rattle.std.proofs.Common.{◌≡◌, ℕ, Bool, true, false, ◌==◌, ◌&&◌, not, if◌then◌else◌, List, [], length, get_or, Option, Some, None, refl, sym, ap, subst, ◌∙◌, inl, inr, arith, length-set}
use Rattle.std.proofs.lemmas.List.{get_or-set_other}
use Rattle.cfd_bits.specs.Counting.{raised}
use Rattle.cfd_bits.specs.Field.{field}
use Rattle.aos_frame.specs.LinkFields.{is_intact}
use Rattle.aos_frame.specs.Frame.{frame_fault, frame_len, idle_channel, lane_channel}
use Rattle.aos_frame.specs.declared.config.ChannelConfig.{ChannelConfig}
use Rattle.aos_frame.specs.declared.config.Lane.{Lane}
use Rattle.aos_frame.specs.declared.config.LinkConfig.{LinkConfig}
use Rattle.aos_frame.specs.declared.error.FrameError.{FrameError}
use Rattle.aos_frame.specs.declared.error.FrameError.TheVariants.{Length, Version, OtherProfile, OtherSpacecraft, OtherChannel, OnlyIdle, Damaged}
use Rattle.link_stack.specs.Drops.{count_of}
use Rattle.link_stack.specs.Drops as link_drops
use Rattle.link_stack.specs.declared.drops.LinkDrop.TheVariants.{Frame}
use Rattle.link_stack.specs.Upward.{LinkReceiverState, IsUp, Takes, control_unless, read_unless}
use Rattle.cfdp_station.specs.Taking.{GivesPdus}
use Rattle.link_sim.specs.OneWay.{OneWayState, IsOneWay, SendsNone, packets_sent}
use Rattle.link_sim.specs.World.Steps.{counts_damaged}

-- ---- the counts: none but number 12 is another
counted-length : (counts : List ℕ) → length (link_drops.counted counts (Frame Damaged)) ≡ length counts
unfolding link_drops.counted
counted-length counts = length-set counts 11 (raised (get_or counts 11 0))

counted-memory : (counts : List ℕ) → count_of (link_drops.counted counts (Frame Damaged)) 11 ≡ count_of counts 11
unfolding link_drops.counted
counted-memory counts = get_or-set_other counts 11 10 (raised (get_or counts 11 0)) 0 (λ e. omega (arith, e))

-- ---- a lane between its ends
pub counts-more : (w : OneWayState) → IsOneWay w → SendsNone w (record w { up = counts_damaged w.up })
counts-more w is =
    let r = is.received in
    let end : IsUp (counts_damaged w.up) (packets_sent w) r.read w.run = record {
      packets_whole = r.end.packets_whole;
      of_link = r.end.of_link;
      few = r.end.few;
      seen = r.end.seen;
      unseen = r.end.unseen;
      as_left = r.end.as_left;
      counts = counted-length w.up.drops ∙ r.end.counts;
    } in
    record {
      way = record {
        same_link = is.same_link;
        sent = record { valid = is.sent.valid; made = is.sent.made; frames = is.sent.frames; fits = is.sent.fits; octets = is.sent.octets; taken = is.sent.taken };
        received = record {
          read = r.read;
          end = end;
          among = r.among;
          all_read = λ none. r.all_read (sym (counted-memory w.up.drops) ∙ none);
          struck = r.struck;
        };
      };
      packets = refl;
      delivered = refl;
    }

-- ---- what the frame does to the lane that takes it
pub takes-damaged : (frame : List ℕ) (up new : LinkReceiverState) (pdus : List (List ℕ)) → frame_fault frame up.link ≡ Some Damaged → GivesPdus frame up new pdus →
    (new ≡ counts_damaged up) × (pdus ≡ [])
takes-damaged frame up new pdus damaged given = elim given.takes [
  | inl t ↦ whole (subst (λ (f : Option FrameError). Takes (read_unless f up frame) up new [] pdus) damaged t)
  | inr front ↦ absurd (let both : None ≡ Some Damaged = sym front.0.of_link ∙ damaged in cc)
]
  where
    whole : Takes (read_unless (Some Damaged) up frame) up new [] pdus → (new ≡ counts_damaged up) × (pdus ≡ [])
    whole t =
        let control : new.control ≡ up.control = given.control ∙ ap (λ (f : Option FrameError). control_unless f up frame) damaged in
        ((λ i. record { link = t.link i; last = t.last i; begun = t.begun i; drops = t.drops i; control = control i }), t.pdus)

-- ---- both lanes of a link know a damaged frame by the same
-- what is wrong otherwise
abbrev rest_of : List ℕ → ChannelConfig → Option FrameError
rest_of text c =
    if not (field text 0 2 == 1) then Some Version
    else if not (field text 40 1 == 0) then Some OtherProfile
    else if not (field text 42 2 == 0) then Some OtherProfile
    else if not (field text 2 8 == c.spacecraft) then Some OtherSpacecraft
    else if field text 10 6 == idle_channel then Some OnlyIdle
    else if not (field text 10 6 == c.virtual_channel) then Some OtherChannel
    else None

never : (a b c d e f : Bool) →
    (if a then Some Version else if b then Some OtherProfile else if c then Some OtherProfile else if d then Some OtherSpacecraft else if e then Some OnlyIdle else if f then Some OtherChannel else None)
    ≡ Some Damaged → ⊥
never true b c d e f h = absurd cc
never false true c d e f h = absurd cc
never false false true d e f h = absurd cc
never false false false true e f h = absurd cc
never false false false false true f h = absurd cc
never false false false false false true h = absurd cc
never false false false false false false h = absurd cc

first-two : (a b : Bool) (x y : Option FrameError) → (x ≡ Some Damaged → ⊥) → (if a then Some Length else if b then Some Damaged else x) ≡ Some Damaged →
    (if a then Some Length else if b then Some Damaged else y) ≡ Some Damaged
first-two true b x y rest h = absurd cc
first-two false true x y rest h = refl
first-two false false x y rest h = absurd (rest h)

pub damaged-lanes : (octets : List ℕ) (link : LinkConfig) (l m : Lane) → frame_fault octets (lane_channel l link) ≡ Some Damaged → frame_fault octets (lane_channel m link) ≡ Some Damaged
damaged-lanes octets link l m h =
    first-two (not (length octets == frame_len (lane_channel l link))) (link.fields.error_control && not (is_intact octets)) (rest_of octets (lane_channel l link)) (rest_of octets (lane_channel m link))
    (never (not (field octets 0 2 == 1)) (not (field octets 40 1 == 0)) (not (field octets 42 2 == 0)) (not (field octets 2 8 == link.spacecraft)) (field octets 10 6 == idle_channel)
    (not (field octets 10 6 == (lane_channel l link).virtual_channel))) h
