-- A step so many times, and once more; what a wire brings, and frames that leave.
use Rattle.std.proofs.Common.{◌≡◌, ◌≢◌, ℕ, ◌+◌, ◌<◌, ◌≤◌, List, length, drop, length-drop, add-one, ap, arith, subst, sym, ◌∙◌, Option, Some, None, Ok, Err, Result, false, Bool, IsTrue, ◌↔◌, OnErr, OnOk}
use Rattle.aos_frame.specs.Frame.{frame_len, lane_channel, other_lane}
use Rattle.aos_frame.specs.declared.config.ChannelConfig.{ChannelConfig}
use Rattle.aos_frame.specs.declared.config.LinkConfig.{LinkConfig}
use Rattle.aos_frame.specs.declared.config.Lane.{Lane}
use Rattle.aos_frame.specs.declared.config.Lane.TheVariants.{Directives, Data}
use Rattle.link_stack.specs.Downward.{DownState, KeepsLanes, LinkSenderState, first_down, frame_lane, lane_down}
use Rattle.cfdp_station.proofs.Whole.{next-is_whole}
use Rattle.cfdp_station.specs.Link.{FlushesBoth}
use Rattle.cfdp_station.specs.Station.{StationState}
use Rattle.cfdp_station.specs.Transmitting.{Times}
use Rattle.cfdp_port.specs.Calls.{WireCall, Asked}
use Rattle.cfdp_port.specs.Port.{FitsFrames, HasZones, KeepsLinks, PortState, all_waiting}
use Rattle.cfdp_port.specs.Turn.{AsksOn, TakesWhat}
use Rattle.cfdp_port.specs.declared.wire.WireFault.{WireFault}

pub once_more : {S : Type 0} (Step : S → S → Type 0) (count : ℕ) (old mid new : S) → Times Step count old mid → Step mid new → Times Step (count + 1) old new
once_more Step count old mid new before step = rw add-one (mid, before, step)

module _ {W : Type 0} (Steps : W → WireCall → W → Type 0) where
  -- a frame came, or the wire failed
  pub heard_more : (count : ℕ) (first : PortState W) (station station_now : StationState) (wire wire_now : W) (came : Result (Option (List ℕ)) WireFault)
      → Times (AsksOn Steps) count first (record { station = station; wire = wire }) → came ≢ Ok None
      → Steps wire (Asked came) wire_now → TakesWhat Steps came station station_now
      → Times (AsksOn Steps) (count + 1) first (record { station = station_now; wire = wire_now })
  heard_more count first station station_now wire wire_now came before some asked takes =
      once_more (AsksOn Steps) count first (record { station = station; wire = wire }) (record { station = station_now; wire = wire_now }) before
      (came, some, record { asked = asked; takes = takes })

-- what came isn't nothing
pub some_came : (came : Result (Option (List ℕ)) WireFault) (frame : List ℕ) → came ≡ Ok (Some frame) → came ≢ Ok None
some_came came frame is none = cc

pub fault_came : (came : Result (Option (List ℕ)) WireFault) (fault : WireFault) → came ≡ Err fault → came ≢ Ok None
fault_came came fault is none = cc

-- what is something isn't nothing
pub some_waits : {A : Type 0} (o : Option A) (x : A) → o ≡ Some x → o ≢ None
some_waits o x is none = cc

-- what is not tested true isn't so
pub not_so : (b : Bool) (P : Type 0) → (IsTrue b ↔ P) → b ≡ false → P → ⊥
not_so b P same is holds = let so : IsTrue b = same.1 holds in cc

pub on_err : {A E : Type 0} (r : Result A E) (P : Type 0) → P → OnErr r P
on_err (Ok x) P holds = tt
on_err (Err e) P holds = holds

-- what follows from what holds of an answer, holds of it
pub ok-map : {A E : Type 0} (r : Result A E) (P Q : Type 0) → (P → Q) → OnOk r P → OnOk r Q
ok-map (Ok x) P Q follows holds = follows holds
ok-map (Err e) P Q follows holds = tt

pub err-map : {A E : Type 0} (r : Result A E) (P Q : Type 0) → (P → Q) → OnErr r P → OnErr r Q
err-map (Ok x) P Q follows holds = tt
err-map (Err e) P Q follows holds = follows holds

-- what follows from both answers
pub on_both : {A E : Type 0} (r : Result A E) (P Q R : Type 0) → OnOk r P → OnErr r Q → (P → R) → (Q → R) → R
on_both (Ok x) P Q R ok err if_ok if_err = if_ok ok
on_both (Err e) P Q R ok err if_ok if_err = if_err err

-- ---- lanes
pub lanes_kept : (x : Lane) (old now : DownState) → (lane_down x now).link ≡ (lane_down x old).link → lane_down (other_lane x) now ≡ lane_down (other_lane x) old → KeepsLinks old now
lanes_kept Directives old now link other = (link, ap (λ (d : LinkSenderState). d.link) other)
lanes_kept Data old now link other = (ap (λ (d : LinkSenderState). d.link) other, link)

pub kept_both : (old mid now : DownState) → KeepsLinks old mid → KeepsLinks mid now → KeepsLinks old now
kept_both old mid now one two = (two.0 ∙ one.0, two.1 ∙ one.1)

pub kept_same : (old now : DownState) → now ≡ old → KeepsLinks old now
kept_same old now same = (ap (λ (d : DownState). d.directives.link) same, ap (λ (d : DownState). d.file_data.link) same)

pub kept_lanes : (old now : DownState) → KeepsLanes old now → KeepsLinks old now
kept_lanes old now kept = (kept.0, kept.2)

pub kept_flushed : (old now : DownState) → FlushesBoth old now → KeepsLinks old now
kept_flushed old now f = ((f.lanes Directives).fixed.0, (f.lanes Data).fixed.0)

-- a new end fits, whose zone is this
pub first_fits : (len : ℕ) (link : LinkConfig) (capacity : ℕ) (d : DownState) → d ≡ first_down link capacity → 1 ≤ link.zone → len ≡ frame_len (lane_channel Directives link) →
    HasZones d × (len ≡ frame_len d.directives.link)
first_fits len link capacity d is least long =
    let one = ap (λ (x : DownState). x.directives.link.zone) is in
    let two = ap (λ (x : DownState). x.file_data.link.zone) is in
    ((omega (arith, one, least), omega (arith, two, least)), long ∙ ap (λ (x : DownState). frame_len x.directives.link) (sym is))

pub fits_still : (len : ℕ) (old now : StationState) → KeepsLinks old.down now.down → FitsFrames len old → FitsFrames len now
fits_still len old now kept fits = (
  (subst (λ (c : ChannelConfig). 1 ≤ c.zone) (sym kept.0) fits.0.0, subst (λ (c : ChannelConfig). 1 ≤ c.zone) (sym kept.1) fits.0.1),
  subst (λ (c : ChannelConfig). len ≡ frame_len c) (sym kept.0) fits.1,
)

-- a frame takes its zone off it
taken_off : (zone : ℕ) (old now : List ℕ) → now ≡ drop zone old → 1 ≤ zone → zone ≤ length old → length now < length old
taken_off zone old now is some whole = (let size = ap (λ (x : List ℕ). length x) is in let left = length-drop zone old in omega (arith, size, left, some, whole))

pub frame_less : (x : Lane) (old now : DownState) → HasZones old → frame_lane old ≡ Some x → (lane_down x now).waiting ≡ drop (lane_down x old).link.zone (lane_down x old).waiting →
    lane_down (other_lane x) now ≡ lane_down (other_lane x) old → all_waiting now < all_waiting old
frame_less Directives old now zones is waiting other =
    let less = taken_off old.directives.link.zone old.directives.waiting now.directives.waiting waiting zones.0 (next-is_whole old Directives is) in
    let same = ap (λ (d : LinkSenderState). length d.waiting) other in
    omega (arith, less, same)
frame_less Data old now zones is waiting other =
    let less = taken_off old.file_data.link.zone old.file_data.waiting now.file_data.waiting waiting zones.1 (next-is_whole old Data is) in
    let same = ap (λ (d : LinkSenderState). length d.waiting) other in
    omega (arith, less, same)
