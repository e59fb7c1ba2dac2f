-- What a frame that a station takes does to its end of the link, whatever came up before.
use Rattle.std.proofs.Common.{◌≡◌, ℕ, Bool, true, List, [], ◌∷◌, ◌++◌, ◌⊎◌, refl, sym, ap, subst, inl, inr}
use Rattle.mpdu.specs.Stream.{survivors}
use Rattle.link_stack.specs.AnyOrder.{Receives}
use Rattle.link_stack.specs.declared.drops.LinkDrop.TheVariants.{NoMemory}
use Rattle.link_stack.specs.Drops.{counted}
use Rattle.link_stack.specs.Frames.{pdus_in}
use Rattle.link_stack.specs.Upward.{FrameRead, HasZone, LaneTakes, LinkReceiverState, Takes, TakesFront, TakesNextOf, TakesNextFrontOf, frame_read}
use Rattle.cfdp_station.specs.Station.{StationState}
use Rattle.cfdp_station.specs.Taking.{TakesFrame}

whole : (read : FrameRead) (up new : LinkReceiverState) (before pdus : List (List ℕ)) → Takes read up new [] pdus → Takes read up new before (before ++ pdus)
whole read up new before pdus t = record { link = t.link; last = t.last; begun = t.begun; drops = t.drops; pdus = ap (λ l. before ++ l) t.pdus }

front : (read : FrameRead) (up new : LinkReceiverState) (before pdus : List (List ℕ)) → TakesFront read up new [] pdus → TakesFront read up new before (before ++ pdus)
front read up new before pdus t =
    record { link = t.link; last = t.last; begun = t.begun; some = t.some; count = t.count; drops = t.drops; pdus = ap (λ l. before ++ l) t.pdus }

next_whole : (all : Bool) (up new : LinkReceiverState) (ps : List (List ℕ)) (marks : List Bool) (missed : ℕ) (before pdus : List (List ℕ)) → TakesNextOf all up new ps marks missed [] pdus →
    TakesNextOf all up new ps marks missed before (before ++ pdus)
next_whole all up new ps marks missed before pdus t =
    record { after = t.after; added = t.added; completed = t.completed; pdus = ap (λ l. before ++ l) t.pdus; drops = t.drops; link = t.link; memory = t.memory }

next_front : (all : Bool) (up new : LinkReceiverState) (ps : List (List ℕ)) (marks : List Bool) (before pdus : List (List ℕ)) → TakesNextFrontOf all up new ps marks [] pdus →
    TakesNextFrontOf all up new ps marks before (before ++ pdus)
next_front all up new ps marks before pdus t =
    record { after = t.after; added = t.added; completed = t.completed; some = t.some; count = t.count; pdus = ap (λ l. before ++ l) t.pdus; drops = t.drops; link = t.link; memory = t.memory }

either_next : (all : Bool) (up new : LinkReceiverState) (ps : List (List ℕ)) (marks : List Bool) (missed : ℕ) (before pdus : List (List ℕ)) →
    TakesNextOf all up new ps marks missed [] pdus ⊎ TakesNextFrontOf all up new ps marks [] pdus →
    TakesNextOf all up new ps marks missed before (before ++ pdus) ⊎ TakesNextFrontOf all up new ps marks before (before ++ pdus)
either_next all up new ps marks missed before pdus (inl t) = inl (next_whole all up new ps marks missed before pdus t)
either_next all up new ps marks missed before pdus (inr t) = inr (next_front all up new ps marks before pdus t)

either_takes : (frame : List ℕ) (up new : LinkReceiverState) (before pdus : List (List ℕ)) →
    Takes (frame_read up frame) up new [] pdus ⊎ (HasZone up.link frame × TakesFront (frame_read up frame) up new [] pdus) →
    Takes (frame_read up frame) up new before (before ++ pdus) ⊎ (HasZone up.link frame × TakesFront (frame_read up frame) up new before (before ++ pdus))
either_takes frame up new before pdus (inl t) = inl (whole (frame_read up frame) up new before pdus t)
either_takes frame up new before pdus (inr t) = inr (t.0, front (frame_read up frame) up new before pdus t.1)

pub takes_behind : (frame : List ℕ) (up new : LinkReceiverState) (before pdus : List (List ℕ)) → LaneTakes frame up new [] pdus → LaneTakes frame up new before (before ++ pdus)
takes_behind frame up new before pdus t = record {
  takes = either_takes frame up new before pdus t.takes;
  next = λ ps marks missed is at. either_next true up new ps marks missed before pdus (t.next ps marks missed is at);
  others = λ all ps marks missed is at. either_next all up new ps marks missed before pdus (t.others all ps marks missed is at);
  delivered = λ ps marks missed is at none.
      subst (λ (l : List (List ℕ)). (pdus_in (survivors up.link.zone (marks ++ true ∷ []) 0 ps) ≡ pdus_in (survivors up.link.zone marks 0 ps) ++ (l ++ pdus)) ⊎ (new.drops ≡ counted up.drops NoMemory))
      (sym none) (t.delivered ps marks missed is at refl);
  control = t.control;
}

pub receives_behind : (frame : List ℕ) (old new : StationState) (before : List (List ℕ)) (t : TakesFrame frame old new) → Receives frame old.up new.up before (before ++ t.pdus)
receives_behind frame old new before t = record { taken = takes_behind frame _ _ before t.pdus t.given; other = t.other; lane = t.lane }
