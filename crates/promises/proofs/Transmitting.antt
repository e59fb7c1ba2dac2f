-- What a station does for the next frame that leaves it is calls.
use Rattle.std.proofs.Common.{◌≡◌, ℕ, List, [], ◌∷◌, Option, Some, None, refl, ap, sym, subst}
use Rattle.aos_frame.specs.declared.config.Lane.{Lane}
use Rattle.cfdp_directives.specs.User.Put.{Put}
use Rattle.cfdp_station.specs.declared.config.StationConfig.{StationConfig}
use Rattle.cfdp_station.specs.Station.{StationState}
use Rattle.cfdp_station.specs.Transmitting.{Gives, Transmits, most_polls}
use Rattle.cfdp_port.proofs.GainLemmas.{GoesOnLaws}
use Rattle.any_order.specs.Kept.{EndKept, MadeFrame, gives, with_frame}
use Rattle.any_order.proofs.Keeping.{makes_gives}
use Rattle.promises.specs.Passing.{with_given}
use Rattle.promises.proofs.Standing.{Stand}
use Rattle.promises.proofs.Turning.{MakesSome, at, both_made, none_made, pulled, same_stand}

module _ (laws : GoesOnLaws) (c : StationConfig) (theirs : EndKept) (puts : List Put) where
  abbrev Some_made : EndKept → EndKept → Type 0
  Some_made old new = MakesSome c old theirs new puts

  gives_stood : (answer : Option Lane) (frame : List ℕ) (a b : StationState) → Gives answer frame a b → Stand b → Stand a
  gives_stood (Some lane) frame a b g stand = same_stand a b g.rest.0 stand
  gives_stood None frame a b g stand = subst (λ (s : StationState). Stand s) g.1 stand

  gives_made : (k : EndKept) (answer : Option Lane) (frame : List ℕ) (a b : StationState) → Gives answer frame a b → Some_made (at a k) (record k { station = b; latest = with_given answer frame k.latest })
  gives_made k (Some lane) frame a b g =
      let m : MadeFrame = record { lane = lane; octets = frame } in
      let after : EndKept = record k { station = b; latest = with_frame lane frame k.latest } in
      (gives (m ∷ []), makes_gives (m ∷ []) c (at a k) theirs after puts refl (b, g, (refl, refl)))
  gives_made k None frame a b g = none_made laws c theirs puts (at a k) (at b k) (ap (λ (s : StationState). at s k) g.1)

  pub transmits_made : (answer : Option Lane) (frame : List ℕ) (old new : EndKept) → Transmits answer frame old.station new.station → Stand new.station →
      new ≡ record old { station = new.station; latest = with_given answer frame old.latest } → Some_made old new
  transmits_made answer frame old new t stand same =
      let after : EndKept = record old { station = new.station; latest = with_given answer frame old.latest } in
      let at_pulled : Stand t.pulled = gives_stood answer frame t.pulled new.station t.gives stand in
      subst (λ (k : EndKept). Some_made old k) (sym same)
      (both_made laws c theirs puts old (at t.pulled old) after (pulled laws c theirs puts most_polls old old.station t.pulled t.pulls at_pulled) (gives_made old answer frame t.pulled new.station t.gives))
