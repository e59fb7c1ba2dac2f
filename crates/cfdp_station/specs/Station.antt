-- The state of a station.
use Rattle.std.specs.Prelude.{◌≡◌}
use Rattle.link_stack.specs.Downward.{DownState}
use Rattle.link_stack.specs.Upward.{UpState}
use Rattle.cfdp_entity.specs.Entity.{Counted, counted_lent}

-- its entity with the counts of its stores' failures, the end of the link that sends, and the end
-- that receives, each with both lanes
pub record StationState : Type 0 where
  pub entity : Counted
  pub down : DownState
  pub up : UpState

-- a station before a step that may read a file, except that its outbox has what it has afterwards
abbrev pub station_lent : (now old : StationState) → StationState
station_lent now old = record old { entity = counted_lent now.entity old.entity }

-- Both ends of the link are as they were.
abbrev pub KeepsLink : (old new : StationState) → Type 0
KeepsLink old new = (new.down ≡ old.down) × (new.up ≡ old.up)

-- All but the end that sends is as it was.
abbrev pub KeepsRest : (old new : StationState) → Type 0
KeepsRest old new = (new.entity ≡ old.entity) × (new.up ≡ old.up)
