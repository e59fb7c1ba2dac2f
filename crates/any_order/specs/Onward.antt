-- What stays of a station's lives, whatever is called.
use Rattle.std.specs.Prelude.{◌≡◌, ℕ, List, [], ◌∷◌, ◌++◌}
use Rattle.any_order.specs.Calls.{Call, Restarts}
use Rattle.any_order.specs.Kept.{EndKept, all_kept}

-- A call is no start.
abbrev pub IsNoStart : Call → Type 0
IsNoStart (Restarts first number) = ⊥
IsNoStart _ = Unit {0}

-- None of these is one.
abbrev pub AreNoStarts : List Call → Type 0
AreNoStarts [] = Unit {0}
AreNoStarts (call ∷ calls) = IsNoStart call × AreNoStarts calls

-- how many of the indications of this life were discarded
abbrev pub let_go_at : EndKept → ℕ
let_go_at k = k.station.entity.state.table.gone

-- It goes on in its life: what is kept of the lives before stays, and no indication is discarded.
pub record GoesOn (old new : EndKept) : Type 0 where
  pub before : new.before ≡ old.before
  pub told_before : new.told_before ≡ old.told_before
  pub gone : let_go_at new ≡ let_go_at old

-- It begins another life: the one that it had is the last of those before.
pub record BeginsAnew (old new : EndKept) : Type 0 where
  pub before : new.before ≡ all_kept old
  pub told_before : new.told_before ≡ old.told_before ++ old.station.entity.state.table.told
  pub gone : let_go_at new ≡ 0

-- It resumes: its link begins another life, and the list of what it indicated goes on.
pub record GoesOnInNewLife (old new : EndKept) : Type 0 where
  pub before : new.before ≡ all_kept old
  pub told_before : new.told_before ≡ old.told_before
  pub told : new.station.entity.state.table.told ≡ old.station.entity.state.table.told
  pub gone : let_go_at new ≡ let_go_at old
