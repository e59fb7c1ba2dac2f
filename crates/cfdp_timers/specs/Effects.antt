-- What the steps of a machine write to.
use Rattle.std.specs.Prelude.{◌≡◌, ◌+◌, ◌≤◌, ℕ, true, Vec, vec_len, vec_capacity}
use Rattle.std.specs.FinSet as set
use Rattle.std.specs.declared.alloc.Global.{Global}
use Rattle.cfdp_header.specs.declared.value.TransactionId.{TransactionId}
use Rattle.cfdp_directives.specs.declared.user.indication.Indication.{Indication}
use Rattle.cfdp_timers.specs.declared.effects.Effects.{Effects}

-- There must be room for a step of this transaction: for three indications, the most that one step
-- makes, and for its timers.
pub record HasRoom (id : TransactionId) (effects : Effects) : Type 0 where
  pub told : vec_len effects.told + 3 ≤ vec_capacity effects.told
  pub timers : set.contains effects.timers.roomy id ≡ true

-- At most so many places of the room for indications were used.
abbrev pub UsesAtMost : ℕ → (before now : Vec Indication Global) → Type 0
UsesAtMost count before now =
    vec_len now + vec_capacity before ≤ vec_len before + count + vec_capacity now
