-- How the failures of a station's stores are counted by a step.
use Rattle.std.specs.Prelude.{◌≡◌, ◌≤◌, Err}
use Rattle.cfdp_header.specs.declared.value.TransactionId.{TransactionId}
use Rattle.cfdp_store.specs.Stores.{failures_after}
use Rattle.cfdp_entity.specs.Entity.{Counted}
use Rattle.cfdp_entity.specs.Putting.{was_answered}
use Rattle.cfdp_entity.specs.declared.error.PutError.{PutError}

-- No failure of either store was counted.
abbrev pub KeepsFailures : (old new : Counted) → Type 0
KeepsFailures old new =
    (new.outbox_failures ≡ old.outbox_failures) × (new.inbox_failures ≡ old.inbox_failures)

-- No failure of the outbox was counted; those of the inbox didn't fall.
abbrev pub KeepsOutbox : (old new : Counted) → Type 0
KeepsOutbox old new =
    (new.outbox_failures ≡ old.outbox_failures) × (old.inbox_failures ≤ new.inbox_failures)

-- A put was refused by this cause: if the cause is a failure of the outbox, that was counted.
abbrev pub CountsPut : PutError → (old new : Counted) → Type 0
CountsPut by old new =
    (new.outbox_failures ≡ failures_after old.outbox_failures
    (was_answered {X = TransactionId} (Err by)))
    × (new.inbox_failures ≡ old.inbox_failures)
