-- What a user asks of a station, each as one relation of the station before and after it.
use Rattle.std.specs.Prelude.{◌≡◌, ℕ, List, Result, Ok, Err, false}
use Rattle.cfdp_header.specs.declared.value.TransactionId.{TransactionId}
use Rattle.cfdp_store.specs.Stores.{failures_after}
use Rattle.link_stack.specs.Downward.{both_counted_from}
use Rattle.cfdp_entity.specs.Entity.{with_table}
use Rattle.cfdp_entity.specs.Forgetting.{ForgetsSome}
use Rattle.cfdp_entity.specs.Looking.{LooksUp}
use Rattle.cfdp_entity.specs.Putting.{Accepts, IsPutRefusal, put_refusal, stored_by_error}
use Rattle.cfdp_entity.specs.declared.error.PutError.{PutError}
use Rattle.cfdp_entity.specs.Table.{without_told}
use Rattle.cfdp_station.specs.Station.{StationState, KeepsLink, KeepsRest}
use Rattle.cfdp_station.specs.Failures.{CountsPut, KeepsFailures}

-- ---- puts
-- The station accepted the put, or refused it by this cause and nothing else changed.
abbrev pub Puts : (source destination : List ℕ) → Result TransactionId PutError
    → (old new : StationState) → Type 0
Puts source destination (Ok id) old new =
    Accepts source destination id old.entity.state new.entity.state
    × KeepsFailures old.entity new.entity × KeepsLink old new
Puts source destination (Err by) old new =
    IsPutRefusal (put_refusal (stored_by_error by) source destination old.entity.state) by
    × (new.entity.state ≡ old.entity.state) × CountsPut by old.entity new.entity
    × KeepsLink old new

-- ---- files that are looked for
-- The outbox looked for a file, and nothing else changed.
pub record LooksAt (source : List ℕ) (old new : StationState) : Type 0 where
  pub looks : LooksUp source old.entity.state new.entity.state
  pub failures : KeepsFailures old.entity new.entity
  pub link : KeepsLink old new

-- It failed to, which was counted, and nothing else changed.
pub record FailsToLook (old new : StationState) : Type 0 where
  pub same : new.entity.state ≡ old.entity.state
  pub outbox : new.entity.outbox_failures ≡ failures_after old.entity.outbox_failures false
  pub inbox : new.entity.inbox_failures ≡ old.entity.inbox_failures
  pub link : KeepsLink old new

-- ---- what is discarded
-- Transactions that are over were forgotten, and nothing else changed.
pub record LetsGo (old new : StationState) : Type 0 where
  pub forgets : ForgetsSome old.entity.state new.entity.state
  pub inbox : new.entity.inbox_failures ≡ old.entity.inbox_failures
  pub outbox : new.entity.outbox_failures ≡ old.entity.outbox_failures
  pub link : KeepsLink old new

-- So many indications were discarded, or all if there are fewer.
pub record ForgetsTold (count : ℕ) (old new : StationState) : Type 0 where
  pub entity : new.entity ≡ record old.entity {
    state = with_table old.entity.state (without_told count old.entity.state.table);
  }
  pub link : KeepsLink old new

-- ---- frame counts
-- The frames of both lanes are counted from this number on.
pub record CountsFrom (count : ℕ) (old new : StationState) : Type 0 where
  pub down : new.down ≡ both_counted_from count old.down
  pub rest : KeepsRest old new
