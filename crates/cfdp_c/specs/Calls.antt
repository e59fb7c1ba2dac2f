-- What a user's calls answer and do, in the words of the station's own clauses.
use Rattle.std.specs.Prelude.{◌≡◌, ◌≤◌, ℕ, max, Bool, List, Option, MatchOption, Result, IfOk, IfErr, OnOk, OnErr}
use Rattle.std.specs.FinMap as map
use Rattle.std.specs.declared.alloc.AllocError.{AllocError}
use Rattle.link_stack.specs.Downward.{first_down}
use Rattle.link_stack.specs.Upward.{first_up}
use Rattle.cfdp_header.specs.declared.value.TransactionId.{TransactionId}
use Rattle.cfdp_timers.specs.Due.{IsLeast, due_count}
use Rattle.cfdp_entity.specs.Adding.{AddsFile, RefusesToAdd}
use Rattle.cfdp_entity.specs.declared.request.Request.{Request}
use Rattle.cfdp_entity.specs.declared.error.AddError.{AddError}
use Rattle.cfdp_entity.specs.declared.error.RequestError.{RequestError}
use Rattle.cfdp_entity.specs.declared.error.ForgetError.{ForgetError}
use Rattle.cfdp_entity.specs.declared.error.PutError.{PutError}
use Rattle.cfdp_entity.specs.declared.error.RemoveError.{RemoveError}
use Rattle.cfdp_entity.specs.Entity.{first_entity, with_table}
use Rattle.cfdp_entity.specs.Forgetting.{Forgets, ForgetsSome, HasNoneOver, IsForgetRefusal, forget_refusal}
use Rattle.cfdp_entity.specs.RemovingSources.{RefusesToRemove, RemovesItsSource}
use Rattle.cfdp_entity.specs.Putting.{Accepts, put_refusal, IsPutRefusal, stored_by_error}
use Rattle.cfdp_entity.specs.Table.{Ticks}
use Rattle.cfdp_station.specs.Requests.{StationAnswers}
use Rattle.cfdp_station.specs.Station.{StationState, KeepsLink}
use Rattle.cfdp_station.specs.declared.config.StationConfig.{StationConfig}
use Rattle.cfdp_c.specs.Codes.{add_answer, remove_answer, put_answer, look_code, request_answer, forget_answer, memory_answer}
use Rattle.cfdp_c.specs.declared.calls.CfdpId.{CfdpId}
use Rattle.cfdp_c.specs.declared.held.AnyStation.{AnyStation}
use Rattle.cfdp_c.specs.declared.held.AnyStation.TheVariants.{Memory, Folders}
use Rattle.cfdp_store.specs.declared.error.StoreError.{StoreError}
use Rattle.cfdp_entity.specs.Looking.{LooksUp}

-- a transaction, as a caller writes it
abbrev pub id_of : CfdpId → TransactionId
id_of id = record { source = id.source; number = id.number }

-- A station without transactions, both of whose stores are empty.
pub record IsFirst (config : StationConfig) (s : StationState) : Type 0 where
  pub entity : s.entity.state ≡ first_entity map.empty map.empty config.entity
  pub down : s.down ≡ first_down config.sends config.capacity
  pub up : s.up ≡ first_up config.receives

-- A file was added to the outbox, or this is why not.
pub record Adds (name octets : List ℕ) (answer : ℕ) (old new : StationState) : Type 0 where
  pub told : Result (Unit {0}) AddError
  pub code : answer ≡ add_answer told
  pub added : OnOk told (AddsFile name octets old.entity.state new.entity.state)
  pub refused : IfErr told (RefusesToAdd name old.entity.state.table.sources)
  pub err : OnErr told (new ≡ old)
  pub link : KeepsLink old new

-- A file was removed from the outbox, or this is why not.
pub record RemovesOne (name : List ℕ) (answer : ℕ) (old new : StationState) : Type 0 where
  pub told : Result (Unit {0}) RemoveError
  pub code : answer ≡ remove_answer told
  pub removed : OnOk told (RemovesItsSource name old.entity.state new.entity.state)
  pub refused : IfErr told (RefusesToRemove name old.entity.state.table)
  pub err : OnErr told (new ≡ old)
  pub link : KeepsLink old new

-- A put was accepted as this transaction, or this is why not.
pub record Puts (source destination : List ℕ) (answer : ℕ) (id : CfdpId) (old new : StationState)
    : Type 0 where
  pub told : Result TransactionId PutError
  pub code : answer ≡ put_answer told
  pub named : IfOk told (λ i. id_of id ≡ i)
  pub accepted : IfOk told (λ i. Accepts source destination i old.entity.state new.entity.state)
  pub refused : IfErr told (λ by. IsPutRefusal (put_refusal (stored_by_error by)
      source destination old.entity.state) by)
  pub err : OnErr told (new.entity.state ≡ old.entity.state)
  pub link : KeepsLink old new

-- The outbox looked for the file, and its put was accepted or not; or the outbox failed to look.
pub record Seeks (source destination : List ℕ) (answer : ℕ) (id : CfdpId) (old new : StationState)
    : Type 0 where
  pub found : Result Bool StoreError
  pub mid : StationState
  pub looks : OnOk found (LooksUp source old.entity.state mid.entity.state)
  pub link : KeepsLink old mid
  pub puts : OnOk found (Puts source destination answer id mid new)
  pub code : IfErr found (λ by. answer ≡ look_code by)
  pub err : OnErr found ((new.entity.state ≡ old.entity.state) × KeepsLink old new)

-- A put from memory, or from a folder, in which the file is looked for first.
abbrev pub PutsFrom : AnyStation → (source destination : List ℕ) → (answer : ℕ) → (id : CfdpId)
    → (new : StationState) → Type 0
PutsFrom (Memory s) source destination answer id new = Puts source destination answer id s new
PutsFrom (Folders s) source destination answer id new = Seeks source destination answer id s new

-- A request of a transaction was carried out, or this is why not.
pub record Requests (c : Request) (id : TransactionId) (answer : ℕ) (old new : StationState)
    : Type 0 where
  pub told : Result (Unit {0}) RequestError
  pub code : answer ≡ request_answer told
  pub answers : StationAnswers c id told old new

-- The record of a transaction was dropped, or this is why not.
pub record ForgetsOne (id : TransactionId) (answer : ℕ) (old new : StationState) : Type 0 where
  pub told : Result (Unit {0}) ForgetError
  pub code : answer ≡ forget_answer told
  pub forgot : OnOk told (Forgets id old.entity.state new.entity.state)
  pub refused : IfErr told (IsForgetRefusal (forget_refusal id old.entity.state.table))
  pub err : OnErr told (new ≡ old)
  pub link : KeepsLink old new

-- The records that may be dropped were, or only some of them if there was no memory for more.
pub record ForgetsClosed (answer : ℕ) (old new : StationState) : Type 0 where
  pub told : Result (Unit {0}) AllocError
  pub code : answer ≡ memory_answer told
  pub some : ForgetsSome old.entity.state new.entity.state
  pub all : OnOk told (HasNoneOver new.entity.state.table)
  pub link : KeepsLink old new

-- The time was given, or there was no memory for what is due.
pub record TellsTime (now answer : ℕ) (old new : StationState) : Type 0 where
  pub told : Result (Unit {0}) AllocError
  pub code : answer ≡ memory_answer told
  pub ticked : OnOk told (Ticks now old.entity.state.table new.entity.state.table)
  pub table : new.entity.state ≡ with_table old.entity.state new.entity.state.table
  pub lacks : OnErr told (1 ≤ due_count old.entity.state.table.armed
      (max old.entity.state.table.now now))
  pub err : OnErr told (new ≡ old)
  pub link : KeepsLink old new

-- The earliest deadline of all timers, if one is armed.
abbrev pub IsTimeout : Option ℕ → StationState → Type 0
IsTimeout told s =
    MatchOption told (s.entity.state.table.armed ≡ map.empty)
    (λ deadline. IsLeast s.entity.state.table.armed deadline)
