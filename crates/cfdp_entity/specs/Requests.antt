-- What a user asks of a transaction, and what an entity does for it.
use Rattle.std.specs.Prelude.{◌≡◌, ◌≤◌, ℕ, Bool, false, Option, None, Result, IfErr, OnOk, OnErr}
use Rattle.cfdp_header.specs.declared.value.TransactionId.{TransactionId}
use Rattle.cfdp_store.specs.Chains.{Raises}
use Rattle.cfdp_entity.specs.declared.request.Request.{Request}
use Rattle.cfdp_entity.specs.declared.request.Request.TheVariants as request
use Rattle.cfdp_entity.specs.declared.error.RequestError.{RequestError}
use Rattle.cfdp_entity.specs.Refusing.{IsRefusal, refusal_in, asks_in, called_in}
use Rattle.cfdp_entity.specs.Entity.{EntityState, Counted, with_table}
use Rattle.cfdp_entity.specs.Storing.{AsksByRequest, AsksToRequest}
use Rattle.cfdp_entity.specs.Table.{TableState, called_at, place_of}

-- why a request of a transaction is refused, if it is
abbrev pub request_refusal : Request → TransactionId → TableState → Option RequestError
request_refusal c id t = refusal_in c (place_of id t.records) t

-- `true` if it may ask something of the inbox
abbrev pub asks_inbox : Request → TransactionId → TableState → Bool
asks_inbox c id t = asks_in c (place_of id t.records) t

-- the table once its record did what was asked
abbrev pub after_request : Request → TransactionId → TableState → TableState
after_request c id t = called_in c (place_of id t.records) t

-- The record at an index did what was asked.
pub record RequestsAt (place : ℕ) (c : Request) (old new : Counted) : Type 0 where
  pub called : new.state ≡ with_table old.state (called_at place c old.state.table)
  pub grows : old.inbox_failures ≤ new.inbox_failures
  pub raises : AsksToRequest Raises c place old.state.table old.inbox_failures new.inbox_failures
  pub outbox : new.outbox_failures ≡ old.outbox_failures

-- A request of a transaction was accepted.
pub record IsCalled (c : Request) (id : TransactionId) (old new : EntityState) : Type 0 where
  pub allowed : request_refusal c id old.table ≡ None
  pub called : new ≡ with_table old (after_request c id old.table)

-- What became of the inbox's count of failures: only a cancel may ask something of the inbox, and
-- only if the transaction is received.
abbrev pub KeepsInbox : Request → TransactionId → (old new : Counted) → Type 0
KeepsInbox request.Cancel id old new = asks_inbox request.Cancel id old.state.table ≡ false
    → new.inbox_failures ≡ old.inbox_failures
KeepsInbox _ id old new = new.inbox_failures ≡ old.inbox_failures

-- A request of a transaction was answered: it was accepted, or this is why not, and all is as it
-- was.
pub record AnswersRequest (c : Request) (id : TransactionId)
    (answer : Result (Unit {0}) RequestError) (old new : Counted) : Type 0 where
  pub called : OnOk answer (IsCalled c id old.state new.state)
  pub refused : IfErr answer (IsRefusal (request_refusal c id old.state.table))
  pub err : OnErr answer (new ≡ old)
  pub inbox : KeepsInbox c id old new
  pub grows : old.inbox_failures ≤ new.inbox_failures
  pub raises : OnOk answer (AsksByRequest Raises c id old.state.table old.inbox_failures
      new.inbox_failures)
  pub outbox : new.outbox_failures ≡ old.outbox_failures
