-- Calls of stores, each with its arguments and what it answered.
use Rattle.std.specs.Prelude.{◌≡◌, ℕ, Bool, List, Option, Result, Err}
use Rattle.cfdp_header.specs.declared.value.TransactionId.{TransactionId}
use Rattle.cfdp_store.specs.declared.error.StoreError.{StoreError}
use Rattle.cfdp_store.specs.declared.error.StoreError.TheVariants.{Device}

-- true if a call could be done
abbrev pub Answer : Type 0
Answer = Result (Unit {0}) StoreError

-- what a look answered: whether there is a file of the name
abbrev pub Looked : Type 0
Looked = Result Bool StoreError

-- a call of an outbox. A `read` borrows octets, and leaves others in their place
pub data OutboxCall : Type 0 where
  Len : (name : List ℕ) (answer : Result (Option ℕ) StoreError) → OutboxCall
  Read : (name : List ℕ) (offset : ℕ) (lent : List ℕ) (answer : Answer) (left : List ℕ) → OutboxCall

-- a call of an inbox
pub data InboxCall : Type 0 where
  Begin : (id : TransactionId) (answer : Answer) → InboxCall
  Write : (id : TransactionId) (offset : ℕ) (octets : List ℕ) (answer : Answer) → InboxCall
  Publish : (id : TransactionId) (name : List ℕ) (size : ℕ) (answer : Answer) → InboxCall
  Discard : (id : TransactionId) (answer : Answer) → InboxCall

-- the answer is `Device`, and nothing was read
abbrev pub OutboxRefuses : OutboxCall → Type 0
OutboxRefuses (Len name answer) = answer ≡ Err Device
OutboxRefuses (Read name offset lent answer left) = (answer ≡ Err Device) × (left ≡ lent)

-- the answer is `Device`
abbrev pub InboxRefuses : InboxCall → Type 0
InboxRefuses (Begin id answer) = answer ≡ Err Device
InboxRefuses (Write id offset octets answer) = answer ≡ Err Device
InboxRefuses (Publish id name size answer) = answer ≡ Err Device
InboxRefuses (Discard id answer) = answer ≡ Err Device
