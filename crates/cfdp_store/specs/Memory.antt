-- Stores in memory: how their calls may fail, and the octets that an inbox has staged.
use Rattle.std.specs.Prelude.{Option, IsOk, IsOkUnless}
use Rattle.std.specs.HashMap.{HashMap, get}
use Rattle.cfdp_header.specs.declared.value.TransactionId.{TransactionId}
use Rattle.cfdp_header.specs.Ids.{same_id}
use Rattle.cfdp_store.specs.declared.error.StoreError.TheVariants.{NoMemory}
use Rattle.cfdp_store.specs.Calls.{OutboxCall, Len, Read, InboxCall, Begin, Write, Publish, Discard}
use Rattle.cfdp_store.specs.Staged.{OctetMap}

-- a call of an outbox is `Ok`
abbrev pub Succeeds : OutboxCall → Type 0
Succeeds (Len name answer) = IsOk answer
Succeeds (Read name offset lent answer left) = IsOk answer

-- a call of an inbox is `Ok`, or `NoMemory`. What is staged is always discarded
abbrev pub FailsForMemoryAlone : InboxCall → Type 0
FailsForMemoryAlone (Begin id answer) = IsOkUnless answer NoMemory
FailsForMemoryAlone (Write id offset octets answer) = IsOkUnless answer NoMemory
FailsForMemoryAlone (Publish id name size answer) = IsOkUnless answer NoMemory
FailsForMemoryAlone (Discard id answer) = IsOk answer

-- the octets that a map has for a transaction
abbrev pub octets_for : {S : Type 0} → HashMap TransactionId OctetMap S → TransactionId →
    Option OctetMap
octets_for m id = get same_id m id
