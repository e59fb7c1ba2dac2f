-- A table with what its state leaves out, and what its calls come to.
use Rattle.std.specs.Prelude.{◌≡◌, ◌<◌, ℕ, true, List, length, None}
use Rattle.cfdp_header.specs.declared.value.TransactionId.{TransactionId}
use Rattle.cfdp_directives.specs.Pdu.Content.{Content}
use Rattle.cfdp_entity.specs.declared.record.Gave.{Gave}
use Rattle.cfdp_entity.specs.declared.record.Gave.TheVariants.{Failed}
use Rattle.cfdp_entity.specs.Gives.{Gives, CountsOutbox, stored_by_gave}
use Rattle.cfdp_entity.specs.Table.{TableState, place_of, most_records, SpoiledAt, taken_at, due_at, len_at, data_at, table_lent}

-- how many more indications fit without memory, and how many calls of each store failed
pub record Roomy : Type 0 where
  pub state : TableState
  pub spare : ℕ
  pub inbox_failures : ℕ
  pub outbox_failures : ℕ

-- the table before a step that may read a file, except that the outbox has what it has afterwards
abbrev pub roomy_lent : (now old : Roomy) → Roomy
roomy_lent now old = record old { state = table_lent now.state old.state }

-- A record of this transaction may be added.
pub record MayAdd (id : TransactionId) (st : TableState) : Type 0 where
  pub absent : place_of id st.records ≡ None
  pub not_full : length st.records < most_records

-- The table became this one, and no call of a store failed.
pub record Becomes (after : TableState) (old new : Roomy) : Type 0 where
  pub state : new.state ≡ after
  pub inbox : new.inbox_failures ≡ old.inbox_failures
  pub outbox : new.outbox_failures ≡ old.outbox_failures

-- The table became this one by a step that asked this of the inbox, and nothing of the outbox.
-- Both say of the count of failures how it rose: by the answer, and by the calls.
pub record Steps (after : TableState) (Counts Asks : (before after : ℕ) → Type 0) (old new : Roomy)
    : Type 0 where
  pub state : new.state ≡ after
  pub counts : Counts old.inbox_failures new.inbox_failures
  pub raises : Asks old.inbox_failures new.inbox_failures
  pub outbox : new.outbox_failures ≡ old.outbox_failures

-- The PDU of the record at an index was taken, or the outbox failed, and that was counted.
pub record SendsFrom (place : ℕ) (gave : Gave) (old new : Roomy) (out_before out_now : List ℕ)
    : Type 0 where
  pub state : new.state ≡ taken_at (stored_by_gave gave) place old.state
  pub gives : Gives (due_at place old.state) (len_at place old.state) gave out_before out_now
  pub carries : gave ≡ Failed → data_at place old.state ≡ true
  pub counts : CountsOutbox (stored_by_gave gave) old.outbox_failures new.outbox_failures
  pub inbox : new.inbox_failures ≡ old.inbox_failures

-- The record at an index found no memory for a PDU, and no call of a store failed.
pub record LacksMemory (place : ℕ) (v : Content) (old new : Roomy) : Type 0 where
  pub spoiled : SpoiledAt place v old.state new.state
  pub inbox : new.inbox_failures ≡ old.inbox_failures
  pub outbox : new.outbox_failures ≡ old.outbox_failures
