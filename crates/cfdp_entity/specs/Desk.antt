-- What the steps of records work on, as contracts see it.
use Rattle.std.specs.Prelude.{ℕ, ◌-◌, Bool, Option, vec_len, vec_capacity}
use Rattle.cfdp_header.specs.declared.value.TransactionId.{TransactionId}
use Rattle.cfdp_header.specs.Files.{FileMap}
use Rattle.cfdp_directives.specs.declared.user.policy.Policy.{Policy}
use Rattle.cfdp_store.specs.declared.inbox.Inbox.{Ghosts as Inbox}
use Rattle.cfdp_store.specs.declared.outbox.Outbox.{Ghosts as Outbox}
use Rattle.cfdp_store.specs.Staged.{OctetMap}
use Rattle.cfdp_timers.specs.declared.effects.Effects.{Effects}
use Rattle.cfdp_receiver.specs.Does.{Scene}
use Rattle.cfdp_receiver.specs.State.{ReceiverState}
use Rattle.cfdp_entity.specs.declared.desk.Desk.{Desk}

-- what is staged for each transaction
abbrev pub Staged : Type 0
Staged = TransactionId → Option OctetMap

-- what is staged in the inbox, the files that it published, those of the outbox, whether they stood
-- still so far, which timers are armed and what was indicated, the policy, and how many calls of
-- each store failed
pub record DeskState : Type 0 where
  pub staged : Staged
  pub files : FileMap
  pub sources : FileMap
  pub stands : Bool
  pub effects : Effects
  pub policy : Policy
  pub inbox_failures : ℕ
  pub outbox_failures : ℕ

-- how many more indications fit without memory
abbrev pub spare : DeskState → ℕ
spare desk = vec_capacity desk.effects.told - vec_len desk.effects.told

-- what is on a desk
abbrev pub on_desk : {O I : Type 0} → Outbox O → Inbox I → Desk O I → DeskState
on_desk outbox inbox desk = record {
  staged = inbox.staged desk.inbox;
  files = inbox.published desk.inbox;
  sources = outbox.files desk.outbox;
  stands = outbox.stands desk.outbox;
  effects = desk.effects;
  policy = desk.policy;
  inbox_failures = inbox.failures desk.inbox;
  outbox_failures = outbox.failures desk.outbox;
}

-- the desk before a step that may read a file, except that the outbox has what it has afterwards:
-- its files as they were when they were read
abbrev pub desk_lent : (now old : DeskState) → DeskState
desk_lent now old = record old { sources = now.sources; stands = now.stands }

-- what is on a desk, with a receiver whose record is there
abbrev pub scene : ReceiverState → DeskState → Scene
scene r desk = record {
  receiver = r;
  told = desk.effects.told.items;
  timers = desk.effects.timers;
  files = desk.files;
  staged = desk.staged;
  failures = desk.inbox_failures;
}
