use Rattle.std.proofs.Common.{◌≡◌, ◌≤◌, ◌*◌, ℕ, length, drop}
use Rattle.cfdp_store.specs.Chains.{Raises}
use Rattle.cfdp_entity.specs.Storing.{AsksToFire}
use Rattle.cfdp_entity.specs.Table.{all_expired}
use Rattle.cfdp_entity.proofs.table.Table.expire_all.Given as goal

-- what is left to fire leads to the same end
abbrev pub invariant-loop-id : goal.invariant-loop-id
invariant-loop-id g l = record {
  same_end : all_expired (drop l.id-index l.fired) l.self.state ≡ all_expired l.fired l.fn.self.state;
  room : 3 * length (drop l.id-index l.fired) ≤ l.self.spare;
  outbox : l.self.outbox_failures ≡ l.fn.self.outbox_failures;
  grows : l.fn.self.inbox_failures ≤ l.self.inbox_failures;
  raises : (end : ℕ) → AsksToFire Raises (drop l.id-index l.fired) l.self.state l.self.inbox_failures end
      → AsksToFire Raises l.fired l.fn.self.state l.fn.self.inbox_failures end;
}
