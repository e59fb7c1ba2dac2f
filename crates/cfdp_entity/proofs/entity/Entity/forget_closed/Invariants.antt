use Rattle.std.proofs.Common.{◌≡◌, ◌-◌, length}
use Rattle.cfdp_entity.specs.Forgetting.{ForgetsSome}
use Rattle.cfdp_entity.proofs.Letting.{NoneFrom}
use Rattle.cfdp_entity.proofs.entity.Entity.forget_closed.Given as goal

-- those after were looked at: none of them is left that may go
abbrev pub invariant-loop-behind : goal.invariant-loop-behind
invariant-loop-behind g l = record {
  some : ForgetsSome l.fn.self.state l.self.state;
  looked : NoneFrom (length l.fn.self.state.table.records - l.behind) l.self.state.table.records;
  inbox : l.self.inbox_failures ≡ l.fn.self.inbox_failures;
  outbox : l.self.outbox_failures ≡ l.fn.self.outbox_failures;
}
