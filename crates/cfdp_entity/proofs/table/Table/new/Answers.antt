use Rattle.std.proofs.Common.{◌++◌, length}
use Rattle.cfdp_entity.specs.declared.desk.Desk.{Desk}
use Rattle.cfdp_entity.specs.Desk.{on_desk}
use Rattle.cfdp_entity.specs.Whole.{roomy_of}
use Rattle.cfdp_entity.proofs.Places.{first-whole, seen-nil}
use Rattle.cfdp_entity.proofs.table.Table.new.Goals as goal

pub invariant_of-result : goal.invariant_of-result
invariant_of-result g c = first-whole _ _ _ c.new-3.ensures.empty c.in_ok-ready.ensures

pub returns : goal.returns
returns g c =
    let records = seen-nil (g.I.Inbox.staged c.args.inbox) c.new-3.result.entries c.new-3.ensures.empty in
    let desk : Desk g.row.O.Denot g.row.I.Denot = record { outbox = c.args.outbox; inbox = c.args.inbox; effects = c.new-2.result; policy = c.args.policy } in
    λ i. record (roomy_of c.new-4.result (on_desk g.O.Outbox g.I.Inbox desk) c.new-3.result.entries) {
      state = record {
        records = records i;
        now = c.new-2.ensures.time i;
        armed = c.new-2.ensures.armed i;
        told = c.new-4.ensures i ++ c.new-2.ensures.told i;
        gone = length (c.new-4.ensures i);
        files = g.I.Inbox.published c.args.inbox;
        sources = g.O.Outbox.files c.args.outbox;
        stands = g.O.Outbox.stands c.args.outbox;
        policy = c.args.policy;
      };
    }
