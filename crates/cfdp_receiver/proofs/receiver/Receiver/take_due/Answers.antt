use Rattle.std.proofs.Common.{subst}
use Rattle.cfdp_receiver.specs.State.{ReceiverState}
use Rattle.cfdp_receiver.proofs.Writable.{IsLow, due-writable}
use Rattle.cfdp_receiver.proofs.receiver.Receiver.take_due.Goals as goal

pub send-len-requires-clause-writable : goal.send-len-requires-clause-writable
send-len-requires-clause-writable c = due-writable c.args.self.now c.args.due.now
    (subst (λ (r : ReceiverState). IsLow r r.nak_cursor) c.self.view_is c.self.invariant.cursor_below) c.requires.due
