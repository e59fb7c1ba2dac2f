use Rattle.std.proofs.Common.{◌∙◌, sym, subst}
use Rattle.cfdp_store.specs.Chains.{Makes}
use Rattle.cfdp_receiver.specs.State.{ReceiverState}
use Rattle.cfdp_receiver.specs.Storing.{Stages, staged_pieces}
use Rattle.cfdp_receiver.proofs.Chains.{heard-stages, rests-stages}
use Rattle.cfdp_receiver.proofs.receiver.Receiver.on_data.Goals as goal
use Rattle.cfdp_receiver.proofs.receiver.Receiver.on_data.Goals.{then-eq+in-Ok, else-eq}

-- what its flag changes says nothing of the calls
pub returns-clause-calls : goal.returns-clause-calls
returns-clause-calls g c =
    subst (λ (x : ReceiverState). Stages (Makes g.I.Inbox.steps g.I.Inbox.failures) c.if-eq.stored (staged_pieces c.args.large c.args.offset c.args.bytes.now x) x c.heard.new.self
    c.args.inbox.now c.if-eq.inbox) c.raise.ensures.receiver
    (elim c.if-eq.branch [
      | then-eq+in-Ok w ↦
          heard-stages g.I.Inbox.steps g.I.Inbox.failures c.raise.new.self _ c.self-2.view_is c.args.offset
          c.args.bytes.now c.args.large w.in-Ok.stored c.if-eq.stored w.receive_data.new.self c.if-eq.self
          c.heard.new.self c.args.inbox.now w.receive_data.new.inbox c.if-eq.inbox
          c.heard.ensures.receiver w.self-is w.stored-is w.inbox-is w.in-Ok.ensures.calls
      | else-eq w ↦
          rests-stages g.I.Inbox.steps g.I.Inbox.failures c.raise.new.self _ c.self-2.view_is c.args.offset
          c.args.bytes.now c.args.large c.if-eq.stored c.if-eq.self c.heard.new.self c.args.inbox.now c.if-eq.inbox
          c.heard.ensures.receiver w.self-is w.stored-is w.inbox-is
          (sym c.eq.ensures ∙ w.if-eq.false)
    ])
