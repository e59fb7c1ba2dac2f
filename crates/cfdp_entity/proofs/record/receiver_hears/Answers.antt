use Rattle.std.proofs.Common.{refl, sym, ap, subst}
use Rattle.cfdp_directives.specs.declared.pdu.content.Pdu.{Pdu}
use Rattle.cfdp_directives.specs.Pdu.Content.{view}
use Rattle.cfdp_store.specs.declared.stored.Stored.TheVariants.{Done}
use Rattle.cfdp_receiver.specs.Does.{at, flagging}
use Rattle.cfdp_receiver.specs.Steps.{hears_prompt}
use Rattle.cfdp_entity.specs.Steps.{receiver_after}
use Rattle.cfdp_entity.specs.Does.{ReceiverDoes, found}
use Rattle.cfdp_entity.proofs.Raised.{data-heard}
use Rattle.cfdp_entity.proofs.Records.{alone-receives, acked-receives}
use Rattle.cfdp_entity.proofs.record.receiver_hears.Goals as goal

pub returns-in-Ack-clause-does : goal.returns-in-Ack-clause-does
returns-in-Ack-clause-does g c =
    let old = at g.I.Inbox c.args.receiver.now c.args.effects.now c.args.inbox.now in
    subst (λ (p : Pdu). ReceiverDoes c.args.policy.now.times Done (found (receiver_after Done c.args.large (view p)) old) old
    (at g.I.Inbox c.receiver_hears_ack.new.receiver c.receiver_hears_ack.new.effects c.args.inbox.now)) (sym c.in-Ack.is)
    (acked-receives c.args.policy.now.times c.args.receiver.now c.receiver_hears_ack.new.receiver c.args.effects.now c.receiver_hears_ack.new.effects (g.I.Inbox.published c.args.inbox.now)
    (g.I.Inbox.staged c.args.inbox.now) (g.I.Inbox.failures c.args.inbox.now)
    c.receiver_hears_ack.ensures.kept c.requires.ready c.args.large c.in-Ack.of c.in-Ack.condition c.in-Ack.status c.receiver_hears_ack.ensures.acks)

pub returns-in-Prompt-clause-does : goal.returns-in-Prompt-clause-does
returns-in-Prompt-clause-does g c =
    let old = at g.I.Inbox c.args.receiver.now c.args.effects.now c.args.inbox.now in
    subst (λ (p : Pdu). ReceiverDoes c.args.policy.now.times Done (found (receiver_after Done c.args.large (view p)) old) old
    (at g.I.Inbox c.on_prompt.new.self c.on_prompt.new.effects c.args.inbox.now)) (sym c.in-Prompt.is)
    (alone-receives c.args.policy.now.times c.args.receiver.now c.on_prompt.new.self c.args.effects.now c.on_prompt.new.effects (g.I.Inbox.published c.args.inbox.now)
    (g.I.Inbox.staged c.args.inbox.now) (g.I.Inbox.failures c.args.inbox.now)
    c.on_prompt.ensures.kept c.requires.ready (flagging c.args.large (hears_prompt c.in-Prompt.keep_alive)) c.on_prompt.ensures.does (λ m. refl) (λ m. refl))

pub returns-in-FileData-clause-calls : goal.returns-in-FileData-clause-calls
returns-in-FileData-clause-calls g c =
    data-heard g.I.Inbox.steps g.I.Inbox.failures c.on_data.result c.args.large (view c.args.pdu.now) c.in-FileData.offset c.in-FileData.bytes.now
    (ap view c.in-FileData.is) c.args.receiver.now c.on_data.new.self c.args.inbox.now c.on_data.new.inbox c.on_data.ensures.calls
