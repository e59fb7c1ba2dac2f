use Rattle.cfdp_header.proofs.Ids.{other_id}
use Rattle.cfdp_store.proofs.memory.MemoryInboxInbox.discard.Goals as goal

pub returns-clause-others : goal.returns-clause-others
returns-clause-others c = λ other ne. c.remove.ensures.updates.2 other (other_id c.args.id other ne)
