use Rattle.cfdp_header.proofs.Ids.{other_id}
use Rattle.cfdp_store.proofs.memory.MemoryInboxInbox.begin.Goals as goal

pub returns-in-Ok-clause-others : goal.returns-in-Ok-clause-others
returns-in-Ok-clause-others c = λ other ne. c.in-Ok.ensures.updates.2 other (other_id c.args.id other ne)
