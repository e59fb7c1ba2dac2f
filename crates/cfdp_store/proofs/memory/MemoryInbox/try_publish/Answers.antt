use Rattle.cfdp_header.proofs.Ids.{other_id}
use Rattle.cfdp_store.proofs.memory.MemoryInbox.try_publish.Goals as goal

pub returns-in_err-octets-clause-others : goal.returns-in_err-octets-clause-others
returns-in_err-octets-clause-others c = λ other ne. c.remove.ensures.updates.2 other (other_id c.args.id other ne)

pub returns-in_err-from_slice-clause-others : goal.returns-in_err-from_slice-clause-others
returns-in_err-from_slice-clause-others c = λ other ne. c.remove.ensures.updates.2 other (other_id c.args.id other ne)

pub returns-clause-others : goal.returns-clause-others
returns-clause-others c = λ other ne. c.remove.ensures.updates.2 other (other_id c.args.id other ne)
