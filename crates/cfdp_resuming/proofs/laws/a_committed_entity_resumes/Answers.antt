use Rattle.cfdp_resuming.proofs.Committed.{comes-ever, committed-resumes, seen-back}
use Rattle.cfdp_resuming.proofs.Itself.{received-stays}
use Rattle.cfdp_resuming.proofs.laws.a_committed_entity_resumes.Goals as goal

pub returns : goal.returns
returns c = record { each = seen-back; ever = comes-ever; entity = committed-resumes c.records_come_to_something_later.ensures; received = received-stays }
