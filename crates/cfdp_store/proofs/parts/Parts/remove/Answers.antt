use Rattle.cfdp_store.proofs.DiskLemmas.{noted, staged_next, others_keep, files_next}
use Rattle.cfdp_store.proofs.parts.Parts.remove.Goals as goal

pub returns-clause-staged : goal.returns-clause-staged
returns-clause-staged g c = staged_next (noted _ c.try_remove-answer.ensures.done c.put.ensures)

pub returns-clause-others : goal.returns-clause-others
returns-clause-others g c = others_keep (noted _ c.try_remove-answer.ensures.done c.put.ensures)

pub returns-clause-published : goal.returns-clause-published
returns-clause-published g c = files_next (noted _ c.try_remove-answer.ensures.done c.put.ensures)
