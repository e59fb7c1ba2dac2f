use Rattle.cfdp_store.proofs.DiskLemmas.{noted, staged_next, others_keep, files_next}
use Rattle.cfdp_store.proofs.parts.Parts.make.Goals as goal

pub returns-in-Err-clause-others : goal.returns-in-Err-clause-others
returns-in-Err-clause-others g c = others_keep (noted _ c.try_make.ensures.done c.lose.ensures)

pub returns-in-Err-clause-published : goal.returns-in-Err-clause-published
returns-in-Err-clause-published g c = files_next (noted _ c.try_make.ensures.done c.lose.ensures)

pub returns-clause-staged : goal.returns-clause-staged
returns-clause-staged g c = staged_next (noted _ c.try_make.ensures.done c.put.ensures)

pub returns-clause-others : goal.returns-clause-others
returns-clause-others g c = others_keep (noted _ c.try_make.ensures.done c.put.ensures)

pub returns-clause-published : goal.returns-clause-published
returns-clause-published g c = files_next (noted _ c.try_make.ensures.done c.put.ensures)
