use Rattle.std.proofs.Common.{subst, sym, refl, IsSome}
use Rattle.cfdp_store.proofs.DiskLemmas.{noted, staged_next, others_keep, files_next}
use Rattle.cfdp_store.proofs.parts.Parts.adopt.Goals as goal

pub returns-in-Ok-true-clause-staged : goal.returns-in-Ok-true-clause-staged
returns-in-Ok-true-clause-staged g c = λ is. subst IsSome (sym (staged_next (noted _ c.try_adopt.ensures.done c.put.ensures))) refl

pub returns-in-Ok-true-clause-others : goal.returns-in-Ok-true-clause-others
returns-in-Ok-true-clause-others g c = others_keep (noted _ c.try_adopt.ensures.done c.put.ensures)

pub returns-in-Ok-true-clause-published : goal.returns-in-Ok-true-clause-published
returns-in-Ok-true-clause-published g c = files_next (noted _ c.try_adopt.ensures.done c.put.ensures)

pub returns-in-Err-clause-others : goal.returns-in-Err-clause-others
returns-in-Err-clause-others g c = others_keep (noted _ c.try_adopt.ensures.done c.put-in-Err.ensures)

pub returns-in-Err-clause-published : goal.returns-in-Err-clause-published
returns-in-Err-clause-published g c = files_next (noted _ c.try_adopt.ensures.done c.put-in-Err.ensures)
