use Rattle.std.proofs.Common.{ap, ◌∙◌}
use Rattle.std.specs.Option.{option_map}
use Rattle.cfdp_store.specs.Disk.{disk_of, part_with}
use Rattle.cfdp_store.proofs.DiskLemmas.{noted, octets_of, staged_next, staged-with, others_keep, files_next}
use Rattle.cfdp_store.proofs.parts.Parts.read.Goals as goal

pub returns-in-Ok-true-clause-staged : goal.returns-in-Ok-true-clause-staged
returns-in-Ok-true-clause-staged g c = λ is.
    let next = noted _ c.try_read.ensures.done c.put.ensures in
    staged_next next
    ∙ ap (λ xs. octets_of (option_map (λ q. part_with q c.args.offset xs) ((disk_of c.args.self.now.done).parts c.args.id))) c.of.ensures
    ∙ staged-with ((disk_of c.args.self.now.done).parts c.args.id) c.args.offset c.try_read.new.out c.requires

pub returns-in-Ok-true-clause-others : goal.returns-in-Ok-true-clause-others
returns-in-Ok-true-clause-others g c = others_keep (noted _ c.try_read.ensures.done c.put.ensures)

pub returns-in-Ok-true-clause-published : goal.returns-in-Ok-true-clause-published
returns-in-Ok-true-clause-published g c = files_next (noted _ c.try_read.ensures.done c.put.ensures)

pub returns-in-Err-clause-others : goal.returns-in-Err-clause-others
returns-in-Err-clause-others g c = others_keep (noted _ c.try_read.ensures.done c.put-in-Err.ensures)

pub returns-in-Err-clause-published : goal.returns-in-Err-clause-published
returns-in-Err-clause-published g c = files_next (noted _ c.try_read.ensures.done c.put-in-Err.ensures)
