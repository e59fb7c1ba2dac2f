use Rattle.std.proofs.Common.{ap, ◌∙◌}
use Rattle.std.specs.Option.{option_map}
use Rattle.cfdp_store.specs.Disk.{disk_of, part_with}
use Rattle.cfdp_store.proofs.DiskLemmas.{noted, octets_of, staged_next, staged-with, others_keep, files_next}
use Rattle.cfdp_store.proofs.parts.Parts.write.Goals as goal

pub returns-in-Err-clause-others : goal.returns-in-Err-clause-others
returns-in-Err-clause-others g c = others_keep (noted _ c.try_write.ensures.done c.lose.ensures)

pub returns-in-Err-clause-published : goal.returns-in-Err-clause-published
returns-in-Err-clause-published g c = files_next (noted _ c.try_write.ensures.done c.lose.ensures)

pub returns-clause-staged : goal.returns-clause-staged
returns-clause-staged g c =
    let next = noted _ c.try_write.ensures.done c.put.ensures in
    staged_next next
    ∙ ap (λ xs. octets_of (option_map (λ q. part_with q c.args.offset xs) ((disk_of c.args.self.now.done).parts c.args.id))) c.of.ensures
    ∙ staged-with ((disk_of c.args.self.now.done).parts c.args.id) c.args.offset c.args.octets.now c.requires

pub returns-clause-others : goal.returns-clause-others
returns-clause-others g c = others_keep (noted _ c.try_write.ensures.done c.put.ensures)

pub returns-clause-published : goal.returns-clause-published
returns-clause-published g c = files_next (noted _ c.try_write.ensures.done c.put.ensures)
