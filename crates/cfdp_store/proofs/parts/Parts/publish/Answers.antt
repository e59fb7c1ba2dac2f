use Rattle.std.proofs.Common.{ap, ◌∙◌}
use Rattle.std.specs.Option.{option_map}
use Rattle.cfdp_store.specs.Disk.{disk_of, cut_to, with_file, published_by}
use Rattle.cfdp_store.proofs.DiskLemmas.{noted, part_next, staged_next, others_keep, files_next, file-cut}
use Rattle.cfdp_store.proofs.parts.Parts.publish.Goals as goal

pub returns-in-Err-clause-err : goal.returns-in-Err-clause-err
returns-in-Err-clause-err g c = files_next (noted _ c.try_cut.ensures.done c.lose.ensures)

pub returns-in-Err-clause-others : goal.returns-in-Err-clause-others
returns-in-Err-clause-others g c = others_keep (noted _ c.try_cut.ensures.done c.lose.ensures)

pub returns-in-Err-try_name-clause-err : goal.returns-in-Err-try_name-clause-err
returns-in-Err-try_name-clause-err g c =
    files_next (noted _ c.try_name.ensures.done c.lose-in-Err-try_name.ensures)
    ∙ files_next (noted _ c.try_cut.ensures.done c.put.ensures)

pub returns-in-Err-try_name-clause-others : goal.returns-in-Err-try_name-clause-others
returns-in-Err-try_name-clause-others g c = λ other ne.
    others_keep (noted _ c.try_name.ensures.done c.lose-in-Err-try_name.ensures) other ne
    ∙ others_keep (noted _ c.try_cut.ensures.done c.put.ensures) other ne

pub returns-clause-ok : goal.returns-clause-ok
returns-clause-ok g c =
    let old = c.args.self.now.done in
    let part = (disk_of old).parts c.args.id in
    let cut = noted _ c.try_cut.ensures.done c.put.ensures in
    files_next (noted _ c.try_name.ensures.done c.put-2.ensures)
    ∙ ap (λ p. with_file c.of.result p (published_by c.put.new.self)) (part_next cut)
    ∙ ap (λ fs. with_file c.of.result (option_map (cut_to c.args.size) part) fs) (files_next cut)
    ∙ ap (λ name. with_file name (option_map (cut_to c.args.size) part) (published_by old)) c.of.ensures
    ∙ file-cut (published_by old) c.args.name.now part c.args.size c.requires

pub returns-clause-staged : goal.returns-clause-staged
returns-clause-staged g c = staged_next (noted _ c.try_name.ensures.done c.put-2.ensures)

pub returns-clause-others : goal.returns-clause-others
returns-clause-others g c = λ other ne.
    others_keep (noted _ c.try_name.ensures.done c.put-2.ensures) other ne
    ∙ others_keep (noted _ c.try_cut.ensures.done c.put.ensures) other ne
