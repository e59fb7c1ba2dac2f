use Rattle.std.proofs.Common.{ap, subst, sym, true, false, IsSome, ◌∙◌}
use Rattle.cfdp_store.specs.Disk.{staged_by}
use Rattle.cfdp_store.proofs.folder.FolderInboxResumingInbox.adopt.Goals as goal

pub returns-clause-staged : goal.returns-clause-staged
returns-clause-staged g c = λ is.
    subst IsSome (sym (ap (λ p. staged_by p.done c.args.id) c.answer_of.ensures.parts)) (c.adopt-done.ensures.staged ((c.answer_of.ensures.ok true).0 is))

pub returns-clause-short : goal.returns-clause-short
returns-clause-short g c = λ is.
    ap (λ p. staged_by p.done) c.answer_of.ensures.parts ∙ ap staged_by (c.adopt-done.ensures.short ((c.answer_of.ensures.ok false).0 is))
