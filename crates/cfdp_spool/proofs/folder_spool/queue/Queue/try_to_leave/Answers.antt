use Rattle.std.proofs.Common.{List, ap, subst, sym}
use Rattle.cfdp_spool.specs.Leaving.{AreTold, SpoolState}
use Rattle.cfdp_spool.specs.declared.folder_spool.notes.Told.{Told}
use Rattle.cfdp_spool.proofs.folder_spool.queue.Queue.try_to_leave.Goals as goal

pub invariant_of-self : goal.invariant_of-self
invariant_of-self g c =
    subst (λ (told : List Told). AreTold told c.self.inside.staying.items) (sym (ap (λ (s : SpoolState). s.told) c.leave.ensures.only)) c.self.invariant

pub invariant_of-self-2 : goal.invariant_of-self-2
invariant_of-self-2 g c =
    subst (λ (told : List Told). AreTold told c.self.inside.staying.items) (sym (ap (λ (s : SpoolState). s.told) c.leave.ensures.only)) c.self.invariant
