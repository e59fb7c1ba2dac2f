use Rattle.std.proofs.Common.{subst, sym}
use Rattle.cfdp_spool.specs.Leaving.{AreTold}
use Rattle.cfdp_spool.proofs.folder_spool.queue.Queue.new.Goals as goal

pub invariant_of-result : goal.invariant_of-result
invariant_of-result g c = subst (AreTold c.args.folder.told) (sym c.new-4.ensures.items) tt
