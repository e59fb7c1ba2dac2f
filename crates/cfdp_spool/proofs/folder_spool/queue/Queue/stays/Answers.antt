use Rattle.cfdp_spool.specs.declared.folder_spool.queue.Staying.{Staying}
use Rattle.cfdp_spool.proofs.Leaves.{are_told-stays}
use Rattle.cfdp_spool.proofs.folder_spool.queue.Queue.stays.Goals as goal

pub invariant_of-self : goal.invariant_of-self
invariant_of-self g c =
    let x : Staying = record { name = c.in-Ok.name; stamp = c.args.stamp; way = c.args.way } in
    are_told-stays c.self.inside.folder c.args.self.now c.self.view_is c.args.name.now x c.in-Ok.ensures.items _ c.self.inside.staying.items c.push_back.new.self.items c.push_back.ensures.items c.self.invariant c.requires
