use Rattle.cfdp_spool.proofs.Leaves.{are_told-pop}
use Rattle.cfdp_spool.proofs.folder_spool.queue.Queue.next_staying.Goals as goal

pub invariant_of-self : goal.invariant_of-self
invariant_of-self g c =
    (are_told-pop c.self.inside.folder.told c.self.inside.staying.items c.pop_front.new.self.items c.pop_front.result c.pop_front.ensures.items c.self.invariant).0

pub returns-clause-told : goal.returns-clause-told
returns-clause-told g c =
    (are_told-pop c.self.inside.folder.told c.self.inside.staying.items c.pop_front.new.self.items c.pop_front.result c.pop_front.ensures.items c.self.invariant).1
