use Rattle.std.proofs.Common.{rules}
use Rattle.cfdp_header.proofs.Ids.{other_id}
use Rattle.cfdp_store.proofs.memory.stage.Goals as goal

pub returns-in-Some-clause-others : goal.returns-in-Some-clause-others
returns-in-Some-clause-others c = λ other ne. ((c.get_mut.follows.holds c.write.new.self).3 (search rules)).2 other (other_id c.args.id other ne)
