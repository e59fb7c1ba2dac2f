use Rattle.cfdp_script.proofs.script.sim.first_world.Goals as goal

pub returns : goal.returns
returns c = rw (c.in_ok-outboxes.ensures.one, c.in_ok-outboxes.ensures.two) at c.in_memory.ensures.first
