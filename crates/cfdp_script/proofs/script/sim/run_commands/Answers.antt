use Rattle.std.proofs.Common.{inr}
use Rattle.cfdp_script.proofs.script.sim.run_commands.Goals as goal

pub returns-in-Ok : goal.returns-in-Ok
returns-in-Ok g c = inr (c.in-Ok.world, c.in-Ok.ensures, c.run_world.ensures)
