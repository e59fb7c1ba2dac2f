use Rattle.std.proofs.KnownBytes.{Keeps-refl}
use Rattle.cfdp_any_order_script.proofs.run.run_steps.Goals as goal

pub returns-in_default : goal.returns-in_default
returns-in_default g c = Keeps-refl (g.W.Write.contents c.args.out.now)
