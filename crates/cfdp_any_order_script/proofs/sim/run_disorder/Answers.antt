use Rattle.std.proofs.Common.{inl, inr}
use Rattle.std.proofs.KnownBytes.{Keeps-refl}
use Rattle.cfdp_any_order_script.proofs.Simulating.{ran_at}
use Rattle.cfdp_any_order_script.proofs.sim.run_disorder.Goals as goal

pub returns-else-is_watched : goal.returns-else-is_watched
returns-else-is_watched g c =
    ran_at c.args.first.0 c.run_steps.result c.args.script.now c.in-Ok.config c.as_slice-files.result.now c.as_slice-steps.result.now (g.W.Write.contents c.args.out.now) (g.W.Write.contents c.run_steps.new.out)
    c.in-Ok.ensures.good c.in-Ok.ensures.same c.as_slice-files.ensures.value c.as_slice-steps.ensures.value c.run_steps.ensures

pub returns-then-is_watched : goal.returns-then-is_watched
returns-then-is_watched g c = (inr (c.in-Ok.ensures.good, c.unshown.ensures), Keeps-refl _)

pub returns-in-Err : goal.returns-in-Err
returns-in-Err g c = (inl c.in-Err.ensures.bad, Keeps-refl _)
