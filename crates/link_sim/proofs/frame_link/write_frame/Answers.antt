use Rattle.std.proofs.Common.{arith}
use Rattle.aos_frame.specs.declared.config.Lane.TheVariants.{Directives}
use Rattle.link_sim.proofs.frame_link.write_frame.Goals as goal

pub next_frame-requires : goal.next_frame-requires
next_frame-requires g c = omega (arith, c.split_at_mut-frame.ensures.front_len, c.frame_len.ensures Directives)
