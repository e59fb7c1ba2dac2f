use Rattle.std.proofs.Common.{arith}
use Rattle.aos_frame.specs.declared.config.Lane.TheVariants.{Directives}
use Rattle.any_order.proofs.life.take_into.Goals as goal

pub next_frame-requires : goal.next_frame-requires
next_frame-requires g c = omega (arith, c.as_mut_slice.ensures.len, c.in_ok-frame.ensures.len, c.frame_len.ensures Directives)
