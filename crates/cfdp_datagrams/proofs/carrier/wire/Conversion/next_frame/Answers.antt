use Rattle.std.proofs.Common.{arith, length-take}
use Rattle.aos_frame.specs.declared.config.Lane.TheVariants.{Directives}
use Rattle.cfdp_datagrams.proofs.carrier.wire.Conversion.next_frame.Goals as goal

pub next_frame-requires : goal.next_frame-requires
next_frame-requires c = omega (arith, length-take c.frame_len-len.result c.args.buffer.now, c.frame_len-len.ensures Directives, c.if-buffer-len.false)
