use Rattle.std.proofs.Common.{◌∙◌, arith}
use Rattle.crc.specs.FileChecks.{divisor32, moved_octets}
use Rattle.crc.proofs.Lefts.{least32, most32}
use Rattle.crc.proofs.Powers.{moved_init, moved_done, moved_goes_even, moved_goes_odd}
use Rattle.crc.proofs.thirty_two.Crc32.moved.Goals.{then-count-eq1, else-count-eq1}
use Rattle.crc.proofs.thirty_two.Crc32.moved.Goals as goal

pub loop-count-init : goal.loop-count-init
loop-count-init c = moved_init (divisor32 c.args.self) (least32 c.args.self) (most32 c.args.self) c.args.octets c.args.left (omega arith)

pub loop-count-preserved : goal.loop-count-preserved
loop-count-preserved c = elim c.if-count-eq1.branch [
  | then-count-eq1 w ↦ moved_goes_odd (divisor32 c.args.self) (least32 c.args.self) (most32 c.args.self) c.args.octets c.args.left c.loop-count.count c.loop-count.power c.loop-count.moved
      c.times-power.result c.if-count-eq1.moved w.if-count-eq1.true c.times-power.ensures (w.moved-is ∙ w.times-moved.ensures) c.loop-count.invariant
  | else-count-eq1 w ↦ moved_goes_even (divisor32 c.args.self) (least32 c.args.self) (most32 c.args.self) c.args.octets c.args.left c.loop-count.count c.loop-count.power c.loop-count.moved
      c.times-power.result c.if-count-eq1.moved (omega (arith, w.if-count-eq1.false)) c.times-power.ensures w.moved-is c.loop-count.invariant
]

pub returns : goal.returns
unfolding moved_octets
returns c = moved_done (divisor32 c.args.self) (least32 c.args.self) (most32 c.args.self) c.args.octets c.args.left c.loop-count.count c.loop-count.power c.loop-count.moved (omega arith) c.loop-count.invariant
