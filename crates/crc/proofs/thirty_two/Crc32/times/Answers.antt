use Rattle.std.proofs.Common.{◌-◌, arith}
use Rattle.crc.specs.FileChecks.{divisor32}
use Rattle.crc.proofs.Lefts.{least32, most32}
use Rattle.crc.proofs.Powers.{product_init, product_done, product_goes}
use Rattle.crc.proofs.thirty_two.Crc32.times.Goals as goal

pub loop-place-init : goal.loop-place-init
loop-place-init c = product_init (divisor32 c.args.self) (least32 c.args.self) (most32 c.args.self) c.args.first c.args.second

pub loop-place-preserved : goal.loop-place-preserved
loop-place-preserved c =
    product_goes (divisor32 c.args.self) (least32 c.args.self) (most32 c.args.self) c.args.first c.args.second c.loop-place.place (c.loop-place.place - 1) c.loop-place.product
    c.with_coefficient-product.result (omega arith) c.with_coefficient-product.ensures c.loop-place.invariant

pub returns : goal.returns
returns c = product_done (divisor32 c.args.self) (least32 c.args.self) (most32 c.args.self) c.args.first c.args.second c.loop-place.place c.loop-place.product (omega arith) c.loop-place.invariant
