use Rattle.std.specs.Result.{result_err}
use Rattle.std.proofs.Common.{refl}
use Rattle.cfdp_script.specs.declared.script.command.Command.TheVariants as command
use Rattle.cfdp_any_order_script.proofs.Ending.{performs_as}
use Rattle.cfdp_any_order_script.proofs.perform.perform.Goals as goal

pub returns-in-Damage : goal.returns-in-Damage
returns-in-Damage c =
    performs_as c.args.command.now (command.Damage c.in-Damage.from c.in-Damage.lane c.in-Damage.damage) c.damage.result c.damage.result c.args.play.now c.damage.new.self c.in-Damage.is refl
    c.damage.ensures

pub returns-in-Spread : goal.returns-in-Spread
returns-in-Spread c =
    performs_as c.args.command.now (command.Spread c.in-Spread.side) c.err.result (result_err c.spread.result) c.args.play.now c.spread.new.play c.in-Spread.is c.err.ensures.value
    c.spread.ensures

pub returns-in-Burst : goal.returns-in-Burst
returns-in-Burst c =
    performs_as c.args.command.now (command.Burst c.in-Burst.side) c.err-in-Burst.result (result_err c.burst.result) c.args.play.now c.burst.new.play c.in-Burst.is c.err-in-Burst.ensures.value
    c.burst.ensures

pub returns-in-Settle : goal.returns-in-Settle
returns-in-Settle c =
    performs_as c.args.command.now command.Settle c.err-in-Settle.result (result_err c.settle.result) c.args.play.now c.settle.new.play c.in-Settle.is c.err-in-Settle.ensures.value
    c.settle.ensures

pub returns-in-Recover : goal.returns-in-Recover
returns-in-Recover c =
    performs_as c.args.command.now command.Recover c.err-in-Recover.result (result_err c.recover.result) c.args.play.now c.recover.new.play c.in-Recover.is c.err-in-Recover.ensures.value
    c.recover.ensures
