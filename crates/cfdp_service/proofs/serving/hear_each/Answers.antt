use Rattle.cfdp_service.proofs.ChainLemmas.{chain-hears, chain-none}
use Rattle.cfdp_service.proofs.serving.hear_each.Goals as goal

pub loop-indication-init : goal.loop-indication-init
loop-indication-init g c = chain-none g.U.User.steps c.args.user.now

pub loop-indication-preserved : goal.loop-indication-preserved
loop-indication-preserved g c =
    chain-hears g.U.User.steps c.args.all.now c.loop-indication.indication-index c.indication-item.result c.args.user.now c.loop-indication.user c.hears.new.self
    c.loop-indication-test.true c.indication-item.is c.loop-indication.invariant c.hears.ensures
