use Rattle.hmac.proofs.Octets.{none_more}
use Rattle.hmac.proofs.same.are_same.Goals as goal

pub loop-i-preserved : goal.loop-i-preserved
loop-i-preserved c =
    none_more c.args.one.now c.args.other.now c.loop-i.i c.loop-i.differs c.loop-i-test.true c.requires c.loop-i.invariant
