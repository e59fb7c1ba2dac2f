use Rattle.std.proofs.Common.{subst, arith}
use Rattle.cfdp_sender.specs.State.{IsSender}
use Rattle.cfdp_sender.proofs.Dues.{data-segment}
use Rattle.cfdp_sender.proofs.sender.Sender.extent.Goals as goal

pub overflow_sub-result : goal.overflow_sub-result
overflow_sub-result c =
    let s : IsSender c.args.self.now = subst IsSender c.self.view_is c.self.invariant.sender in
    let part = data-segment _ _ _ _ s c.requires c.in-AskedData.is in
    omega (arith, part.some)

pub returns-in-AskedData-clause-within : goal.returns-in-AskedData-clause-within
returns-in-AskedData-clause-within c =
    let s : IsSender c.args.self.now = subst IsSender c.self.view_is c.self.invariant.sender in
    let part = data-segment _ _ _ _ s c.requires c.in-AskedData.is in
    omega (arith, part.some, part.within)

pub returns-in-AskedData-clause-short : goal.returns-in-AskedData-clause-short
returns-in-AskedData-clause-short c =
    let s : IsSender c.args.self.now = subst IsSender c.self.view_is c.self.invariant.sender in
    let part = data-segment _ _ _ _ s c.requires c.in-AskedData.is in
    omega (arith, part.most, s.transfer.most)
