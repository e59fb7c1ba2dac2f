-- One more block.
use Rattle.std.proofs.Common.{sym, subst, ap, ◌∷◌, [], None, length, arith, length-append}
use Rattle.cfdp_timers.specs.Entries.{AreFirsts}
use Rattle.cfdp_timers.proofs.Firsts.{firsts-grown, firsts-cover}
use Rattle.cfdp_timers.proofs.blocks.cover.Goals as goal

pub returns-in_ok-push-clause-are : goal.returns-in_ok-push-clause-are
returns-in_ok-push-clause-are c =
    subst (λ fs. AreFirsts 64 c.args.each.now fs) (sym c.in_ok-push.ensures.items) (firsts-grown 64 c.args.each.now c.args.firsts.now.items c.requires.are)

pub returns-in_ok-push-clause-room : goal.returns-in_ok-push-clause-room
returns-in_ok-push-clause-room c =
    let cover = firsts-cover 64 c.args.each.now c.args.firsts.now.items c.requires.are in
    let more = ap length c.in_ok-push.ensures.items in
    let one = length-append c.args.firsts.now.items (None ∷ []) in
    omega (arith, cover, more, one)
