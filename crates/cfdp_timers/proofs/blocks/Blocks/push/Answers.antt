-- One more index, if a block has room for it.
use Rattle.std.proofs.Common.{◌*◌, ◌<◌, length, sym, subst}
use Rattle.cfdp_timers.specs.Entries.{AreFirsts}
use Rattle.cfdp_timers.proofs.Firsts.{firsts-push}
use Rattle.cfdp_timers.proofs.blocks.Blocks.push.Goals as goal

pub invariant_of-self-2 : goal.invariant_of-self-2
invariant_of-self-2 c =
    let fs = c.cover.new.firsts.items in
    let are : AreFirsts 64 c.self.inside.each.items fs = subst (λ es. AreFirsts 64 es fs) c.deref.ensures.value c.in_ok-cover.ensures.are in
    let room : length c.self.inside.each.items < 64 * length fs = subst (λ es. length es < 64 * length fs) c.deref.ensures.value c.in_ok-cover.ensures.room in
    subst (λ es. AreFirsts 64 es fs) (sym c.in_ok-push.ensures.items) (firsts-push 64 c.self.inside.each.items fs are room)
