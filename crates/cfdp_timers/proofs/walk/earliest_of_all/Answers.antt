-- What is found at first is no earlier than the earliest of all, and after the last block there is
-- none.
use Rattle.std.proofs.Common.{◌≤◌, ◌*◌, length, sym, ap, ◌∙◌, arith}
use Rattle.cfdp_timers.specs.Entries.{alarms, earlier, earliest}
use Rattle.cfdp_timers.proofs.Earliest.{earliest-end, others-within}
use Rattle.cfdp_timers.proofs.walk.earliest_of_all.Goals as goal

pub loop-block-init : goal.loop-block-init
loop-block-init c =
    let es = c.args.entries.now.entries in
    ap (λ o. earlier o (earliest (alarms es))) c.requires.others ∙ others-within es

pub returns : goal.returns
returns c =
    let es = c.args.entries.now.entries in
    let end : length es ≤ 64 * c.loop-block.block = omega (arith, c.div_ceil-block-end.ensures, c.len.ensures.len) in
    sym (earliest-end es (64 * c.loop-block.block) c.loop-block.first end) ∙ c.loop-block.invariant
