use Rattle.std.proofs.Common.{arith, sym}
use Rattle.std.proofs.lemmas.List.{take_all, length-take-le}
use Rattle.cfdp_watch.proofs.pace.front_of.Goals as goal

pub slice_bounds-result-end : goal.slice_bounds-result-end
slice_bounds-result-end c = sym (length-take-le 32 c.args.name.now (omega (arith, c.if-name-gt-MOST_NAME.true)))

pub returns-else-name-gt-MOST_NAME : goal.returns-else-name-gt-MOST_NAME
returns-else-name-gt-MOST_NAME c = sym (take_all 32 c.args.name.now (omega (arith, c.if-name-gt-MOST_NAME.false)))
