use Rattle.std.proofs.Common.{arith}
use Rattle.std.proofs.lemmas.Grind.{common_steps}
use Rattle.cfdp_console.proofs.LinesShown.{full_kept, short_kept}
use Rattle.cfdp_console.proofs.log_lines.keeps.Goals as goal

pub returns-then-len-ge-LONGEST : goal.returns-then-len-ge-LONGEST
returns-then-len-ge-LONGEST c = λ _. (c.if-has_all.true, λ few. full_kept c.args.begun.now.items c.args.octet (grind arith) few)

pub returns-else-len-ge-LONGEST : goal.returns-else-len-ge-LONGEST
returns-else-len-ge-LONGEST c = λ pushed. (c.if-has_all.true, λ few. short_kept c.args.begun.now.items _ c.args.octet (grind arith) (grind (arith, common_steps)))
