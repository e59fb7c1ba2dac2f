use Rattle.std.proofs.Common.{arith, refl}
use Rattle.std.proofs.lemmas.Grind.{common_steps}
use Rattle.cfdp_console.proofs.log_lines.LastLines.shows.Goals as goal

pub returns-clause-shown : goal.returns-clause-shown
returns-clause-shown c = λ _. record {
  line = record { number = c.args.number; text = c.in-Ok.text };
  is = grind (arith, common_steps);
  numbered = refl;
  text = c.in-Ok.ensures;
}
