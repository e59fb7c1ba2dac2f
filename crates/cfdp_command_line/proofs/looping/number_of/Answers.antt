use Rattle.cfdp_command_line.proofs.CommandWords.{number-found, number-none}
use Rattle.cfdp_command_line.proofs.looping.number_of.Goals as goal

pub returns-in-Ok : goal.returns-in-Ok
returns-in-Ok c =
    let read = c.in-Ok.ensures.value.0 in
    record {
      number = number-found c.args.low c.args.high c.args.word.now c.in-Ok.number read.0.0 read.1 read.0.1 c.if-low-number.true c.if-number-high.true;
      range = c.if-number-high.true;
    }

pub returns-in_default-3 : goal.returns-in_default-3
returns-in_default-3 c = record {
  number = number-none c.args.low c.args.high c.args.word.now (λ numeral small low high. c.in_default.ensures.value.0 (numeral, small));
  range = tt;
}
