use Rattle.std.proofs.Common.{Err, Ok, refl}
use Rattle.cfdp_port.specs.Pair.{pair}
use Rattle.cfdp_node.proofs.LoopLemmas.{follows_by, puts_as}
use Rattle.cfdp_node.proofs.looping.run.Goals as goal

pub returns-in-Ok : goal.returns-in-Ok
returns-in-Ok g c = record {
  put = Ok c.in-Ok.id;
  one = c.put.new.self;
  puts = puts_as c.args.options.now.source.items c.as_slice.result.now c.args.options.now.destination.items c.as_slice-2.result.now
      c.as_slice.ensures.value c.as_slice-2.ensures.value c.put.result (Ok c.in-Ok.id) c.in-Ok.is c.args.one.now c.put.new.self c.put.ensures.puts;
  follows = follows_by g.W.Wire.steps c.in-Ok.id c.args.options.now.turns (pair c.put.new.self c.args.two.now) _
      c.take_turns.result c.is_err.result c.is_err.ensures.value c.take_turns.ensures.ok c.take_turns.ensures.err;
  answered = refl;
}

pub returns-in-Err : goal.returns-in-Err
returns-in-Err g c = record {
  put = Err c.in-Err.error;
  one = c.put.new.self;
  puts = puts_as c.args.options.now.source.items c.as_slice.result.now c.args.options.now.destination.items c.as_slice-2.result.now
      c.as_slice.ensures.value c.as_slice-2.ensures.value c.put.result (Err c.in-Err.error) c.in-Err.is c.args.one.now c.put.new.self c.put.ensures.puts;
  follows = (c.refused.ensures.short, refl);
  answered = c.refused.ensures.answer;
}
