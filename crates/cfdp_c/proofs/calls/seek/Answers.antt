use Rattle.std.proofs.Common.{Ok, Err}
use Rattle.cfdp_c.proofs.calls.seek.Goals as goal

pub returns-in-Ok-clause-seeks : goal.returns-in-Ok-clause-seeks
returns-in-Ok-clause-seeks g c = record {
  found = Ok c.in-Ok.field-0;
  mid = c.look_for.new.self;
  looks = c.in-Ok.ensures.looks;
  link = c.in-Ok.ensures.link;
  puts = c.put.ensures.puts;
  code = tt;
  err = tt;
}

pub returns-in-Err-clause-seeks : goal.returns-in-Err-clause-seeks
returns-in-Err-clause-seeks g c = record {
  found = Err c.in-Err.error;
  mid = c.look_for.new.self;
  looks = tt;
  link = c.in-Err.ensures.link;
  puts = tt;
  code = c.of_look.ensures;
  err = (c.in-Err.ensures.err, c.in-Err.ensures.link);
}
