use Rattle.std.proofs.lemmas.Iterator.Consumers.{nth_from_yields_List, YieldsList-from_rest}
use Rattle.cfdp_c.proofs.files.entry_at.Goals as goal

pub returns-clause-at : goal.returns-clause-at
returns-clause-at c = nth_from_yields_List c.nth.result c.nth.new.self c.args.place c.nth.ensures.ran (YieldsList-from_rest c.args.files.now.entries c.iter.ensures.rest)
