use Rattle.std.proofs.Common.{Result, Ok, Err, IsOk, OnOk, nat_eq, ◌∙◌}
use Rattle.indexmap.proofs.CallerLemmas.{insert_entry-new}
use Rattle.cfdp_extents.proofs.forgotten.push.Goals as goal

ok_so : {T E : Type 0} {P : Type 0} (r : Result T E) → IsOk r → OnOk r P → P
ok_so (Ok x) is h = h
ok_so (Err e) is h = absurd (cc)

pub returns : goal.returns
returns c = ok_so c.insert.result (c.insert.ensures.succeeds c.requires.room) c.insert.ensures.entries ∙ insert_entry-new nat_eq c.args.by_source.now c.args.source c.args.numbers c.requires.absent
