use Rattle.std.proofs.Common.{Result, Ok, Err, IsOk, OnOk, ◌∙◌, arith}
use Rattle.indexmap.proofs.CallerLemmas.{insert_entry-new}
use Rattle.cfdp_header.specs.Ids.{same_id}
use Rattle.cfdp_entity.proofs.table.push_record.Goals as goal

ok_so : {T E : Type 0} {P : Type 0} (r : Result T E) → IsOk r → OnOk r P → P
ok_so (Ok x) is h = h
ok_so (Err e) is h = absurd (cc)

pub returns-clause-added : goal.returns-clause-added
returns-clause-added c =
    ok_so c.insert.result (c.insert.ensures.succeeds (omega (arith, c.requires.room))) c.insert.ensures.entries ∙ insert_entry-new same_id c.args.records.now c.args.id c.args.opened c.requires.absent
