use Rattle.std.proofs.Common.{◌≡◌, None, ◌∙◌, ap, sym}
use Rattle.cfdp_extents.specs.Ranges.{turned, key_at, first_from}
use Rattle.std.specs.Ordering.{nat_cmp}
use Rattle.std.specs.BTreeMap.{insert_entry, is_at}
use Rattle.std.specs.Map.{lookup}
use Rattle.std.proofs.lemmas.Result.{err_from_is_err_and}
use Rattle.cfdp_extents.proofs.Kept.{put_is, untouched_is}
use Rattle.cfdp_extents.proofs.search.put.Goals as goal

pub returns-clause-ok : goal.returns-clause-ok
returns-clause-ok c =
    ap turned (c.in_ok-insert.ensures.entries ∙ ap (λ k. insert_entry nat_cmp c.args.ranges.now.entries k c.args.low) c.touched_end.ensures)
    ∙ put_is c.args.low c.args.end c.args.ranges.now.entries c.requires

pub returns-in_err-insert-clause-touched : goal.returns-in_err-insert-clause-touched
returns-in_err-insert-clause-touched c =
    let p = err_from_is_err_and c.from_residual.result c.from_residual.ensures.1 in
    let absent : lookup (is_at (nat_cmp (key_at c.args.end (first_from c.args.end (turned c.args.ranges.now.entries))))) c.args.ranges.now.entries ≡ None =
    ap (λ k. lookup (is_at (nat_cmp k)) c.args.ranges.now.entries) (sym c.touched_end.ensures) ∙ c.in_err-insert.ensures.absent in
    rw (p.1) (untouched_is c.args.end c.args.ranges.now.entries absent)
