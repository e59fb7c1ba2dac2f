use Rattle.std.proofs.Common.{◌≡◌, ◌∙◌, ap, sym, length, true≢false}
use Rattle.std.specs.Ordering.{nat_cmp}
use Rattle.std.specs.BTreeMap.{insert_entry}
use Rattle.cfdp_extents.specs.Ranges.{turned, with_last}
use Rattle.cfdp_extents.proofs.Kept.{only-ok}
use Rattle.cfdp_extents.proofs.Last.{cut-first, is-there}
use Rattle.cfdp_extents.proofs.whole.cut_first.Goals as goal

pub returns-else-is_empty-clause-cut : goal.returns-else-is_empty-clause-cut
returns-else-is_empty-clause-cut c =
    let some : length c.args.ranges.now.entries ≡ 0 → ⊥ = λ z. true≢false (sym (c.if-is_empty.ensures.1 z)) in
    let entries : c.insert.new.self.entries ≡ insert_entry nat_cmp c.args.ranges.now.entries c.args.first.1 c.args.start =
    only-ok c.insert.result c.insert.ensures.entries c.insert.ensures.absent (is-there c.args.ranges.now.entries c.args.last.now c.args.first c.requires.first some) in
    ap (λ es. with_last (turned es) c.args.last.now) entries
    ∙ cut-first c.args.ranges.now.entries c.args.last.now c.args.first c.args.start c.requires.first some
