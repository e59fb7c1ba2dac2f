use Rattle.std.proofs.Common.{sym, ap, subst, ◌∙◌}
use Rattle.std.specs.FinMap.{empty}
use Rattle.cfdp_store.specs.Shown.{Seen, seen_by, LenMap, AreLens}
use Rattle.cfdp_store.proofs.ShownLemmas.{nothing-yet, no-lens}
use Rattle.cfdp_store.proofs.catalog.Catalog.new.Goals as goal

pub invariant_of-result : goal.invariant_of-result
invariant_of-result c =
    let none = ap (seen_by c.args.expected.value) c.new-2.ensures ∙ nothing-yet c.args.expected.value in
    record {
      lens = subst (λ (m : LenMap). AreLens m (seen_by c.args.expected.value c.new-2.result).files) (sym c.new.ensures)
          (subst (λ (s : Seen). AreLens empty s.files) (sym none) no-lens);
    }
