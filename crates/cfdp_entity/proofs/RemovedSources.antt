-- A file that was removed from an outbox is one that may have become another.
use Rattle.std.proofs.Common.{◌≡◌, ◌≢◌, true, ℕ, List, None, cond, refl, sym, subst, ◌∙◌}
use Rattle.std.specs.Ordering.{nat_cmp, is_eq}
use Rattle.std.specs.declared.cmp.Ordering.TheVariants.{Less, Equal, Greater}
use Rattle.std.specs.Cmp.Lexicographic.{slice_cmp, nat_list_cmp_total}
use Rattle.std.specs.FinMap.{get, remove, get-remove, slice_cmp-IsAntisymmetric, nat_cmp-IsAntisymmetric}
use Rattle.cfdp_header.specs.Files.{FileMap}
use Rattle.cfdp_store.specs.Rereading.{LooksFor}

other-stays : (files : FileMap) (name other : List ℕ) → other ≢ name → get (remove files name) other ≡ get files other
other-stays files name other apart =
    get-remove nat_list_cmp_total files name other
    ∙ elim (slice_cmp nat_cmp other name) as (λ o. slice_cmp nat_cmp other name ≡ o → cond (is_eq o) None (get files other) ≡ get files other) [
      | Less ↦ λ same. refl
      | Equal ↦ λ same. absurd (apart (slice_cmp-IsAntisymmetric nat_cmp-IsAntisymmetric other name same))
      | Greater ↦ λ same. refl
    ] refl

pub looks-removed : (name : List ℕ) (files now : FileMap) → now ≡ remove files name → LooksFor name true true files now
looks-removed name files now is = record {
  others = λ other apart. subst (λ (m : FileMap). get m other ≡ get files other) (sym is) (other-stays files name other apart);
  stood = λ stands. stands;
}
