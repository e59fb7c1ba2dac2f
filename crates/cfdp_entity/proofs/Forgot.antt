-- Transactions that are forgotten again leave the next numbers unforgotten.
use Rattle.std.proofs.Common.{◌≡◌, ℕ, ◌<◌, ◌≤◌, ◌==◌, ◌&&◌, ◌||◌, nat_le, nat_lt, Bool, true, false, [], ◌∷◌, Result, Ok, Err, OnOk, OnErr, refl, sym, ap, ap₂, ◌∙◌, arith}
use Rattle.std.specs.FinSet as set
use Rattle.std.proofs.lemmas.Bool.{eqb-true}
use Rattle.std.proofs.lemmas.Bool.Decides.{nat_tests}
use Rattle.cfdp_header.proofs.Ids.{id_total}
use Rattle.cfdp_extents.specs.Offsets.{range, is_within}
use Rattle.cfdp_extents.proofs.CallerLemmas.{contains-range}
use Rattle.cfdp_extents.specs.Forgotten.{IdSet, ids_in}
use Rattle.cfdp_extents.proofs.Sets.{contains-ids}
use Rattle.cfdp_entity.specs.Entity.{AreUnforgotten, own_id}

past-end : (start end n : ℕ) → end ≤ n → is_within start end n ≡ false
past-end start end n le = grind (arith, nat_tests)

none-in : (entity source start end n : ℕ) → (source ≡ entity → end ≤ n) → set.contains (ids_in source start end) (own_id entity n) ≡ false
none-in entity source start end n own = contains-ids ((source, range start end) ∷ []) (own_id entity n) ∙ by (entity == source) refl
  where
    by : (b : Bool) → (entity == source) ≡ b → (((entity == source) && set.contains (range start end) n) || false) ≡ false
    by true is = ap (λ v. ((entity == source) && v) || false) (contains-range start end n ∙ past-end start end n (own (sym (eqb-true entity source is)))) ∙ off (entity == source)
      where
        off : (a : Bool) → ((a && false) || false) ≡ false
        off true = refl
        off false = refl
    by false is = ap (λ v. (v && set.contains (range start end) n) || false) is

pub unforgotten-joined : {T E : Type 0} (answer : Result T E) (entity next source start end : ℕ) (before after : IdSet) → OnOk answer (after ≡ set.union before (ids_in source start end))
    → OnErr answer (after ≡ before) → (source ≡ entity → end ≤ next) → AreUnforgotten entity next before → AreUnforgotten entity next after
unfolding AreUnforgotten
unforgotten-joined (Ok t) entity next source start end before after ok err own none = λ n l.
    ap (λ (s : IdSet). set.contains s (own_id entity n)) ok ∙ set.contains-union id_total before (ids_in source start end) (own_id entity n)
    ∙ ap₂ (λ a b. a || b) (none n l) (none-in entity source start end n (λ h. (let low = own h in omega (arith, low, l))))
unforgotten-joined (Err e) entity next source start end before after ok err own none = λ n l. ap (λ (s : IdSet). set.contains s (own_id entity n)) err ∙ none n l
