-- What holds of every sender.
use Rattle.std.proofs.Common.{◌≡◌, ℕ, ◌<◌, ◌≤◌, ◌||◌, ◌&&◌, not, true, false, Option, Some, None, IfSome, IfNone, Result, Ok, Err, OnOk, OnErr, refl, sym, ap, ◌∙◌, arith}
use Rattle.std.specs.Cmp.{nat_cmp_total}
use Rattle.std.specs.FinSet as set
use Rattle.std.specs.Ordering.{nat_cmp}
use Rattle.std.proofs.lemmas.Bool.{and_parts, leb-true, ltb-true}
use Rattle.cfdp_extents.specs.Offsets.{Offsets, range, is_within}
use Rattle.cfdp_extents.proofs.CallerLemmas.{contains-range}

-- nothing is in the empty set
pub asked-none : (asked : Offsets) (limit : ℕ) → asked ≡ set.empty → (n : ℕ) → set.contains asked n ≡ true → n < limit
asked-none asked limit none n held =
    let gone : set.contains asked n ≡ false = ap (λ s. set.contains s n) none ∙ set.contains-empty nat_cmp n in
    cc

-- what is asked for once more is in what was sent
pub asked-more : (asked new : Offsets) (start end limit : ℕ)
    → ((n : ℕ) → set.contains asked n ≡ true → n < limit)
    → end ≤ limit → new ≡ set.union asked (range start end)
    → (n : ℕ) → set.contains new n ≡ true → n < limit
asked-more asked new start end limit before le is n held =
    let parts : (set.contains asked n || is_within start end n) ≡ true =
    ap (λ b. set.contains asked n || b) (sym (contains-range start end n))
    ∙ sym (set.contains-union nat_cmp_total asked (range start end) n)
    ∙ ap (λ s. set.contains s n) (sym is)
    ∙ held in
    elim (set.contains asked n) as (λ b. set.contains asked n ≡ b → (b || is_within start end n) ≡ true → n < limit) [
      | true ↦ λ e _. before n e
      | false ↦ λ _ w. let parts = and_parts _ _ w in let low = leb-true start n parts.0 in let high = ltb-true n end parts.1 in omega arith
    ] refl parts

-- what is asked for no more leaves less
pub asked-less : (asked other new : Offsets) (limit : ℕ)
    → ((n : ℕ) → set.contains asked n ≡ true → n < limit)
    → new ≡ set.difference asked other
    → (n : ℕ) → set.contains new n ≡ true → n < limit
asked-less asked other new limit before is n held =
    let parts : (set.contains asked n && not (set.contains other n)) ≡ true =
    sym (set.contains-difference nat_cmp_total asked other n)
    ∙ ap (λ s. set.contains s n) (sym is)
    ∙ held in
    before n (and_parts _ _ parts).0

-- and so does what a front was taken of
pub asked-taken : (asked new : Offsets) (limit : ℕ) (r : Option (ℕ × ℕ))
    → ((n : ℕ) → set.contains asked n ≡ true → n < limit)
    → IfNone r (new ≡ asked) → IfSome r (λ r. new ≡ set.difference asked (range r.0 r.1))
    → (n : ℕ) → set.contains new n ≡ true → n < limit
asked-taken asked new limit None before none rest n held = before n (ap (λ s. set.contains s n) (sym none) ∙ held)
asked-taken asked new limit (Some r) before none rest n held = asked-less asked (range r.0 r.1) new limit before rest n held

-- and so is what there may have been no memory for
pub asked-inserted : {U E : Type 0} (asked new : Offsets) (start end limit : ℕ) (r : Result U E)
    → ((n : ℕ) → set.contains asked n ≡ true → n < limit) → end ≤ limit
    → OnOk r (new ≡ set.union asked (range start end)) → OnErr r (new ≡ asked)
    → (n : ℕ) → set.contains new n ≡ true → n < limit
asked-inserted asked new start end limit (Ok u) before le ok err = asked-more asked new start end limit before le ok
asked-inserted asked new start end limit (Err e) before le ok err = λ n held. before n (ap (λ s. set.contains s n) (sym err) ∙ held)
