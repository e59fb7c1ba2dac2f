-- Offsets that are held: of ranges, of unions, and none.
use Rattle.std.proofs.Common.{◌≡◌, ℕ, zero, suc, ◌+◌, ◌-◌, ◌<◌, ◌≤◌, Bool, true, false, not, ◌||◌, ◌&&◌, List, ◌∷◌, Option, Some, None, IfSome, sym, ap, ◌∙◌, arith, ◌⊎◌, inl, inr, eqb}
use Rattle.std.specs.FinSet as set
use Rattle.std.specs.Ordering.{nat_cmp}
use Rattle.std.specs.Cmp.{nat_cmp_total, unsigned_tied}
use Rattle.std.proofs.lemmas.Bool.{cases_lt, leb-true, ltb-true, le-leb, lt-ltb, and_parts, and_from}
use Rattle.std.proofs.lemmas.Bool.Decides.{nat_tests}
use Rattle.cfdp_directives.specs.declared.pdu.addressing.Addressing.{Addressing}
use Rattle.cfdp_directives.specs.Pdu.Codes.{size_limit}
use Rattle.cfdp_directives.proofs.FileSizes.{limit_old}
use Rattle.cfdp_extents.specs.Offsets.{Offsets, is_within, offsets_from, range, union_of, missing_from}
use Rattle.cfdp_receiver.specs.declared.state.Ending.{Ending}
use Rattle.cfdp_receiver.specs.declared.state.ReceiverPhase.{ReceiverPhase}
use Rattle.cfdp_receiver.specs.State.{IsReceiver}

pub none_held : (large : Bool) (held : Offsets) (n : ℕ) → held ≡ set.empty → set.contains held n ≡ true →
    n < size_limit large
none_held large held n none is =
    let not_so : false ≡ true =
    sym (ap (λ (s : Offsets). set.contains s n) none ∙ set.contains-empty nat_cmp n) ∙ is in cc

pub within : (s e n : ℕ) → s ≤ n → n < e → is_within s e n ≡ true
within s e n low high = and_from _ _ (le-leb s n low) (lt-ltb n e high)

pub within_parts : (s e n : ℕ) → is_within s e n ≡ true → (s ≤ n) × (n < e)
within_parts s e n is = let p = and_parts _ _ is in (leb-true s n p.0, ltb-true n e p.1)

within_none : (s n : ℕ) → false ≡ is_within s (s + 0) n
within_none s n = grind (arith, nat_tests)

within_more : (s k n : ℕ) → (eqb n s || is_within (s + 1) (s + 1 + k) n) ≡ is_within s (s + suc k) n
within_more s k n = grind (arith, nat_tests)

contains-offsets_from : (s k n : ℕ) → set.contains (offsets_from s k) n ≡ is_within s (s + k) n
unfolding offsets_from
contains-offsets_from s zero n = set.contains-empty nat_cmp n ∙ within_none s n
contains-offsets_from s (suc k) n =
    set.contains-insert nat_cmp_total (offsets_from (s + 1) k) s n
    ∙ ap (λ b. b || set.contains (offsets_from (s + 1) k) n) (unsigned_tied n s)
    ∙ ap (λ b. eqb n s || b) (contains-offsets_from (s + 1) k n)
    ∙ within_more s k n

within_length : (s e n : ℕ) → is_within s (s + (e - s)) n ≡ is_within s e n
within_length s e n = grind (arith, nat_tests)

pub contains-range : (s e n : ℕ) → set.contains (range s e) n ≡ is_within s e n
unfolding range
contains-range s e n = contains-offsets_from s (e - s) n ∙ within_length s e n

-- each offset of a range that is covered is held
pub covered : (held : Offsets) (s e n : ℕ) → set.is_subset (range s e) held ≡ true → s ≤ n → n < e →
    set.contains held n ≡ true
covered held s e n all low high =
    set.is_subset-contains nat_cmp_total (range s e) held all n (contains-range s e n
    ∙ within s e n low high)

or_parts : (a b : Bool) → (a || b) ≡ true → (a ≡ true) ⊎ (b ≡ true)
or_parts true b h = inl h
or_parts false b h = inr h

-- what is held with a range was held, or lies in it
pub held_with : (held : Offsets) (s e n : ℕ) → set.contains (set.union held (range s e)) n ≡ true →
    (set.contains held n ≡ true) ⊎ ((s ≤ n) × (n < e))
held_with held s e n is =
    elim (or_parts _ _ (sym (set.contains-union nat_cmp_total held (range s e) n) ∙ is)) [
      | inl old ↦ inl old
      | inr new ↦ inr (within_parts s e n (sym (contains-range s e n) ∙ new))
    ]

-- so none is beyond the greatest size, if the range isn't
pub held_below_with : (most : ℕ) (held all : Offsets) (s e n : ℕ) → all ≡ set.union held (range s e) →
    ((k : ℕ) → set.contains held k ≡ true → k < most) → e ≤ most →
    set.contains all n ≡ true → n < most
held_below_with most held all s e n is old high h =
    elim (held_with held s e n (sym (ap (λ (o : Offsets). set.contains o n) is) ∙ h)) [
      | inl k ↦ old n k
      | inr k ↦ omega arith
    ]

-- ranges with one more
pub contains-more : (r : ℕ × ℕ) (rs : List (ℕ × ℕ)) (n : ℕ) →
    set.contains (union_of (r ∷ rs)) n ≡ (is_within r.0 r.1 n || set.contains (union_of rs) n)
unfolding union_of
contains-more r rs n =
    set.contains-union nat_cmp_total (range r.0 r.1) (union_of rs) n
    ∙ ap (λ b. b || set.contains (union_of rs) n) (contains-range r.0 r.1 n)

-- what is missing isn't held, and what isn't held is missing
pub contains-missing : (held : Offsets) (s e n : ℕ) →
    set.contains (missing_from held s e) n ≡ (is_within s e n && not (set.contains held n))
contains-missing held s e n =
    set.contains-difference nat_cmp_total (range s e) held n
    ∙ ap (λ b. b && not (set.contains held n)) (contains-range s e n)

-- the end of what is held isn't beyond the greatest size
pub end_below : (large : Bool) (held : Offsets) (end : ℕ) → (0 < end → set.contains held (end - 1) ≡ true) →
    ((n : ℕ) → set.contains held n ≡ true → n < size_limit large) → end ≤ size_limit large
end_below large held end last below = elim (cases_lt 0 end) [
  | inl some ↦ (let low : end - 1 < size_limit large = below (end - 1) (last some) in omega arith)
  | inr none ↦ omega arith
]

-- a flag that is added lowers no limit
pub limits_raised : (phase : ReceiverPhase) (suspended : Bool) (ending : Option Ending) (held : Offsets) (cursor : Option ℕ) (addressing : Addressing) (old new : Bool) →
    IsReceiver addressing old phase suspended ending held cursor → IsReceiver addressing (old || new) phase suspended ending held cursor
limits_raised phase suspended ending held cursor addressing old new r = record {
  addressing_fits = r.addressing_fits;
  suspended_receives = r.suspended_receives;
  held_below = λ n h. (let low : n < size_limit old = r.held_below n h in omega (arith, low, limit_old old new));
  size_below = λ is. at_most ending (λ (e : Ending). e.size) (r.size_below is);
  cursor_below = at_most cursor (λ n. n) r.cursor_below;
}
  where
    at_most : {X : Type 0} (o : Option X) (value : X → ℕ) → IfSome o (λ x. value x ≤ size_limit old) → IfSome o (λ x. value x ≤ size_limit (old || new))
    at_most None value h = tt
    at_most (Some x) value h = omega (arith, h, limit_old old new)
