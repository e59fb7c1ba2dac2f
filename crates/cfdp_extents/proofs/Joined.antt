-- What is held after a range was joined in, and what a range of held offsets shows.
use Rattle.std.proofs.Common.{◌≡◌, ℕ, ◌<◌, ◌≤◌, Bool, true, false, ◌||◌, List, refl, ap, ◌∙◌, sym, arith, ◌⊎◌}
use Rattle.std.specs.Bool.{Decides}
use Rattle.std.specs.Cmp.{nat_cmp_total}
use Rattle.std.specs.FinSet.{contains, union, is_subset, contains-union, contains-is_subset, is_subset-contains}
use Rattle.std.proofs.lemmas.Bool.Decides.{Decides-or, Decides-at, Decides-like, same_from_decides, nat_tests}
use Rattle.cfdp_extents.specs.Offsets.{Offsets, is_within, range, union_of}
use Rattle.cfdp_extents.proofs.Members.{Decides-within, contains-range, InRanges, Decides-union_of, same_offsets}

-- ranges that hold what others do, and a range
pub union-more : (new old : List (ℕ × ℕ)) (s e : ℕ) → ((n : ℕ) → InRanges new n → InRanges old n ⊎ ((s ≤ n) × (n < e))) → ((n : ℕ) → InRanges old n ⊎ ((s ≤ n) × (n < e)) → InRanges new n) →
    union_of new ≡ union (union_of old) (range s e)
union-more new old s e forth back =
    same_offsets _ _ (λ n.
    same_from_decides _ _ (Decides-union_of new n)
    (Decides-at _ _ (contains-union nat_cmp_total (union_of old) (range s e) n)
    (Decides-like _ (back n) (forth n)
    (Decides-or _ _ (Decides-union_of old n) (Decides-at _ _ (contains-range s e n) (Decides-within s e n))))))

or_empty : (b : Bool) (s e n : ℕ) → s ≡ e → b ≡ (b || is_within s e n)
or_empty true s e n h = refl
or_empty false s e n h = grind (arith, nat_tests)

-- an empty range adds nothing
pub union-nothing : (held : Offsets) (s e : ℕ) → s ≡ e → held ≡ union held (range s e)
union-nothing held s e same =
    same_offsets _ _ (λ n. or_empty (contains held n) s e n same ∙ sym (contains-union nat_cmp_total held (range s e) n ∙ ap (λ b. contains held n || b) (contains-range s e n)))

-- true if each offset of a range is held
pub Decides-is_subset : (s e : ℕ) (held : Offsets) → Decides (is_subset (range s e) held) ((n : ℕ) → s ≤ n → n < e → contains held n ≡ true)
Decides-is_subset s e held = (
  λ t n low high. is_subset-contains nat_cmp_total (range s e) held t n (contains-range s e n ∙ (Decides-within s e n).1 (low, high)),
  λ f. contains-is_subset nat_cmp_total (range s e) held (λ q t. let w = (Decides-within s e q).0 (sym (contains-range s e q) ∙ t) in f q w.0 w.1),
)

pub covers-nothing : (s e : ℕ) (held : Offsets) → s ≡ e → true ≡ is_subset (range s e) held
covers-nothing s e held same = sym ((Decides-is_subset s e held).1 (λ n low high. absurd (omega arith)))

absorbed : (a b : Bool) → (b ≡ true → a ≡ true) → (a || b) ≡ a
absorbed true b h = refl
absorbed false true h = sym (h refl)
absorbed false false h = refl

-- a range that is held adds nothing
pub union-held : (held : Offsets) (s e : ℕ) → is_subset (range s e) held ≡ true → union held (range s e) ≡ held
union-held held s e h = same_offsets _ _ (λ n. contains-union nat_cmp_total held (range s e) n
    ∙ absorbed (contains held n) (contains (range s e) n) (λ t. is_subset-contains nat_cmp_total (range s e) held h n t))
