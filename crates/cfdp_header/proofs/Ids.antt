-- Exported: ids that are the same and ids that are not, and the laws of their order and of their
-- `==`, for the crates that keep maps by id.
use Rattle.std.proofs.Common.{◌≡◌, ◌≢◌, ◌==◌, ℕ, true, false, true≢false, refl, sym, ap, ap₂, inl, inr}
use Rattle.std.specs.declared.cmp.Ordering.{Ordering}
use Rattle.std.specs.declared.cmp.Ordering.TheVariants.{Less, Equal, Greater}
use Rattle.std.specs.Cmp.{IsTotalOrder, IsEquivalence, on_total, then_total, nat_cmp_total, eq_by_cmp_equiv, both_tied, unsigned_ties}
use Rattle.std.specs.FinMap.{IsAntisymmetric, nat_cmp-IsAntisymmetric}
use Rattle.std.specs.Ordering.{eq_by_cmp, is_eq, nat_cmp, ordering_then}
use Rattle.std.proofs.lemmas.Bool.{eqb-true, eq-eqb, and_parts}
use Rattle.std.proofs.lemmas.Bool.Decides.{eqb_tells}
use Rattle.cfdp_header.specs.contracts.value.TransactionIdPartialEq.TheImpl.{eq-value}
use Rattle.cfdp_header.specs.declared.value.TransactionId.{TransactionId}
use Rattle.cfdp_header.specs.Ids.{same_id, id_cmp}

pub same_id-is : (a b : TransactionId) → same_id a b ≡ true → a ≡ b
same_id-is a b e =
    let parts = and_parts (a.source == b.source) (a.number == b.number) e in
    let make : ℕ → ℕ → TransactionId = λ s n. record { source = s; number = n } in
    ap₂ make (eqb-true a.source b.source parts.0) (eqb-true a.number b.number parts.1)

pub same_id-itself : (id : TransactionId) → same_id id id ≡ true
same_id-itself id = rw (eq-eqb id.source id.source refl, eq-eqb id.number id.number refl) refl

-- two ids that are not the same differ in a number
pub other_id : (id other : TransactionId) → other ≢ id → same_id id other ≡ false
other_id id other ne = elim (eqb_tells id.source other.source) [
  | inl s ↦ elim (eqb_tells id.number other.number) [
    | inl n ↦
        let source : id.source ≡ other.source = s.1 in
        let number : id.number ≡ other.number = n.1 in
        absurd (ne (λ i. record { source = sym source i; number = sym number i }))
    | inr n ↦ rw (s.0, n.0) refl
  ]
  | inr s ↦ rw s.0 refl
]

-- ---- the order of ids
pub id_total : IsTotalOrder id_cmp
id_total = then_total (on_total (λ i. i.source) nat_cmp_total) (on_total (λ i. i.number) nat_cmp_total)

-- if two orders one after another tie, each ties
pub both_tie : (r s : Ordering) → ordering_then r s ≡ Equal → (r ≡ Equal) × (s ≡ Equal)
both_tie Less s e = absurd (true≢false (sym (ap is_eq e)))
both_tie Equal s e = (refl, e)
both_tie Greater s e = absurd (true≢false (sym (ap is_eq e)))

pub id_cmp-IsAntisymmetric : IsAntisymmetric id_cmp
id_cmp-IsAntisymmetric x y e =
    let ties = both_tie (nat_cmp x.source y.source) (nat_cmp x.number y.number) e in
    let source : x.source ≡ y.source = nat_cmp-IsAntisymmetric _ _ ties.0 in
    let number : x.number ≡ y.number = nat_cmp-IsAntisymmetric _ _ ties.1 in
    λ i. record { source = source i; number = number i }

pub id_laws : IsEquivalence (eq_by_cmp id_cmp)
id_laws = eq_by_cmp_equiv id_total

-- `==` of ids is what their order ties
pub id_eq : (x y : TransactionId) → (eq-value).it x y ≡ eq_by_cmp id_cmp x y
id_eq x y = both_tied _ _ (nat_cmp x.source y.source) (nat_cmp x.number y.number) (unsigned_ties x.source y.source) (unsigned_ties x.number y.number)
