-- Of a transaction each timer that is due fires once, and no other does.
use Rattle.std.proofs.Common.{◌≡◌, ◌⊎◌, inl, inr, ℕ, zero, suc, ◌<◌, ◌≤◌, Bool, true, false, cond, List, [], ◌∷◌, refl, sym, ap, subst, ◌∙◌, arith}
use Rattle.std.specs.Prelude.{Contains}
use Rattle.std.specs.List.{AllByRecursion}
use Rattle.std.specs.List.Sorted.{IsStrictlySortedBy}
use Rattle.std.specs.Ordering.{ordering_reverse}
use Rattle.std.specs.declared.cmp.Ordering.TheVariants.{Less, Greater}
use Rattle.std.proofs.lemmas.Bool.{both_ways}
use Rattle.cfdp_header.specs.declared.value.TransactionId.{TransactionId}
use Rattle.cfdp_header.specs.Ids.{same_id}
use Rattle.cfdp_timers.specs.declared.kind.Kind.{Kind}
use Rattle.cfdp_timers.specs.declared.kind.Kind.TheVariants.{EofAck, Nak, FinishedAck, Inactivity}
use Rattle.cfdp_timers.specs.Armed.{Armed}
use Rattle.cfdp_timers.specs.Due.{AreDue, firing_cmp, is_due}
use Rattle.cfdp_timers.specs.Order.{Timer}
use Rattle.cfdp_timers.proofs.CallerLemmas.{due-fired}
use Rattle.cfdp_timers.proofs.Orders.{firing_total}
use Rattle.cfdp_entity.proofs.CallerLemmas.{same_id-true}
use Rattle.link_sim.proofs.Found.ExpiresWorld.{kind-fired, kinds-other, kinds-own, kinds_of}
use Rattle.link_sim.proofs.Stages.Rounds.{contains-first, contains-later}
use Rattle.outages.specs.Tries.{one_if}
use Rattle.outages.proofs.Expiring.{occurs, one}

-- ---- kinds
same-or-none : (k j : Kind) → ((k ≡ j) × (one k j ≡ 1)) ⊎ (one k j ≡ 0)
same-or-none EofAck EofAck = inl (refl, refl)
same-or-none EofAck Nak = inr refl
same-or-none EofAck FinishedAck = inr refl
same-or-none EofAck Inactivity = inr refl
same-or-none Nak EofAck = inr refl
same-or-none Nak Nak = inl (refl, refl)
same-or-none Nak FinishedAck = inr refl
same-or-none Nak Inactivity = inr refl
same-or-none FinishedAck EofAck = inr refl
same-or-none FinishedAck Nak = inr refl
same-or-none FinishedAck FinishedAck = inl (refl, refl)
same-or-none FinishedAck Inactivity = inr refl
same-or-none Inactivity EofAck = inr refl
same-or-none Inactivity Nak = inr refl
same-or-none Inactivity FinishedAck = inr refl
same-or-none Inactivity Inactivity = inl (refl, refl)

none-occurs : (k : Kind) (ks : List Kind) → (Contains ks k → ⊥) → occurs k ks ≡ 0
none-occurs k [] none = refl
none-occurs k (j ∷ ks) none = elim (same-or-none k j) [
  | inl same ↦ absurd (none (subst (λ i. Contains (i ∷ ks) k) same.0 (contains-first k ks)))
  | inr zero_is ↦ (let rest : occurs k ks ≡ 0 = none-occurs k ks (λ c. none (contains-later j k ks c)) in omega (arith, zero_is, rest))
]

-- ---- timers
all-at : (P : Timer → Type 0) (ts : List Timer) (u : Timer) → AllByRecursion P ts → Contains ts u → P u
all-at P [] u a (n, low, is) = absurd (omega (arith, low))
all-at P (t ∷ ts) u a (zero, low, is) = subst P is a.0
all-at P (t ∷ ts) u a (suc n, low, is) = all-at P ts u a.1 (n, omega (arith, low), is)

no-timer : (u : Timer) → Contains [] u → ⊥
no-timer u (n, low, is) = omega (arith, low)

module _ (armed : Armed) (id : TransactionId) (k : Kind) where
  never-less : (t : Timer) → firing_cmp armed t t ≡ Less → ⊥
  never-less t is = (let both : Less ≡ Greater = sym is ∙ (firing_total armed).antisymm t t ∙ ap ordering_reverse is in cc)

  once-by : (t : Timer) (ts : List Timer) → AllByRecursion (λ u. firing_cmp armed t u ≡ Less) ts → occurs k (kinds_of id ts) ≤ 1 → (b : Bool) → same_id id t.0 ≡ b →
      occurs k (cond b (t.1 ∷ kinds_of id ts) (kinds_of id ts)) ≤ 1
  once-by t ts below rest true is = elim (same-or-none k t.1) [
    | inl same ↦ (let none : occurs k (kinds_of id ts) ≡ 0 = none-occurs k (kinds_of id ts) (apart same.0) in let first : one k t.1 ≡ 1 = same.1 in omega (arith, none, first))
    | inr zero_is ↦ omega (arith, zero_is, rest)
  ]
    where
      -- it doesn't come again
      apart : k ≡ t.1 → Contains (kinds_of id ts) k → ⊥
      apart kind c =
          let same : id ≡ t.0 = same_id-true id t.0 is in
          let is_it : t ≡ (id, k) = λ i. (sym same i, sym kind i) in
          never-less t (all-at (λ u. firing_cmp armed t u ≡ Less) ts t below (subst (λ u. Contains ts u) (sym is_it) (kind-fired id ts k c)))
  once-by t ts below rest false differs = rest

  once : (ts : List Timer) → IsStrictlySortedBy (firing_cmp armed) ts → occurs k (kinds_of id ts) ≤ 1
  unfolding IsStrictlySortedBy
  once [] sorted = (let none : occurs k (kinds_of id []) ≡ 0 = none-occurs k (kinds_of id []) (λ c. no-timer (id, k) (kind-fired id [] k c)) in omega (arith, none))
  once (t ∷ ts) sorted = elim (same_id id t.0) as (λ b. same_id id t.0 ≡ b → occurs k (kinds_of id (t ∷ ts)) ≤ 1) [
    | true ↦ λ is. subst (λ l. occurs k l ≤ 1) (sym (kinds-own id t ts is)) (once-by t ts sorted.0 (once ts sorted.1) true is)
    | false ↦ λ differs. subst (λ l. occurs k l ≤ 1) (sym (kinds-other id t ts differs)) (once-by t ts sorted.0 (once ts sorted.1) false differs)
  ] refl

  -- as often as it is due
  pub occurs-due : (at : ℕ) (fired : List Timer) → AreDue armed at fired → occurs k (kinds_of id fired) ≤ one_if (is_due armed at (id, k))
  occurs-due at fired are = by (is_due armed at (id, k)) refl
    where
      by : (b : Bool) → is_due armed at (id, k) ≡ b → occurs k (kinds_of id fired) ≤ one_if b
      by true is = once fired are.in_order
      by false is =
          let none : occurs k (kinds_of id fired) ≡ 0 = none-occurs k (kinds_of id fired) (λ c. both_ways (is_due armed at (id, k)) is (due-fired armed at fired are (id, k) (kind-fired id fired k c))) in
          omega (arith, none)

  -- and one that isn't due is not among them
  pub undue-apart : (at : ℕ) (fired : List Timer) → AreDue armed at fired → is_due armed at (id, k) ≡ false → Contains (kinds_of id fired) k → ⊥
  undue-apart at fired are undue c = both_ways (is_due armed at (id, k)) undue (due-fired armed at fired are (id, k) (kind-fired id fired k c))
