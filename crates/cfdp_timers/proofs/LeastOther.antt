-- The earliest deadline except Inactivity's, over all entries, is the least of the other kinds'
-- timers.
use Rattle.std.proofs.Common.{◌≡◌, ◌≢◌, ◌⊎◌, inl, inr, ℕ, ◌≤◌, List, [], ◌∷◌, refl, sym, ap, ◌∙◌, true, false, cond, Option, Some, None, arith, min, nat_le}
use Rattle.std.specs.List.{IsDistinct}
use Rattle.std.specs.Map.{keys_of, lookup}
use Rattle.std.specs.Option.{option_and_then, MatchOption}
use Rattle.std.specs.Ordering.{eq_by_cmp}
use Rattle.std.specs.FinMap as map
use Rattle.std.proofs.lemmas.Bool.{leb-true, leb-false}
use Rattle.std.proofs.lemmas.Map.{lookup-none}
use Rattle.std.proofs.lemmas.Map.Entries.{none_past_head}
use Rattle.std.proofs.lemmas.Map.Keys.{IsDistinct-tail}
use Rattle.std.proofs.lemmas.Option.{same_Some, none-some}
use Rattle.cfdp_header.specs.declared.value.TransactionId.{TransactionId}
use Rattle.cfdp_header.specs.Ids.{id_cmp}
use Rattle.cfdp_header.proofs.Ids.{id_laws}
use Rattle.cfdp_timers.specs.declared.kind.Kind.{Kind}
use Rattle.cfdp_timers.specs.declared.kind.Kind.TheVariants.{EofAck, Nak, FinishedAck, Inactivity}
use Rattle.cfdp_timers.specs.declared.deadlines.Deadlines.{Deadlines}
use Rattle.cfdp_timers.specs.Order.{Timer}
use Rattle.cfdp_timers.specs.Entries.{deadline_at, earlier, other_of, others_of, earliest_of, armed_of}
use Rattle.cfdp_timers.specs.ButInactivity.{OnlyInactivity, IsLeastOther}
use Rattle.cfdp_timers.proofs.Kept.{get-armed_of}

-- ---- the earlier of two
none_earlier : (a b : Option ℕ) → earlier a b ≡ None → (a ≡ None) × (b ≡ None)
none_earlier None b e = (refl, e)
none_earlier (Some x) None e = absurd (none-some x (sym e))
none_earlier (Some x) (Some y) e = absurd (none-some _ (sym e))

-- no later than either
no_later : (a b : Option ℕ) (d x : ℕ) → earlier a b ≡ Some d → ((a ≡ Some x → d ≤ x) × (b ≡ Some x → d ≤ x))
no_later None b d x e = (λ h. absurd (none-some x h), λ h. let k : x ≡ d = same_Some x d (sym h ∙ e) in omega (arith, k))
no_later (Some y) None d x e = (λ h. let k : x ≡ d = same_Some x d (sym h ∙ e) in omega (arith, k), λ h. absurd (none-some x h))
no_later (Some y) (Some z) d x e =
    let m : min y z ≡ d = same_Some _ d e in (
      λ h. let k : y ≡ x = same_Some y x h in omega (arith, k, m),
      λ h. let k : z ≡ x = same_Some z x h in omega (arith, k, m),
    )

-- and one of both
one_of_both : (a b : Option ℕ) (d : ℕ) → earlier a b ≡ Some d → (a ≡ Some d) ⊎ (b ≡ Some d)
one_of_both None b d e = inr e
one_of_both (Some y) None d e = inl e
one_of_both (Some y) (Some z) d e =
    let m : min y z ≡ d = same_Some _ d e in
    elim (nat_le y z) as (λ b. nat_le y z ≡ b → (Some y ≡ Some d) ⊎ (Some z ≡ Some d)) [
      | true ↦ λ le. let l = leb-true y z le in let is : y ≡ d = omega (arith, m, l) in inl (ap Some is)
      | false ↦ λ gt. let l = leb-false y z gt in let is : z ≡ d = omega (arith, m, l) in inr (ap Some is)
    ] refl

-- ---- of one transaction
module _ (d : Deadlines) where
  only_so : (k : Kind) (at : ℕ) → other_of d ≡ None → deadline_at d k ≡ Some at → k ≡ Inactivity
  only_so EofAck at e h = absurd (none-some at (sym (none_earlier d.eof_ack (earlier d.nak d.finished_ack) e).0 ∙ h))
  only_so Nak at e h = absurd (none-some at (sym (none_earlier d.nak d.finished_ack (none_earlier d.eof_ack (earlier d.nak d.finished_ack) e).1).0 ∙ h))
  only_so FinishedAck at e h = absurd (none-some at (sym (none_earlier d.nak d.finished_ack (none_earlier d.eof_ack (earlier d.nak d.finished_ack) e).1).1 ∙ h))
  only_so Inactivity at e h = refl

  not_eof : EofAck ≢ Inactivity
  not_eof e = absurd (cc)

  not_nak : Nak ≢ Inactivity
  not_nak e = absurd (cc)

  not_finished : FinishedAck ≢ Inactivity
  not_finished e = absurd (cc)

  armed_one : (at : ℕ) → other_of d ≡ Some at → (k : Kind) × (k ≢ Inactivity) × (deadline_at d k ≡ Some at)
  armed_one at e = elim (one_of_both d.eof_ack (earlier d.nak d.finished_ack) at e) as (λ _. (k : Kind) × (k ≢ Inactivity) × (deadline_at d k ≡ Some at)) [
    | inl h ↦ (EofAck, not_eof, h)
    | inr h ↦ elim (one_of_both d.nak d.finished_ack at h) as (λ _. (k : Kind) × (k ≢ Inactivity) × (deadline_at d k ≡ Some at)) [
      | inl g ↦ (Nak, not_nak, g)
      | inr g ↦ (FinishedAck, not_finished, g)
    ]
  ]

  least_of_one : (k : Kind) (at x : ℕ) → other_of d ≡ Some at → k ≢ Inactivity → deadline_at d k ≡ Some x → at ≤ x
  least_of_one EofAck at x e apart h = (no_later d.eof_ack (earlier d.nak d.finished_ack) at x e).0 h
  least_of_one Nak at x e apart h = through (earlier d.nak d.finished_ack) refl
    where
      through : (o : Option ℕ) → earlier d.nak d.finished_ack ≡ o → at ≤ x
      through None is = absurd (none-some x (sym (none_earlier d.nak d.finished_ack is).0 ∙ h))
      through (Some y) is =
          let low = (no_later d.nak d.finished_ack y x is).0 h in
          let top = (no_later d.eof_ack (earlier d.nak d.finished_ack) at y e).1 is in
          omega (arith, low, top)
  least_of_one FinishedAck at x e apart h = through (earlier d.nak d.finished_ack) refl
    where
      through : (o : Option ℕ) → earlier d.nak d.finished_ack ≡ o → at ≤ x
      through None is = absurd (none-some x (sym (none_earlier d.nak d.finished_ack is).1 ∙ h))
      through (Some y) is =
          let low = (no_later d.nak d.finished_ack y x is).1 h in
          let top = (no_later d.eof_ack (earlier d.nak d.finished_ack) at y e).1 is in
          omega (arith, low, top)
  least_of_one Inactivity at x e apart h = absurd (apart refl)

-- ---- of all
abbrev Found : List (TransactionId × Deadlines) → ℕ → Type 0
Found es at = (i : TransactionId) × (d : Deadlines) × (lookup (eq_by_cmp id_cmp i) es ≡ Some d) × (other_of d ≡ Some at)

none_of : (es : List (TransactionId × Deadlines)) (i : TransactionId) (d : Deadlines) → earliest_of (others_of es) ≡ None → lookup (eq_by_cmp id_cmp i) es ≡ Some d → other_of d ≡ None
unfolding earliest_of others_of
none_of [] i d e found = absurd (none-some d found)
none_of (x ∷ es) i d e found =
    let both = none_earlier (other_of x.1) (earliest_of (others_of es)) e in
    elim (eq_by_cmp id_cmp i x.0) as (λ b. cond b (Some x.1) (lookup (eq_by_cmp id_cmp i) es) ≡ Some d → other_of d ≡ None) [
      | true ↦ λ h. ap other_of (sym (same_Some x.1 d h)) ∙ both.0
      | false ↦ λ h. none_of es i d both.1 h
    ] found

found_of : (es : List (TransactionId × Deadlines)) (at : ℕ) → IsDistinct (eq_by_cmp id_cmp) (keys_of es) → earliest_of (others_of es) ≡ Some at → Found es at
unfolding earliest_of others_of
found_of [] at apart e = absurd (none-some at e)
found_of (x ∷ es) at apart e = elim (one_of_both (other_of x.1) (earliest_of (others_of es)) at e) as (λ _. Found (x ∷ es) at) [
  | inl h ↦ (x.0, x.1, ap (λ b. cond b (Some x.1) (lookup (eq_by_cmp id_cmp x.0) es)) (id_laws.refl x.0), h)
  | inr h ↦ there (found_of es at (IsDistinct-tail (eq_by_cmp id_cmp) x.0 (keys_of es) apart) h)
]
  where
    there : Found es at → Found (x ∷ es) at
    there f = (
      f.0,
      f.1,
      elim (eq_by_cmp id_cmp f.0 x.0) as (λ b. eq_by_cmp id_cmp f.0 x.0 ≡ b → cond b (Some x.1) (lookup (eq_by_cmp id_cmp f.0) es) ≡ Some f.1) [
        | true ↦ λ tie. absurd (none-some f.1 (sym (lookup-none (eq_by_cmp id_cmp f.0) es (none_past_head id_laws f.0 x es apart tie)) ∙ f.2))
        | false ↦ λ tie. f.2
      ] refl,
      f.3,
    )

least_of_all : (es : List (TransactionId × Deadlines)) (i : TransactionId) (d : Deadlines) (k : Kind) (at x : ℕ)
    → earliest_of (others_of es) ≡ Some at → lookup (eq_by_cmp id_cmp i) es ≡ Some d → k ≢ Inactivity → deadline_at d k ≡ Some x → at ≤ x
unfolding earliest_of others_of
least_of_all [] i d k at x e found apart h = absurd (none-some d found)
least_of_all (y ∷ es) i d k at x e found apart h =
    elim (eq_by_cmp id_cmp i y.0) as (λ b. cond b (Some y.1) (lookup (eq_by_cmp id_cmp i) es) ≡ Some d → at ≤ x) [
      | true ↦ λ f. here (ap (λ w. deadline_at w k) (same_Some y.1 d f) ∙ h) (other_of y.1) refl
      | false ↦ λ f. behind (λ z is. least_of_all es i d k z x is f apart h) f (earliest_of (others_of es)) refl
    ] found
  where
    here : deadline_at y.1 k ≡ Some x → (o : Option ℕ) → other_of y.1 ≡ o → at ≤ x
    here g None is = absurd (apart (only_so y.1 k x is g))
    here g (Some z) is =
        let low = least_of_one y.1 k z x is apart g in
        let top = (no_later (other_of y.1) (earliest_of (others_of es)) at z e).0 is in
        omega (arith, low, top)

    behind : ((z : ℕ) → earliest_of (others_of es) ≡ Some z → z ≤ x) → lookup (eq_by_cmp id_cmp i) es ≡ Some d → (o : Option ℕ) → earliest_of (others_of es) ≡ o → at ≤ x
    behind rest f None is = absurd (apart (only_so d k x (none_of es i d is f) h))
    behind rest f (Some z) is =
        let low = rest z is in
        let top = (no_later (other_of y.1) (earliest_of (others_of es)) at z e).1 is in
        omega (arith, low, top)

-- ---- what is armed
by_entry : (o : Option Deadlines) (k : Kind) (at : ℕ) → option_and_then (λ d. deadline_at d k) o ≡ Some at → (d : Deadlines) × (o ≡ Some d) × (deadline_at d k ≡ Some at)
by_entry None k at h = absurd (none-some at h)
by_entry (Some d) k at h = (d, refl, h)

module _ (es : List (TransactionId × Deadlines)) (apart : IsDistinct (eq_by_cmp id_cmp) (keys_of es)) where
  entry_of_timer : (t : Timer) (at : ℕ) → map.get (armed_of es) t ≡ Some at → (d : Deadlines) × (lookup (eq_by_cmp id_cmp t.0) es ≡ Some d) × (deadline_at d t.1 ≡ Some at)
  entry_of_timer t at h = by_entry (lookup (eq_by_cmp id_cmp t.0) es) t.1 at (sym (get-armed_of es t.0 t.1 apart) ∙ h)

  pub least-others : (o : Option ℕ) → earliest_of (others_of es) ≡ o → MatchOption o (OnlyInactivity (armed_of es)) (λ d. IsLeastOther (armed_of es) d)
  least-others None is = record {
    only = λ t at h. let e = entry_of_timer t at h in only_so e.0 t.1 at (none_of es t.0 e.0 is e.1) e.2;
  }
  least-others (Some d) is =
      let f = found_of es d apart is in
      let k = armed_one f.1 d f.3 in
      record {
        armed_so = ((f.0, k.0), k.1, get-armed_of es f.0 k.0 apart ∙ ap (option_and_then (λ w. deadline_at w k.0)) f.2 ∙ k.2);
        least = λ t at other h. let e = entry_of_timer t at h in least_of_all es t.0 e.0 t.1 d at is e.1 other e.2;
      }

-- ---- a walk over the entries
