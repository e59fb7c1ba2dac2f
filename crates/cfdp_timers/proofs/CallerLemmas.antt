-- Exported: what proofs of a crate above cite of rooms, armed timers and fired timers.
use Rattle.std.proofs.Common.{◌≡◌, ℕ, ◌≤◌, Bool, not, true, false, cond, if◌then◌else◌, ◌||◌, Option, Some, None, List, refl, sym, ap, ◌∙◌}
use Rattle.std.specs.Prelude.{nat_le}
use Rattle.std.specs.Cmp.{Equal-is}
use Rattle.std.specs.List.{Contains}
use Rattle.std.specs.Option.{option_map_or}
use Rattle.std.specs.Ordering.{eq_by_cmp}
use Rattle.std.specs.FinMap as map
use Rattle.std.specs.FinSet as set
use Rattle.std.proofs.lemmas.Bool.{leb-true, false≢true}
use Rattle.std.proofs.lemmas.Map.Views.{list_any-from_Contains}
use Rattle.cfdp_header.specs.declared.value.TransactionId.{TransactionId}
use Rattle.cfdp_timers.specs.Order.{Timer, timer_cmp}
use Rattle.cfdp_header.specs.Ids.{id_cmp}
use Rattle.cfdp_timers.specs.Armed.{Armed}
use Rattle.cfdp_timers.specs.Due.{AreDue, is_due, still_armed}
use Rattle.cfdp_header.proofs.Ids.{id_total, id_laws}
pub use Rattle.cfdp_timers.proofs.Orders.{timer_total, timer_laws, same_timer}

-- ---- `room`: the transaction has room, and those that had it keep it
pub has_room-new : (s : set.FinSet id_cmp) (id : TransactionId) → set.contains (set.insert s id) id ≡ true
has_room-new s id = set.contains-insert id_total s id id ∙ ap (λ b. b || set.contains s id) (id_laws.refl id)

pub has_room-kept : (s : set.FinSet id_cmp) (id other : TransactionId) → set.contains s other ≡ true → set.contains (set.insert s id) other ≡ true
has_room-kept s id other h = set.contains-insert id_total s id other ∙ ap (λ b. eq_by_cmp id_cmp other id || b) h ∙ or_true (eq_by_cmp id_cmp other id)
  where
    or_true : (b : Bool) → (b || true) ≡ true
    or_true true = refl
    or_true false = refl

-- ---- `arm` and `clear`: at the timer, and at any other
module _ (armed : Armed) (t : Timer) where
  pub deadline-armed : (at : ℕ) → map.get (map.insert armed t at) t ≡ Some at
  deadline-armed at = map.get-insert timer_total armed t at t ∙ ap (λ b. cond b (Some at) (map.get armed t)) (timer_laws.refl t)

  pub deadline-armed_other : (at : ℕ) (u : Timer) → (u ≡ t → ⊥) → map.get (map.insert armed t at) u ≡ map.get armed u
  deadline-armed_other at u apart = map.get-insert timer_total armed t at u
      ∙ elim (eq_by_cmp timer_cmp u t) as (λ b. eq_by_cmp timer_cmp u t ≡ b → cond b (Some at) (map.get armed u) ≡ map.get armed u) [
        | true ↦ λ tie. absurd (apart (same_timer u t ((Equal-is (timer_cmp u t)).0 tie)))
        | false ↦ λ tie. refl
      ] refl

  pub deadline-cleared : map.get (map.remove armed t) t ≡ None
  deadline-cleared = map.get-remove timer_total armed t t ∙ ap (λ b. cond b None (map.get armed t)) (timer_laws.refl t)

  pub deadline-cleared_other : (u : Timer) → (u ≡ t → ⊥) → map.get (map.remove armed t) u ≡ map.get armed u
  deadline-cleared_other u apart = map.get-remove timer_total armed t u
      ∙ elim (eq_by_cmp timer_cmp u t) as (λ b. eq_by_cmp timer_cmp u t ≡ b → cond b None (map.get armed u) ≡ map.get armed u) [
        | true ↦ λ tie. absurd (apart (same_timer u t ((Equal-is (timer_cmp u t)).0 tie)))
        | false ↦ λ tie. refl
      ] refl

-- ---- `fire`: what fired was armed and due, and is armed no more
due_so : (at : ℕ) (o : Option ℕ) → option_map_or (λ d. nat_le d at) o false ≡ true → (d : ℕ) × (o ≡ Some d) × (d ≤ at)
due_so at None h = absurd (false≢true h)
due_so at (Some d) h = (d, refl, leb-true d at h)

pub deadline-left : (armed : Armed) (at : ℕ) (t : Timer) → map.get (still_armed at armed) t ≡ (if is_due armed at t then None else map.get armed t)
unfolding still_armed
deadline-left armed at t =
    map.get-retain_keys armed (λ u. not (is_due armed at u)) t (λ u tie. ap (λ v. not (is_due armed at v)) (sym (same_timer t u tie)))
    ∙ flip (is_due armed at t) (map.get armed t)
  where
    flip : (b : Bool) (o : Option ℕ) → cond (not b) o None ≡ cond b None o
    flip true o = refl
    flip false o = refl

module _ (old : Armed) (at : ℕ) (fired : List Timer) (are : AreDue old at fired) (t : Timer) where
  pub due-fired : Contains fired t → is_due old at t ≡ true
  due-fired among = sym (are.all t) ∙ list_any-from_Contains timer_laws t fired among

  pub deadline-fired : Contains fired t → (d : ℕ) × (map.get old t ≡ Some d) × (d ≤ at)
  deadline-fired among = due_so at (map.get old t) (due-fired among)

  pub cleared-fired : Contains fired t → map.get (still_armed at old) t ≡ None
  cleared-fired among = deadline-left old at t ∙ ap (λ b. cond b None (map.get old t)) (due-fired among)
