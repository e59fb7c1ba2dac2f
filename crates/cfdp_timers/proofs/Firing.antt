-- The timers that are due, sorted, are what fires.
use Rattle.std.proofs.Common.{◌≡◌, ℕ, ◌+◌, ◌<◌, List, [], ◌∷◌, map, length, get_or, refl, sym, ap, subst, ◌∙◌, cond, None, Some, unwrap_or, arith, nat_le}
use Rattle.std.specs.List.{list_any, IsDistinct, AllByRecursion, All}
use Rattle.std.specs.List.Sorted.{IsSorted, IsPermutation}
use Rattle.std.specs.Map.{keys_of}
use Rattle.std.specs.Ordering.{eq_by_cmp, is_lt, ordering_then, nat_cmp}
use Rattle.std.specs.FinMap as map
use Rattle.std.proofs.lemmas.List.{get_or-map, length-map}
use Rattle.std.proofs.lemmas.List.Elements.{All-filter, All-from_recursion, recursion_from_All}
use Rattle.std.proofs.lemmas.List.Sorted.{IsPermutation-map, All-permutation, list_any-IsPermutation}
use Rattle.std.proofs.lemmas.Map.Keys.{IsDistinct-IsPermutation}
use Rattle.std.proofs.lemmas.Map.Made.{IsDistinct-keys_filter}
use Rattle.cfdp_header.specs.declared.value.TransactionId.{TransactionId}
use Rattle.cfdp_timers.specs.declared.alarm.Alarm.{Alarm}
use Rattle.cfdp_timers.specs.contracts.alarm.AlarmOrd.TheImpl.{cmp-value}
use Rattle.cfdp_timers.specs.contracts.kind.KindOrd.TheImpl.{cmp-value as kind-cmp}
use Rattle.cfdp_timers.specs.declared.kind.Kind.{Kind}
use Rattle.cfdp_timers.specs.declared.kind.Kind.TheVariants.{EofAck, Nak, FinishedAck, Inactivity}
use Rattle.cfdp_timers.specs.declared.deadlines.Deadlines.{Deadlines}
use Rattle.cfdp_timers.specs.Order.{Timer, kind_place, timer_cmp}
use Rattle.cfdp_header.specs.Ids.{id_cmp}
use Rattle.cfdp_timers.specs.Armed.{Armed}
use Rattle.cfdp_timers.specs.Due.{AreDue, firing_cmp, still_armed}
use Rattle.cfdp_timers.specs.Entries.{alarms, armed_of, due, entry_of, timer_of}
use Rattle.cfdp_timers.proofs.Orders.{timer_laws, timer_total, same_timer, firing_total, firing_ties, same_firing}
use Rattle.cfdp_timers.proofs.CallerLemmas.{deadline-left}
use Rattle.cfdp_timers.proofs.SortedLists.{same_list, strictly}
use Rattle.cfdp_timers.proofs.Distinct.{distinct_alarms, any-due-alarms, found-alarms}

any-firing : (armed : Armed) (t : Timer) (xs : List Timer) → list_any (eq_by_cmp (firing_cmp armed) t) xs ≡ list_any (eq_by_cmp timer_cmp t) xs
any-firing armed t xs = λ i. list_any (λ y. firing_ties armed t y i) xs

-- there is one list only
pub only_due : (armed : Armed) (at : ℕ) (xs ys : List Timer) → AreDue armed at xs → AreDue armed at ys → xs ≡ ys
only_due armed at xs ys g h = same_list (firing_total armed) (same_firing armed) xs ys g.in_order h.in_order
    (λ t. any-firing armed t xs ∙ g.all t ∙ sym (h.all t) ∙ sym (any-firing armed t ys))

kinds : (x y : Kind) → (kind-cmp).it x y ≡ nat_cmp (kind_place x) (kind_place y)
kinds EofAck EofAck = refl
kinds EofAck Nak = refl
kinds EofAck FinishedAck = refl
kinds EofAck Inactivity = refl
kinds Nak EofAck = refl
kinds Nak Nak = refl
kinds Nak FinishedAck = refl
kinds Nak Inactivity = refl
kinds FinishedAck EofAck = refl
kinds FinishedAck Nak = refl
kinds FinishedAck FinishedAck = refl
kinds FinishedAck Inactivity = refl
kinds Inactivity EofAck = refl
kinds Inactivity Nak = refl
kinds Inactivity FinishedAck = refl
kinds Inactivity Inactivity = refl

-- alarms are ordered as their timers fire
fires : (armed : Armed) (a b : Alarm) → map.get armed (timer_of a) ≡ Some a.deadline → map.get armed (timer_of b) ≡ Some b.deadline
    → firing_cmp armed (timer_of a) (timer_of b) ≡ (cmp-value).it a b
fires armed a b ha hb =
    (λ i. ordering_then (nat_cmp (unwrap_or (ha i) 0) (unwrap_or (hb i) 0)) (ordering_then (id_cmp a.id b.id) (sym (kinds a.kind b.kind) i)))

keys-entries : (xs : List Alarm) → keys_of (map entry_of xs) ≡ map timer_of xs
keys-entries [] = refl
keys-entries (x ∷ xs) = ap (λ l. timer_of x ∷ l) (keys-entries xs)

each-entry : (armed : Armed) (xs : List Alarm) → AllByRecursion (λ e. map.get armed e.0 ≡ Some e.1) (map entry_of xs) → AllByRecursion (λ a. map.get armed (timer_of a) ≡ Some a.deadline) xs
each-entry armed [] h = tt
each-entry armed (x ∷ xs) h = (h.0, each-entry armed xs h.1)

module _ (es : List (TransactionId × Deadlines)) (at : ℕ) (apart : IsDistinct (eq_by_cmp id_cmp) (keys_of es)) (ds fs : List Alarm)
    (collected : map entry_of ds ≡ due at (alarms es)) (moved : IsPermutation ds fs) where
  keys : map timer_of ds ≡ keys_of (due at (alarms es))
  keys = sym (keys-entries ds) ∙ ap (λ l. keys_of l) collected

  moved_timers : IsPermutation (map timer_of ds) (map timer_of fs)
  moved_timers = IsPermutation-map timer_of ds fs moved

  armed_so : All (λ a. map.get (armed_of es) (timer_of a) ≡ Some a.deadline) fs
  armed_so =
      let due_so : All (λ (e : Timer × ℕ). map.get (armed_of es) e.0 ≡ Some e.1) (due at (alarms es)) =
      All-filter (λ e. nat_le e.1 at) (λ e. map.get (armed_of es) e.0 ≡ Some e.1) (alarms es) (found-alarms es apart) in
      let entries_so : All (λ (e : Timer × ℕ). map.get (armed_of es) e.0 ≡ Some e.1) (map entry_of ds) =
      subst (λ l. All (λ (e : Timer × ℕ). map.get (armed_of es) e.0 ≡ Some e.1) l) (sym collected) due_so in
      All-permutation (λ a. map.get (armed_of es) (timer_of a) ≡ Some a.deadline) ds fs moved
      (All-from_recursion _ ds (each-entry (armed_of es) ds (recursion_from_All _ (map entry_of ds) entries_so)))

  apart_timers : IsDistinct (eq_by_cmp timer_cmp) (map timer_of fs)
  apart_timers = IsDistinct-IsPermutation (eq_by_cmp timer_cmp) timer_laws.symm (map timer_of ds) (map timer_of fs) moved_timers
      (subst (λ l. IsDistinct (eq_by_cmp timer_cmp) l) (sym keys) (IsDistinct-keys_filter (eq_by_cmp timer_cmp) (λ e. nat_le e.1 at) (alarms es) (distinct_alarms es apart)))

  sorted_timers : IsSorted (cmp-value).it fs → IsSorted (firing_cmp (armed_of es)) (map timer_of fs)
  sorted_timers up = λ k d low high.
      let x : Alarm = record { deadline = 0; id = d.0; kind = d.1 } in
      let a = get_or fs (k + 1) x in
      let b = get_or fs k x in
      let many : length (map timer_of fs) ≡ length fs = length-map fs timer_of in
      let first : k < length fs = omega (arith, many, high) in
      let second : k + 1 < length fs = omega (arith, many, high) in
      (λ i. is_lt (firing_cmp (armed_of es) (get_or-map timer_of fs (k + 1) x d second i) (get_or-map timer_of fs k x d first i)))
      ∙ ap is_lt (fires (armed_of es) a b (armed_so (k + 1) x second) (armed_so k x first))
      ∙ up k x low second

  pub are_due : IsSorted (cmp-value).it fs → AreDue (armed_of es) at (map timer_of fs)
  are_due up = record {
    all = λ t. sym (list_any-IsPermutation (eq_by_cmp timer_cmp t) (map timer_of ds) (map timer_of fs) moved_timers) ∙ ap (λ l. list_any (eq_by_cmp timer_cmp t) l) keys ∙ any-due-alarms es at t apart;
    in_order = strictly (firing_total (armed_of es)) (map timer_of fs) (sorted_timers up)
        (subst (λ e. IsDistinct e (map timer_of fs)) (λ i x y. sym (firing_ties (armed_of es) x y) i) apart_timers);
  }

-- what stands once the timers that fired were cleared
pub left-is : (old new : Armed) (at : ℕ) (fired : List Timer) → AreDue old at fired
    → ((t : Timer) → map.get new t ≡ cond (list_any (eq_by_cmp timer_cmp t) fired) None (map.get old t)) → new ≡ still_armed at old
left-is old new at fired are cleared = map.same_map timer_total same_timer _ _
    (λ t. cleared t ∙ ap (λ b. cond b None (map.get old t)) (are.all t) ∙ sym (deadline-left old at t))
