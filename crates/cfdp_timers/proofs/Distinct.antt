-- No timer stands twice among the alarms, and what follows for the due ones.
use Rattle.std.proofs.Common.{◌≡◌, ℕ, List, [], ◌∷◌, ◌++◌, length, get_or, refl, sym, ap, subst, ◌∙◌, Bool, true, false, cond, ◌||◌, ◌&&◌, T, Option, Some, None, append_assoc, nat_le}
use Rattle.std.specs.declared.cmp.Ordering.{Ordering}
use Rattle.std.specs.declared.cmp.Ordering.TheVariants.{Less, Equal, Greater}
use Rattle.std.specs.Cmp.{tied_itself}
use Rattle.std.specs.List.{list_any, IsDistinct, AllByRecursion, All}
use Rattle.std.specs.Map.{keys_of, lookup}
use Rattle.std.specs.Option.{option_or, option_and_then, option_map_or, MatchOption}
use Rattle.std.specs.Ordering.{eq_by_cmp, is_eq, is_lt, ordering_then, nat_cmp}
use Rattle.std.specs.FinMap as map
use Rattle.std.specs.FinMap.{get-entries, entries_sorted, is_sorted, get-from_entries}
use Rattle.std.specs.FinMap.Entries.{below_all}
use Rattle.std.proofs.lemmas.List.Sums.{length-filter}
use Rattle.std.proofs.lemmas.Map.{lookup-none, none_passes_from_lookup}
use Rattle.std.proofs.lemmas.Map.Entries.{none_past_head, length-keys_of, lookup_from_place}
use Rattle.std.proofs.lemmas.Map.Keys.{IsDistinct-tail}
use Rattle.std.proofs.lemmas.Map.Made.{IsDistinct-keys_filter, length-from_same_keys}
use Rattle.std.proofs.lemmas.Option.{slice_get-get_or}
use Rattle.cfdp_header.specs.declared.value.TransactionId.{TransactionId}
use Rattle.cfdp_timers.specs.declared.kind.Kind.{Kind}
use Rattle.cfdp_timers.specs.declared.kind.Kind.TheVariants.{EofAck, Nak, FinishedAck, Inactivity}
use Rattle.cfdp_timers.specs.declared.deadlines.Deadlines.{Deadlines}
use Rattle.cfdp_timers.specs.Order.{Timer, kind_place, timer_cmp}
use Rattle.cfdp_header.specs.Ids.{id_cmp}
use Rattle.cfdp_timers.specs.Due.{is_due, due_count, IsLeast}
use Rattle.cfdp_timers.specs.Entries.{deadline_at, alarm_if, alarms_of, alarms, armed_of, due, earliest}
use Rattle.cfdp_header.proofs.Ids.{id_total, id_laws}
use Rattle.cfdp_timers.proofs.Orders.{timer_total, timer_laws}
use Rattle.cfdp_timers.proofs.Alarms.{earliest-none, earliest-le, earliest-found}
use Rattle.cfdp_timers.proofs.Kept.{find-lookup, found_one, found_in, step}

head_apart : (t : Timer) (rest : List (Timer × ℕ)) → AllByRecursion (λ e. eq_by_cmp timer_cmp t e.0 ≡ false) rest → AllByRecursion (λ y. eq_by_cmp timer_cmp t y ≡ false) (keys_of rest)
head_apart t [] h = tt
head_apart t (e ∷ rest) h = (h.0, head_apart t rest h.1)

one_more : (id : TransactionId) (kind : Kind) (o : Option ℕ) (rest : List (Timer × ℕ)) → IsDistinct (eq_by_cmp timer_cmp) (keys_of rest)
    → lookup (eq_by_cmp timer_cmp (id, kind)) rest ≡ None → IsDistinct (eq_by_cmp timer_cmp) (keys_of (alarm_if id kind o ++ rest))
unfolding IsDistinct
one_more id kind None rest apart none = apart
one_more id kind (Some at) rest apart none = (head_apart (id, kind) rest (none_passes_from_lookup (eq_by_cmp timer_cmp (id, kind)) rest none), apart)

-- another kind's alarm at the front is passed over
passed : (id : TransactionId) (k kind : Kind) (o : Option ℕ) (rest : List (Timer × ℕ)) → is_eq (nat_cmp (kind_place k) (kind_place kind)) ≡ false
    → lookup (eq_by_cmp timer_cmp (id, k)) rest ≡ None → lookup (eq_by_cmp timer_cmp (id, k)) (alarm_if id kind o ++ rest) ≡ None
unfolding step
passed id k kind o rest differ none =
    let f = lookup (eq_by_cmp timer_cmp (id, k)) rest in
    found_one id k id kind o rest
    ∙ ap (λ r. cond (is_eq (ordering_then r (nat_cmp (kind_place k) (kind_place kind)))) (option_or o f) f) (tied_itself id_total id)
    ∙ ap (λ b. cond b (option_or o f) f) differ ∙ none

distinct_of : (id : TransactionId) (d : Deadlines) (rest : List (Timer × ℕ)) → ((k : Kind) → lookup (eq_by_cmp timer_cmp (id, k)) rest ≡ None)
    → IsDistinct (eq_by_cmp timer_cmp) (keys_of rest) → IsDistinct (eq_by_cmp timer_cmp) (keys_of (alarms_of id d ++ rest))
unfolding alarms_of
distinct_of id d rest none apart =
    let e0 = alarm_if id EofAck d.eof_ack in
    let e1 = alarm_if id Nak d.nak in
    let e2 = alarm_if id FinishedAck d.finished_ack in
    let e3 = alarm_if id Inactivity d.inactivity in
    let shape : e0 ++ (e1 ++ (e2 ++ (e3 ++ rest))) ≡ (e0 ++ (e1 ++ (e2 ++ e3))) ++ rest =
    sym (append_assoc e0 (e1 ++ (e2 ++ e3)) rest ∙ ap (λ l. e0 ++ l) (append_assoc e1 (e2 ++ e3) rest ∙ ap (λ l. e1 ++ l) (append_assoc e2 e3 rest))) in
    subst (λ l. IsDistinct (eq_by_cmp timer_cmp) (keys_of l)) shape
    (one_more id EofAck d.eof_ack _
    (one_more id Nak d.nak _
    (one_more id FinishedAck d.finished_ack _
    (one_more id Inactivity d.inactivity rest apart (none Inactivity))
    (passed id FinishedAck Inactivity d.inactivity rest refl (none FinishedAck)))
    (passed id Nak FinishedAck d.finished_ack _ refl (passed id Nak Inactivity d.inactivity rest refl (none Nak))))
    (passed id EofAck Nak d.nak _ refl (passed id EofAck FinishedAck d.finished_ack _ refl (passed id EofAck Inactivity d.inactivity rest refl (none EofAck)))))

pub distinct_alarms : (es : List (TransactionId × Deadlines)) → IsDistinct (eq_by_cmp id_cmp) (keys_of es) → IsDistinct (eq_by_cmp timer_cmp) (keys_of (alarms es))
unfolding alarms IsDistinct
distinct_alarms [] apart = tt
distinct_alarms (e ∷ es) apart =
    distinct_of e.0 e.1 (alarms es)
    (λ k. found_in es e.0 k apart.1 ∙ ap (option_and_then (λ d. deadline_at d k)) (lookup-none (eq_by_cmp id_cmp e.0) es (none_past_head id_laws e.0 e es apart (id_laws.refl e.0))))
    (distinct_alarms es apart.1)

pub get-alarms : (es : List (TransactionId × Deadlines)) (t : Timer) → map.get (armed_of es) t ≡ lookup (eq_by_cmp timer_cmp t) (alarms es)
unfolding armed_of
get-alarms es t = get-from_entries timer_total (alarms es) t ∙ find-lookup timer_cmp t (alarms es)

-- ---- those that are due, in a list in which no timer stands twice
any_absent : (t : Timer) (at : ℕ) (xs : List (Timer × ℕ)) → lookup (eq_by_cmp timer_cmp t) xs ≡ None → list_any (eq_by_cmp timer_cmp t) (keys_of (due at xs)) ≡ false
any_absent t at xs none = none_of xs (none_passes_from_lookup (eq_by_cmp timer_cmp t) xs none)
  where
    none_of : (xs : List (Timer × ℕ)) → AllByRecursion (λ e. eq_by_cmp timer_cmp t e.0 ≡ false) xs → list_any (eq_by_cmp timer_cmp t) (keys_of (due at xs)) ≡ false
    none_of [] h = refl
    none_of (x ∷ xs) h = elim (nat_le x.1 at) as (λ b. list_any (eq_by_cmp timer_cmp t) (keys_of (cond b (x ∷ due at xs) (due at xs))) ≡ false) [
      | true ↦ ap (λ b. b || list_any (eq_by_cmp timer_cmp t) (keys_of (due at xs))) h.0 ∙ none_of xs h.1
      | false ↦ none_of xs h.1
    ]

pub any-due : (at : ℕ) (t : Timer) (xs : List (Timer × ℕ)) → IsDistinct (eq_by_cmp timer_cmp) (keys_of xs)
    → list_any (eq_by_cmp timer_cmp t) (keys_of (due at xs)) ≡ option_map_or (λ d. nat_le d at) (lookup (eq_by_cmp timer_cmp t) xs) false
any-due at t [] apart = refl
any-due at t (x ∷ xs) apart =
    let rest = any-due at t xs (IsDistinct-tail (eq_by_cmp timer_cmp) x.0 (keys_of xs) apart) in
    elim (eq_by_cmp timer_cmp t x.0) as (λ b. eq_by_cmp timer_cmp t x.0 ≡ b
    → list_any (eq_by_cmp timer_cmp t) (keys_of (cond (nat_le x.1 at) (x ∷ due at xs) (due at xs))) ≡ option_map_or (λ d. nat_le d at) (cond b (Some x.1) (lookup (eq_by_cmp timer_cmp t) xs)) false) [
      | true ↦ λ tie.
          let none : lookup (eq_by_cmp timer_cmp t) xs ≡ None = lookup-none (eq_by_cmp timer_cmp t) xs (none_past_head timer_laws t x xs apart tie) in
          elim (nat_le x.1 at) as (λ c. list_any (eq_by_cmp timer_cmp t) (keys_of (cond c (x ∷ due at xs) (due at xs))) ≡ c) [
            | true ↦ ap (λ b. b || list_any (eq_by_cmp timer_cmp t) (keys_of (due at xs))) tie
            | false ↦ any_absent t at xs none
          ]
      | false ↦ λ tie. elim (nat_le x.1 at) as (λ c. list_any (eq_by_cmp timer_cmp t) (keys_of (cond c (x ∷ due at xs) (due at xs)))
          ≡ option_map_or (λ d. nat_le d at) (lookup (eq_by_cmp timer_cmp t) xs) false) [
            | true ↦ ap (λ b. b || list_any (eq_by_cmp timer_cmp t) (keys_of (due at xs))) tie ∙ rest
            | false ↦ rest
          ]
    ] refl

pub any-due-alarms : (es : List (TransactionId × Deadlines)) (at : ℕ) (t : Timer) → IsDistinct (eq_by_cmp id_cmp) (keys_of es)
    → list_any (eq_by_cmp timer_cmp t) (keys_of (due at (alarms es))) ≡ is_due (armed_of es) at t
any-due-alarms es at t apart = any-due at t (alarms es) (distinct_alarms es apart) ∙ ap (λ o. option_map_or (λ d. nat_le d at) o false) (sym (get-alarms es t))

-- ---- how many are due
both_true : (a b : Bool) → T (a && b) → T a × T b
both_true true b h = (tt, h)
both_true false b h = absurd h

not_tied : (r : Ordering) → T (is_lt r) → is_eq r ≡ false
not_tied Less h = refl
not_tied Equal h = absurd h
not_tied Greater h = absurd h

above : (k : Timer) (es : List (Timer × ℕ)) → T (below_all timer_cmp k es) → AllByRecursion (λ y. eq_by_cmp timer_cmp k y ≡ false) (keys_of es)
above k [] h = tt
above k (e ∷ es) h = let p = both_true _ _ h in (not_tied (timer_cmp k e.0) p.0, above k es p.1)

distinct_sorted : (es : List (Timer × ℕ)) → T (is_sorted timer_cmp es) → IsDistinct (eq_by_cmp timer_cmp) (keys_of es)
unfolding IsDistinct
distinct_sorted [] h = tt
distinct_sorted (e ∷ es) h = let p = both_true _ _ h in (above e.0 es p.0, distinct_sorted es p.1)

pub length-due-alarms : (es : List (TransactionId × Deadlines)) (at : ℕ) → IsDistinct (eq_by_cmp id_cmp) (keys_of es) → length (due at (alarms es)) ≡ due_count (armed_of es) at
length-due-alarms es at apart =
    let listed = map.entries (armed_of es) in
    let once = distinct_sorted listed (entries_sorted (armed_of es)) in
    let here = distinct_alarms es apart in
    sym (length-keys_of (due at (alarms es)))
    ∙ length-from_same_keys timer_laws (keys_of (due at (alarms es))) (keys_of (due at listed))
    (IsDistinct-keys_filter (eq_by_cmp timer_cmp) (λ e. nat_le e.1 at) (alarms es) here) (IsDistinct-keys_filter (eq_by_cmp timer_cmp) (λ e. nat_le e.1 at) listed once)
    (λ t. any-due-alarms es at t apart ∙ ap (λ o. option_map_or (λ d. nat_le d at) o false) (get-entries (armed_of es) t ∙ find-lookup timer_cmp t listed) ∙ sym (any-due at t listed once))
    ∙ length-keys_of (due at listed) ∙ length-filter (λ (e : Timer × ℕ). nat_le e.1 at) listed

-- ---- each alarm is what its timer is armed with
pub found-alarms : (es : List (TransactionId × Deadlines)) → IsDistinct (eq_by_cmp id_cmp) (keys_of es) → All (λ e. map.get (armed_of es) e.0 ≡ Some e.1) (alarms es)
found-alarms es apart = λ k d l.
    let e = get_or (alarms es) k d in
    get-alarms es e.0 ∙ lookup_from_place timer_laws (alarms es) k e.0 e.1 (distinct_alarms es apart) (slice_get-get_or (alarms es) k d l)

-- ---- the earliest alarm is the least deadline
pub earliest-alarms : (es : List (TransactionId × Deadlines)) (o : Option ℕ) → IsDistinct (eq_by_cmp id_cmp) (keys_of es) → earliest (alarms es) ≡ o
    → MatchOption o (armed_of es ≡ map.empty) (λ d. IsLeast (armed_of es) d)
unfolding armed_of
earliest-alarms es None apart is = ap (λ l. map.from_entries l) (earliest-none (alarms es) is)
earliest-alarms es (Some d) apart is =
    let found = earliest-found (alarms es) d (distinct_alarms es apart) is in
    record {
      armed_so = (found.0, get-alarms es found.0 ∙ found.1);
      least = λ t other h. earliest-le (alarms es) t other d (sym (get-alarms es t) ∙ h) is;
    }
