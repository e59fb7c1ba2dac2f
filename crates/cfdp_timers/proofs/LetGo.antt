-- A transaction that is removed: the last one takes its index.
use Rattle.std.proofs.Common.{◌≡◌, ◌⊎◌, inl, inr, ℕ, zero, suc, ◌-◌, ◌/◌, ◌<◌, ◌≤◌, List, [], ◌∷◌, ◌++◌, length, take, drop, set, get_or, swap_remove, refl, sym, ap, subst, ◌∙◌, Bool, ◌&&◌, not, true, false, cond, Option, Some, None, arith, nat_le, nat_eq, is_some, length-append, length-take}
use Rattle.std.specs.Cmp.{Equal-is}
use Rattle.std.specs.FinMap as map
use Rattle.std.specs.FinSet as finset
use Rattle.std.specs.List.{IsDistinct}
use Rattle.std.specs.Map.{keys_of, values_of, lookup}
use Rattle.std.specs.Option.{option_and_then, option_to_list}
use Rattle.std.specs.Ordering.{eq_by_cmp}
use Rattle.std.proofs.lemmas.Bool.{leb-true, leb-false, eqb-true, eqb-false, cases_lt}
use Rattle.std.proofs.lemmas.List.{take_all, drop_all, take-append-le, drop-append-le, get_or-map, get_or-set_same, get_or-set_other, get_or-take, get_or_past}
use Rattle.cfdp_header.specs.declared.value.TransactionId.{TransactionId}
use Rattle.cfdp_header.specs.Ids.{id_cmp}
use Rattle.cfdp_header.proofs.Ids.{id_total, id_cmp-IsAntisymmetric}
use Rattle.cfdp_timers.specs.declared.kind.Kind.{Kind}
use Rattle.cfdp_timers.specs.declared.deadlines.Deadlines.{Deadlines}
use Rattle.cfdp_timers.specs.declared.kind.Kind.TheVariants.{EofAck, Nak, FinishedAck, Inactivity}
use Rattle.cfdp_timers.specs.Order.{Timer, timer_cmp}
use Rattle.cfdp_timers.specs.Armed.{Armed, cleared}
use Rattle.cfdp_timers.specs.Entries.{no_deadlines, deadline_at, deadlines_in, next_of, other_of, others_of, roomy_of, armed_of, state_of, earliest_of, AreFirsts, AreBounds, lowered}
use Rattle.cfdp_timers.proofs.Bounded.{none-armed, length-lowered, lowered-at, lowered-le, no_later-next, IsNoLater}
use Rattle.cfdp_timers.proofs.CallerLemmas.{deadline-cleared}
use Rattle.cfdp_timers.proofs.Firsts.{earliest_of-push}
use Rattle.cfdp_timers.proofs.Kept.{contains-roomy_of, get-armed_of}
use Rattle.cfdp_timers.proofs.Orders.{timer_total, same_timer}

-- ---- the earliest of blocks, without the last place, which has no deadline
pub firsts-pop : (n : ℕ) (each firsts : List (Option ℕ)) → AreFirsts n (each ++ None ∷ []) firsts → AreFirsts n each firsts
unfolding AreFirsts
firsts-pop n each [] h = let many = length-append each (None ∷ []) in let none = ap length h in absurd (omega (arith, many, none))
firsts-pop n each (f ∷ fs) h = elim (nat_le n (length each)) as (λ b. nat_le n (length each) ≡ b → AreFirsts n each (f ∷ fs)) [
  | true ↦ λ full. (let l = leb-true n (length each) full in
      (h.0 ∙ ap earliest_of (take-append-le n each (None ∷ []) l), firsts-pop n (drop n each) fs (subst (λ es. AreFirsts n es fs) (drop-append-le n each (None ∷ []) l) h.1)))
  | false ↦ λ part. (
      let l = leb-false n (length each) part in
      let many = length-append each (None ∷ []) in
      let none : drop n each ≡ [] = drop_all n each (omega (arith, l)) in
      let none' : drop n (each ++ None ∷ []) ≡ [] = drop_all n (each ++ None ∷ []) (omega (arith, l, many)) in
      let whole : take n each ≡ each = take_all n each (omega (arith, l)) in
      let whole' : take n (each ++ None ∷ []) ≡ each ++ None ∷ [] = take_all n (each ++ None ∷ []) (omega (arith, l, many)) in
      (h.0 ∙ ap earliest_of whole' ∙ earliest_of-push each ∙ ap earliest_of (sym whole), subst (λ es. AreFirsts n es fs) (none' ∙ sym none) h.1))
] refl

last-of : (xs : List (Option ℕ)) (x : Option ℕ) → get_or (xs ++ x ∷ []) (length (xs ++ x ∷ []) - 1) None ≡ x
last-of xs x = let many = length-append xs (x ∷ []) in let at : length (xs ++ x ∷ []) - 1 ≡ length xs = omega (arith, many) in ap (λ k. get_or (xs ++ x ∷ []) k None) at ∙ last xs
  where
    last : (ys : List (Option ℕ)) → get_or (ys ++ x ∷ []) (length ys) None ≡ x
    last [] = refl
    last (y ∷ ys) = last ys

pub firsts-popped : (n : ℕ) (es fs firsts : List (Option ℕ)) (r : Option (Option ℕ)) → es ≡ fs ++ option_to_list r → get_or es (length es - 1) None ≡ None → AreFirsts n es firsts → AreFirsts n fs firsts
firsts-popped n es fs firsts None is none are = subst (λ l. AreFirsts n l firsts) (is ∙ nothing fs) are
  where
    nothing : (l : List (Option ℕ)) → l ++ [] ≡ l
    nothing [] = refl
    nothing (x ∷ l) = ap (λ t. x ∷ t) (nothing l)
firsts-popped n es fs firsts (Some x) is none are =
    let x-is : x ≡ None = sym (last-of fs x) ∙ ap (λ l. get_or l (length l - 1) None) (sym is) ∙ none in
    firsts-pop n fs firsts (subst (λ l. AreFirsts n l firsts) (is ∙ ap (λ y. fs ++ y ∷ []) x-is) are)

-- ---- the entries
abbrev Entries : Type 0
Entries = List (TransactionId × Deadlines)

others-take : (k : ℕ) (es : Entries) → others_of (take k es) ≡ take k (others_of es)
unfolding others_of
others-take zero es = refl
others-take (suc k) [] = refl
others-take (suc k) (e ∷ es) = ap (λ l. other_of e.1 ∷ l) (others-take k es)

others-set : (es : Entries) (i : ℕ) (e : TransactionId × Deadlines) → others_of (set es i e) ≡ set (others_of es) i (other_of e.1)
unfolding others_of
others-set [] i e = refl
others-set (x ∷ es) zero e = refl
others-set (x ∷ es) (suc i) e = ap (λ l. other_of x.1 ∷ l) (others-set es i e)

length-others : (es : Entries) → length (others_of es) ≡ length es
unfolding others_of
length-others [] = refl
length-others (e ∷ es) = ap suc (length-others es)

others-at : (es : Entries) (i : ℕ) (d : TransactionId × Deadlines) → i < length es → get_or (others_of es) i None ≡ other_of (get_or es i d).1
unfolding others_of
others-at es i d l = get_or-map (λ (e : TransactionId × Deadlines). other_of e.1) es i d None l

pub others-swapped : (es : Entries) (i : ℕ) (d : TransactionId × Deadlines) → i < length es → swap_remove (others_of es) i None ≡ others_of (swap_remove es i d)
others-swapped es i d within =
    let many = length-others es in
    let last : length (others_of es) - 1 ≡ length es - 1 = omega (arith, many) in
    let moved : get_or (others_of es) (length (others_of es) - 1) None ≡ other_of (get_or es (length es - 1) d).1
    = ap (λ k. get_or (others_of es) k None) last ∙ others-at es (length es - 1) d (omega (arith, within)) in
    (λ j. take (last j) (set (others_of es) i (moved j)))
    ∙ ap (take (length es - 1)) (sym (others-set es i (get_or es (length es - 1) d)))
    ∙ sym (others-take (length es - 1) (set es i (get_or es (length es - 1) d)))

-- ---- the bounds
values-take : (k : ℕ) (es : Entries) → values_of (take k es) ≡ take k (values_of es)
values-take zero es = refl
values-take (suc k) [] = refl
values-take (suc k) (e ∷ es) = ap (λ l. e.1 ∷ l) (values-take k es)

values-set : (es : Entries) (i : ℕ) (e : TransactionId × Deadlines) → values_of (set es i e) ≡ set (values_of es) i e.1
values-set [] i e = refl
values-set (x ∷ es) zero e = refl
values-set (x ∷ es) (suc i) e = ap (λ l. x.1 ∷ l) (values-set es i e)

length-values : (es : Entries) → length (values_of es) ≡ length es
length-values [] = refl
length-values (e ∷ es) = ap suc (length-values es)

value-at : (es : Entries) (i : ℕ) (d : TransactionId × Deadlines) → i < length es → (get_or es i d).1 ≡ deadlines_in es i
value-at [] i d l = absurd (omega (arith, l))
value-at (e ∷ es) zero d l = refl
value-at (e ∷ es) (suc i) d l = value-at es i d (omega (arith, l))

module _ (es : Entries) (bounds : List ℕ) (place : ℕ) (d : TransactionId × Deadlines) (within : place < length es) (are : AreBounds es bounds) where
  abbrev left : ℕ
  left = length es - 1

  abbrev moved : Deadlines
  moved = deadlines_in es left

  abbrev after : Entries
  after = swap_remove es place d

  in-after : (q : ℕ) → deadlines_in after q ≡ get_or (take left (set (values_of es) place moved)) q no_deadlines
  in-after q =
      let last : (get_or es left d).1 ≡ moved = value-at es left d (omega (arith, within)) in
      ap (λ l. get_or l q no_deadlines) (values-take left (set es place (get_or es left d)) ∙ ap (take left) (values-set es place (get_or es left d) ∙ ap (set (values_of es) place) last))

  -- a deadline is the deadline of the one that was moved, or stood there before
  from : (q : ℕ) (k : Kind) (x : ℕ) → deadline_at (deadlines_in after q) k ≡ Some x → ((q ≡ place) × (deadline_at moved k ≡ Some x)) ⊎ (deadline_at (deadlines_in es q) k ≡ Some x)
  from q k x h = elim (cases_lt q left) [
    | inl low ↦ here low
    | inr past ↦ absurd (none-armed k x (ap (λ u. deadline_at u k) (sym (in-after q ∙ nothing past)) ∙ h))
  ]
    where
      size : length (values_of es) ≡ length es
      size = length-values es

      nothing : left ≤ q → get_or (take left (set (values_of es) place moved)) q no_deadlines ≡ no_deadlines
      nothing past =
          let cut = length-take left (set (values_of es) place moved) in
          get_or_past (take left (set (values_of es) place moved)) q no_deadlines (omega (arith, cut, past))

      here : q < left → ((q ≡ place) × (deadline_at moved k ≡ Some x)) ⊎ (deadline_at (deadlines_in es q) k ≡ Some x)
      here low = elim (nat_eq q place) as (λ b. nat_eq q place ≡ b → ((q ≡ place) × (deadline_at moved k ≡ Some x)) ⊎ (deadline_at (deadlines_in es q) k ≡ Some x)) [
        | true ↦ λ same. (
            let at : q ≡ place = eqb-true q place same in
            let is : deadlines_in after q ≡ moved =
            in-after q ∙ get_or-take left (set (values_of es) place moved) q no_deadlines low ∙ ap (λ i. get_or (set (values_of es) place moved) i no_deadlines) at
            ∙ get_or-set_same (values_of es) place moved no_deadlines (omega (arith, size, within)) in
            inl (at, ap (λ u. deadline_at u k) (sym is) ∙ h))
        | false ↦ λ other. (
            let is : deadlines_in after q ≡ deadlines_in es q =
            in-after q ∙ get_or-take left (set (values_of es) place moved) q no_deadlines low ∙ get_or-set_other (values_of es) place q moved no_deadlines (eqb-false q place other) in
            inr (ap (λ u. deadline_at u k) (sym is) ∙ h))
      ] refl

  block-there : place / 64 < length bounds
  block-there = let cover = are.cover in omega (arith, cover, within)

  pub bounds-swapped : AreBounds after (lowered bounds (place / 64) (next_of moved))
  bounds-swapped =
      let cover = are.cover in
      let cut = length-take left (set es place (get_or es left d)) in
      let same = length-lowered bounds (place / 64) (next_of moved) in
      record {
        cover = omega (arith, cover, cut, same);
        each = λ block l. record {
          none_before = λ q k x is h. elim (from q k x h) as (λ _. get_or (lowered bounds (place / 64) (next_of moved)) block 0 ≤ x) [
            | inl p ↦ (
                let here : place / 64 ≡ block = ap (λ i. i / 64) (sym p.0) ∙ is in
                let later : IsNoLater (next_of moved) x = no_later-next moved k x p.1 in
                let low : get_or (lowered bounds (place / 64) (next_of moved)) (place / 64) 0 ≤ later.0 =
                subst (λ u. get_or (lowered bounds (place / 64) u) (place / 64) 0 ≤ later.0) (sym later.1) (lowered-at bounds (place / 64) later.0 block-there) in
                let le = later.2 in
                let there : get_or (lowered bounds (place / 64) (next_of moved)) (place / 64) 0 ≤ x = omega (arith, low, le) in
                subst (λ b. get_or (lowered bounds (place / 64) (next_of moved)) b 0 ≤ x) here there)
            | inr e ↦ (
                let there : block < length bounds = omega (arith, l, same) in
                let was = (are.each block there).none_before q k x is e in
                let less = lowered-le bounds (place / 64) (next_of moved) block block-there in
                omega (arith, was, less))
          ];
        };
      }

-- ---- what is seen of it
module _ (time : ℕ) (es fs : Entries) (id : TransactionId) (apart : IsDistinct (eq_by_cmp id_cmp) (keys_of es)) (apart' : IsDistinct (eq_by_cmp id_cmp) (keys_of fs))
    (found : (q : TransactionId) → lookup (eq_by_cmp id_cmp q) fs ≡ cond (eq_by_cmp id_cmp q id) None (lookup (eq_by_cmp id_cmp q) es))
    (none : (kind : Kind) → map.get (armed_of es) (id, kind) ≡ None) where
  roomy-left : roomy_of fs ≡ finset.remove (roomy_of es) id
  roomy-left = finset.same_set id_total id_cmp-IsAntisymmetric _ _ (λ q.
      contains-roomy_of fs q ∙ ap is_some (found q) ∙ without (eq_by_cmp id_cmp q id) (lookup (eq_by_cmp id_cmp q) es)
      ∙ ap (λ b. cond (eq_by_cmp id_cmp q id) false b) (sym (contains-roomy_of es q))
      ∙ sym (finset.contains-remove id_total (roomy_of es) id q ∙ not-and (eq_by_cmp id_cmp q id) (finset.contains (roomy_of es) q)))
    where
      without : (b : Bool) (o : Option Deadlines) → is_some (cond b None o) ≡ cond b false (is_some o)
      without true o = refl
      without false o = refl

      not-and : (b c : Bool) → (not b && c) ≡ cond b false c
      not-and true c = refl
      not-and false c = refl

  armed-left : armed_of fs ≡ armed_of es
  armed-left = map.same_map timer_total same_timer _ _ (λ t.
      get-armed_of fs t.0 t.1 apart' ∙ ap (option_and_then (λ d. deadline_at d t.1)) (found t.0)
      ∙ elim (eq_by_cmp id_cmp t.0 id) as (λ b. eq_by_cmp id_cmp t.0 id ≡ b → option_and_then (λ d. deadline_at d t.1) (cond b None (lookup (eq_by_cmp id_cmp t.0) es)) ≡ map.get (armed_of es) t) [
        | true ↦ λ tie. sym (ap (λ i. map.get (armed_of es) (i, t.1)) (id_cmp-IsAntisymmetric t.0 id ((Equal-is (id_cmp t.0 id)).0 tie)) ∙ none t.1)
        | false ↦ λ tie. sym (get-armed_of es t.0 t.1 apart)
      ] refl)

  pub state-left : state_of time fs ≡ record { time = time; roomy = finset.remove (roomy_of es) id; armed = armed_of es }
  state-left i = record { time = time; roomy = roomy-left i; armed = armed-left i }

-- ---- its timers
removed-none : (armed : Armed) (t u : Timer) → (map.get armed u ≡ None) ⊎ (u ≡ t) → map.get (map.remove armed t) u ≡ None
removed-none armed t u (inl none) = map.get-remove timer_total armed t u ∙ both (eq_by_cmp timer_cmp u t)
  where
    both : (b : Bool) → cond b None (map.get armed u) ≡ None
    both true = refl
    both false = none
removed-none armed t u (inr same) = ap (λ v. map.get (map.remove armed t) v) same ∙ deadline-cleared armed t

pub cleared-none : (armed : Armed) (id : TransactionId) (kind : Kind) → map.get (cleared armed id) (id, kind) ≡ None
cleared-none armed id EofAck =
    removed-none _ (id, Inactivity) (id, EofAck) (inl (removed-none _ (id, FinishedAck) (id, EofAck) (inl (removed-none _ (id, Nak) (id, EofAck) (inl (removed-none armed (id, EofAck) (id, EofAck) (inr refl)))))))
cleared-none armed id Nak = removed-none _ (id, Inactivity) (id, Nak) (inl (removed-none _ (id, FinishedAck) (id, Nak) (inl (removed-none _ (id, Nak) (id, Nak) (inr refl)))))
cleared-none armed id FinishedAck = removed-none _ (id, Inactivity) (id, FinishedAck) (inl (removed-none _ (id, FinishedAck) (id, FinishedAck) (inr refl)))
cleared-none armed id Inactivity = removed-none _ (id, Inactivity) (id, Inactivity) (inr refl)
