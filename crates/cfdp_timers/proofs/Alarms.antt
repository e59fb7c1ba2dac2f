-- Lists of alarms: the due ones, and the earliest.
use Rattle.std.proofs.Common.{◌≡◌, ℕ, ◌+◌, ◌*◌, ◌≤◌, List, [], ◌∷◌, ◌++◌, length, filter, refl, sym, ap, ◌∙◌, Bool, true, false, cond, Option, Some, None, arith, length-append, min, nat_le, is_some, true≢false}
use Rattle.std.specs.List.{IsDistinct}
use Rattle.std.specs.Map.{keys_of, lookup}
use Rattle.std.specs.Ordering.{eq_by_cmp}
use Rattle.std.proofs.lemmas.Bool.{leb-true, leb-false}
use Rattle.std.proofs.lemmas.List.Elements.{filter-append}
use Rattle.std.proofs.lemmas.Map.{lookup-none}
use Rattle.std.proofs.lemmas.Map.Entries.{none_past_head}
use Rattle.std.proofs.lemmas.Map.Keys.{IsDistinct-tail}
use Rattle.std.proofs.lemmas.Option.{same_Some}
use Rattle.cfdp_header.specs.declared.value.TransactionId.{TransactionId}
use Rattle.cfdp_timers.specs.declared.kind.Kind.{Kind}
use Rattle.cfdp_timers.specs.declared.kind.Kind.TheVariants.{EofAck, Nak, FinishedAck, Inactivity}
use Rattle.cfdp_timers.specs.declared.deadlines.Deadlines.{Deadlines}
use Rattle.cfdp_timers.specs.Order.{Timer, timer_cmp}
use Rattle.cfdp_timers.specs.Entries.{alarm_if, alarms_of, alarms, due, earlier, earliest}
use Rattle.cfdp_timers.proofs.Orders.{timer_laws}

module _ (at : ℕ) (id : TransactionId) (d : Deadlines) where
  pub due-alarms_of : due at (alarms_of id d)
      ≡ due at (alarm_if id EofAck d.eof_ack) ++ (due at (alarm_if id Nak d.nak) ++ (due at (alarm_if id FinishedAck d.finished_ack) ++ due at (alarm_if id Inactivity d.inactivity)))
  unfolding alarms_of
  due-alarms_of =
      let p : Timer × ℕ → Bool = λ e. nat_le e.1 at in
      let e0 = alarm_if id EofAck d.eof_ack in
      let e1 = alarm_if id Nak d.nak in
      let e2 = alarm_if id FinishedAck d.finished_ack in
      let e3 = alarm_if id Inactivity d.inactivity in
      filter-append p e0 (e1 ++ (e2 ++ e3)) ∙ ap (λ l. filter p e0 ++ l) (filter-append p e1 (e2 ++ e3) ∙ ap (λ l. filter p e1 ++ l) (filter-append p e2 e3))

  pub length-due_of : length (due at (alarms_of id d))
      ≡ length (due at (alarm_if id EofAck d.eof_ack)) + (length (due at (alarm_if id Nak d.nak))
      + (length (due at (alarm_if id FinishedAck d.finished_ack)) + length (due at (alarm_if id Inactivity d.inactivity))))
  length-due_of =
      let e0 = due at (alarm_if id EofAck d.eof_ack) in
      let e1 = due at (alarm_if id Nak d.nak) in
      let e2 = due at (alarm_if id FinishedAck d.finished_ack) in
      let e3 = due at (alarm_if id Inactivity d.inactivity) in
      ap length due-alarms_of ∙ length-append e0 (e1 ++ (e2 ++ e3)) ∙ ap (λ n. length e0 + n) (length-append e1 (e2 ++ e3) ∙ ap (λ n. length e1 + n) (length-append e2 e3))

pub due-cons : (at : ℕ) (e : TransactionId × Deadlines) (es : List (TransactionId × Deadlines)) → due at (alarms (e ∷ es)) ≡ due at (alarms_of e.0 e.1) ++ due at (alarms es)
unfolding alarms
due-cons at e es = filter-append (λ (x : Timer × ℕ). nat_le x.1 at) (alarms_of e.0 e.1) (alarms es)

pub due-nil : (at : ℕ) → due at (alarms []) ≡ []
unfolding alarms
due-nil at = refl

-- ---- the earliest
pub earlier_assoc : (a b c : Option ℕ) → earlier (earlier a b) c ≡ earlier a (earlier b c)
earlier_assoc None b c = refl
earlier_assoc (Some x) None c = refl
earlier_assoc (Some x) (Some y) None = refl
earlier_assoc (Some x) (Some y) (Some z) = ap Some (three x y z)
  where
    three : (x y z : ℕ) → min (min x y) z ≡ min x (min y z)
    three x y z = omega arith

pub earlier_none : (a : Option ℕ) → earlier a None ≡ a
earlier_none None = refl
earlier_none (Some x) = refl

pub earliest-append : (xs ys : List (Timer × ℕ)) → earliest (xs ++ ys) ≡ earlier (earliest xs) (earliest ys)
unfolding earliest
earliest-append [] ys = refl
earliest-append (x ∷ xs) ys = ap (earlier (Some x.1)) (earliest-append xs ys) ∙ sym (earlier_assoc (Some x.1) (earliest xs) (earliest ys))

earliest-one : (id : TransactionId) (kind : Kind) (o : Option ℕ) → earliest (alarm_if id kind o) ≡ o
unfolding earliest
earliest-one id kind None = refl
earliest-one id kind (Some at) = refl

pub earliest-of : (id : TransactionId) (d : Deadlines) → earliest (alarms_of id d) ≡ earlier d.eof_ack (earlier d.nak (earlier d.finished_ack d.inactivity))
unfolding alarms_of
earliest-of id d =
    let e0 = alarm_if id EofAck d.eof_ack in
    let e1 = alarm_if id Nak d.nak in
    let e2 = alarm_if id FinishedAck d.finished_ack in
    let e3 = alarm_if id Inactivity d.inactivity in
    earliest-append e0 (e1 ++ (e2 ++ e3))
    ∙ (λ i. earlier (earliest-one id EofAck d.eof_ack i) ((earliest-append e1 (e2 ++ e3)
    ∙ (λ j. earlier (earliest-one id Nak d.nak j) ((earliest-append e2 e3 ∙ (λ k. earlier (earliest-one id FinishedAck d.finished_ack k) (earliest-one id Inactivity d.inactivity k))) j))) i))

pub earliest-cons : (e : TransactionId × Deadlines) (es : List (TransactionId × Deadlines)) → earliest (alarms (e ∷ es)) ≡ earlier (earliest (alarms_of e.0 e.1)) (earliest (alarms es))
unfolding alarms
earliest-cons e es = earliest-append (alarms_of e.0 e.1) (alarms es)

pub earliest-nil : earliest (alarms []) ≡ None
unfolding alarms earliest
earliest-nil = refl

-- ---- at most four of each transaction
one : (at : ℕ) (id : TransactionId) (kind : Kind) (o : Option ℕ) → length (due at (alarm_if id kind o)) ≤ 1
one at id kind None = omega arith
one at id kind (Some d) =
    let only : List (Timer × ℕ) = ((id, kind), d) ∷ [] in
    elim (nat_le d at) as (λ b. length (cond b only []) ≤ 1) [ true ↦ omega arith | false ↦ omega arith ]

four : (at : ℕ) (id : TransactionId) (d : Deadlines) → length (due at (alarms_of id d)) ≤ 4
four at id d =
    let all = length-due_of at id d in
    let a = one at id EofAck d.eof_ack in
    let b = one at id Nak d.nak in
    let e = one at id FinishedAck d.finished_ack in
    let f = one at id Inactivity d.inactivity in
    omega (arith, all, a, b, e, f)

pub length-due-le : (at : ℕ) (es : List (TransactionId × Deadlines)) → length (due at (alarms es)) ≤ 4 * length es
length-due-le at [] = let e = ap length (due-nil at) in omega (arith, e)
length-due-le at (e ∷ es) =
    let all = ap length (due-cons at e es) ∙ length-append (due at (alarms_of e.0 e.1)) (due at (alarms es)) in
    let a = four at e.0 e.1 in
    let rest = length-due-le at es in
    omega (arith, all, a, rest)

-- ---- what the earliest is, if no timer stands twice
pub earliest-none : (xs : List (Timer × ℕ)) → earliest xs ≡ None → xs ≡ []
unfolding earliest
earliest-none [] e = refl
earliest-none (x ∷ xs) e = absurd (elim (earliest xs) as (λ o. earlier (Some x.1) o ≡ None → ⊥) [ None ↦ λ h. some x.1 h | Some y ↦ λ h. some (min x.1 y) h ] e)
  where
    some : (n : ℕ) → Some n ≡ None → ⊥
    some n h = true≢false (ap is_some h)

pub earliest-le : (xs : List (Timer × ℕ)) (t : Timer) (o d : ℕ) → lookup (eq_by_cmp timer_cmp t) xs ≡ Some o → earliest xs ≡ Some d → d ≤ o
unfolding earliest
earliest-le [] t o d found e = absurd (true≢false (sym (ap is_some found)))
earliest-le (x ∷ xs) t o d found e =
    elim (eq_by_cmp timer_cmp t x.0) as (λ b. cond b (Some x.1) (lookup (eq_by_cmp timer_cmp t) xs) ≡ Some o → d ≤ o) [
      | true ↦ λ h. let here : x.1 ≡ o = same_Some x.1 o h in let first = front (earliest xs) e in omega (arith, here, first)
      | false ↦ λ h. behind (λ y is. earliest-le xs t o y h is) (earliest xs) refl e h
    ] found
  where
    front : (r : Option ℕ) → earlier (Some x.1) r ≡ Some d → d ≤ x.1
    front None h = let k : x.1 ≡ d = same_Some x.1 d h in omega (arith, k)
    front (Some y) h = let k : min x.1 y ≡ d = same_Some _ d h in omega (arith, k)

    behind : ((y : ℕ) → earliest xs ≡ Some y → y ≤ o) → (r : Option ℕ) → earliest xs ≡ r → earlier (Some x.1) r ≡ Some d → lookup (eq_by_cmp timer_cmp t) xs ≡ Some o → d ≤ o
    behind rest None is h f = let nil : xs ≡ [] = earliest-none xs is in absurd (true≢false (sym (ap is_some (ap (lookup (eq_by_cmp timer_cmp t)) (sym nil) ∙ f))))
    behind rest (Some y) is h f = let k : min x.1 y ≡ d = same_Some _ d h in let later : y ≤ o = rest y is in omega (arith, k, later)

pub earliest-found : (xs : List (Timer × ℕ)) (d : ℕ) → IsDistinct (eq_by_cmp timer_cmp) (keys_of xs) → earliest xs ≡ Some d → (t : Timer) × (lookup (eq_by_cmp timer_cmp t) xs ≡ Some d)
unfolding earliest
earliest-found [] d apart e = absurd (true≢false (sym (ap is_some e)))
earliest-found (x ∷ xs) d apart e = by (λ y is. earliest-found xs y (IsDistinct-tail (eq_by_cmp timer_cmp) x.0 (keys_of xs) apart) is) (earliest xs) refl e
  where
    here : x.1 ≡ d → (t : Timer) × (lookup (eq_by_cmp timer_cmp t) (x ∷ xs) ≡ Some d)
    here h = (x.0, ap (λ b. cond b (Some x.1) (lookup (eq_by_cmp timer_cmp x.0) xs)) (timer_laws.refl x.0) ∙ ap Some h)

    there : (y : ℕ) → (t : Timer) × (lookup (eq_by_cmp timer_cmp t) xs ≡ Some y) → y ≡ d → (t : Timer) × (lookup (eq_by_cmp timer_cmp t) (x ∷ xs) ≡ Some d)
    there y found h = (
      found.0,
      elim (eq_by_cmp timer_cmp found.0 x.0) as (λ b. eq_by_cmp timer_cmp found.0 x.0 ≡ b → cond b (Some x.1) (lookup (eq_by_cmp timer_cmp found.0) xs) ≡ Some d) [
        | true ↦ λ tie. absurd (true≢false (sym (ap is_some (sym (lookup-none (eq_by_cmp timer_cmp found.0) xs (none_past_head timer_laws found.0 x xs apart tie)) ∙ found.1))))
        | false ↦ λ tie. found.1 ∙ ap Some h
      ] refl,
    )

    by : ((y : ℕ) → earliest xs ≡ Some y → (t : Timer) × (lookup (eq_by_cmp timer_cmp t) xs ≡ Some y)) → (r : Option ℕ) → earliest xs ≡ r → earlier (Some x.1) r ≡ Some d
        → (t : Timer) × (lookup (eq_by_cmp timer_cmp t) (x ∷ xs) ≡ Some d)
    by rest None is h = here (same_Some x.1 d h)
    by rest (Some y) is h =
        let k : min x.1 y ≡ d = same_Some _ d h in
        elim (nat_le x.1 y) as (λ b. nat_le x.1 y ≡ b → (t : Timer) × (lookup (eq_by_cmp timer_cmp t) (x ∷ xs) ≡ Some d)) [
          | true ↦ λ le. let l = leb-true x.1 y le in let first : x.1 ≡ d = omega (arith, k, l) in here first
          | false ↦ λ gt. let l = leb-false x.1 y gt in let later : y ≡ d = omega (arith, k, l) in there y (rest y is) later
        ] refl

-- ---- one transaction more of a walk
pub all_counted : (at count : ℕ) (left first : List (TransactionId × Deadlines)) → left ≡ [] → count + length (due at (alarms left)) ≡ length (due at (alarms first))
    → count ≡ length (due at (alarms first))
all_counted at count left first none all =
    let rest : length (due at (alarms left)) ≡ 0 = ap (λ l. length (due at (alarms l))) none ∙ ap length (due-nil at) in
    omega (arith, rest, all)

pub earliest-more : (s t : List (TransactionId × Deadlines)) (e : TransactionId × Deadlines) → s ≡ e ∷ t → earliest (alarms s) ≡ earlier (earliest (alarms_of e.0 e.1)) (earliest (alarms t))
earliest-more s t e is = ap (λ l. earliest (alarms l)) is ∙ earliest-cons e t

-- how many of a transaction are due
pub length_due_of : (id : TransactionId) (d : Deadlines) (at : ℕ) → length (due at (alarms_of id d))
    ≡ length (due at (alarm_if id EofAck d.eof_ack)) + (length (due at (alarm_if id Nak d.nak))
    + (length (due at (alarm_if id FinishedAck d.finished_ack)) + length (due at (alarm_if id Inactivity d.inactivity))))
length_due_of id d at = length-due_of at id d
