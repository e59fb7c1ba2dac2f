-- The earliest deadline of all, block by block: a block is skipped whose bound is no earlier than
-- what was found.
use Rattle.std.proofs.Common.{◌≡◌, ℕ, zero, suc, ◌+◌, ◌*◌, ◌≤◌, List, [], ◌∷◌, length, drop, get_or, slice_get, refl, sym, ap, ◌∙◌, true, false, cond, Option, Some, None, arith, min, nat_le}
use Rattle.std.proofs.lemmas.Bool.{leb-false}
use Rattle.std.proofs.lemmas.List.{drop_all, at_drop_more}
use Rattle.std.proofs.lemmas.Option.{slice_get_within, get_or_from_slice_get}
use Rattle.cfdp_header.specs.declared.value.TransactionId.{TransactionId}
use Rattle.cfdp_timers.specs.declared.deadlines.Deadlines.{Deadlines}
use Rattle.cfdp_timers.specs.Order.{Timer}
use Rattle.cfdp_timers.specs.Entries.{alarms, alarms_of, deadlines_in, due, earlier, earliest, earliest_of, next_of, other_of, others_of, IsBound}
use Rattle.cfdp_timers.proofs.Alarms.{earlier_assoc, earlier_none, earliest-cons, earliest-nil, earliest-of}
use Rattle.cfdp_timers.proofs.Firsts.{earlier_comm, earliest_of-cons, earliest_of-nil}
use Rattle.cfdp_timers.proofs.Skipped.{deadlines-at, deadlines-past, due-block, length-past}

-- ---- the earlier of several
swap : (a b c : Option ℕ) → earlier a (earlier b c) ≡ earlier b (earlier a c)
swap a b c = sym (earlier_assoc a b c) ∙ ap (λ o. earlier o c) (earlier_comm a b) ∙ earlier_assoc b a c

same : (a : Option ℕ) → earlier a a ≡ a
same None = refl
same (Some x) = let one : min x x ≡ x = omega arith in ap Some one

-- ---- a walk over the places
pub earliest-at : (es : List (TransactionId × Deadlines)) (place : ℕ)
    → earliest (alarms (drop place es)) ≡ earlier (next_of (deadlines_in es place)) (earliest (alarms (drop (place + 1) es)))
earliest-at es place = by (slice_get es place) refl
  where
    behind : Option ℕ
    behind = earliest (alarms (drop (place + 1) es))

    by : (o : Option (TransactionId × Deadlines)) → slice_get es place ≡ o → earliest (alarms (drop place es)) ≡ earlier (next_of (deadlines_in es place)) behind
    by None is =
        let end = length-past es place is in
        ap (λ l. earliest (alarms l)) (drop_all place es end ∙ sym (drop_all (place + 1) es (omega (arith, end))))
        ∙ ap (λ d. earlier (next_of d) (earliest (alarms (drop (place + 1) es)))) (sym (deadlines-past es place is))
    by (Some e) is =
        at_drop_more (λ l. earliest (alarms l)) es place e (slice_get_within es place e is) ∙ earliest-cons (get_or es place e) (drop (place + 1) es)
        ∙ ap (λ (x : TransactionId × Deadlines). earlier (earliest (alarms_of x.0 x.1)) (earliest (alarms (drop (place + 1) es)))) (get_or_from_slice_get es place e e is)
        ∙ ap (λ o. earlier o (earliest (alarms (drop (place + 1) es)))) (earliest-of e.0 e.1 ∙ ap next_of (sym (deadlines-at es place e is)))

-- one more index
pub earliest-more : (es : List (TransactionId × Deadlines)) (place : ℕ) (first now all : Option ℕ) → now ≡ earlier first (next_of (deadlines_in es place))
    → earlier first (earliest (alarms (drop place es))) ≡ all
    → earlier now (earliest (alarms (drop (place + 1) es))) ≡ all
earliest-more es place first now all is before =
    let behind = earliest (alarms (drop (place + 1) es)) in
    ap (λ o. earlier o behind) is ∙ earlier_assoc first (next_of (deadlines_in es place)) behind ∙ ap (earlier first) (sym (earliest-at es place)) ∙ before

pub earliest-end : (es : List (TransactionId × Deadlines)) (place : ℕ) (first : Option ℕ) → length es ≤ place → earlier first (earliest (alarms (drop place es))) ≡ first
earliest-end es place first end = ap (λ l. earlier first (earliest (alarms l))) (drop_all place es end) ∙ ap (earlier first) earliest-nil ∙ earlier_none first

-- ---- a block whose bound is no earlier
-- only what is due before a time can be earlier
earliest-due : (c : ℕ) (xs : List (Timer × ℕ)) → earlier (Some (suc c)) (earliest (due c xs)) ≡ earlier (Some (suc c)) (earliest xs)
unfolding earliest
earliest-due c [] = refl
earliest-due c (x ∷ xs) =
    let rest = earliest-due c xs in
    elim (nat_le x.1 c) as (λ b. nat_le x.1 c ≡ b → earlier (Some (suc c)) (earliest (cond b (x ∷ due c xs) (due c xs))) ≡ earlier (Some (suc c)) (earlier (Some x.1) (earliest xs))) [
      | true ↦ λ _. swap (Some (suc c)) (Some x.1) (earliest (due c xs)) ∙ ap (earlier (Some x.1)) rest ∙ swap (Some x.1) (Some (suc c)) (earliest xs)
      | false ↦ λ later.
          let l = leb-false x.1 c later in
          let least : suc c ≡ min (suc c) x.1 = omega (arith, l) in
          rest ∙ ap (λ n. earlier (Some n) (earliest xs)) least ∙ earlier_assoc (Some (suc c)) (Some x.1) (earliest xs)
    ] refl

none-earlier : (o : Option ℕ) → earlier (Some 0) o ≡ Some 0
none-earlier None = refl
none-earlier (Some x) = let least : min 0 x ≡ 0 = omega arith in ap Some least

pub earliest-skipped : (es : List (TransactionId × Deadlines)) (block bound d : ℕ) → IsBound es block bound → d ≤ bound
    → earlier (Some d) (earliest (alarms (drop (64 * (block + 1)) es))) ≡ earlier (Some d) (earliest (alarms (drop (64 * block) es)))
earliest-skipped es block bound zero is low = none-earlier (earliest (alarms (drop (64 * (block + 1)) es))) ∙ sym (none-earlier (earliest (alarms (drop (64 * block) es))))
earliest-skipped es block bound (suc c) is low =
    let here = alarms (drop (64 * block) es) in
    let behind = alarms (drop (64 * (block + 1)) es) in
    sym (earliest-due c behind) ∙ ap (λ l. earlier (Some (suc c)) (earliest l)) (sym (due-block c es block bound is (omega (arith, low)))) ∙ earliest-due c here

-- ---- the earliest of all kinds but one is no earlier than that of all
others-one : (d : Deadlines) → earlier (other_of d) (next_of d) ≡ next_of d
others-one d =
    let o = other_of d in
    let all : next_of d ≡ earlier o d.inactivity =
    ap (earlier d.eof_ack) (sym (earlier_assoc d.nak d.finished_ack d.inactivity)) ∙ sym (earlier_assoc d.eof_ack (earlier d.nak d.finished_ack) d.inactivity) in
    ap (earlier o) all ∙ sym (earlier_assoc o o d.inactivity) ∙ ap (λ x. earlier x d.inactivity) (same o) ∙ sym all

pub others-within : (es : List (TransactionId × Deadlines)) → earlier (earliest_of (others_of es)) (earliest (alarms es)) ≡ earliest (alarms es)
unfolding others_of
others-within [] = ap (λ o. earlier o (earliest (alarms []))) earliest_of-nil
others-within (e ∷ es) =
    let o = other_of e.1 in
    let n = next_of e.1 in
    let r = earliest_of (others_of es) in
    let a = earliest (alarms es) in
    let all : earliest (alarms (e ∷ es)) ≡ earlier n a = earliest-cons e es ∙ ap (λ x. earlier x a) (earliest-of e.0 e.1) in
    ap (λ x. earlier x (earliest (alarms (e ∷ es)))) (earliest_of-cons o (others_of es))
    ∙ ap (earlier (earlier o r)) all ∙ earlier_assoc o r (earlier n a) ∙ ap (earlier o) (swap r n a ∙ ap (earlier n) (others-within es))
    ∙ sym (earlier_assoc o n a) ∙ ap (λ x. earlier x a) (others-one e.1) ∙ sym all
