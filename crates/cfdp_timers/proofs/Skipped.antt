-- Walks over blocks: one more transaction, a block that is skipped since its bound is later, and
-- the end.
use Rattle.std.proofs.Common.{◌≡◌, ℕ, zero, suc, ◌+◌, ◌*◌, ◌/◌, ◌<◌, ◌≤◌, List, [], ◌∷◌, ◌++◌, length, take, drop, get_or, slice_get, refl, sym, ap, ◌∙◌, cond, Option, Some, None, arith, length-append}
use Rattle.std.proofs.lemmas.Bool.{lt-leb}
use Rattle.std.proofs.lemmas.List.{take-append-drop, drop_all, at_drop_more, get_or-map}
use Rattle.std.proofs.lemmas.List.Elements.{filter-append}
use Rattle.std.proofs.lemmas.Option.{slice_get_within, get_or_from_slice_get, none-some}
use Rattle.std.specs.Prelude.{nat_le}
use Rattle.cfdp_header.specs.declared.value.TransactionId.{TransactionId}
use Rattle.cfdp_timers.specs.declared.kind.Kind.{Kind}
use Rattle.cfdp_timers.specs.declared.kind.Kind.TheVariants.{EofAck, Nak, FinishedAck, Inactivity}
use Rattle.cfdp_timers.specs.declared.deadlines.Deadlines.{Deadlines}
use Rattle.cfdp_timers.specs.Order.{Timer}
use Rattle.cfdp_timers.specs.Entries.{no_deadlines, deadline_at, deadlines_in, alarm_if, alarms_of, alarms, due, IsBound, AreBounds}
use Rattle.cfdp_timers.proofs.Alarms.{due-alarms_of, due-cons, due-nil}
use Rattle.cfdp_timers.proofs.Written.{alarms-append}

-- the entry that is found has the deadlines of its index
pub deadlines-at : (es : List (TransactionId × Deadlines)) (place : ℕ) (e : TransactionId × Deadlines) → slice_get es place ≡ Some e → deadlines_in es place ≡ e.1
deadlines-at es place e is =
    get_or-map (λ (x : TransactionId × Deadlines). x.1) es place e no_deadlines (slice_get_within es place e is) ∙ ap (λ (x : TransactionId × Deadlines). x.1) (get_or_from_slice_get es place e e is)

pub deadlines-past : (es : List (TransactionId × Deadlines)) (place : ℕ) → slice_get es place ≡ None → deadlines_in es place ≡ no_deadlines
deadlines-past [] place is = refl
deadlines-past (e ∷ es) zero is = absurd (none-some e (sym is))
deadlines-past (e ∷ es) (suc place) is = deadlines-past es place is

pub length-past : (es : List (TransactionId × Deadlines)) (place : ℕ) → slice_get es place ≡ None → length es ≤ place
length-past [] place is = omega arith
length-past (e ∷ es) zero is = absurd (none-some e (sym is))
length-past (e ∷ es) (suc place) is = let rest = length-past es place is in omega (arith, rest)

module _ (at : ℕ) where
  -- a transaction whose deadlines are all later
  quiet : (id : TransactionId) (d : Deadlines) → ((kind : Kind) (x : ℕ) → deadline_at d kind ≡ Some x → at < x) → due at (alarms_of id d) ≡ []
  quiet id d later =
      due-alarms_of at id d
      ∙ (λ i. none EofAck d.eof_ack (later EofAck) i ++ (none Nak d.nak (later Nak) i ++ (none FinishedAck d.finished_ack (later FinishedAck) i ++ none Inactivity d.inactivity (later Inactivity) i)))
    where
      none : (kind : Kind) (o : Option ℕ) → ((x : ℕ) → o ≡ Some x → at < x) → due at (alarm_if id kind o) ≡ []
      none kind None h = refl
      none kind (Some x) h =
          let only : List (Timer × ℕ) = ((id, kind), x) ∷ [] in
          ap (λ b. cond b only []) (lt-leb x at (h x refl))

  module _ (es : List (TransactionId × Deadlines)) where
    -- one more transaction of a walk, or none
    pub due-at : (place : ℕ) (e : TransactionId × Deadlines) → slice_get es place ≡ Some e → due at (alarms (drop place es)) ≡ due at (alarms_of e.0 e.1) ++ due at (alarms (drop (place + 1) es))
    due-at place e is =
        at_drop_more (λ l. due at (alarms l)) es place e (slice_get_within es place e is) ∙ due-cons at (get_or es place e) (drop (place + 1) es)
        ∙ ap (λ (x : TransactionId × Deadlines). due at (alarms_of x.0 x.1) ++ due at (alarms (drop (place + 1) es))) (get_or_from_slice_get es place e e is)

    pub due-past : (place : ℕ) → slice_get es place ≡ None → due at (alarms (drop place es)) ≡ due at (alarms (drop (place + 1) es))
    due-past place is =
        let end = length-past es place is in
        ap (λ l. due at (alarms l)) (drop_all place es end ∙ sym (drop_all (place + 1) es (omega (arith, end))))

    -- an index none of whose timers is due
    step : (place : ℕ) → ((kind : Kind) (x : ℕ) → deadline_at (deadlines_in es place) kind ≡ Some x → at < x) → due at (alarms (drop place es)) ≡ due at (alarms (drop (place + 1) es))
    step place later = by (slice_get es place) refl
      where
        by : (o : Option (TransactionId × Deadlines)) → slice_get es place ≡ o → due at (alarms (drop place es)) ≡ due at (alarms (drop (place + 1) es))
        by None is = due-past place is
        by (Some e) is =
            due-at place e is
            ∙ ap (λ l. l ++ due at (alarms (drop (place + 1) es))) (quiet e.0 e.1 (λ kind x h. later kind x (ap (λ d. deadline_at d kind) (deadlines-at es place e is) ∙ h)))

    due-skipped : (first count : ℕ) → ((place : ℕ) (kind : Kind) (x : ℕ) → first ≤ place → place < first + count → deadline_at (deadlines_in es place) kind ≡ Some x → at < x)
        → due at (alarms (drop first es)) ≡ due at (alarms (drop (first + count) es))
    due-skipped first zero later =
        let none : first ≡ first + zero = omega arith in ap (λ n. due at (alarms (drop n es))) none
    due-skipped first (suc count) later =
        let next : first + 1 + count ≡ first + suc count = omega arith in
        step first (λ kind x h. later first kind x (omega arith) (omega arith) h)
        ∙ due-skipped (first + 1) count (λ place kind x low high h. later place kind x (omega (arith, low)) (omega (arith, high, next)) h)
        ∙ ap (λ n. due at (alarms (drop n es))) next

    -- a block whose bound is later
    pub due-block : (block bound : ℕ) → IsBound es block bound → at < bound → due at (alarms (drop (64 * block) es)) ≡ due at (alarms (drop (64 * (block + 1)) es))
    due-block block bound is later =
        let end : 64 * block + 64 ≡ 64 * (block + 1) = omega arith in
        due-skipped (64 * block) 64 (λ place kind x low high h.
        let here : place / 64 ≡ block = omega (arith, low, high) in
        let least = is.none_before place kind x here h in
        omega (arith, least, later))
        ∙ ap (λ n. due at (alarms (drop n es))) end

    -- all blocks' bounds are later
    pub due-none : (bounds : List ℕ) → AreBounds es bounds → ((block : ℕ) → block < length bounds → at < get_or bounds block 0) → due at (alarms es) ≡ []
    due-none bounds are later =
        let cover = are.cover in
        let end : length es ≤ 64 * length bounds = cover in
        due-skipped 0 (64 * length bounds) (λ place kind x low high h.
        let within : place / 64 < length bounds = omega (arith, high) in
        let after = later (place / 64) within in
        let least = (are.each (place / 64) within).none_before place kind x refl h in
        omega (arith, least, after))
        ∙ due-end' (64 * length bounds) end
      where
        due-end' : (n : ℕ) → length es ≤ n → due at (alarms (drop (0 + n) es)) ≡ []
        due-end' n end = ap (λ l. due at (alarms l)) (drop_all (0 + n) es (omega (arith, end))) ∙ due-nil at

    pub due-end : (blocks : ℕ) → length es ≤ 64 * blocks → due at (alarms (drop (64 * blocks) es)) ≡ []
    due-end blocks end = ap (λ l. due at (alarms l)) (drop_all (64 * blocks) es end) ∙ due-nil at

    -- if one of a transaction's timers is due, some of all are
    pub some-at : (place : ℕ) (e : TransactionId × Deadlines) → slice_get es place ≡ Some e → 1 ≤ length (due at (alarms_of e.0 e.1)) → 1 ≤ length (due at (alarms es))
    some-at place e is some =
        let front = due at (alarms (take place es)) in
        let behind = due at (alarms (drop place es)) in
        let all : due at (alarms es) ≡ front ++ behind =
        ap (λ l. due at (alarms l)) (sym (take-append-drop place es)) ∙ ap (due at) (alarms-append (take place es) (drop place es))
        ∙ filter-append (λ (x : Timer × ℕ). nat_le x.1 at) (alarms (take place es)) (alarms (drop place es)) in
        let size = ap length all ∙ length-append front behind in
        let here = ap length (due-at place e is) ∙ length-append (due at (alarms_of e.0 e.1)) (due at (alarms (drop (place + 1) es))) in
        omega (arith, size, here, some)
