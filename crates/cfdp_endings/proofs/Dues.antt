-- Each PDU that leaves lowers how many may still leave.
use Rattle.std.proofs.Common.{◌≡◌, ℕ, zero, suc, ◌+◌, ◌-◌, ◌<◌, ◌≤◌, ◌||◌, min, nat_lt, not, is_some, Bool, true, false, List, [], ◌∷◌, drop, get_or, length, position, slice_get, Option, Some, None, refl, sym, ap, subst, ◌∙◌, arith, if◌then◌else◌}
use Rattle.std.specs.FinSet as set
use Rattle.std.specs.Option.{option_or, option_map}
use Rattle.std.proofs.lemmas.Bool.{false≢true, cond_both, ltb-true}
use Rattle.std.proofs.lemmas.List.Quantifiers.{position-Some}
use Rattle.indexmap.specs.IndexMap.{set_value_at}
use Rattle.cfdp_extents.specs.Offsets.{range}
use Rattle.cfdp_extents.specs.Terms.{front_of}
use Rattle.std.specs.Cmp.{nat_cmp_total}
use Rattle.std.proofs.lemmas.List.{length-drop}
use Rattle.cfdp_extents.specs.Front.{IsFront}
use Rattle.cfdp_extents.proofs.CallerLemmas.{front-is}
use Rattle.cfdp_header.specs.Files.{FileMap}
use Rattle.cfdp_directives.specs.declared.user.limits.Times.{Times}
use Rattle.cfdp_directives.specs.declared.user.telling.Outcome.{Outcome}
use Rattle.cfdp_store.specs.declared.stored.Stored.{Stored}
use Rattle.cfdp_store.specs.declared.stored.Stored.TheVariants.{Done, Refused}
use Rattle.cfdp_store.specs.Files.{octets_in}
use Rattle.cfdp_sender.specs.declared.phase.SenderPhase.{SenderPhase}
use Rattle.cfdp_sender.specs.declared.phase.SenderPhase.TheVariants.{Sending, Cancelling, Closed}
use Rattle.cfdp_sender.specs.declared.due.SenderDue.{SenderDue}
use Rattle.cfdp_sender.specs.declared.due.SenderDue.TheVariants as due
use Rattle.cfdp_sender.specs.Due.{rest_due, data_due, prompt_first, phase_due, ack_first, sender_due}
use Rattle.cfdp_sender.specs.InFile.{IsInFile}
use Rattle.cfdp_sender.specs.State.{SenderState}
use Rattle.cfdp_sender.specs.Steps.{sender_sends}
use Rattle.cfdp_receiver.specs.declared.due.Due.{Due}
use Rattle.cfdp_receiver.specs.declared.due.Due.TheVariants as dues
use Rattle.cfdp_receiver.specs.declared.state.ReceiverPhase.{ReceiverPhase}
use Rattle.cfdp_receiver.specs.declared.state.ReceiverPhase.TheVariants as receiving
use Rattle.cfdp_receiver.specs.Due.{receiver_due, receiver_taken}
use Rattle.cfdp_receiver.specs.Due as answers
use Rattle.cfdp_receiver.specs.Missing.{scope_limit, missing_pairs, asked, has_more, last_end, next_cursor}
use Rattle.cfdp_receiver.specs.State.{ReceiverState}
use Rattle.cfdp_entity.specs.Entity.{EntityState}
use Rattle.cfdp_entity.specs.Polling.{Place, Rests, turn_by, served, turn}
use Rattle.cfdp_entity.specs.Seen.{Seen, Sends, Receives, is_due}
use Rattle.cfdp_entity.specs.Steps.{takes, sender_takes, receiver_takes}
use Rattle.cfdp_entity.specs.Strays.{StrayAck}
use Rattle.cfdp_entity.specs.Table.{Entry, has_due, next_due, step_of}
use Rattle.cfdp_entity.proofs.CallerLemmas.{next-due}
use Rattle.cfdp_endings.specs.Dues.{count_below, sender_dues, nak_dues, receiver_dues, seen_dues, records_dues, entity_dues, ArePolls}
use Rattle.cfdp_endings.specs.Entity.{IsOwing, IsTimely}
use Rattle.cfdp_endings.proofs.Counts.{count-taken, first_in}
use Rattle.cfdp_endings.proofs.Cursor.{cursor-moves}
use Rattle.cfdp_endings.proofs.Tables.{MachineLaws, owe-at}
use Rattle.cfdp_endings.proofs.Entities.{served-timely}

some_is : {X : Type 0} (x y : X) → Some x ≡ Some y → y ≡ x
some_is x y e = cc

-- ---- a sender
-- even if the outbox fails
pub record Falls (file : List ℕ) (x : SenderState) (d : SenderDue) : Type 0 where
  pub done : sender_dues (sender_sends Done file x d).sender < sender_dues x
  pub refused : sender_dues (sender_sends Refused file x d).sender < sender_dues x

abbrev FallsIf : List ℕ → SenderState → SenderDue → Option SenderDue → Type 0
FallsIf file x d o = o ≡ Some d → Falls file x d

module _ (file : List ℕ) (x : SenderState) where
  ack-falls : (condition : ℕ) → x.ack_due ≡ Some condition → Falls file x (due.AckOfFinished condition)
  ack-falls condition is = record { done = rw is (omega arith); refused = rw is (omega arith) }

  prompt-falls : (keep_alive : Bool) → x.phase ≡ Sending → x.prompt_due ≡ Some keep_alive → Falls file x (due.Prompt keep_alive)
  prompt-falls keep_alive sends is = record { done = rw (sends, is) (omega arith); refused = rw (sends, is) (omega arith) }

  metadata-falls : x.phase ≡ Sending → x.metadata_due ≡ true → Falls file x due.Metadata
  metadata-falls sends is = record { done = rw (sends, is) (omega arith); refused = rw (sends, is) (omega arith) }

  asked-falls : (start end : ℕ) → x.phase ≡ Sending → start < end → start < x.size → set.contains x.asked start ≡ true → Falls file x (due.AskedData start end)
  asked-falls start end sends some below here =
      let less : count_below (set.difference x.asked (range start end)) x.size + 1 ≤ count_below x.asked x.size = count-taken x.asked x.size start end some below here in
      record { done = rw sends (omega (arith, less)); refused = rw sends (omega (arith, less)) }

  new-falls : (start end : ℕ) → x.phase ≡ Sending → x.sent < end → x.sent < x.size → Falls file x (due.NewData start end)
  new-falls start end sends some below =
      let less : (x.size - end) + 1 ≤ x.size - x.sent = omega arith in
      record { done = rw sends (omega (arith, less)); refused = rw sends (omega (arith, less)) }

  eof-falls : x.phase ≡ Sending → (x.eof_due || not x.eof_taken) ≡ true → Falls file x due.Eof
  eof-falls sends is = record { done = rw (sends, is) (omega arith); refused = rw (sends, is) (omega arith) }

  cancel-falls : x.phase ≡ Cancelling → x.eof_due ≡ true → Falls file x due.Eof
  cancel-falls cancels is = record { done = rw (cancels, is) (omega arith); refused = rw (cancels, is) (omega arith) }

  rest-falls : (d : SenderDue) → 1 ≤ x.segment → x.phase ≡ Sending → FallsIf file x d (rest_due x)
  rest-falls d some sends =
      cond_both (nat_lt x.sent x.size) (Some (due.NewData x.sent (min x.size (x.sent + x.segment)))) (if x.eof_due || not x.eof_taken then Some due.Eof else None) (FallsIf file x d)
      (λ more e.
      let below : x.sent < x.size = ltb-true x.sent x.size more in
      let moves : x.sent < min x.size (x.sent + x.segment) = omega arith in
      subst (Falls file x) (sym (some_is (due.NewData x.sent (min x.size (x.sent + x.segment))) d e)) (new-falls x.sent (min x.size (x.sent + x.segment)) sends moves below))
      (λ _. cond_both (x.eof_due || not x.eof_taken) (Some due.Eof) None (FallsIf file x d)
      (λ is e. subst (Falls file x) (sym (some_is due.Eof d e)) (eof-falls sends is))
      (λ _ e. cc))

  data-falls : (d : SenderDue) (front : Option (ℕ × ℕ)) → IsInFile x → x.phase ≡ Sending → front_of x.asked x.segment ≡ front → FallsIf file x d (data_due front x)
  data-falls d None inside sends is e = rest-falls d inside.some sends e
  data-falls d (Some r) inside sends is e =
      let front : IsFront x.asked x.segment r.0 r.1 = front-is x.asked x.segment r is in
      let here : set.contains x.asked r.0 ≡ true = set.is_subset-contains nat_cmp_total (range r.0 r.1) x.asked front.gapless r.0 (first_in r.0 r.1 front.some) in
      let below : r.0 < x.sent = inside.asked r.0 here in
      let fits : x.sent ≤ x.size = inside.sent in
      subst (Falls file x) (sym (some_is (due.AskedData r.0 r.1) d e)) (asked-falls r.0 r.1 sends front.some (omega arith) here)

  prompt-first-falls : (d : SenderDue) (prompt : Option Bool) → IsInFile x → x.phase ≡ Sending → x.prompt_due ≡ prompt → FallsIf file x d (prompt_first prompt x)
  prompt-first-falls d (Some keep_alive) inside sends is e = subst (Falls file x) (sym (some_is (due.Prompt keep_alive) d e)) (prompt-falls keep_alive sends is)
  prompt-first-falls d None inside sends is e =
      cond_both x.metadata_due (Some due.Metadata) (data_due (front_of x.asked x.segment) x) (FallsIf file x d)
      (λ is_due e. subst (Falls file x) (sym (some_is due.Metadata d e)) (metadata-falls sends is_due))
      (λ _ e. data-falls d (front_of x.asked x.segment) inside sends refl e)
      e

  phase-falls : (d : SenderDue) (phase : SenderPhase) → IsInFile x → x.phase ≡ phase → FallsIf file x d (phase_due phase x)
  phase-falls d Sending inside is e = prompt-first-falls d x.prompt_due inside is refl e
  phase-falls d Cancelling inside is e =
      cond_both x.eof_due (Some due.Eof) None (FallsIf file x d)
      (λ is_due e. subst (Falls file x) (sym (some_is due.Eof d e)) (cancel-falls is is_due))
      (λ _ e. cc) e
  phase-falls d Closed inside is e = cc

  ack-first-falls : (d : SenderDue) (ack : Option ℕ) → IsInFile x → x.ack_due ≡ ack → FallsIf file x d (ack_first ack x)
  ack-first-falls d (Some condition) inside is e = subst (Falls file x) (sym (some_is (due.AckOfFinished condition) d e)) (ack-falls condition is)
  ack-first-falls d None inside is e = phase-falls d x.phase inside refl e

  falls : (d : SenderDue) → IsInFile x → sender_due x ≡ Some d → Falls file x d
  falls d inside e = cond_both x.suspended None (ack_first x.ack_due x) (FallsIf file x d) (λ _ e. cc) (λ _ e. ack-first-falls d x.ack_due inside refl e) e

  pub sender-falls : (stored : Stored) (d : SenderDue) → IsInFile x → sender_due x ≡ Some d → sender_dues (sender_sends stored file x d).sender < sender_dues x
  sender-falls Done d inside e = (falls d inside e).done
  sender-falls Refused d inside e = (falls d inside e).refused

-- ---- a receiver
abbrev ReceiverFalls : ReceiverState → Due → Type 0
ReceiverFalls r d = receiver_dues (receiver_taken d r) < receiver_dues r

abbrev ReceiverFallsIf : ReceiverState → Due → Option Due → Type 0
ReceiverFallsIf r d o = o ≡ Some d → ReceiverFalls r d

module _ (r : ReceiverState) where
  cursor-falls : (from limit : ℕ) (pairs : List (ℕ × ℕ)) → (has_more pairs ≡ true → (from < last_end 0 (asked pairs)) × (last_end 0 (asked pairs) ≤ limit)) →
      nak_dues (next_cursor pairs) limit < limit - from + 1
  cursor-falls from limit pairs moves =
      cond_both (has_more pairs) (Some (last_end 0 (asked pairs))) None (λ o. nak_dues o limit < limit - from + 1)
      (λ more. let b = moves more in let low = b.0 in let high = b.1 in omega (arith, low, high))
      (λ _. omega arith)

  nak-falls : (from : ℕ) → r.phase ≡ receiving.Receiving → r.nak_cursor ≡ Some from → ReceiverFalls r (dues.Nak from)
  nak-falls from is cursor = (let less = cursor-falls from (scope_limit r) (missing_pairs from r) (cursor-moves r from) in rw (is, cursor) (omega (arith, less)))

  keep-alive-falls : (d : Due) (b : Bool) → r.phase ≡ receiving.Receiving → r.keep_alive_due ≡ b → ReceiverFallsIf r d (answers.keep_alive_first b)
  keep-alive-falls d true is waits e = rw (some_is dues.KeepAlive d e, is, waits) (omega arith)
  keep-alive-falls d false is waits e = cc

  pairs-falls : (d : Due) (from : ℕ) (pairs : List (ℕ × ℕ)) → r.phase ≡ receiving.Receiving → r.nak_cursor ≡ Some from → ReceiverFallsIf r d (answers.pairs_first from pairs r)
  pairs-falls d from [] is cursor e = keep-alive-falls d r.keep_alive_due is refl e
  pairs-falls d from (p ∷ ps) is cursor e = subst (ReceiverFalls r) (sym (some_is (dues.Nak from) d e)) (nak-falls from is cursor)

  nak-first-falls : (d : Due) (cursor : Option ℕ) → r.phase ≡ receiving.Receiving → r.nak_cursor ≡ cursor → ReceiverFallsIf r d (answers.nak_first cursor r)
  nak-first-falls d (Some from) is cursor e = pairs-falls d from (missing_pairs from r) is cursor e
  nak-first-falls d None is cursor e = keep-alive-falls d r.keep_alive_due is refl e

  finished-falls : (d : Due) (waits : Bool) (outcome : Option Outcome) → r.phase ≡ receiving.Finishing → r.finished_due ≡ waits → ReceiverFallsIf r d (answers.finished_by waits outcome)
  finished-falls d true (Some o) is waits e = rw (some_is (dues.Finished o) d e, is, waits) (omega arith)
  finished-falls d true None is waits e = cc
  finished-falls d false o is waits e = cc

  answer-falls : (d : Due) (phase : ReceiverPhase) → r.phase ≡ phase → ReceiverFallsIf r d (answers.phase_due phase r)
  answer-falls d receiving.Receiving is e = nak-first-falls d r.nak_cursor is refl e
  answer-falls d receiving.Finishing is e = finished-falls d r.finished_due r.outcome is refl e
  answer-falls d receiving.Closed is e = cc

  ack-eof-falls : (d : Due) (ack : Option ℕ) → r.ack_due ≡ ack → ReceiverFallsIf r d (answers.ack_first ack r)
  ack-eof-falls d (Some condition) is e = rw (some_is (dues.AckOfEof condition) d e, is) (omega arith)
  ack-eof-falls d None is e = answer-falls d r.phase refl e

  pub receiver-falls : (d : Due) → receiver_due r ≡ Some d → receiver_dues (receiver_taken d r) < receiver_dues r
  receiver-falls d e = cond_both r.suspended None (answers.ack_first r.ack_due r) (ReceiverFallsIf r d) (λ _ e. cc) (λ _ e. ack-eof-falls d r.ack_due refl e) e

-- ---- a record
took-falls : (stored : Stored) (times : Times) (sources files : FileMap) (s : Seen) → IsOwing s → is_due s ≡ true → seen_dues (takes stored times sources files s).seen < seen_dues s
took-falls stored times sources files (Sends x) owing h = by (sender_due x) refl h
  where
    by : (o : Option SenderDue) → sender_due x ≡ o → is_some o ≡ true → seen_dues (sender_takes stored times files (octets_in sources x.source) x o).seen < sender_dues x
    by (Some d) is h = sender-falls (octets_in sources x.source) x stored d owing.1 is
    by None is h = absurd (false≢true h)
took-falls stored times sources files (Receives r m) owing h = by (receiver_due r) refl h
  where
    by : (o : Option Due) → receiver_due r ≡ o → is_some o ≡ true → seen_dues (receiver_takes times files r m o).seen < receiver_dues r
    by (Some d) is h = receiver-falls r d is
    by None is h = absurd (false≢true h)

set-dues : (xs : List Entry) (place : ℕ) (e : Entry) (s : Seen) → slice_get xs place ≡ Some e → records_dues (set_value_at xs place s) + seen_dues e.1 ≡ records_dues xs + seen_dues s
set-dues [] place e s at = absurd cc
set-dues (x ∷ xs) zero e s at =
    let is : x ≡ e = cc in
    let same : seen_dues x.1 ≡ seen_dues e.1 = ap (λ (y : Entry). seen_dues y.1) is in
    omega (arith, same)
set-dues (x ∷ xs) (suc n) e s at = let rest = set-dues xs n e s at in omega (arith, rest)

-- ---- an entity
-- the next record that has something due is there
next-low : (from : ℕ) (xs : List Entry) (place : ℕ) → next_due from xs ≡ Some place → place < length xs
next-low from [] place is = by (position has_due (drop from [])) refl is
  where
    by : (o : Option ℕ) → position has_due (drop from []) ≡ o → option_or (option_map (λ i. from + i) o) (position has_due []) ≡ Some place → place < length {A = Entry} []
    by None e h = absurd cc
    by (Some i) e h = absurd (none-in from i e)
      where
        none-in : (n i : ℕ) → position has_due (drop n []) ≡ Some i → ⊥
        none-in zero i e = cc
        none-in (suc n) i e = cc
next-low from (x ∷ xs) place is = by (position has_due (drop from (x ∷ xs))) refl is
  where
    by : (o : Option ℕ) → position has_due (drop from (x ∷ xs)) ≡ o → option_or (option_map (λ i. from + i) o) (position has_due (x ∷ xs)) ≡ Some place → place < length (x ∷ xs)
    by None e h = (position-Some has_due (x ∷ xs) place x h).0
    by (Some i) e h =
        let here : from + i ≡ place = cc in
        let low : i < length (drop from (x ∷ xs)) = (position-Some has_due (drop from (x ∷ xs)) i x e).0 in
        let len : length (drop from (x ∷ xs)) ≡ length (x ∷ xs) - from = length-drop from (x ∷ xs) in
        omega (arith, here, low, len)

in-length : (xs : List Entry) (place : ℕ) → place < length xs → slice_get xs place ≡ None → ⊥
in-length [] place low none = omega (arith, low)
in-length (x ∷ xs) zero low none = cc
in-length (x ∷ xs) (suc n) low none = in-length xs n (omega (arith, low)) none

slice-or : (xs : List Entry) (n : ℕ) (d e : Entry) → slice_get xs n ≡ Some e → get_or xs n d ≡ e
slice-or [] n d e at = absurd cc
slice-or (x ∷ xs) zero d e at = let is : x ≡ e = cc in is
slice-or (x ∷ xs) (suc n) d e at = slice-or xs n d e at

module _ (stored : Stored) (e : EntityState) (t : IsTimely e.table) where
  place-falls : (place : ℕ) → next_due e.cursor e.table.records ≡ Some place → entity_dues (served stored (Place place) e) < entity_dues e
  place-falls place is = by (slice_get e.table.records place) refl
    where
      by : (o : Option Entry) → slice_get e.table.records place ≡ o → records_dues (step_of (λ d. takes stored e.table.policy.times e.table.sources e.table.files d.1) place o e.table).records + length e.strays < entity_dues e
      by None at = absurd (in-length e.table.records place (next-low e.cursor e.table.records place is) at)
      by (Some d) at =
          let waits : has_due d ≡ true = ap has_due (sym (slice-or e.table.records place d d at)) ∙ next-due e.cursor e.table.records place d is in
          let one = took-falls stored e.table.policy.times e.table.sources e.table.files d.1 (owe-at e.table.records place d t.owing at) waits in
          let all = set-dues e.table.records place d (takes stored e.table.policy.times e.table.sources e.table.files d.1).seen at in
          omega (arith, one, all)

  turn-falls : (strays : List StrayAck) (next : Option ℕ) → e.strays ≡ strays → next_due e.cursor e.table.records ≡ next → (turn_by strays next ≡ Rests → ⊥) →
      entity_dues (served stored (turn_by strays next) e) < entity_dues e
  turn-falls (s ∷ ss) next is at some = (let len : length e.strays ≡ suc (length ss) = ap length is in omega (arith, len))
  turn-falls [] (Some place) is at some = place-falls place at
  turn-falls [] None is at some = absurd (some refl)

  pub poll-falls : (turn e ≡ Rests → ⊥) → entity_dues (served stored (turn e) e) < entity_dues e
  poll-falls some = turn-falls e.strays (next_due e.cursor e.table.records) refl refl some

pub polls-few : MachineLaws → (answers : List Stored) (old new : EntityState) → IsTimely old.table → ArePolls answers old new → length answers + entity_dues new ≤ entity_dues old
polls-few laws [] old new t same = subst (λ (e : EntityState). 0 + entity_dues e ≤ entity_dues old) (sym same) (omega arith)
polls-few laws (s ∷ more) old new t run =
    let first = poll-falls s old t run.0 in
    let rest = polls-few laws more (served s (turn old) old) new (served-timely laws s (turn old) old t) run.1 in
    omega (arith, first, rest)
