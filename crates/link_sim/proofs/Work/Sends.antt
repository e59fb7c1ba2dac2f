-- Each PDU that a sender sends or hears lowers the work that remains, also if the outbox can't read
-- its data.
use Rattle.std.proofs.Common.{◌≡◌, ℕ, ◌+◌, ◌-◌, ◌*◌, ◌<◌, ◌≤◌, min, Bool, true, false, not, List, [], ◌∷◌, Option, Some, None, refl, sym, ap, subst, ◌∙◌, arith, ◌==◌, ◌&&◌, ◌||◌, nat_lt, if◌then◌else◌}
use Rattle.std.specs.FinSet as set
use Rattle.std.specs.Cmp.{nat_cmp_total}
use Rattle.std.proofs.lemmas.Bool.{false≢true, ltb-true, cond_both}
use Rattle.cfdp_extents.specs.Offsets.{range}
use Rattle.cfdp_extents.specs.Front.{IsFront}
use Rattle.cfdp_extents.specs.Terms.{front_of}
use Rattle.cfdp_extents.proofs.CallerLemmas.{front-is}
use Rattle.cfdp_directives.specs.declared.pdu.codes.Acknowledged.TheVariants as acknowledged
use Rattle.cfdp_directives.specs.declared.user.telling.Outcome.{Outcome}
use Rattle.cfdp_directives.specs.Pdu.Codes.{no_error}
use Rattle.cfdp_directives.specs.Pdu.Content.{Content, FileData, Metadata, Eof, Finished, Ack, Nak, Prompt, KeepAlive}
use Rattle.cfdp_store.specs.declared.stored.Stored.TheVariants.{Done, Refused}
use Rattle.cfdp_sender.specs.declared.phase.SenderPhase.{SenderPhase}
use Rattle.cfdp_sender.specs.declared.phase.SenderPhase.TheVariants.{Sending, Cancelling, Closed}
use Rattle.cfdp_sender.specs.declared.due.SenderDue.{SenderDue}
use Rattle.cfdp_sender.specs.declared.due.SenderDue.TheVariants as due
use Rattle.cfdp_sender.specs.State.{SenderState}
use Rattle.cfdp_sender.specs.InFile.{IsInFile}
use Rattle.cfdp_sender.specs.Due.{sender_due, ack_first, phase_due, prompt_first, data_due, rest_due, sender_says}
use Rattle.cfdp_sender.specs.Steps.{SenderAfter, closed, sender_sends, hearing, hears_ack, asks, asks_all, asks_in, sender_hears_finished}
use Rattle.cfdp_entity.specs.Steps.{sender_after}
use Rattle.cfdp_endings.specs.Dues.{count_below}
use Rattle.cfdp_endings.proofs.Counts.{count-taken, count-within, first_in}
use Rattle.link_sim.specs.Work.{content_work, eof_due_work, eof_work, sender_work}

-- ---- what is sent
some_is : {X : Type 0} (x y : X) → Some x ≡ Some y → y ≡ x
some_is x y e = cc

-- Sending what is due lowers the sender's work by more than the PDU that is then on its way. If the
-- outbox fails, no PDU is.
pub record Falls (most : ℕ) (file : List ℕ) (x : SenderState) (d : SenderDue) : Type 0 where
  pub done : sender_work most (sender_sends Done file x d).sender + content_work most (sender_says file x d) < sender_work most x
  pub refused : sender_work most (sender_sends Refused file x d).sender < sender_work most x

abbrev FallsIf : ℕ → List ℕ → SenderState → SenderDue → Option SenderDue → Type 0
FallsIf most file x d o = o ≡ Some d → Falls most file x d

module _ (most : ℕ) (file : List ℕ) (x : SenderState) where
  ack-falls : (condition : ℕ) → x.ack_due ≡ Some condition → Falls most file x (due.AckOfFinished condition)
  ack-falls condition is = record { done = rw is (omega arith); refused = rw is (omega arith) }

  prompt-falls : (keep_alive : Bool) → x.phase ≡ Sending → x.prompt_due ≡ Some keep_alive → Falls most file x (due.Prompt keep_alive)
  prompt-falls keep_alive sends is = record { done = rw (sends, is) (omega arith); refused = rw (sends, is) (omega arith) }

  metadata-falls : x.phase ≡ Sending → x.metadata_due ≡ true → Falls most file x due.Metadata
  metadata-falls sends is = record { done = rw (sends, is) (omega arith); refused = rw (sends, is) (omega arith) }

  asked-falls : (start end : ℕ) → x.phase ≡ Sending → start < end → start < x.size → set.contains x.asked start ≡ true → Falls most file x (due.AskedData start end)
  asked-falls start end sends some below here =
      let less : count_below (set.difference x.asked (range start end)) x.size + 1 ≤ count_below x.asked x.size = count-taken x.asked x.size start end some below here in
      record { done = rw sends (omega (arith, less)); refused = rw sends (omega (arith, less)) }

  new-falls : (start end : ℕ) → x.phase ≡ Sending → x.sent < end → x.sent < x.size → Falls most file x (due.NewData start end)
  new-falls start end sends some below =
      let less : (x.size - end) + 1 ≤ x.size - x.sent = omega arith in
      record { done = rw sends (omega (arith, less)); refused = rw sends (omega (arith, less)) }

  eof-falls : x.phase ≡ Sending → (x.eof_due || not x.eof_taken) ≡ true → Falls most file x due.Eof
  eof-falls sends is = record { done = rw sends (omega (arith, is_due x.eof_due x.eof_taken is)); refused = rw sends (omega (arith, is_due x.eof_due x.eof_taken is)) }
    where
      is_due : (a b : Bool) → (a || not b) ≡ true → eof_work most a b ≡ eof_due_work most
      is_due true b e = refl
      is_due false true e = absurd (false≢true e)
      is_due false false e = refl

  cancel-falls : x.phase ≡ Cancelling → x.eof_due ≡ true → Falls most file x due.Eof
  cancel-falls cancels is = record { done = rw (cancels, is) (omega arith); refused = rw (cancels, is) (omega arith) }

  rest-falls : (d : SenderDue) → 1 ≤ x.segment → x.phase ≡ Sending → FallsIf most file x d (rest_due x)
  rest-falls d some sends =
      cond_both (nat_lt x.sent x.size) (Some (due.NewData x.sent (min x.size (x.sent + x.segment)))) (if x.eof_due || not x.eof_taken then Some due.Eof else None) (FallsIf most file x d)
      (λ more e.
      let below : x.sent < x.size = ltb-true x.sent x.size more in
      let moves : x.sent < min x.size (x.sent + x.segment) = omega arith in
      subst (Falls most file x) (sym (some_is (due.NewData x.sent (min x.size (x.sent + x.segment))) d e)) (new-falls x.sent (min x.size (x.sent + x.segment)) sends moves below))
      (λ _. cond_both (x.eof_due || not x.eof_taken) (Some due.Eof) None (FallsIf most file x d)
      (λ is e. subst (Falls most file x) (sym (some_is due.Eof d e)) (eof-falls sends is))
      (λ _ e. cc))

  data-falls : (d : SenderDue) (front : Option (ℕ × ℕ)) → IsInFile x → x.phase ≡ Sending → front_of x.asked x.segment ≡ front → FallsIf most file x d (data_due front x)
  data-falls d None inside sends is e = rest-falls d inside.some sends e
  data-falls d (Some r) inside sends is e =
      let front : IsFront x.asked x.segment r.0 r.1 = front-is x.asked x.segment r is in
      let here : set.contains x.asked r.0 ≡ true = set.is_subset-contains nat_cmp_total (range r.0 r.1) x.asked front.gapless r.0 (first_in r.0 r.1 front.some) in
      let below : r.0 < x.sent = inside.asked r.0 here in
      let fits : x.sent ≤ x.size = inside.sent in
      subst (Falls most file x) (sym (some_is (due.AskedData r.0 r.1) d e)) (asked-falls r.0 r.1 sends front.some (omega arith) here)

  prompt-first-falls : (d : SenderDue) (prompt : Option Bool) → IsInFile x → x.phase ≡ Sending → x.prompt_due ≡ prompt → FallsIf most file x d (prompt_first prompt x)
  prompt-first-falls d (Some keep_alive) inside sends is e = subst (Falls most file x) (sym (some_is (due.Prompt keep_alive) d e)) (prompt-falls keep_alive sends is)
  prompt-first-falls d None inside sends is e =
      cond_both x.metadata_due (Some due.Metadata) (data_due (front_of x.asked x.segment) x) (FallsIf most file x d)
      (λ is_due e. subst (Falls most file x) (sym (some_is due.Metadata d e)) (metadata-falls sends is_due))
      (λ _ e. data-falls d (front_of x.asked x.segment) inside sends refl e)
      e

  phase-falls : (d : SenderDue) (phase : SenderPhase) → IsInFile x → x.phase ≡ phase → FallsIf most file x d (phase_due phase x)
  phase-falls d Sending inside is e = prompt-first-falls d x.prompt_due inside is refl e
  phase-falls d Cancelling inside is e =
      cond_both x.eof_due (Some due.Eof) None (FallsIf most file x d)
      (λ is_due e. subst (Falls most file x) (sym (some_is due.Eof d e)) (cancel-falls is is_due))
      (λ _ e. cc) e
  phase-falls d Closed inside is e = cc

  ack-first-falls : (d : SenderDue) (ack : Option ℕ) → IsInFile x → x.ack_due ≡ ack → FallsIf most file x d (ack_first ack x)
  ack-first-falls d (Some condition) inside is e = subst (Falls most file x) (sym (some_is (due.AckOfFinished condition) d e)) (ack-falls condition is)
  ack-first-falls d None inside is e = phase-falls d x.phase inside refl e

  pub sender-falls : (d : SenderDue) → IsInFile x → sender_due x ≡ Some d → Falls most file x d
  sender-falls d inside e =
      cond_both x.suspended None (ack_first x.ack_due x) (FallsIf most file x d) (λ _ e. cc) (λ _ e. ack-first-falls d x.ack_due inside refl e) e

-- ---- what is heard
-- what a NAK changes of a sender: what is asked, and Metadata
pub record AsksOnly (x x1 : SenderState) : Type 0 where
  pub phase : x1.phase ≡ x.phase
  pub size : x1.size ≡ x.size
  pub sent : x1.sent ≡ x.sent
  pub prompt_due : x1.prompt_due ≡ x.prompt_due
  pub eof_due : x1.eof_due ≡ x.eof_due
  pub eof_taken : x1.eof_taken ≡ x.eof_taken
  pub ack_due : x1.ack_due ≡ x.ack_due

same_asks : (x : SenderState) → AsksOnly x x
same_asks x = record { phase = refl; size = refl; sent = refl; prompt_due = refl; eof_due = refl; eof_taken = refl; ack_due = refl }

pair-asks : (p : ℕ × ℕ) (x : SenderState) → AsksOnly x (asks p x)
pair-asks p x =
    let more : SenderState = record x { asked = set.union x.asked (range p.0 (min p.1 x.sent)) } in
    cond_both ((p.0 == 0) && (p.1 == 0)) (record x { metadata_due = true }) (if nat_lt p.0 (min p.1 x.sent) then more else x) (AsksOnly x)
    (λ _. record { phase = refl; size = refl; sent = refl; prompt_due = refl; eof_due = refl; eof_taken = refl; ack_due = refl })
    (λ _. cond_both (nat_lt p.0 (min p.1 x.sent)) more x (AsksOnly x)
    (λ _. record { phase = refl; size = refl; sent = refl; prompt_due = refl; eof_due = refl; eof_taken = refl; ack_due = refl })
    (λ _. same_asks x))

both_ask : (x y z : SenderState) → AsksOnly x y → AsksOnly y z → AsksOnly x z
both_ask x y z a b = record {
  phase = b.phase ∙ a.phase;
  size = b.size ∙ a.size;
  sent = b.sent ∙ a.sent;
  prompt_due = b.prompt_due ∙ a.prompt_due;
  eof_due = b.eof_due ∙ a.eof_due;
  eof_taken = b.eof_taken ∙ a.eof_taken;
  ack_due = b.ack_due ∙ a.ack_due;
}

all-ask : (ps : List (ℕ × ℕ)) (x : SenderState) → AsksOnly x (asks_all ps x)
all-ask [] x = same_asks x
all-ask (p ∷ ps) x = both_ask x (asks p x) (asks_all ps (asks p x)) (pair-asks p x) (all-ask ps (asks p x))

flag : (b : Bool) → (if b then 7 else 0) ≤ 7
flag b = cond_both b 7 0 (λ n. n ≤ 7) (λ _. omega arith) (λ _. omega arith)

asks-works : (most : ℕ) (x x1 : SenderState) → x.size ≤ most → x.phase ≡ Sending → AsksOnly x x1 → sender_work most x1 ≤ sender_work most x + 7 * most + 7
asks-works most x x1 within sends a =
    let sends1 : x1.phase ≡ Sending = a.phase ∙ sends in
    let count : count_below x1.asked x1.size ≤ x1.size = count-within x1.asked x1.size in
    let small : x1.size ≤ most = subst (λ n. n ≤ most) (sym a.size) within in
    rw (sends, sends1, a.sent, a.prompt_due, a.eof_due, a.eof_taken, a.ack_due) (omega (arith, flag x1.metadata_due, count, small, a.size, ap (λ n. x.size - n) a.sent))

-- pairs of a NAK, all or some of them
pub nak-works : (most : ℕ) (phase : SenderPhase) (pairs : List (ℕ × ℕ)) (x : SenderState) → x.size ≤ most → x.phase ≡ phase → sender_work most (asks_in phase pairs x) ≤ sender_work most x + 7 * most
    + 7
nak-works most Sending pairs x within is = asks-works most x (asks_all pairs x) within is (all-ask pairs x)
nak-works most Cancelling pairs x within is = omega arith
nak-works most Closed pairs x within is = omega arith

ack-works : (most : ℕ) (phase : SenderPhase) (condition : ℕ) (x : SenderState) → x.phase ≡ phase → sender_work most (hears_ack phase condition x).sender ≤ sender_work most x
ack-works most Sending condition x is =
    cond_both (x.eof_taken && (condition == no_error)) (record x { acknowledged = true; eof_due = false }) x (λ (y : SenderState). sender_work most y ≤ sender_work most x)
    (λ _. rw is (omega (arith, less x.eof_due x.eof_taken))) (λ _. omega arith)
  where
    less : (a b : Bool) → eof_work most false b ≤ eof_work most a b
    less true true = omega arith
    less true false = omega arith
    less false b = omega arith
ack-works most Cancelling condition x is =
    cond_both (condition == x.condition) (hearing _ (closed x)) (hearing [] x) (λ (a : SenderAfter). sender_work most a.sender ≤ sender_work most x)
    (λ _. rw is (omega arith)) (λ _. omega arith)
ack-works most Closed condition x is = omega arith

finished-works : (most : ℕ) (x : SenderState) (outcome : Outcome) → sender_work most (sender_hears_finished outcome x).sender ≤ sender_work most x + 2
finished-works most x outcome = omega arith

-- A PDU that is heard leaves less than the sender and the PDU had.
abbrev Leaves : ℕ → Content → SenderState → SenderAfter → Type 0
Leaves most v x a = sender_work most a.sender + 1 ≤ sender_work most x + content_work most v

pub sender-hears-works : (most : ℕ) (v : Content) (x : SenderState) (a : SenderAfter) → x.size ≤ most → sender_after v x ≡ Some a → sender_work most a.sender + 1 ≤ sender_work most x
    + content_work most v
sender-hears-works most (Ack acknowledged.Eof condition status) x a within e =
    subst (Leaves most (Ack acknowledged.Eof condition status) x) (sym (some_is _ a e)) (omega (arith, ack-works most x.phase condition x refl))
sender-hears-works most (Finished condition delivery status tlvs) x a within e =
    subst (Leaves most (Finished condition delivery status tlvs) x) (sym (some_is _ a e))
    (omega (arith, finished-works most x (record { condition = condition; delivery = delivery; status = status })))
sender-hears-works most (Nak start end pairs) x a within e = subst (Leaves most (Nak start end pairs) x) (sym (some_is _ a e)) (omega (arith, nak-works most x.phase pairs x within refl))
sender-hears-works most (KeepAlive progress) x a within e = subst (Leaves most (KeepAlive progress) x) (sym (some_is _ a e)) (omega arith)
sender-hears-works most (Ack acknowledged.Finished condition status) x a within e = absurd cc
sender-hears-works most (FileData offset bytes) x a within e = absurd cc
sender-hears-works most (Metadata kind size source destination options) x a within e = absurd cc
sender-hears-works most (Eof condition checksum size tlvs) x a within e = absurd cc
sender-hears-works most (Prompt keep_alive) x a within e = absurd cc
