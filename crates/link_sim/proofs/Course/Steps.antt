-- What one step of a receiver changes of the course of a put: by a PDU that it hears, and by all else.
use Rattle.std.proofs.Common.{◌≡◌, ◌⊎◌, ℕ, Bool, true, false, List, Option}
use Rattle.cfdp_directives.specs.declared.user.indication.Indication.{Indication}
use Rattle.cfdp_directives.specs.Pdu.Content.{Content}
use Rattle.cfdp_directives.specs.User.Put.{Put}
use Rattle.cfdp_receiver.specs.State.{ReceiverState}
use Rattle.link_sim.specs.Course.{IsReceiverTrue}
use Rattle.link_sim.specs.Exchange.{is_metadata, is_eof, is_finished, is_ack_of_finished, is_ack_of_eof, brings, one_says, IsTrueBack, AllTrue, knows_metadata, knows_ending, holds, has_ended, if_ended, has_finished, finishes, is_closed, finished_is_due, is_no_error, owes_ack, tells_complete}
use Rattle.link_sim.specs.Waiting.{one_tells}

-- what a PDU leaves: more is known and held than before, and a Finished is due once it is complete
pub record Advances (put : Put) (v : Content) (r r1 : ReceiverState) (told : List Indication) : Type 0 where
  pub clean : IsReceiverTrue put r1
  pub metadata : (knows_metadata r ≡ true) ⊎ (is_metadata v ≡ true) → knows_metadata r1 ≡ true
  pub ending : (knows_ending r ≡ true) ⊎ (is_eof v ≡ true) → knows_ending r1 ≡ true
  pub held : (n : ℕ) → (holds n r ≡ true) ⊎ (brings n v ≡ true) → holds n r1 ≡ true
  pub ended : has_ended r ≡ true → has_ended r1 ≡ true
  pub finished : has_finished r ≡ true → has_finished r1 ≡ true
  pub due : finishes r1 ≡ true → (finished_is_due r1 ≡ true) ⊎ ((finishes r ≡ true) × (finished_is_due r1 ≡ finished_is_due r))
  pub closes : is_closed r1 ≡ true → (is_closed r ≡ true) ⊎ (is_ack_of_finished v ≡ true)
  pub closed : (is_closed r ≡ true) ⊎ ((is_ack_of_finished v ≡ true) × (has_finished r ≡ true)) → is_closed r1 ≡ true
  pub tells : has_ended r1 ≡ true → (has_ended r ≡ true) ⊎ (one_tells (tells_complete put.id) told ≡ true)
  pub active : r.suspended ≡ false → r1.suspended ≡ false
  pub heard : knows_ending r1 ≡ true → (knows_ending r ≡ true) ⊎ (is_eof v ≡ true)
  pub acks : (owes_ack r ≡ true) ⊎ (is_eof v ≡ true) → owes_ack r1 ≡ true
  pub ack_new : owes_ack r1 ≡ true → (owes_ack r ≡ true) ⊎ (is_eof v ≡ true)

-- ---- it sends, a timer of it expires, it is suspended or resumed
-- what changes then
abbrev pub changed : ReceiverState → Bool → Option ℕ → Option ℕ → Bool → Bool → Bool → ℕ → ℕ → ReceiverState
changed r suspended ack cursor keep_alive due taken naks finisheds = record r {
  suspended = suspended;
  ack_due = ack;
  nak_cursor = cursor;
  keep_alive_due = keep_alive;
  finished_due = due;
  finished_taken = taken;
  nak_count = naks;
  finished_count = finisheds;
}

-- `more` is what it sends
pub record Does (r : ReceiverState) (ack : Option ℕ) (due taken : Bool) (more : List Content) : Type 0 where
  pub truth : AllTrue IsTrueBack more
  pub owes : r.finished_due ≡ true → (due ≡ true) ⊎ (one_says is_finished more ≡ true)
  pub still : has_finished r ≡ true → if_ended r.phase taken ≡ true
  pub new : one_says is_finished more ≡ true → if_ended r.phase taken ≡ true
  pub ack_due : is_no_error ack ≡ true → owes_ack r ≡ true
  pub acks : one_says is_ack_of_eof more ≡ true → owes_ack r ≡ true
  pub kept : owes_ack r ≡ true → (is_no_error ack ≡ true) ⊎ (one_says is_ack_of_eof more ≡ true)
