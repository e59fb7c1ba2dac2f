-- What one step of a sender does to it, as the course of its put sees it.
use Rattle.std.proofs.Common.{◌≡◌, ◌⊎◌, ℕ, ◌≤◌, true, false, is_some}
use Rattle.cfdp_directives.specs.Pdu.Content.{Content}
use Rattle.cfdp_directives.specs.User.Put.{Put}
use Rattle.cfdp_sender.specs.State.{SenderState}
use Rattle.link_sim.specs.Course.{owes_metadata, owes_octet}
use Rattle.link_sim.specs.Exchange.{is_metadata, is_eof, is_ack_of_finished, brings, IsTrueForth}

-- It sends this PDU.
pub record Sends (put : Put) (v : Content) (x x1 : SenderState) : Type 0 where
  pub suspended : x1.suspended ≡ x.suspended
  pub phase : x1.phase ≡ x.phase
  pub acknowledged : x1.acknowledged ≡ x.acknowledged
  pub is_true : IsTrueForth put v
  pub all_sent : x1.eof_taken ≡ true → x1.size ≤ x1.sent
  pub taken : x.eof_taken ≡ true → x1.eof_taken ≡ true
  pub taken_now : is_eof v ≡ true → x1.eof_taken ≡ true
  pub eof : x.eof_taken ≡ false → (x1.eof_taken ≡ false) ⊎ (is_eof v ≡ true)
  pub eof_due : x.eof_due ≡ true → (x1.eof_due ≡ true) ⊎ (is_eof v ≡ true)
  pub metadata : owes_metadata x ≡ true → (owes_metadata x1 ≡ true) ⊎ (is_metadata v ≡ true)
  pub octets : (n : ℕ) → owes_octet n x ≡ true → (owes_octet n x1 ≡ true) ⊎ (brings n v ≡ true)
  pub ack : is_some x.ack_due ≡ true → (is_some x1.ack_due ≡ true) ⊎ (is_ack_of_finished v ≡ true)
  pub ack_due : is_some x1.ack_due ≡ true → is_some x.ack_due ≡ true
  pub acks : is_ack_of_finished v ≡ true → is_some x.ack_due ≡ true

-- It hears a PDU that is no Finished, a timer of it expires, or its user calls.
pub record Stays (x x1 : SenderState) : Type 0 where
  pub size : x1.size ≡ x.size
  pub sent : x1.sent ≡ x.sent
  pub phase : x1.phase ≡ x.phase
  pub eof : x1.eof_taken ≡ x.eof_taken
  pub ack : x1.ack_due ≡ x.ack_due
  pub metadata : owes_metadata x ≡ true → owes_metadata x1 ≡ true
  pub octets : (n : ℕ) → owes_octet n x ≡ true → owes_octet n x1 ≡ true
  pub acknowledged : x.acknowledged ≡ true → x1.acknowledged ≡ true
