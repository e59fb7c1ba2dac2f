-- Which way a PDU goes between the two ends of a transaction, and for which entity it is.
use Rattle.std.specs.Prelude.{ℕ, ◌==◌, ◌&&◌, Bool}
use Rattle.cfdp_header.specs.Header.{direction_bit}
use Rattle.cfdp_header.specs.declared.value.Direction.{Direction}
use Rattle.cfdp_header.specs.declared.value.Direction.TheVariants.{TowardReceiver, TowardSender}
use Rattle.cfdp_header.specs.declared.value.Header.{Header}
use Rattle.cfdp_directives.specs.declared.pdu.codes.Acknowledged.TheVariants as acknowledged
use Rattle.cfdp_directives.specs.Pdu.Content.{Content, Finished, Ack, Nak, KeepAlive}

-- which way a PDU goes: toward the file's sender Finished, NAK, Keep Alive and ACK of EOF
-- (CCSDS 727.0-B-5, table 5-1)
abbrev pub direction_of : Content → Direction
direction_of (Finished condition delivery status tlvs) = TowardSender
direction_of (Nak start end pairs) = TowardSender
direction_of (KeepAlive progress) = TowardSender
direction_of (Ack acknowledged.Eof condition status) = TowardSender
direction_of _ = TowardReceiver

-- true if the direction bit of the header is right for what the PDU says
abbrev pub direction_fits : Header → Content → Bool
direction_fits h v = direction_bit h.direction == direction_bit (direction_of v)

-- true if what goes this way between a transaction's source and its destination is for the entity
-- `own`, from the entity `peer`: toward the sender it goes from the destination to the source,
-- toward the receiver from the source to the destination
abbrev pub goes_to : Direction → (source destination own peer : ℕ) → Bool
goes_to TowardSender source destination own peer = (source == own) && (destination == peer)
goes_to TowardReceiver source destination own peer = (source == peer) && (destination == own)

-- true if a PDU with this header is for the entity `own`, from the entity `peer`
abbrev pub is_for : ℕ → ℕ → Header → Bool
is_for own peer h = goes_to h.direction h.id.source h.destination own peer
