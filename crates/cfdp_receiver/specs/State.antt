-- What a receiver of one transaction keeps (CCSDS 727.0-B-5, 4.6.1.2 and 4.6.4).
use Rattle.std.specs.Prelude.{◌≡◌, ◌||◌, ℕ, ◌<◌, ◌≤◌, Bool, true, false, Option, None, Some, IfSome, IsSome}
use Rattle.std.specs.FinMap as map
use Rattle.std.specs.FinSet as set
use Rattle.cfdp_header.specs.declared.value.TransactionId.{TransactionId}
use Rattle.cfdp_directives.specs.declared.pdu.addressing.Addressing.{Addressing}
use Rattle.cfdp_directives.specs.declared.user.telling.Outcome.{Outcome}
use Rattle.cfdp_directives.specs.Pdu.Addressing.{FitsAddressing}
use Rattle.cfdp_directives.specs.declared.pdu.sums.Checksums.{Checksums}
use Rattle.cfdp_directives.specs.Pdu.Codes.{size_limit}
use Rattle.cfdp_directives.specs.Pdu.Sums.{nothing_summed}
use Rattle.cfdp_directives.specs.declared.user.phase.Phase.{Phase}
use Rattle.cfdp_directives.specs.declared.user.phase.Phase.TheVariants as phase
use Rattle.cfdp_extents.specs.Offsets.{Offsets}
use Rattle.cfdp_store.specs.Staged.{OctetMap, staged_for}
use Rattle.cfdp_receiver.specs.declared.state.ReceiverPhase.{ReceiverPhase}
use Rattle.cfdp_receiver.specs.declared.state.ReceiverPhase.TheVariants.{Receiving, Finishing, Closed}
use Rattle.cfdp_receiver.specs.declared.state.FileInfo.{FileInfo}
use Rattle.cfdp_receiver.specs.declared.state.Ending.{Ending}

pub record ReceiverState : Type 0 where
  -- the transaction, and how its first PDU was written: answers are written so too
  pub addressing : Addressing
  -- `true` if a PDU with the large file flag was heard: answers have it from then on
  pub large : Bool
  pub phase : ReceiverPhase
  pub suspended : Bool
  -- what the first Metadata said, and the first EOF without an error
  pub metadata : Option FileInfo
  pub ending : Option Ending
  -- the offsets held, and what is kept of their octets for the file's checksum
  pub held : Offsets
  pub sums : Checksums
  -- the condition of the EOF heard last, if an ACK of EOF is due
  pub ack_due : Option ℕ
  -- the offset from which a NAK is due, if one is
  pub nak_cursor : Option ℕ
  pub keep_alive_due : Bool
  pub finished_due : Bool
  pub finished_taken : Bool
  -- how the transaction ended
  pub outcome : Option Outcome
  -- how often what is missing was asked for again, and how often Finished was sent again
  pub nak_count : ℕ
  pub finished_count : ℕ

-- the checksum type of the file, if Metadata said it
abbrev pub kind_told : Option FileInfo → Option ℕ
kind_told (Some info) = Some info.checksum_kind
kind_told None = None

-- a receiver that has heard nothing yet
abbrev pub opened_receiver : Addressing → ReceiverState
opened_receiver addressing = record {
  addressing = addressing;
  large = false;
  phase = Receiving;
  suspended = false;
  metadata = None;
  ending = None;
  held = set.empty;
  sums = nothing_summed;
  ack_due = None;
  nak_cursor = None;
  keep_alive_due = false;
  finished_due = false;
  finished_taken = false;
  outcome = None;
  nak_count = 0;
  finished_count = 0;
}

-- a receiver that heard a PDU with this large file flag
abbrev pub flagged : Bool → ReceiverState → ReceiverState
flagged large r = record r { large = r.large || large }

abbrev pub is_receiving : ReceiverPhase → Bool
is_receiving Receiving = true
is_receiving Finishing = false
is_receiving Closed = false

abbrev pub is_finishing : ReceiverPhase → Bool
is_finishing Receiving = false
is_finishing Finishing = true
is_finishing Closed = false

-- the phase that callers see
abbrev pub public_phase : ReceiverPhase → Phase
public_phase Receiving = phase.Receiving
public_phase Finishing = phase.Finishing
public_phase Closed = phase.Closed

-- What must hold of every receiver: its transaction can be written in its widths, it is suspended
-- only while it receives, and each offset that it may have to write is at most the greatest size,
-- by the large file flag that it writes.
pub record IsReceiver (addressing : Addressing) (large : Bool) (phase : ReceiverPhase)
    (suspended : Bool) (ending : Option Ending) (held : Offsets) (nak_cursor : Option ℕ)
    : Type 0 where
  pub addressing_fits : FitsAddressing addressing
  pub suspended_receives : suspended ≡ true → phase ≡ Receiving
  pub held_below : (n : ℕ) → set.contains held n ≡ true → n < size_limit large
  pub size_below : phase ≡ Receiving → IfSome ending (λ e. e.size ≤ size_limit large)
  pub cursor_below : IfSome nak_cursor (λ cursor. cursor ≤ size_limit large)

-- While it receives, its transaction must be begun in the inbox, and what is held is staged there.
pub record IsReady (staged : TransactionId → Option OctetMap) (r : ReceiverState) : Type 0 where
  pub begun : r.phase ≡ Receiving → IsSome (staged r.addressing.id)
  pub backed : r.phase ≡ Receiving → (n : ℕ) → set.contains r.held n ≡ true
      → IsSome (map.get (staged_for staged r.addressing.id) n)
