-- The ACK of a Finished if its transaction has no record.
use Rattle.std.specs.Prelude.{ℕ, Bool, List, [], ◌∷◌, Some}
use Rattle.cfdp_directives.specs.declared.pdu.addressing.Addressing.{Addressing}
use Rattle.cfdp_directives.specs.declared.pdu.codes.Acknowledged.{Acknowledged}
use Rattle.cfdp_directives.specs.declared.pdu.codes.Acknowledged.TheVariants as acknowledged
use Rattle.cfdp_directives.specs.declared.pdu.codes.TransactionStatus.{TransactionStatus}
use Rattle.cfdp_directives.specs.declared.pdu.codes.TransactionStatus.TheVariants.{Terminated, Unrecognized}
use Rattle.cfdp_header.specs.declared.value.Header.{Header}
use Rattle.cfdp_directives.specs.Pdu.Addressing.{addressing_of}
use Rattle.cfdp_directives.specs.Pdu.Content.{Content, Ack}
use Rattle.cfdp_entity.specs.Seen.{octets_of, len_of}

-- what the header of a Finished or an EOF has in common with its answer, its large file flag too,
-- which of both is acknowledged, the condition that it had, and what is known of the transaction
pub record StrayAck : Type 0 where
  pub addressing : Addressing
  pub large : Bool
  pub of : Acknowledged
  pub condition : ℕ
  pub status : TransactionStatus

-- the answer to a Finished if its transaction isn't known here (CCSDS 727.0-B-5, table 5-8,
-- Unrecognized)
abbrev pub unknown_ack : Header → ℕ → StrayAck
unknown_ack h condition = record {
  addressing = addressing_of h;
  large = h.large;
  of = acknowledged.Finished;
  condition = condition;
  status = Unrecognized;
}

-- the answer to a Finished or an EOF if its transaction was discarded: it is over (table 5-8,
-- Terminated)
abbrev pub over_ack : Header → Acknowledged → ℕ → StrayAck
over_ack h of condition = record {
  addressing = addressing_of h;
  large = h.large;
  of = of;
  condition = condition;
  status = Terminated;
}

abbrev pub stray_says : StrayAck → Content
stray_says s = Ack s.of s.condition s.status

abbrev pub stray_octets : StrayAck → List ℕ
stray_octets s = octets_of s.large s.addressing (Some (stray_says s))

abbrev pub stray_len : StrayAck → ℕ
stray_len s = len_of s.large s.addressing (Some (stray_says s))

-- the octets of the first that waits, 0 if none does
abbrev pub first_stray_len : List StrayAck → ℕ
first_stray_len [] = 0
first_stray_len (s ∷ strays) = stray_len s

-- the most that wait
abbrev pub most_strays : ℕ
most_strays = 64
