-- The PDU that says what is due, as it is written.
use Rattle.std.specs.Prelude.{◌≡◌, ◌≤◌, ℕ, List, take, drop}
use Rattle.cfdp_directives.specs.Pdu.Addressing.{header_of, written_len}
use Rattle.cfdp_directives.specs.Pdu.Codes.{file_size_octets}
use Rattle.cfdp_directives.specs.Pdu.Content.{Content}
use Rattle.cfdp_directives.specs.Pdu.Written.{content_len, FitsContent, CanWrite, pdu_octets}
use Rattle.cfdp_receiver.specs.declared.due.Due.{Due}
use Rattle.cfdp_receiver.specs.State.{ReceiverState}
use Rattle.cfdp_receiver.specs.Due.{receiver_says}

-- octets of it, its header and its CRC too
abbrev pub said_len : ReceiverState → Due → ℕ
said_len r d = written_len r.addressing r.large (receiver_says r d)

-- It can be written.
abbrev pub CanSay : ReceiverState → Due → Type 0
CanSay r d = let v = receiver_says r d in CanWrite (header_of r.addressing r.large v) v

-- It has so many octets, and can be written.
pub record IsLenOf (r : ReceiverState) (d : Due) (octets : ℕ) : Type 0 where
  pub len : octets ≡ said_len r d
  pub short : octets ≤ 4128
  pub can_write : CanSay r d

-- This is what it says, and fits into it.
pub record Says (r : ReceiverState) (d : Due) (v : Content) : Type 0 where
  pub says : v ≡ receiver_says r d
  pub fits : FitsContent (file_size_octets r.large) v
  pub short : content_len (file_size_octets r.large) v ≤ 4098

-- So many octets were written, those of this PDU, and the octets after stay.
pub record Writes (r : ReceiverState) (d : Due) (octets : ℕ) (out_before out_now : List ℕ)
    : Type 0 where
  pub len : octets ≡ said_len r d
  pub front : let v = receiver_says r d in
      take octets out_now ≡ pdu_octets (header_of r.addressing r.large v) v
  pub behind : drop octets out_now ≡ drop octets out_before
