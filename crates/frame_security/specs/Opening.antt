-- The receiving end, which verifies frames (ProcessSecurity of CCSDS 355.0-B-2).
use Rattle.std.specs.Prelude.{ℕ, ◌+◌, nat_le, Bool, not, ◌==◌, if◌then◌else◌, Option, Some, None, List, length}
use Rattle.std.specs.Str.{bytes_eq}
use Rattle.cfd_bits.specs.Counting.{raised}
use Rattle.aos_frame.specs.LinkFields.{bare_in, fields_fault}
use Rattle.aos_frame.specs.declared.opening.FieldsFault.{FieldsFault}
use Rattle.aos_frame.specs.declared.opening.FieldsFault.TheVariants as fault
use Rattle.frame_security.specs.declared.config.Security.{Security}
use Rattle.frame_security.specs.declared.opening.Association.{Association}
use Rattle.frame_security.specs.declared.opening.FrameRefusal.{FrameRefusal}
use Rattle.frame_security.specs.declared.opening.FrameRefusal.TheVariants.{Short, Damaged, UnknownSpi, NotAuthentic, Replayed}
use Rattle.frame_security.specs.declared.opening.Refused.{Refused}
use Rattle.frame_security.specs.Frames.{mac_in, mac_of, number_in, spi_in, text_in}

-- its configuration; the latest and the former key, each with its SPI; the sequence number of the
-- frame that it accepted last; and how many frames it refused
pub record OpenerState : Type 0 where
  pub security : Security
  pub latest : Association
  pub former : Option Association
  pub last : ℕ
  pub refused : Refused

abbrev pub begun : Security → (spi : ℕ) → (key : List ℕ) → (last : ℕ) → OpenerState
begun security spi key last = record {
  security = security;
  latest = record { spi = spi; key = key };
  former = None;
  last = last;
  refused = record { short = 0; damaged = 0; unknown_spi = 0; not_authentic = 0; replayed = 0 };
}

-- ---- keys
-- this key becomes the latest one, and the latest one the former
abbrev pub with_key : (spi : ℕ) → (key : List ℕ) → OpenerState → OpenerState
with_key spi key o = record o {
  latest = record { spi = spi; key = key };
  former = Some o.latest;
}

-- the key of an association, if it has this SPI
abbrev pub key_at : Option Association → ℕ → Option (List ℕ)
key_at None spi = None
key_at (Some a) spi = if a.spi == spi then Some a.key else None

-- the key of an SPI; if both keys have it, the latest one
abbrev pub key_of : OpenerState → ℕ → Option (List ℕ)
key_of o spi = if o.latest.spi == spi then Some o.latest.key else key_at o.former spi

-- ---- refusals
-- true if the MAC that was received is the MAC of all octets before it
abbrev pub is_authentic : Security → (key octets : List ℕ) → Bool
is_authentic s key octets = bytes_eq (mac_of s key (text_in s octets)) (mac_in s octets)

-- what is wrong with octets under the key of their SPI, if there is one; the sequence number must
-- be greater than the last frame's
abbrev pub key_fault : Security → Option (List ℕ) → (last : ℕ) → (octets : List ℕ) → Option FrameRefusal
key_fault s None last octets = Some UnknownSpi
key_fault s (Some key) last octets =
    if not (is_authentic s key octets) then Some NotAuthentic
    else if nat_le (number_in octets) last then Some Replayed
    else None

-- what is wrong with a secured frame without the fields of the link: the first cause, or none
abbrev pub bare_fault : OpenerState → (octets : List ℕ) → Option FrameRefusal
bare_fault o octets =
    if not (nat_le (16 + o.security.mac_len) (length octets)) then Some Short
    else key_fault o.security (key_of o (spi_in octets)) o.last octets

abbrev pub fault_refusal : FieldsFault → FrameRefusal
fault_refusal fault.Short = Short
fault_refusal fault.Damaged = Damaged

abbrev pub refusal_by : Option FieldsFault → Option FrameRefusal → Option FrameRefusal
refusal_by (Some f) behind = Some (fault_refusal f)
refusal_by None behind = behind

-- why octets that were received are refused: the first cause, or none. The fields of the link come
-- first.
abbrev pub refusal : OpenerState → (frame : List ℕ) → Option FrameRefusal
refusal o frame = refusal_by (fields_fault o.security.fields frame)
    (bare_fault o (bare_in o.security.fields frame))

-- ---- what a frame changes
-- the counts after one more refusal for this cause
abbrev pub counted : FrameRefusal → Refused → Refused
counted Short r = record r { short = raised r.short }
counted Damaged r = record r { damaged = raised r.damaged }
counted UnknownSpi r = record r { unknown_spi = raised r.unknown_spi }
counted NotAuthentic r = record r { not_authentic = raised r.not_authentic }
counted Replayed r = record r { replayed = raised r.replayed }

-- An accepted frame sets the last sequence number. A refused one changes nothing but a count.
abbrev pub after_by : Option FrameRefusal → (number : ℕ) → OpenerState → OpenerState
after_by None number o = record o { last = number }
after_by (Some cause) number o = record o { refused = counted cause o.refused }

abbrev pub after : OpenerState → (frame : List ℕ) → OpenerState
after o frame = after_by (refusal o frame) (number_in (bare_in o.security.fields frame)) o
