-- The CRC that a PDU may end in (CCSDS 727.0-B-5, 4.1): its last two octets, the check of all
-- before them. They are the last ones of its data field, and are counted as such.
use Rattle.std.specs.Prelude.{ℕ, ◌+◌, ◌-◌, nat_le, ◌&&◌, Bool, true, false, List, ◌++◌, length, take}
use Rattle.cfd_bits.specs.Field.{octets}
use Rattle.crc.specs.Checks.{crc16_of, ends_in_check}

-- octets of the CRC, by the CRC flag
abbrev pub crc_len : Bool → ℕ
crc_len true = 2
crc_len false = 0

-- the octets before the CRC, and the octets with it
abbrev pub with_crc : Bool → List ℕ → List ℕ
with_crc true text = text ++ octets 2 (crc16_of text)
with_crc false text = text

-- a data field without the CRC at its end
abbrev pub before_crc : Bool → List ℕ → List ℕ
before_crc true d = take (length d - 2) d
before_crc false d = d

-- true if a PDU whose header has this CRC flag and so many octets has the CRC that the flag asks
-- for
abbrev pub has_crc : Bool → ℕ → List ℕ → Bool
has_crc true len text = nat_le (len + 2) (length text) && ends_in_check text
has_crc false len text = true
