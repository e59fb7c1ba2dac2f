-- The M_PDU header before a packet zone (CCSDS 732.0-B-4, 4.1.4.2.2): 5 spare bits, and the first
-- header pointer.
use Rattle.std.specs.Prelude.{ℕ, List}
use Rattle.cfd_bits.specs.Field.{field, octets}

-- the pointer, whatever the spare bits are
abbrev pub pointer_of : List ℕ → ℕ
pointer_of mpdu = field mpdu 5 11

-- its written spelling, the spare bits 0
abbrev pub pointer_octets : ℕ → List ℕ
pointer_octets pointer = octets 2 pointer
