-- Options: each an octet of type, one of length, and that many octets (TLV).
use Rattle.std.specs.Prelude.{◌≡◌, ◌*◌, ℕ, zero, suc, ◌≤◌, Bool, true, List, [], ◌∷◌, length, take, drop, Option, Some, None, is_some, nat_le, ◌==◌, ◌&&◌, if◌then◌else◌}
use Rattle.std.specs.Option.{option_map}
use Rattle.cfd_bits.specs.Field.{field, octets}
use Rattle.cfdp_directives.specs.declared.pdu.tlv.Form.{Form}
use Rattle.cfdp_directives.specs.declared.pdu.tlv.Form.TheVariants as form

pub record Tlv : Type 0 where
  pub kind : ℕ
  pub value : List ℕ

-- the octets of an option (CCSDS 727.0-B-5, 5.1.9)
abbrev pub tlv : Tlv → List ℕ
tlv t = t.kind ∷ length t.value ∷ t.value

-- the options that fill the octets, at most so many
unfoldable pub tlvs_at : ℕ → List ℕ → Option (List Tlv)
tlvs_at count [] = Some []
tlvs_at zero (kind ∷ rest) = None
tlvs_at (suc count) (kind ∷ []) = None
tlvs_at (suc count) (kind ∷ len ∷ rest) =
    if nat_le len (length rest)
    then option_map (λ ts. record { kind = kind; value = take len rest } ∷ ts)
    (tlvs_at count (drop len rest))
    else None

-- the options that fill the octets, if some do
unfoldable pub tlvs_of : List ℕ → Option (List Tlv)
tlvs_of bytes = tlvs_at (length bytes) bytes

-- the type of a fault location (CCSDS 727.0-B-5, table 5-2)
abbrev fault_location_kind : ℕ
fault_location_kind = 6

-- true if an option names an entity: a fault location of 1 to 8 octets
abbrev is_location : Tlv → Bool
is_location t = (t.kind == fault_location_kind)
    && (nat_le 1 (length t.value) && nat_le (length t.value) 8)

-- the entity that the first fault location names
abbrev pub location_of : List Tlv → Option ℕ
location_of [] = None
location_of (t ∷ ts) = if is_location t then Some (field t.value 0 (8 * length t.value))
    else location_of ts

-- the fault location that names an entity by so many octets
abbrev pub fault_location : ℕ → ℕ → Tlv
fault_location entity width = record { kind = fault_location_kind; value = octets width entity }

-- options as they lie in octets read, or in octets made
abbrev pub octets_in : Form → List ℕ
octets_in (form.Read octets) = octets.now
octets_in (form.Made octets len) = take len octets

-- What is kept is octets that options fill.
abbrev pub IsWhole : Form → Type 0
IsWhole (form.Read octets) = is_some (tlvs_of octets.now) ≡ true
IsWhole (form.Made octets len) = (len ≤ 10) × (is_some (tlvs_of (take len octets)) ≡ true)
