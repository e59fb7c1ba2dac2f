-- The frames of a link with the fields that they may have beside the header and the M_PDU (CCSDS
-- 732.0-B-4, 4.1.3, 4.1.5, 4.1.6). A bare frame has none of these.
use Rattle.std.specs.Prelude.{ℕ, ◌+◌, ◌-◌, ◌≤◌, nat_le, Bool, false, not, ◌&&◌, if◌then◌else◌, Option, Some, None, List, [], ◌++◌, length, take, drop, replicate}
use Rattle.cfd_bits.specs.Field.{field, octets}
use Rattle.crc.specs.Checks.{crc16_of, ends_in_check}
use Rattle.aos_frame.specs.declared.fields.FrameFields.{FrameFields}
use Rattle.aos_frame.specs.declared.fields.FieldsField.{FieldsField}
use Rattle.aos_frame.specs.declared.fields.FieldsField.TheVariants.{InsertZone}
use Rattle.aos_frame.specs.declared.opening.FieldsFault.{FieldsFault}
use Rattle.aos_frame.specs.declared.opening.FieldsFault.TheVariants.{Short, Damaged}

-- Fields that can be: an insert zone must have at most 64 octets.
pub record AreFields (fields : FrameFields) : Type 0 where
  pub insert_zone : fields.insert_zone ≤ 64

abbrev pub FitsFields : FieldsField → FrameFields → Type 0
FitsFields InsertZone fields = fields.insert_zone ≤ 64

-- frames with no such fields
abbrev pub no_fields : FrameFields
no_fields = record { insert_zone = 0; control_field = false; error_control = false }

-- ---- how long they are
abbrev pub control_len : FrameFields → ℕ
control_len fields = if fields.control_field then 4 else 0

abbrev pub check_len : FrameFields → ℕ
check_len fields = if fields.error_control then 2 else 0

-- by how many octets a frame is longer than a bare one
abbrev pub extra : FrameFields → ℕ
extra fields = fields.insert_zone + control_len fields + check_len fields

-- ---- what is sent
-- the operational control field (4.1.5)
abbrev pub control_octets : FrameFields → ℕ → List ℕ
control_octets fields control = if fields.control_field then octets 4 control else []

-- with the frame error control field (4.1.6): the check of all before it
abbrev pub guarded : FrameFields → List ℕ → List ℕ
guarded fields text = if fields.error_control then text ++ octets 2 (crc16_of text) else text

-- the frame: the header of the bare one, the insert zone (4.1.3), the M_PDU, and the fields after
-- it
abbrev pub sealed : FrameFields → List ℕ → ℕ → List ℕ
sealed fields bare control = guarded fields
    (take 6 bare ++ replicate fields.insert_zone 0 ++ drop 6 bare ++ control_octets fields control)

-- ---- what is taken
-- true if the last two octets are the check of all before them
abbrev pub is_intact : List ℕ → Bool
is_intact frame = ends_in_check frame

-- why octets are no frame with these fields: the first cause in this order, or none
abbrev pub fields_fault : FrameFields → List ℕ → Option FieldsFault
fields_fault fields frame =
    if not (nat_le (6 + extra fields) (length frame)) then Some Short
    else if fields.error_control && not (is_intact frame) then Some Damaged
    else None

abbrev pub insert_in : FrameFields → List ℕ → List ℕ
insert_in fields frame = take fields.insert_zone (drop 6 frame)

-- what stands after the insert zone
abbrev pub behind_insert : FrameFields → List ℕ → List ℕ
behind_insert fields frame = drop fields.insert_zone (drop 6 frame)

-- the octets of the M_PDU: all that the header and the fields leave
abbrev pub mpdu_len : FrameFields → List ℕ → ℕ
mpdu_len fields frame = length frame - 6 - extra fields

abbrev pub mpdu_in : FrameFields → List ℕ → List ℕ
mpdu_in fields frame = take (mpdu_len fields frame) (behind_insert fields frame)

-- the header and the M_PDU as a bare frame has them, one after the other
abbrev pub bare_in : FrameFields → List ℕ → List ℕ
bare_in fields frame = take 6 frame ++ mpdu_in fields frame

-- the operational control field, at the front of what stands after the M_PDU
abbrev pub control_of : FrameFields → List ℕ → Option ℕ
control_of fields behind = if fields.control_field then Some (field behind 0 32) else None

abbrev pub control_in : FrameFields → List ℕ → Option ℕ
control_in fields frame =
    control_of fields (drop (mpdu_len fields frame) (behind_insert fields frame))
