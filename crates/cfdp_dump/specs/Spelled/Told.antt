-- What a dump shows of octets, in each of its forms.
use Rattle.std.specs.Prelude.{◌≡◌, ◌⊎◌, ℕ, List, ◌++◌, codes, length, Some}
use Rattle.cfdp_header.specs.declared.value.Header.{Header}
use Rattle.cfdp_directives.specs.declared.pdu.error.PduError.{PduError}
use Rattle.cfdp_directives.specs.declared.pdu.content.Pdu as pdus
use Rattle.cfdp_directives.specs.Pdu.Faults.{pdu_fault}
use Rattle.cfdp_directives.specs.Pdu.Content.{view}
use Rattle.cfdp_directives.specs.Pdu.Grammar.{SpellsPdu}
use Rattle.aos_frame.specs.declared.header.FrameHeader.{FrameHeader}
use Rattle.aos_frame.specs.declared.error.FrameError.{FrameError}
use Rattle.aos_frame.specs.LinkFields.{insert_in, mpdu_in}
use Rattle.aos_frame.specs.Frame.{SpellsFrame, frame_fault}
use Rattle.mpdu.specs.MpduHeader.{pointer_of}
use Rattle.cfdp_dump.specs.declared.spelled.form.DumpForm.{DumpForm}
use Rattle.cfdp_dump.specs.declared.spelled.form.DumpForm.TheVariants.{Short, Long, Fields}
use Rattle.cfdp_dump.specs.declared.spelled.refusal.LineRefusal.TheVariants.{Pdu}
use Rattle.cfdp_dump.specs.Spelled.Fields.{frame_fields, pdu_fields}
use Rattle.cfdp_dump.specs.declared.spelled.shape.FrameShape.{FrameShape}
use Rattle.cfdp_dump.specs.Spelled.Lines.{cycle_word, frame_text, lane_word, long_text, part_text, parts_text, pdu_text}
use Rattle.cfdp_dump.specs.Spelled.Refusal.{frame_fault_text, refusal_text}
use Rattle.cfdp_dump.specs.Spelled.Shape.{channel_in, check_octets, control_octets, crc_octets}

-- what stands after what is shown of octets that are nothing: an empty line, if fields are shown
abbrev pub end_of : DumpForm → List ℕ
end_of Short = codes ""
end_of Long = codes ""
end_of Fields = codes "\n"

-- a PDU: in a line, in a longer one, which ends in its CRC if it has one, or field by field, with
-- the line after them empty
abbrev pub pdu_line : DumpForm → Header → pdus.Pdu → (octets : List ℕ) → List ℕ
pdu_line Short h p octets = pdu_text h.id p
pdu_line Long h p octets =
    pdu_text h.id p ++ (long_text h p ++ part_text (codes " crc ") (crc_octets h octets))
pdu_line Fields h p octets = pdu_fields h p octets

-- a frame: a long line also shows its lane, that its count has 28 bits, and its fields beside the
-- M_PDU
abbrev pub frame_line : DumpForm → FrameHeader → (pointer zone : ℕ)
    → (insert control check : List ℕ) → List ℕ
frame_line Short h pointer zone insert control check = frame_text h pointer
frame_line Long h pointer zone insert control check =
    frame_text h pointer
    ++ (lane_word h.virtual_channel ++ (cycle_word h.cycle ++ parts_text insert control check))
frame_line Fields h pointer zone insert control check =
    frame_fields h pointer zone insert control check

-- The octets are a PDU, and this text says which.
pub record TellsPdu (form : DumpForm) (octets text : List ℕ) : Type 0 where
  pub header : Header
  pub says : pdus.Pdu
  pub spelled : SpellsPdu header (view says) octets
  pub words : text ≡ pdu_line form header says octets

-- The octets are no PDU, and this text says why.
pub record TellsPduFault (form : DumpForm) (octets text : List ℕ) : Type 0 where
  pub error : PduError
  pub fault : pdu_fault octets ≡ Some error
  pub words : text ≡ refusal_text (Pdu error) ++ end_of form

-- The octets are a frame that is made so, and this text says which. Its M_PDU begins with 5 spare
-- bits and the 11 bits of the first header pointer (CCSDS 732.0-B-4, 4.1.4.2).
pub record TellsFrame (form : DumpForm) (shape : FrameShape) (octets text : List ℕ) : Type 0 where
  pub header : FrameHeader
  pub spelled : SpellsFrame (channel_in octets shape) header octets
  pub words : text ≡ frame_line form header (pointer_of (mpdu_in shape.fields octets)) shape.zone
      (insert_in shape.fields octets) (control_octets shape.fields octets)
      (check_octets shape.fields octets)

-- The octets are no such frame, and this text says why.
pub record TellsFrameFault (form : DumpForm) (shape : FrameShape) (octets text : List ℕ) : Type 0
  where
    pub error : FrameError
    pub fault : frame_fault octets (channel_in octets shape) ≡ Some error
    pub words : text ≡ frame_fault_text form error shape (length octets) ++ end_of form

-- This text is written for these octets, as a PDU.
abbrev pub TellsAsPdu : DumpForm → List ℕ → List ℕ → Type 0
TellsAsPdu form octets text = TellsPdu form octets text ⊎ TellsPduFault form octets text

-- The same, as a frame.
abbrev pub TellsAsFrame : DumpForm → FrameShape → List ℕ → List ℕ → Type 0
TellsAsFrame form shape octets text = TellsFrame form shape octets text
    ⊎ TellsFrameFault form shape octets text
