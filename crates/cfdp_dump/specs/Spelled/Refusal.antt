-- Why a line of a dump spells nothing, by number and name.
use Rattle.std.specs.Prelude.{ℕ, Bool, true, false, ◌&&◌, List, ◌++◌, codes, decimal, if◌then◌else◌}
use Rattle.cfdp_directives.specs.Pdu.Faults.{pdu_refusal_number, pdu_refusal_name}
use Rattle.aos_frame.specs.Frame as frames
use Rattle.aos_frame.specs.declared.error.FrameError.{FrameError}
use Rattle.aos_frame.specs.declared.error.FrameError.TheVariants.{Length}
use Rattle.cfdp_dump.specs.declared.spelled.form.DumpForm.{DumpForm}
use Rattle.cfdp_dump.specs.declared.spelled.form.DumpForm.TheVariants.{Short, Long, Fields}
use Rattle.cfdp_dump.specs.declared.spelled.refusal.LineRefusal.{LineRefusal}
use Rattle.cfdp_dump.specs.declared.spelled.shape.FrameShape.{FrameShape}
use Rattle.cfdp_dump.specs.Spelled.Shape.{frame_len}
use Rattle.cfdp_dump.specs.declared.spelled.refusal.LineRefusal.TheVariants.{Hex, Pdu, Frame}

-- the number of a refusal
abbrev pub refusal_number : LineRefusal → ℕ
refusal_number Hex = 0
refusal_number (Pdu e) = pdu_refusal_number e
refusal_number (Frame e) = frames.refusal_number e

-- its name
abbrev pub refusal_name : LineRefusal → List ℕ
refusal_name Hex = codes "Hex"
refusal_name (Pdu e) = pdu_refusal_name e
refusal_name (Frame e) = frames.refusal_name e

-- the line that shows it
abbrev pub refusal_text : LineRefusal → List ℕ
refusal_text refusal = codes "error " ++ decimal (refusal_number refusal) ++ codes " "
    ++ refusal_name refusal

-- whether a frame is refused for its length
abbrev pub is_length : FrameError → Bool
is_length Length = true
is_length _ = false

-- whether what refuses a line is shown with its details: a short line has its number and its name
-- alone
abbrev pub has_details : DumpForm → Bool
has_details Short = false
has_details Long = true
has_details Fields = true

-- Why so many octets are no frame that is made so. The details of a refused length are how many
-- there are, and how many such a frame has.
abbrev pub frame_fault_text : DumpForm → FrameError → FrameShape → (count : ℕ) → List ℕ
frame_fault_text form error shape count =
    if is_length error && has_details form
    then refusal_text (Frame error) ++ codes " " ++ decimal count ++ codes " octets, not "
    ++ decimal (frame_len shape)
    else refusal_text (Frame error)
