-- What is asked of frames and PDUs, and what is said of them.
use Rattle.std.specs.Prelude.{◌≡◌, ◌⊎◌, ◌++◌, ◌∷◌, ℕ, Bool, true, false, List, [], codes, Some}
use Rattle.cfdp_report.specs.Numbers.{number_of}
use Rattle.cfdp_dump.specs.declared.spelled.form.DumpForm.TheVariants.{Fields}
use Rattle.cfdp_dump.specs.declared.spelled.shape.FrameShape.{FrameShape}
use Rattle.cfdp_dump.specs.Dump.{WritesFile}
use Rattle.cfdp_report.specs.Words.{four_of, next_word, words_of}
use Rattle.cfdp_dump.specs.declared.dump.DumpKind.{DumpKind}
use Rattle.cfdp_dump.specs.declared.dump.DumpKind.TheVariants.{Frames, Pdus}
use Rattle.cfdp_dump.specs.declared.dump.DumpRequest.{DumpRequest}

-- a number that says whether a field is there
abbrev pub flag_of : Bool → ℕ
flag_of false = 0
flag_of true = 1

-- These words say the shape of frames: the octets of their packet zone and of their insert zone,
-- and whether they have an operational control field and a frame error control field.
pub record SayShape (words : List (List ℕ)) (shape : FrameShape) : Type 0 where
  pub zone : List ℕ
  pub insert : List ℕ
  pub control : List ℕ
  pub check : List ℕ
  pub four : four_of words ≡ Some (zone, insert, control, check)
  pub zone_is : number_of zone ≡ Some shape.zone
  pub insert_is : number_of insert ≡ Some shape.fields.insert_zone
  pub control_is : number_of control ≡ Some (flag_of shape.fields.control_field)
  pub check_is : number_of check ≡ Some (flag_of shape.fields.error_control)

-- The first line says what the lines after it are: `pdus`, or `frames` with a shape.
abbrev pub Says : List ℕ → DumpKind → FrameShape → Type 0
Says line Pdus shape = words_of line ≡ codes "pdus" ∷ []
Says line Frames shape = (behind : List (List ℕ))
    × (next_word (words_of line) ≡ Some (codes "frames", behind)) × SayShape behind shape

-- a text is its first line and what stands after that, if a line feed ends it
abbrev pub IsCut : (text first behind : List ℕ) → Type 0
IsCut text first behind = (text ≡ first ++ 10 ∷ behind) ⊎ ((text ≡ first) × (behind ≡ []))

-- A text says of what stands after the first line what it spells, field by field, as `dump
-- --fields` does.
pub record TellsFields (body text : List ℕ) : Type 0 where
  pub first : List ℕ
  pub behind : List ℕ
  pub cut : IsCut body first behind
  pub request : DumpRequest
  pub says : Says first request.kind request.shape
  pub form : request.form ≡ Fields
  pub flat : request.deep ≡ false
  pub told : WritesFile request behind (Some []) (Some text)
