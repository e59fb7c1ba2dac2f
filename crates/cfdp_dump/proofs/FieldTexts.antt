-- The texts of fields, which goals don't open by themselves.
use Rattle.std.proofs.Common.{◌≡◌, ℕ, List, ◌++◌, codes, refl}
use Rattle.std.specs.Prelude.{decimal}
use Rattle.std.specs.List.{flat_map}
use Rattle.cfdp_directives.specs.Pdu.Tlv.{Tlv}
use Rattle.cfdp_dump.specs.Spelled.Fields.{checksum_field, code_field, filled_field, name_field, number_field, option_field, range_field, text_field}
use Rattle.cfdp_dump.specs.Spelled.Lines.{hex_octet_text}
use Rattle.cfdp_report.specs.Report.Name.{name_text}
use Rattle.cfdp_report.specs.Numbers.{hex_number_text}

pub text_is : (name value section : List ℕ) → text_field name value section ≡ name ++ (codes ": " ++ (value ++ (codes " (" ++ (section ++ codes ")\n"))))
unfolding text_field
text_is name value section = refl

pub number_is : (name : List ℕ) (value : ℕ) (section : List ℕ) → number_field name value section ≡ name ++ (codes ": " ++ (decimal value ++ (codes " (" ++ (section ++ codes ")\n"))))
unfolding number_field
number_is name value section = refl

pub code_is : (name : List ℕ) (value : ℕ) (meaning section : List ℕ)
    → code_field name value meaning section ≡ name ++ (codes ": " ++ (decimal value ++ (codes " " ++ (meaning ++ (codes " (" ++ (section ++ codes ")\n"))))))
unfolding code_field
code_is name value meaning section = refl

pub name_is : (what name : List ℕ) → name_field what name ≡ what ++ (codes ": " ++ (name_text name ++ codes " (CFDP 5.2.5)\n"))
unfolding name_field
name_is what name = refl

pub checksum_is : (checksum : ℕ) → checksum_field checksum ≡ codes "file checksum: " ++ (hex_number_text checksum ++ codes " (CFDP 5.2.2)\n")
unfolding checksum_field
checksum_is checksum = refl

pub range_is : (start end : ℕ) → range_field (start, end) ≡ codes "segment request: " ++ (decimal start ++ (codes "-" ++ (decimal end ++ codes " (CFDP 5.2.6)\n")))
unfolding range_field
range_is start end = refl

pub option_is : (t : Tlv) → option_field t ≡ codes "option: type " ++ (hex_octet_text t.kind ++ (codes " value " ++ (flat_map hex_octet_text t.value ++ codes " (CFDP 5.4)\n")))
unfolding option_field
option_is t = refl

pub filled_is : (name octets section : List ℕ)
    → filled_field name octets section ≡ name ++ (codes ": " ++ (flat_map hex_octet_text octets ++ (codes " (" ++ (section ++ codes ")\n"))))
unfolding filled_field
filled_is name octets section = refl
