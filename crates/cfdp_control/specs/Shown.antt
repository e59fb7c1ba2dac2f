-- How the answer of a station is shown to whoever asked.
use Rattle.std.specs.Prelude.{ℕ, ◌||◌, ◌==◌, Bool, List, [], ◌∷◌, if◌then◌else◌}
use Rattle.std.specs.Char.{is_ascii_graphic}
use Rattle.cfdp_report.specs.Report.Name.{printed_octet}

-- a visible ASCII character, a space or a line feed
abbrev pub is_shown : ℕ → Bool
is_shown octet = is_ascii_graphic octet || octet == 32 || octet == 10

-- how an octet is shown: one of these as it is, another as in the name of a file
abbrev pub shown_octet : ℕ → List ℕ
shown_octet octet = if is_shown octet then octet ∷ [] else printed_octet octet
