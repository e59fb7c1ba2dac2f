use Rattle.std.specs.Prelude.{ℕ, ◌+◌, ◌/◌, ◌%◌, ◌&&◌, ◌==◌, Bool, List, [], ◌∷◌, nat_lt, if◌then◌else◌, not}
use Rattle.std.specs.Char.{is_ascii_graphic}
use Rattle.std.specs.List.{flat_map}

-- a visible ASCII character other than '%'
abbrev pub is_plain : ℕ → Bool
is_plain octet = is_ascii_graphic octet && not (octet == 37)

-- the upper-case hexadecimal digit of a value below 16
abbrev pub hex_digit : ℕ → ℕ
hex_digit value = if nat_lt value 10 then 48 + value else 55 + value

-- how an octet of a name is printed: a plain one as it is, another as '%' and its two digits
abbrev pub printed_octet : ℕ → List ℕ
printed_octet octet =
    if is_plain octet then octet ∷ [] else 37 ∷ hex_digit (octet / 16) ∷ hex_digit (octet % 16) ∷ []

abbrev pub name_text : List ℕ → List ℕ
name_text name = flat_map printed_octet name
