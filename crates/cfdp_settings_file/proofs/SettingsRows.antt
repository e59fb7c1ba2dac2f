-- What settings files come to, worked out: rows of the definitions in specs/Words and specs/Said.
use Rattle.std.proofs.Common.{◌≡◌, List, [], ◌∷◌, ◌++◌, codes, decimal, true, false, Option, Some, None, refl, option_and_then}
use Rattle.toml.proofs.OnLiterals.{toml_on_literals}
use Rattle.toml.specs.Data.{get_member}
use Rattle.toml.specs.Parse.{parse_document}
use Rattle.cfdp_settings_file.specs.Said.{is_said}
use Rattle.cfdp_settings_file.specs.Words.{Word, words_at}
use Rattle.cfdp_settings_file.specs.declared.options.ValueKind.{ValueKind}
use Rattle.cfdp_settings_file.specs.declared.options.ValueKind.TheVariants.{Text, Number, Flag, Pairs, Numbers}

-- what a text says of one option
abbrev of_text : ValueKind → Word → Word → Option (List Word)
of_text kind name text = option_and_then (λ table. words_at kind name (get_member name table)) (parse_document text)

a_text : of_text Text (codes "inbox") (codes "id = 2\ninbox = \"a b\"\n") ≡ Some (codes "--inbox=a b" ∷ [])
unfolding toml_on_literals
a_text = refl

a_number : of_text Number (codes "at-once") (codes "at-once = 12\n") ≡ Some ((codes "--at-once=" ++ decimal 12) ∷ [])
unfolding toml_on_literals
a_number = refl

a_flag : of_text Flag (codes "json") (codes "json = true\n") ≡ Some (codes "--json" ∷ [])
unfolding toml_on_literals
a_flag = refl

no_flag : of_text Flag (codes "json") (codes "json = false\n") ≡ Some []
unfolding toml_on_literals
no_flag = refl

nothing : of_text Text (codes "inbox") (codes "id = 2\n") ≡ Some []
unfolding toml_on_literals
nothing = refl

two_pairs : of_text Pairs (codes "put") (codes "put = [[\"a\", \"b\"], [\"c\", \"d\"]]\n")
    ≡ Some (codes "--put" ∷ codes "a" ∷ codes "b" ∷ codes "--put" ∷ codes "c" ∷ codes "d" ∷ [])
unfolding toml_on_literals
two_pairs = refl

two_keys : of_text Numbers (codes "set") (codes "[set]\nzone = 16\napid = 3\n")
    ≡ Some (codes "--set" ∷ codes "apid" ∷ decimal 3 ∷ codes "--set" ∷ codes "zone" ∷ decimal 16 ∷ [])
unfolding toml_on_literals
two_keys = refl

below_zero : of_text Number (codes "idle") (codes "idle = -1\n") ≡ None
unfolding toml_on_literals
below_zero = refl

like_an_option : of_text Pairs (codes "put") (codes "put = [[\"a\", \"--json\"]]\n") ≡ None
unfolding toml_on_literals
like_an_option = refl

said_alone : is_said (codes "idle") (codes "--id" ∷ codes "1" ∷ codes "--idle" ∷ codes "3" ∷ []) ≡ true
said_alone = refl

said_with_value : is_said (codes "id") (codes "--idle" ∷ codes "1" ∷ codes "--id=3" ∷ []) ≡ true
said_with_value = refl

said_longer : is_said (codes "id") (codes "--idle" ∷ codes "1" ∷ []) ≡ false
said_longer = refl

said_behind : is_said (codes "id") (codes "--" ∷ codes "--id" ∷ []) ≡ false
said_behind = refl
