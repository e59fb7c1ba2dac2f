-- Which names files in a folder may have.
use Rattle.std.specs.Prelude.{◌≡◌, ◌≢◌, ◌⊎◌, ◌≤◌, ℕ, List, [], ◌∷◌, All, length, IsUtf8}
use Rattle.cfdp_store.specs.declared.name_rule.NameRule.{NameRule}
use Rattle.cfdp_store.specs.declared.name_rule.NameRule.TheVariants as rule

-- one of A-Z, a-z, 0-9, point, underscore and dash
abbrev pub IsNameOctet : ℕ → Type 0
IsNameOctet c = (65 ≤ c × c ≤ 90) ⊎ (97 ≤ c × c ≤ 122) ⊎ (48 ≤ c × c ≤ 57)
    ⊎ (c ≡ 46) ⊎ (c ≡ 95) ⊎ (c ≡ 45)

-- it doesn't begin with a point, and isn't empty
abbrev pub BeginsWell : List ℕ → Type 0
BeginsWell [] = ⊥
BeginsWell (c ∷ cs) = c ≢ 46

-- A file in a folder may have this name by the portable rule. So it has no separator and names
-- nothing outside of it.
pub record IsFolderName (name : List ℕ) : Type 0 where
  pub begins : BeginsWell name
  pub most : length name ≤ 64
  pub octets : All IsNameOctet name

-- any octet but a slash and the control characters of ASCII
abbrev pub IsFileNameOctet : ℕ → Type 0
IsFileNameOctet c = (32 ≤ c) × (c ≢ 47) × (c ≢ 127)

-- A file in a folder may have this name by the widest rule: a file system holds it, and it names
-- nothing outside of the folder, and no part file.
pub record IsFileName (name : List ℕ) : Type 0 where
  pub begins : BeginsWell name
  pub most : length name ≤ 255
  pub octets : All IsFileNameOctet name
  pub text : IsUtf8 name

-- the names that a rule allows
abbrev pub Allows : NameRule → List ℕ → Type 0
Allows rule.Portable name = IsFolderName name
Allows rule.Any name = IsFileName name
