-- What the text of a file of keys says.
use Rattle.std.specs.Prelude.{◌≡◌, ℕ, ◌<◌, ◌==◌, ◌⊎◌, Option, Some, None, Ok, List, [], ◌∷◌, ◌++◌, length, codes}
use Rattle.std.specs.Borrow.{Bor}
use Rattle.std.specs.Char.{is_whitespace, is_not_whitespace}
use Rattle.std.specs.List.{before_first, filter_map}
use Rattle.std.specs.Option.{option_to_list}
use Rattle.std.specs.Str.{NoCharPasses, EmptyOrStartsWithPassing}
use Rattle.std.specs.Str.Lines.{lines}
use Rattle.std.specs.Str.Parse.{IsNumeral, digits_value}
use Rattle.hex.specs.Hex.{decode_sized}
use Rattle.frame_security.specs.declared.keys.LinkKeys.{LinkKeys}
use Rattle.frame_security.specs.declared.keys.NamedKey.{NamedKey}
use Rattle.key_file.specs.declared.draft.Draft.{Draft}
use Rattle.key_file.specs.declared.draft.Direction.{Direction}
use Rattle.key_file.specs.declared.draft.Direction.TheVariants.{Send, Receive}
use Rattle.key_file.specs.Apart.{Adds}

-- nothing but white space
abbrev pub IsBlank : List ℕ → Type 0
IsBlank = NoCharPasses is_not_whitespace

-- A text begins with a word, after white space; what is left is empty or begins with white space.
pub record BeginsWith (word text rest : List ℕ) : Type 0 where
  pub gap : List ℕ
  pub split : text ≡ gap ++ (word ++ rest)
  pub gap_is_blank : IsBlank gap
  pub some : 0 < length word
  pub is_word : NoCharPasses is_whitespace word
  pub ends : (more : List ℕ) × EmptyOrStartsWithPassing is_whitespace rest more

-- the words of a text are these
abbrev pub HasWords : List (List ℕ) → List ℕ → Type 0
HasWords [] text = IsBlank text
HasWords (word ∷ words) text = (rest : List ℕ) × BeginsWith word text rest × HasWords words rest

-- what a line says: all before the first `#`
abbrev pub before_comment : List ℕ → List ℕ
before_comment line = before_first (λ c. c == 35) line

abbrev pub direction_word : Direction → List ℕ
direction_word Send = codes "send"
direction_word Receive = codes "receive"

-- the decimal digits of an SPI
abbrev pub SpellsSpi : List ℕ → ℕ → Type 0
SpellsSpi word spi = IsNumeral 10 word × (digits_value 10 word ≡ spi)

-- Three words say a key and what it is for: the decimal digits of its SPI, the direction, and the
-- hexadecimal digits of its 32 octets.
pub record SayKey (spi word digits : List ℕ) (direction : Direction) (key : NamedKey) : Type 0
  where
    pub decimal : SpellsSpi spi key.spi
    pub is_direction : word ≡ direction_word direction
    pub hexadecimal : decode_sized digits 32 ≡ Ok key.key

-- The words of a line, without its comment, say a key.
pub record SaysKey (line : List ℕ) (direction : Direction) (key : NamedKey) : Type 0 where
  pub spi : List ℕ
  pub word : List ℕ
  pub digits : List ℕ
  pub words : HasWords (spi ∷ word ∷ digits ∷ []) (before_comment line)
  pub say : SayKey spi word digits direction key

-- a key, and what it is for
pub record Entry : Type 0 where
  pub direction : Direction
  pub key : NamedKey

-- The lines say these keys, in their order; a line may be empty.
abbrev pub SayKeys : List (List ℕ) → List Entry → Type 0
SayKeys [] entries = entries ≡ []
SayKeys (line ∷ lines) entries = (IsBlank (before_comment line) × SayKeys lines entries)
    ⊎ ((entry : Entry) × (rest : List Entry) × (entries ≡ entry ∷ rest)
    × SaysKey line entry.direction entry.key × SayKeys lines rest)

abbrev pub key_for : Direction → Direction → NamedKey → Option NamedKey
key_for Send Send key = Some key
key_for Receive Receive key = Some key
key_for _ _ key = None

-- the keys for a direction
abbrev pub keys_for : Direction → List Entry → List NamedKey
keys_for direction entries = filter_map (λ e. key_for direction e.direction e.key) entries

-- A file with this text says these keys: one to send with, and one to receive with or two, the
-- latest first.
pub record IsFileOf (text : List ℕ) (k : LinkKeys) : Type 0 where
  pub entries : List Entry
  pub say : SayKeys (lines text) entries
  pub send : keys_for Send entries ≡ k.send ∷ []
  pub receive : keys_for Receive entries ≡ k.receive ∷ option_to_list k.former

-- The key of a line, if it has one, is added to the draft.
abbrev pub AddsLine : List ℕ → (old new : Draft) → Type 0
AddsLine line old new = (IsBlank (before_comment line) × (new ≡ old))
    ⊎ ((entry : Entry) × SaysKey line entry.direction entry.key
    × Adds entry.direction entry.key old new)

-- a text has no word, or three
abbrev pub AreWordsOf : List ℕ → Option (Bor (List ℕ) × Bor (List ℕ) × Bor (List ℕ)) → Type 0
AreWordsOf text None = HasWords [] text
AreWordsOf text (Some w) = HasWords (w.0.now ∷ w.1.now ∷ w.2.now ∷ []) text
