-- What the words of a command line come to.
use Rattle.std.proofs.Common.{◌≡◌, ◌<◌, ◌≤◌, ◌^◌, ℕ, Bool, true, false, List, [], ◌∷◌, Some, None, refl, ap, ap₂, ◌∙◌, inl, inr, arith, cond, subst, sym}
use Rattle.std.specs.Str.Parse.{IsNumeral, digits_value, without_leading_plus}
use Rattle.clap.specs.Kinds.{HasKind, Kinds, or_else}
use Rattle.clap.specs.ValueTests.{is_unsigned_in}
use Rattle.clap.specs.declared.error.Error.{Error}
use Rattle.clap.specs.declared.builder.value_parser.ValueParser.TheVariants.{Unsigned}
use Rattle.clap.proofs.ValueTestLemmas.{Accepts-accepts, accepts-Accepts}
use Rattle.clap.specs.Built.{AddsSubcommand}
use Rattle.clap.specs.Faults.{is_simple_and_free}
use Rattle.clap.specs.Simple.{App, is_simple, with_subcommand}
use Rattle.clap.specs.declared.builder.command.Command.{Command}
use Rattle.cfdp_command_line.specs.Looping.{number_of_word}
use Rattle.cfdp_command_line.specs.Request.{IsCommand, program_app, zone_of_word}

-- a number in the range is found
pub zone-found : (word : List ℕ) (n : ℕ) → IsNumeral 10 (without_leading_plus word) → n ≡ digits_value 10 (without_leading_plus word)
    → 16 ≤ n → n ≤ 2040 → Some n ≡ zone_of_word word
zone-found word n numeral is low high =
    let small : digits_value 10 (without_leading_plus word) < 2 ^ 64 = omega (arith, is, high) in
    let passes : is_unsigned_in 16 2040 word ≡ true = Accepts-accepts false (Unsigned 16 2040) word (numeral, small, omega (arith, is, low), omega (arith, is, high)) in
    rw passes (ap (λ z. Some z) is)

-- what is no number has none
pub zone-none : (word : List ℕ) → (IsNumeral 10 (without_leading_plus word) × (digits_value 10 (without_leading_plus word) < 2 ^ 16) → ⊥)
    → None ≡ zone_of_word word
zone-none word none = go (is_unsigned_in 16 2040 word) refl
  where
    go : (b : Bool) → is_unsigned_in 16 2040 word ≡ b → None ≡ cond b (Some (digits_value 10 (without_leading_plus word))) None
    go false e = refl
    go true e =
        let fits = accepts-Accepts false (Unsigned 16 2040) word e in
        absurd (none (fits.0, omega (arith, fits.3)))

-- what the first of two refuses, both do
pub fails-first : (first next : Kinds) (e : Error) → HasKind first e → HasKind (or_else first next) e
fails-first [] next e (inl memory) = inl memory
fails-first [] next e (inr none) = absurd none
fails-first (k ∷ ks) next e has = has

-- a command with one subcommand more
pub joined : (top sub all : Command) (a s : App) → IsCommand a top → IsCommand s sub → AddsSubcommand top sub all
    → IsCommand (with_subcommand a s.top) all
joined top sub all a s is_top is_sub adds = (
  adds.shape is_sub.1 ∙ ap₂ with_subcommand is_top.0 (ap (λ (x : App). x.top) is_sub.0),
  rw (adds.globals, is_top.1, is_sub.1) refl,
)

-- a number in a range is found
pub number-found : (low high : ℕ) (word : List ℕ) (n : ℕ) → IsNumeral 10 (without_leading_plus word) → n ≡ digits_value 10 (without_leading_plus word)
    → digits_value 10 (without_leading_plus word) < 2 ^ 64 → low ≤ n → n ≤ high → Some n ≡ number_of_word low high word
number-found low high word n numeral is small at_least at_most =
    let passes : is_unsigned_in low high word ≡ true =
    Accepts-accepts false (Unsigned low high) word (numeral, small, omega (arith, is, at_least), omega (arith, is, at_most)) in
    rw passes (ap (λ z. Some z) is)

-- what is none, or not in the range, has none
pub number-none : (low high : ℕ) (word : List ℕ)
    → (IsNumeral 10 (without_leading_plus word) → digits_value 10 (without_leading_plus word) < 2 ^ 64
    → low ≤ digits_value 10 (without_leading_plus word) → digits_value 10 (without_leading_plus word) ≤ high → ⊥)
    → None ≡ number_of_word low high word
number-none low high word none = go (is_unsigned_in low high word) refl
  where
    go : (b : Bool) → is_unsigned_in low high word ≡ b → None ≡ cond b (Some (digits_value 10 (without_leading_plus word))) None
    go false e = refl
    go true e = let fits = accepts-Accepts false (Unsigned low high) word e in absurd (none fits.0 fits.1 fits.2 fits.3)

-- what the program's grammar gives, of a command that has it
pub free_of : (app : App) (P : App → Type 0) → app ≡ program_app → (is_simple_and_free app ≡ true → P app) → P program_app
free_of app P is given = subst P is (given (subst (λ a. is_simple_and_free a ≡ true) (sym is) refl))

pub simple_of : (app : App) (P : App → Type 0) → app ≡ program_app → (is_simple app ≡ true → P app) → P program_app
simple_of app P is given = subst P is (given (subst (λ a. is_simple a ≡ true) (sym is) refl))
