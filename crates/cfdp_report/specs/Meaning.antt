-- What single words of commands mean.
use Rattle.std.specs.Prelude.{ℕ, Bool, true, false, List, [], ◌∷◌, codes, if◌then◌else◌, Option, Some, None, option_map}
use Rattle.cfdp_header.specs.declared.value.TransactionId.{TransactionId}
use Rattle.cfdp_report.specs.Numbers.{number_of}
use Rattle.cfdp_report.specs.Settings.{is}
use Rattle.cfdp_report.specs.Words.{parts}

-- what two things mean together, if each means something
abbrev pub both : {A B C : Type 0} → (A → B → C) → Option A → Option B → Option C
both f None b = None
both f (Some a) b = option_map (f a) b

-- a transaction: two numbers with a colon between
abbrev pub id_of_parts : List (List ℕ) → Option TransactionId
id_of_parts (source ∷ number ∷ []) =
    both (λ s n. record { source = s; number = n }) (number_of source) (number_of number)
id_of_parts _ = None

abbrev pub id_of : List ℕ → Option TransactionId
id_of word = id_of_parts (parts 58 word)

-- whether a prompt asks for a Keep Alive and not for a NAK
abbrev pub asked_of : List ℕ → Option Bool
asked_of word = if is word (codes "nak") then Some false
    else if is word (codes "keep") then Some true else None
