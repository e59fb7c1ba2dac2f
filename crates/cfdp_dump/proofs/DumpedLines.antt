-- The lines of a text.
use Rattle.std.proofs.Common.{◌≡◌, ◌≢◌, ◌<◌, ℕ, ◌==◌, false, List, [], ◌∷◌, ◌++◌, length, refl, subst, arith}
use Rattle.std.specs.List.{All}
use Rattle.std.proofs.lemmas.List.Elements.{All-head, All-tail}
use Rattle.std.proofs.lemmas.Bool.{ne_eqb}
use Rattle.cfdp_dump.specs.Dump.{lines}
use Rattle.cfdp_report.specs.Words.{onto_first}

-- a line ends at its line feed
lines-ended : (line rest : List ℕ) → All (λ octet. octet ≢ 10) line → lines (line ++ 10 ∷ rest) ≡ line ∷ lines rest
unfolding lines onto_first
lines-ended [] rest none = refl
lines-ended (octet ∷ line) rest none =
    let more = lines-ended line rest (All-tail (λ x. x ≢ 10) octet line none) in
    let other : (octet == 10) ≡ false = ne_eqb octet 10 (All-head (λ x. x ≢ 10) octet line none) in
    rw (other, more) refl

-- the last line may lack one
lines-last : (octet : ℕ) (line : List ℕ) → All (λ x. x ≢ 10) (octet ∷ line) → lines (octet ∷ line) ≡ (octet ∷ line) ∷ []
unfolding lines onto_first
lines-last octet [] none =
    let other : (octet == 10) ≡ false = ne_eqb octet 10 (All-head (λ x. x ≢ 10) octet [] none) in
    rw other refl
lines-last octet (next ∷ line) none =
    let more = lines-last next line (All-tail (λ x. x ≢ 10) octet (next ∷ line) none) in
    let other : (octet == 10) ≡ false = ne_eqb octet 10 (All-head (λ x. x ≢ 10) octet (next ∷ line) none) in
    rw (other, more) refl

-- no octets are no line
pub lines-empty : (text : List ℕ) → length text ≡ 0 → lines text ≡ []
unfolding lines
lines-empty [] none = refl
lines-empty (octet ∷ text) none = absurd (omega (arith, none))

-- a text is cut after its first line
pub cut_at_line_feed : (text line rest : List ℕ) → text ≡ line ++ 10 ∷ rest → All (λ octet. octet ≢ 10) line → lines text ≡ line ∷ lines rest
cut_at_line_feed text line rest cut none = rw cut (lines-ended line rest none)

pub cut_at_end : (text line rest : List ℕ) → 0 < length text → line ≡ text → All (λ octet. octet ≢ 10) line → length rest ≡ 0 → lines text ≡ line ∷ lines rest
cut_at_end [] line rest some whole none end = absurd (omega (arith, some))
cut_at_end (octet ∷ text) line rest some whole none end =
    let one = lines-last octet text (subst (All (λ x. x ≢ 10)) whole none) in
    rw (lines-empty rest end, whole) one
