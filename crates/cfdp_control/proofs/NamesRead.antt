-- A name as it is printed is read as itself.
use Rattle.std.proofs.Common.{◌≡◌, ℕ, ◌+◌, ◌*◌, ◌/◌, ◌%◌, ◌<◌, true, List, [], ◌∷◌, ◌++◌, All, ap, arith, refl, subst, ◌∙◌, ⊎_elim}
use Rattle.std.specs.Char.{digit_value}
use Rattle.std.specs.List.{flat_map}
use Rattle.std.proofs.lemmas.Bool.{both_ways, cases_Bool, cond-false, cond-true}
use Rattle.std.proofs.lemmas.Bool.Decides.{nat_tests}
use Rattle.std.proofs.lemmas.List.Elements.{All-head, All-tail}
use Rattle.cfdp_report.specs.Report.Name.{hex_digit, is_plain, printed_octet}
use Rattle.percent_encoding.specs.Percent.{percent_decode}
use Rattle.percent_encoding.proofs.PercentLemmas.{percent_decode-nil, percent_decode_escape, percent_decode_not_percent}

digit-read : (d : ℕ) → d < 16 → digit_value (hex_digit d) ≡ d
digit-read d small = grind (arith, nat_tests)

escaped-read : (o : ℕ) (rest : List ℕ) → o < 256 → percent_decode (37 ∷ hex_digit (o / 16) ∷ hex_digit (o % 16) ∷ rest) ≡ o ∷ percent_decode rest
escaped-read o rest small =
    let high = digit-read (o / 16) (omega arith) in
    let low = digit-read (o % 16) (omega arith) in
    let value : 16 * digit_value (hex_digit (o / 16)) + digit_value (hex_digit (o % 16)) ≡ o = rw (high, low) (omega arith) in
    percent_decode_escape 37 _ _ rest refl (rw high (omega arith)) (rw low (omega arith)) ∙ ap (λ x. x ∷ percent_decode rest) value

octet-read : (o : ℕ) (rest : List ℕ) → o < 256 → percent_decode (printed_octet o ++ rest) ≡ o ∷ percent_decode rest
octet-read o rest small = ⊎_elim
    (λ plain. rw (cond-true _ _ _ plain) (percent_decode_not_percent o rest (λ mark. both_ways _ refl (subst (λ n. is_plain n ≡ true) mark plain))))
    (λ other. rw (cond-false _ _ _ other) (escaped-read o rest small))
    (cases_Bool (is_plain o))

pub printed-read : (name : List ℕ) → All (λ octet. octet < 256) name → percent_decode (flat_map printed_octet name) ≡ name
printed-read [] small = percent_decode-nil
printed-read (o ∷ name) small =
    octet-read o (flat_map printed_octet name) (All-head (λ octet. octet < 256) o name small)
    ∙ ap (λ x. o ∷ x) (printed-read name (All-tail (λ octet. octet < 256) o name small))
