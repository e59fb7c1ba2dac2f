-- What was damaged and isn't refused has lost its CRC flag.
use Rattle.std.proofs.Common.{◌≡◌, ℕ, zero, suc, ◌+◌, ◌<◌, ◌≤◌, nat_le, Bool, true, false, true≢false, eqb, ltb, not, if◌then◌else◌, Some, None, List, length, inl, inr, refl, sym, ◌∙◌, arith}
use Rattle.std.proofs.lemmas.Bool.{and_parts, cases_Bool, leb-true}
use Rattle.cfd_bits.specs.Field.{field}
use Rattle.cfd_bits.proofs.BitFields.{field-below}
use Rattle.crc.specs.Checks.{ends_in_check}
use Rattle.crc.specs.Damage.{IsDamaged}
use Rattle.crc.proofs.Ends as ends
use Rattle.cfdp_header.specs.Crc.{has_crc}
use Rattle.cfdp_header.specs.declared.value.Header.{Header}
use Rattle.cfdp_header.specs.declared.error.HeaderError.TheVariants.{Short, Version, BadCrc, Length, Unacknowledged}
use Rattle.cfdp_header.specs.Header.{SpellsHeader, header_fault, header_len, header_len_told}

-- if there is no fault, the CRC is right, by the tests
right_of : (a b c d e f : Bool) → (if a then Some Short else if b then Some Version else if c then Some Unacknowledged else if d then Some Short else if e then Some Length else if not f then Some BadCrc else None) ≡ None →
    f ≡ true
right_of true b c d e f is = absurd cc
right_of false true c d e f is = absurd cc
right_of false false true d e f is = absurd cc
right_of false false false true e f is = absurd cc
right_of false false false false true f is = absurd cc
right_of false false false false false true is = refl
right_of false false false false false false is = absurd cc

right : (text : List ℕ) → header_fault text ≡ None → has_crc (eqb (field text 6 1) 1) (header_len_told text) text ≡ true
right text none =
    right_of (ltb (length text) 4) (not (eqb (field text 0 3) 1)) (not (eqb (field text 5 1) 0)) (ltb (length text) (header_len_told text))
    (not (eqb (length text) (header_len_told text + field text 8 16))) (has_crc (eqb (field text 6 1) 1) (header_len_told text) text) none

-- with the flag, it ends in its check
ended : (flagged : Bool) (len : ℕ) (text : List ℕ) → flagged ≡ true → has_crc flagged len text ≡ true → (nat_le (len + 2) (length text) ≡ true) × (ends_in_check text ≡ true)
ended true len text is has = and_parts (nat_le (len + 2) (length text)) (ends_in_check text) has
ended false len text is has = absurd cc

no_flag : (n : ℕ) → n < 2 → eqb n 1 ≡ false → n ≡ 0
no_flag zero low is = refl
no_flag (suc zero) low is = absurd cc
no_flag (suc (suc n)) low is = absurd (omega arith)

pub damage_is_seen : (h : Header) (sent came : List ℕ) → SpellsHeader h sent → h.crc ≡ true → length sent ≤ 2048 → IsDamaged sent came → header_fault came ≡ None → field came 6 1 ≡ 0
damage_is_seen h sent came spells flagged few damage none =
    let n : ℕ = header_len h.id_width h.number_width in
    let was = ended h.crc n sent flagged spells.check in
    let room : n + 2 ≤ length sent = leb-true (n + 2) (length sent) was.0 in
    let away : ends_in_check came ≡ false = ends.damage_is_seen sent came (omega (arith, room)) few was.1 damage in
    elim (cases_Bool (eqb (field came 6 1) 1)) [
      | inl still ↦ absurd (true≢false (sym (ended (eqb (field came 6 1) 1) (header_len_told came) came still (right came none)).1 ∙ away))
      | inr lost ↦ no_flag (field came 6 1) (field-below came 6 1) lost
    ]
