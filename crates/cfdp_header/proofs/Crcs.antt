-- Exported: a text with its CRC has it, and is the text before it.
use Rattle.std.proofs.Common.{◌≡◌, ℕ, ◌+◌, ◌-◌, ◌^◌, ◌<◌, ◌≤◌, ◌&&◌, nat_le, Bool, true, false, List, [], ◌++◌, length, take, drop, refl, sym, ap, ap₂, ◌∙◌, arith, append_assoc, append-nil, length-append}
use Rattle.std.proofs.lemmas.Bool.{eq-eqb, le-leb}
use Rattle.std.proofs.lemmas.List.{take_at, drop_at}
use Rattle.cfd_bits.specs.Field.{field, octets}
use Rattle.cfd_bits.proofs.Fields.{length-octets, field-octets}
use Rattle.crc.specs.Checks.{divisor16, crc16_behind, check_from, crc16_of, ends_in_check}
use Rattle.crc.proofs.Divisions as div
use Rattle.cfdp_header.specs.Crc.{crc_len, with_crc, before_crc, has_crc}

check_below : (text : List ℕ) → crc16_of text < 256 ^ 2
unfolding crc16_behind check_from
check_below text =
    let least : 2 ^ 16 ≤ divisor16 = omega arith in
    let most : divisor16 < 2 ^ 17 = omega arith in
    div.remainder_below 16 divisor16 least most _ _

ends : (text : List ℕ) → ends_in_check (text ++ octets 2 (crc16_of text)) ≡ true
ends text =
    let whole : List ℕ = text ++ octets 2 (crc16_of text) in
    let two = length-octets 2 (crc16_of text) in
    let n : length text ≡ length whole - 2 = omega (arith, length-append text (octets 2 (crc16_of text)), two) in
    let back : drop (length whole - 2) whole ≡ octets 2 (crc16_of text) = drop_at text (octets 2 (crc16_of text)) (length whole - 2) n in
    let front : take (length whole - 2) whole ≡ text = take_at text (octets 2 (crc16_of text)) (length whole - 2) n in
    let read : field (drop (length whole - 2) whole) 0 16 ≡ crc16_of text =
    ap (λ o. field o 0 16) back ∙ field-octets 2 (crc16_of text) (check_below text) in
    eq-eqb (field (drop (length whole - 2) whole) 0 16) (crc16_of (take (length whole - 2) whole))
    (read ∙ sym (ap crc16_of front))

pub has : (crc : Bool) (len : ℕ) (text : List ℕ) → len ≤ length text → has_crc crc len (with_crc crc text) ≡ true
has true len text h =
    let two = length-octets 2 (crc16_of text) in
    let room : nat_le (len + 2) (length (text ++ octets 2 (crc16_of text))) ≡ true =
    le-leb _ _ (omega (arith, length-append text (octets 2 (crc16_of text)), two)) in
    ap₂ (λ a b. a && b) room (ends text)
has false len text h = refl

-- the CRC alone, after this text
abbrev pub crc_octets : Bool → List ℕ → List ℕ
crc_octets true text = octets 2 (crc16_of text)
crc_octets false text = []

pub length-crc : (crc : Bool) (text : List ℕ) → length (crc_octets crc text) ≡ crc_len crc
length-crc true text = length-octets 2 (crc16_of text)
length-crc false text = refl

-- what stands before it stays there
pub behind : (crc : Bool) (front back : List ℕ) → with_crc crc (front ++ back) ≡ front ++ (back ++ crc_octets crc (front ++ back))
behind true front back = append_assoc front back (octets 2 (crc16_of (front ++ back)))
behind false front back = ap (λ t. front ++ t) (sym (append-nil back))

pub before : (crc : Bool) (text back : List ℕ) → before_crc crc (back ++ crc_octets crc text) ≡ back
before true text back =
    take_at back (octets 2 (crc16_of text)) _ (omega (arith, length-append back (octets 2 (crc16_of text)), length-octets 2 (crc16_of text)))
before false text back = append-nil back
