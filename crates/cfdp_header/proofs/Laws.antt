-- Exported: what a header's octets determine, for the codec of whole PDUs.
use Rattle.std.proofs.Common.{◌≡◌, ℕ, ◌+◌, ◌-◌, ◌*◌, ◌/◌, ◌^◌, ◌%◌, ◌<◌, ◌≤◌, Bool, true, false, eqb, ltb, List, [], ◌∷◌, ◌++◌, length, take, drop, None, Result, Ok, Err, refl, sym, ap, subst, ◌∙◌, eq-eqb, arith, append_assoc, length-append}
use Rattle.std.specs.Prelude.{IsOkAnd, IfOk}
use Rattle.std.specs.Result.{result_err}
use Rattle.std.proofs.lemmas.Bool.{le-ltb}
use Rattle.std.proofs.lemmas.List.{take_at}
use Rattle.cfd_bits.specs.Field.{field, octets, flag}
use Rattle.cfd_bits.proofs.Fields.{length-octets, field_between, field_in_octet, field-append_left, field-drop}
use Rattle.cfd_bits.proofs.BitFields.{field-below, field-below_octets, field-front}
use Rattle.cfdp_header.specs.Crc.{crc_len, has_crc, with_crc}
use Rattle.cfdp_header.specs.declared.value.Direction.{Direction}
use Rattle.cfdp_header.specs.declared.value.Direction.TheVariants.{TowardReceiver, TowardSender}
use Rattle.cfdp_header.specs.declared.value.Header.{Header}
use Rattle.cfdp_header.specs.declared.value.PduType.{PduType}
use Rattle.cfdp_header.specs.declared.value.PduType.TheVariants.{FileDirective, FileData}
use Rattle.cfdp_header.specs.Header.{SpellsHeader, header_fault, header_len_told, header_len, FitsHeader, type_bit, direction_bit, fixed_octets, header_octets}
use Rattle.cfdp_header.proofs.Crcs.{has, behind, crc_octets, length-crc}

pub same_flag : (a b : Bool) → flag a ≡ flag b → a ≡ b
same_flag true true e = refl
same_flag false false e = refl
same_flag true false e = absurd cc
same_flag false true e = absurd cc

pub same_type : (a b : PduType) → type_bit a ≡ type_bit b → a ≡ b
same_type FileDirective FileDirective e = refl
same_type FileData FileData e = refl
same_type FileDirective FileData e = absurd cc
same_type FileData FileDirective e = absurd cc

pub same_direction : (a b : Direction) → direction_bit a ≡ direction_bit b → a ≡ b
same_direction TowardReceiver TowardReceiver e = refl
same_direction TowardSender TowardSender e = refl
same_direction TowardReceiver TowardSender e = absurd cc
same_direction TowardSender TowardReceiver e = absurd cc

abbrev made : PduType → Direction → Bool → Bool → ℕ → Bool → ℕ → ℕ → ℕ → ℕ → ℕ → Header
made a b x g l c i n source number d = record {
  pdu_type = a;
  direction = b;
  crc = x;
  large = g;
  length = l;
  segment_metadata = c;
  id_width = i;
  number_width = n;
  id =
      record { source = source; number = number };
  destination = d;
}

pub unique : (h k : Header) (t : List ℕ) → SpellsHeader h t → SpellsHeader k t → h ≡ k
unique h k t p q =
    let a = same_type h.pdu_type k.pdu_type (sym p.pdu_type ∙ q.pdu_type) in
    let b = same_direction h.direction k.direction (sym p.direction ∙ q.direction) in
    let x = same_flag h.crc k.crc (sym p.crc ∙ q.crc) in
    let g = same_flag h.large k.large (sym p.large ∙ q.large) in
    let c = same_flag h.segment_metadata k.segment_metadata (sym p.segment_metadata ∙ q.segment_metadata) in
    let same : made h.pdu_type h.direction h.crc h.large h.length h.segment_metadata h.id_width h.number_width h.id.source h.id.number h.destination
    ≡ made k.pdu_type k.direction k.crc k.large k.length k.segment_metadata k.id_width k.number_width k.id.source k.id.number k.destination = cc in
    same

pub told : (b : Bool) → eqb (flag b) 1 ≡ b
told true = refl
told false = refl

pub accepted : (h : Header) (t : List ℕ) → SpellsHeader h t → header_fault t ≡ None
accepted h t p =
    let i : header_len_told t ≡ header_len h.id_width h.number_width = rw (p.id_width, p.number_width) refl in
    let long : ltb (length t) 4 ≡ false = le-ltb _ _ (let s = p.size in omega arith) in
    let all : eqb (length t) (header_len h.id_width h.number_width + h.length) ≡ true = eq-eqb _ _ p.size in
    let whole : ltb (length t) (header_len h.id_width h.number_width) ≡ false = le-ltb _ _ (let s = p.size in omega arith) in
    rw (long, p.version, p.acknowledged, p.id_width, p.number_width, whole, p.length_field, all, p.crc, told h.crc, p.check) refl

pub is_ok : {A E : Type 0} (r : Result A E) (P : A → Type 0) → result_err r ≡ None → IfOk r P → IsOkAnd r P
is_ok (Ok x) P e p = p
is_ok (Err d) P e p = absurd cc

pub flag_below : (b : Bool) → flag b < 2
flag_below true = omega arith
flag_below false = omega arith

pub type_below : (t : PduType) → type_bit t < 2
type_below FileDirective = omega arith
type_below FileData = omega arith

pub direction_below : (d : Direction) → direction_bit d < 2
direction_below TowardReceiver = omega arith
direction_below TowardSender = omega arith

-- what is written spells the header, whatever data follow that have the CRC of its flag
spelled_before : (h : Header) (rest : List ℕ) → FitsHeader h → length rest ≡ h.length → has_crc h.crc (header_len h.id_width h.number_width) (header_octets h ++ rest) ≡ true → SpellsHeader h (header_octets h ++ rest)
unfolding octets
spelled_before h rest fits len check =
    let f = fixed_octets h in
    let s = octets h.id_width h.id.source in
    let n = octets h.number_width h.id.number in
    let d = octets h.id_width h.destination in
    let text = f ++ (s ++ (n ++ (d ++ rest))) in
    let grouped : header_octets h ++ rest ≡ text = simp append_assoc in
    let ls = length-octets h.id_width h.id.source in
    let ln = length-octets h.number_width h.id.number in
    let ld = length-octets h.id_width h.destination in
    let l : length text ≡ 4 + (length s + (length n + (length d + length rest))) = simp length-append (omega arith) in
    let fs : length (f ++ s) ≡ 4 + h.id_width = omega (arith, length-append f s) in
    let fsn : length (f ++ s ++ n) ≡ 4 + h.id_width + h.number_width = omega (arith, length-append (f ++ s) n) in
    let low1 = fits.id_width.0 in
    let low2 = fits.id_width.1 in
    let low3 = fits.number_width.0 in
    let low4 = fits.number_width.1 in
    let long = fits.length in
    let b1 = type_below h.pdu_type in
    let b2 = direction_below h.direction in
    let b3 = flag_below h.segment_metadata in
    let b4 = flag_below h.large in
    let b5 = flag_below h.crc in
    let first : ℕ = (32 + 16 * type_bit h.pdu_type + 8 * direction_bit h.direction + 2 * flag h.crc + flag h.large) % 256 in
    let widths : ℕ = (16 * (h.id_width - 1) + 8 * flag h.segment_metadata + (h.number_width - 1)) % 256 in
    let version = field_in_octet text 0 3 0 0 first refl (omega arith) refl in
    let kind = field_in_octet text 3 1 0 3 first refl (omega arith) refl in
    let direction = field_in_octet text 4 1 0 4 first refl (omega arith) refl in
    let mode = field_in_octet text 5 1 0 5 first refl (omega arith) refl in
    let crc = field_in_octet text 6 1 0 6 first refl (omega arith) refl in
    let large = field_in_octet text 7 1 0 7 first refl (omega arith) refl in
    let id_width = field_in_octet text 25 3 3 1 widths refl (omega arith) refl in
    let metadata = field_in_octet text 28 1 3 4 widths refl (omega arith) refl in
    let number_width = field_in_octet text 29 3 3 5 widths refl (omega arith) refl in
    let longs : field text 8 16 ≡ h.length = field_between (first ∷ []) (widths ∷ (s ++ (n ++ (d ++ rest)))) 2 h.length 8 16 long refl refl in
    let source = field_between f (n ++ (d ++ rest)) h.id_width h.id.source 32 (8 * h.id_width) fits.source refl refl in
    let at_number : (f ++ s) ++ (n ++ (d ++ rest)) ≡ text = simp append_assoc in
    let number = field_between (f ++ s) (d ++ rest) h.number_width h.id.number (32 + 8 * h.id_width) (8 * h.number_width) fits.number (omega arith) refl in
    let at_destination : (f ++ s ++ n) ++ (d ++ rest) ≡ text = simp append_assoc in
    let destination = field_between (f ++ s ++ n) rest h.id_width h.destination (32 + 8 * h.id_width + 8 * h.number_width) (8 * h.id_width) fits.destination (omega arith) refl in
    let right : has_crc h.crc (header_len h.id_width h.number_width) text ≡ true = rw (← grouped) check in
    rw grouped (record {
      size = omega arith;
      version = omega arith;
      pdu_type = omega arith;
      direction = omega arith;
      acknowledged = omega arith;
      crc = omega arith;
      large = omega arith;
      length_field = longs;
      id_width = omega arith;
      segment_metadata = omega arith;
      number_width = omega arith;
      source = source;
      number = rw at_number at number;
      destination = rw at_destination at destination;
      check = right;
    })

-- a field of whole octets after others
pub field_behind : (n w : ℕ) (o : List ℕ) → field (drop n o) 0 w ≡ field o (8 * n) w
field_behind n w o = let place : 8 * n + 0 ≡ 8 * n = omega arith in field-drop n o 0 w ∙ ap (λ (at : ℕ). field o at w) place

-- the first of eight octets, which the number of all eight has at the front
pub field_in_eight : (n count : ℕ) (o : List ℕ) → count ≤ 8 → field (drop n o) 0 64 / 2 ^ (64 - 8 * count) ≡ field o (8 * n) (8 * count)
field_in_eight n count o narrow = field-front (drop n o) 0 (8 * count) 64 (omega (arith, narrow)) ∙ field_behind n (8 * count) o

-- fields of a front
fronts : (a b x y : List ℕ) (at w : ℕ) → a ++ x ≡ b ++ y → at + w ≤ 8 * length a → at + w ≤ 8 * length b → field a at w ≡ field b at w
fronts a b x y at w e h k = sym (field-append_left a x at w h) ∙ ap (λ (t : List ℕ). field t at w) e ∙ field-append_left b y at w k

-- no spelling begins another
pub one_form : (a b x y : List ℕ) (h k : Header) → SpellsHeader h a → SpellsHeader k b → a ++ x ≡ b ++ y → (a ≡ b) × (h ≡ k)
one_form a b x y h k p q e =
    let la = p.size in
    let lb = q.size in
    let i = fronts a b x y 25 3 e (omega arith) (omega arith) in
    let n = fronts a b x y 29 3 e (omega arith) (omega arith) in
    let l = fronts a b x y 8 16 e (omega arith) (omega arith) in
    let p1 = p.id_width in
    let p2 = p.number_width in
    let p3 = p.length_field in
    let q1 = q.id_width in
    let q2 = q.number_width in
    let q3 = q.length_field in
    let long : length a ≡ length b = omega arith in
    let same : a ≡ b = sym (take_at a x (length a) refl) ∙ ap (take (length a)) e ∙ take_at b y (length a) (sym long) in
    (same, unique h k b (subst (SpellsHeader h) same p) q)

pub length-header_octets : (h : Header) → length (header_octets h) ≡ header_len h.id_width h.number_width
unfolding octets
length-header_octets h =
    let s = octets h.id_width h.id.source in
    let n = octets h.number_width h.id.number in
    let d = octets h.id_width h.destination in
    let ls = length-octets h.id_width h.id.source in
    let ln = length-octets h.number_width h.id.number in
    let ld = length-octets h.id_width h.destination in
    omega (arith, length-append (fixed_octets h) s, length-append (fixed_octets h ++ s) n, length-append (fixed_octets h ++ s ++ n) d)

-- what is written spells the header, with its CRC after it
pub spelled : (h : Header) (rest : List ℕ) → FitsHeader h → length rest + crc_len h.crc ≡ h.length → SpellsHeader h (with_crc h.crc (header_octets h ++ rest))
spelled h rest fits len =
    let text = header_octets h ++ rest in
    let all = rest ++ crc_octets h.crc text in
    let size : length all ≡ h.length = omega (arith, length-append rest (crc_octets h.crc text), length-crc h.crc text, len) in
    let long : header_len h.id_width h.number_width ≤ length text = omega (arith, length-append (header_octets h) rest, length-header_octets h) in
    let moved = behind h.crc (header_octets h) rest in
    let check : has_crc h.crc (header_len h.id_width h.number_width) (header_octets h ++ all) ≡ true =
    rw (← moved) (has h.crc (header_len h.id_width h.number_width) text long) in
    rw moved (spelled_before h all fits size check)

-- a header that was read fits its widths
pub read_fits : (h : Header) (t : List ℕ) → SpellsHeader h t → FitsHeader h
read_fits h t p =
    let i = p.id_width in
    let n = p.number_width in
    record {
      id_width = (omega arith, omega (arith, field-below t 25 3));
      number_width = (omega arith, omega (arith, field-below t 29 3));
      length = rw (← p.length_field) (field-below t 8 16);
      source = rw (← p.source) (field-below_octets t 32 h.id_width);
      number = rw (← p.number) (field-below_octets t (32 + 8 * h.id_width) h.number_width);
      destination = rw (← p.destination) (field-below_octets t (32 + 8 * h.id_width + 8 * h.number_width) h.id_width);
    }
