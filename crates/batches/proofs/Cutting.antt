-- Exported: batches at the front of octets.
use Rattle.std.proofs.Common.{◌≡◌, ℕ, ◌+◌, ◌*◌, ◌-◌, ◌^◌, ◌<◌, ◌≤◌, List, [], ◌∷◌, ◌++◌, length, take, drop, refl, sym, ap, ap₂, ◌∙◌, arith, append_assoc, append-nil, length-append, length-take, length-drop}
use Rattle.std.specs.List.{AllByRecursion}
use Rattle.std.proofs.lemmas.List.{take_at, drop_at, append_cancel_left, drop-drop, take-append-drop}
use Rattle.cfd_bits.specs.Field.{field, octets}
use Rattle.cfd_bits.proofs.Fields.{IsBytes, length-octets, field_between, field-drop, octets-field}
use Rattle.cfd_bits.proofs.BitFields.{field-take}
use Rattle.crc.specs.declared.thirty_two.Crc32.TheVariants.{Castagnoli}
use Rattle.crc.specs.FileChecks.{crc32_of}
use Rattle.batches.specs.Batch.{AreBatches, BeginsWithNone, FitsBatch, batch, batches_of}

-- the length of a text is a number of eight octets
abbrev pub IsShort : List ℕ → Type 0
IsShort text = length text < 2 ^ 64

abbrev check : List ℕ → List ℕ
check text = octets 4 (crc32_of Castagnoli text)

abbrev head : List ℕ → List ℕ
head text = octets 8 (length text) ++ check text

pub length-head : (text : List ℕ) → length (head text) ≡ 12
length-head text =
    let one : length (octets 8 (length text)) ≡ 8 = length-octets 8 (length text) in
    let two : length (check text) ≡ 4 = length-octets 4 (crc32_of Castagnoli text) in
    omega (arith, length-append (octets 8 (length text)) (check text), one, two)

pub length-batch : (text : List ℕ) → length (batch text) ≡ 12 + length text
length-batch text = omega (arith, length-append (head text) text, length-head text)

-- its parts, and what follows
parts : (text rest : List ℕ) → batch text ++ rest ≡ octets 8 (length text) ++ (check text ++ (text ++ rest))
parts text rest = append_assoc (head text) text rest ∙ append_assoc (octets 8 (length text)) (check text) (text ++ rest)

-- the length is read from it, whatever follows
pub length-read : (text rest : List ℕ) → IsShort text → field (batch text ++ rest) 0 64 ≡ length text
length-read text rest short =
    let low : length text < 256 ^ 8 = omega (arith, short) in
    ap (λ o. field o 0 64) (parts text rest) ∙ field_between [] (check text ++ (text ++ rest)) 8 (length text) 0 64 low refl refl

-- and so is the check
pub check-read : (text rest : List ℕ) → field (drop 8 (batch text ++ rest)) 0 32 ≡ crc32_of Castagnoli text
check-read text rest =
    let low : crc32_of Castagnoli text < 256 ^ 4 = omega arith in
    let behind : drop 8 (batch text ++ rest) ≡ check text ++ (text ++ rest) = ap (drop 8) (parts text rest) ∙ drop_at (octets 8 (length text)) (check text ++ (text ++ rest)) 8 (length-octets 8 (length text)) in
    ap (λ o. field o 0 32) behind ∙ field_between [] (text ++ rest) 4 (crc32_of Castagnoli text) 0 32 low refl refl

-- it is what stands after the head
pub text-there : (text rest : List ℕ) → drop 12 (batch text ++ rest) ≡ text ++ rest
text-there text rest = ap (drop 12) (append_assoc (head text) text rest) ∙ drop_at (head text) (text ++ rest) 12 (length-head text)

-- what octets that begin with a batch have when it is read
pub record Stands (bytes text : List ℕ) : Type 0 where
  pub count : field bytes 0 64 ≡ length text
  pub check : field (drop 8 bytes) 0 32 ≡ crc32_of Castagnoli text
  pub room : 12 + length text ≤ length bytes
  pub there : take (length text) (drop 12 bytes) ≡ text

pub stands : (bytes text rest : List ℕ) → IsShort text → bytes ≡ batch text ++ rest → Stands bytes text
stands bytes text rest short is = record {
  count = ap (λ o. field o 0 64) is ∙ length-read text rest short;
  check = ap (λ o. field (drop 8 o) 0 32) is ∙ check-read text rest;
  room = omega (arith, ap length is, length-append (batch text) rest, length-batch text);
  there = ap (λ o. take (length text) (drop 12 o)) is ∙ ap (take (length text)) (text-there text rest) ∙ take_at text rest (length text) refl;
}

-- octets with a length and a check that fit begin with a batch
pub found : (bytes text : List ℕ) → IsBytes bytes → 12 + length text ≤ length bytes → text ≡ take (length text) (drop 12 bytes) → field bytes 0 64 ≡ length text → field (drop 8 bytes) 0 32 ≡ crc32_of Castagnoli text
    → bytes ≡ batch text ++ drop (12 + length text) bytes
found bytes text are room is count sum =
    let n : ℕ = length text in
    let eight : 0 + 8 ≤ length bytes = omega (arith, room) in
    let twelve : 8 + 4 ≤ length bytes = omega (arith, room) in
    let first : octets 8 n ≡ take 8 bytes = ap (octets 8) (sym count) ∙ octets-field bytes 0 0 8 are refl eight in
    let second : check text ≡ take 4 (drop 8 bytes) = ap (octets 4) (sym sum ∙ field-drop 8 bytes 0 32) ∙ octets-field bytes 64 8 4 are refl twelve in
    let back : drop (12 + n) bytes ≡ drop n (drop 12 bytes) = sym (drop-drop n 12 bytes) in
    let third : text ++ drop (12 + n) bytes ≡ drop 12 bytes = ap₂ (λ (a b : List ℕ). a ++ b) is back ∙ take-append-drop n (drop 12 bytes) in
    let mid : drop 12 bytes ≡ drop 4 (drop 8 bytes) = sym (drop-drop 4 8 bytes) in
    let behind : check text ++ (text ++ drop (12 + n) bytes) ≡ drop 8 bytes = ap₂ (λ (a b : List ℕ). a ++ b) second (third ∙ mid) ∙ take-append-drop 4 (drop 8 bytes) in
    sym (parts text (drop (12 + n) bytes) ∙ ap₂ (λ (a b : List ℕ). a ++ b) first behind ∙ take-append-drop 8 bytes)

-- the same, as the code reads it
module _ (bytes : List ℕ) (k n : ℕ) (same : k ≡ n) (count : n ≡ field bytes 0 64) where
  abbrev read_text : List ℕ
  read_text = take k (drop 12 bytes)

  abbrev read_check : ℕ
  read_check = field (take (length bytes - 8) (drop 8 bytes)) 0 32

  check-there : 12 ≤ length bytes → read_check ≡ field (drop 8 bytes) 0 32
  check-there room = field-take (length bytes - 8) (drop 8 bytes) 0 32 (omega (arith, room))

  pub length_at : n ≤ length bytes - 12 → length read_text ≡ n
  length_at room = length-take k (drop 12 bytes) ∙ omega (arith, same, room, length-drop 12 bytes)

  pub found_at : IsBytes bytes → 12 ≤ length bytes → n ≤ length bytes - 12 → crc32_of Castagnoli read_text ≡ read_check → bytes ≡ batch read_text ++ drop (12 + length read_text) bytes
  found_at are twelve room sum =
      let long : length read_text ≡ n = length_at room in
      found bytes read_text are (omega (arith, long, room, twelve)) (ap (λ i. take i (drop 12 bytes)) (same ∙ sym long)) (sym count ∙ sym long) (sym (check-there twelve) ∙ sym sum)

  pub fits_at : 0 < n → n < 2 ^ 64 → n ≤ length bytes - 12 → FitsBatch read_text
  fits_at some short room = record { some = omega (arith, some, length_at room); short = omega (arith, short, length_at room) }

  module _ (text rest : List ℕ) (fits : FitsBatch text) (is : bytes ≡ batch text ++ rest) where
    s : Stands bytes text
    s = stands bytes text rest fits.short is

    long : n ≡ length text
    long = count ∙ s.count

    pub only_at : read_text ≡ text
    only_at = ap (λ i. take i (drop 12 bytes)) (same ∙ long) ∙ s.there

    pub room_at : (12 + n ≤ length bytes) × (0 < n)
    room_at = (omega (arith, long, s.room), omega (arith, long, fits.some))

    pub sum_at : crc32_of Castagnoli read_text ≡ read_check
    sum_at = ap (crc32_of Castagnoli) only_at ∙ sym s.check ∙ sym (check-there (omega (arith, s.room)))

-- what stays after an offset stays after a later one
pub later : (a b : ℕ) (x y : List ℕ) → a ≤ b → drop a x ≡ drop a y → drop b x ≡ drop b y
later a b x y low same =
    let e : a + (b - a) ≡ b = omega (arith, low) in
    ap (λ n. drop n x) (sym e) ∙ sym (drop-drop (b - a) a x) ∙ ap (drop (b - a)) same ∙ drop-drop (b - a) a y ∙ ap (λ n. drop n y) e

-- octets that begin with two batches begin with one
pub same-text : (text other rest more : List ℕ) → IsShort text → IsShort other → batch text ++ rest ≡ batch other ++ more → text ≡ other
same-text text other rest more one two same =
    let long : length text ≡ length other = sym (length-read text rest one) ∙ ap (λ o. field o 0 64) same ∙ length-read other more two in
    let behind : text ++ rest ≡ other ++ more = sym (text-there text rest) ∙ ap (drop 12) same ∙ text-there other more in
    sym (take_at text rest (length text) refl) ∙ ap (take (length text)) behind ∙ take_at other more (length text) (sym long)

pub torn-none : (text : List ℕ) (n : ℕ) → FitsBatch text → n < length (batch text) → BeginsWithNone (take n (batch text))
torn-none text n fits cut other rest fits_too same =
    let whole : length (batch text) ≡ 12 + length text = length-batch text in
    let its : length (batch other) ≡ 12 + length other = length-batch other in
    let left : length (take n (batch text)) ≡ n = length-take n (batch text) ∙ omega (arith, cut) in
    let enough : 12 + length other ≤ n = omega (arith, left, ap length same, length-append (batch other) rest, its) in
    let far : 64 ≤ 8 * n = omega (arith, enough) in
    let long : length other ≡ length text =
    sym (length-read other rest fits_too.short) ∙ ap (λ o. field o 0 64) (sym same) ∙ field-take n (batch text) 0 64 far
    ∙ ap (λ o. field o 0 64) (sym (append-nil (batch text))) ∙ length-read text [] fits.short in
    omega (arith, cut, whole, enough, long)

pub empty-none : BeginsWithNone []
empty-none text rest fits same = omega (arith, ap length same, length-append (batch text) rest, length-batch text)

pub same-batches : (texts others : List (List ℕ)) (tail rest : List ℕ) → AllByRecursion FitsBatch texts → AllByRecursion FitsBatch others → BeginsWithNone tail → BeginsWithNone rest → batches_of texts ++ tail ≡ batches_of others ++ rest → others ≡ texts
same-batches [] [] tail rest a b none none_too same = refl
same-batches [] (o ∷ others) tail rest a b none none_too same = absurd (none o (batches_of others ++ rest) b.0 (same ∙ append_assoc (batch o) (batches_of others) rest))
same-batches (t ∷ texts) [] tail rest a b none none_too same = absurd (none_too t (batches_of texts ++ tail) a.0 (sym same ∙ append_assoc (batch t) (batches_of texts) tail))
same-batches (t ∷ texts) (o ∷ others) tail rest a b none none_too same =
    let both : batch t ++ (batches_of texts ++ tail) ≡ batch o ++ (batches_of others ++ rest) =
    sym (append_assoc (batch t) (batches_of texts) tail) ∙ same ∙ append_assoc (batch o) (batches_of others) rest in
    let first : t ≡ o = same-text t o (batches_of texts ++ tail) (batches_of others ++ rest) a.0.short b.0.short both in
    let behind : batches_of texts ++ tail ≡ batches_of others ++ rest =
    append_cancel_left (batch t) (batches_of texts ++ tail) (batches_of others ++ rest) (both ∙ ap (λ x. batch x ++ (batches_of others ++ rest)) (sym first)) in
    ap₂ (λ (x : List ℕ) (l : List (List ℕ)). x ∷ l) (sym first) (same-batches texts others tail rest a.1 b.1 none none_too behind)

-- octets are read in one way only
pub one-reading : (bytes tail rest : List ℕ) (texts others : List (List ℕ)) → AreBatches bytes texts tail → AreBatches bytes others rest → (others ≡ texts) × (rest ≡ tail)
one-reading bytes tail rest texts others a b =
    let both : batches_of texts ++ tail ≡ batches_of others ++ rest = sym a.octets ∙ b.octets in
    let same : others ≡ texts = same-batches texts others tail rest a.fit b.fit a.none b.none both in
    (same, sym (append_cancel_left (batches_of texts) tail rest (both ∙ ap (λ l. batches_of l ++ rest) same)))
