-- A check reads the lowest eight bits of each number, so that laws of octets hold of any numbers.
use Rattle.std.proofs.Common.{◌≡◌, ℕ, zero, suc, ◌+◌, ◌-◌, ◌*◌, ◌/◌, ◌%◌, ◌^◌, ◌<◌, leb, ltb, ◌&&◌, length-append, List, [], ◌∷◌, ◌++◌, length, map, get_or, take, drop, min, max, refl, sym, ap, ap₂, ◌∙◌, arith, inl, inr}
use Rattle.std.specs.Prelude.{fold, count_by}
use Rattle.std.specs.List.{AllByRecursion}
use Rattle.std.specs.Int.{w8, reverse_bits, reverse_bits_onto}
use Rattle.std.specs.Int.Bits.{bit_xor, xor_zero_r}
use Rattle.std.proofs.lemmas.List.{get_or-map, get_or_past, length-map, map-append, take-map, drop-map}
use Rattle.std.proofs.lemmas.Bool.{cases_lt}
use Rattle.cfd_bits.specs.Field.{bit, field}
use Rattle.crc.specs.Checks.{check_from}
use Rattle.crc.specs.FileChecks.{octet_read, left_behind, moved_octets, start32, written32, crc32_of}
use Rattle.crc.specs.Pieces.{Piece, IsOf, Cuts, covers, kept_with, kept_of, nothing_kept}
use Rattle.crc.specs.declared.thirty_two.Crc32.{Crc32}
use Rattle.crc.specs.declared.thirty_two.Crc32.TheVariants.{Proximity1, Castagnoli, Ieee}
use Rattle.crc.specs.declared.file_check.FileCheck.{FileCheck}
use Rattle.crc.proofs.Joined.{AreOctets}
use Rattle.crc.proofs.Lefts.{moved_by_none, left_joined, none32}
use Rattle.crc.proofs.Spreads.{none_left}
use Rattle.crc.proofs.Gathered.{mark, gathered, start_below, count_more}

-- the lowest eight bits of each
low : List ℕ → List ℕ
low o = map (λ n. n % 256) o

-- ---- bits
bit_of : (n m r : ℕ) → r < 8 → n % 256 ≡ m % 256 → n / 2 ^ (7 - r) % 2 ≡ m / 2 ^ (7 - r) % 2
bit_of n m zero h e = omega arith
bit_of n m (suc zero) h e = omega arith
bit_of n m (suc (suc zero)) h e = omega arith
bit_of n m (suc (suc (suc zero))) h e = omega arith
bit_of n m (suc (suc (suc (suc zero)))) h e = omega arith
bit_of n m (suc (suc (suc (suc (suc zero))))) h e = omega arith
bit_of n m (suc (suc (suc (suc (suc (suc zero)))))) h e = omega arith
bit_of n m (suc (suc (suc (suc (suc (suc (suc zero))))))) h e = omega arith
bit_of n m (suc (suc (suc (suc (suc (suc (suc (suc r)))))))) h e = absurd (omega arith)

-- lists of the same octets
abbrev Same : List ℕ → List ℕ → Type 0
Same a b = (j : ℕ) → get_or a j 0 % 256 ≡ get_or b j 0 % 256

bit_same : (a b : List ℕ) → Same a b → (i : ℕ) → bit a i ≡ bit b i
unfolding bit
bit_same a b same i = bit_of (get_or a (i / 8) 0) (get_or b (i / 8) 0) (i % 8) (omega arith) (same (i / 8))

field_same : (a b : List ℕ) → Same a b → (at width : ℕ) → field a at width ≡ field b at width
unfolding field
field_same a b same at zero = refl
field_same a b same at (suc width) = ap₂ (λ m n. 2 * m + n) (field_same a b same at width) (bit_same a b same (at + width))

turned : (n : ℕ) → reverse_bits w8 (n % 256) ≡ reverse_bits w8 n
unfolding reverse_bits_onto
turned n = omega arith

read_low : (kind : Crc32) (n : ℕ) → octet_read kind (n % 256) % 256 ≡ octet_read kind n % 256
read_low Proximity1 n = omega arith
read_low Castagnoli n = ap (λ m. m % 256) (turned n)
read_low Ieee n = ap (λ m. m % 256) (turned n)

lists_same : (kind : Crc32) (o : List ℕ) → Same (map (octet_read kind) (low o)) (map (octet_read kind) o)
unfolding low
lists_same kind o j = elim (cases_lt j (length o)) [
  | inl inside ↦
      let within : j < length (low o) = omega (arith, length-map o (λ n. n % 256)) in
      ap (λ m. m % 256) (get_or-map (octet_read kind) (low o) j 0 0 within ∙ ap (octet_read kind) (get_or-map (λ n. n % 256) o j 0 0 inside))
      ∙ read_low kind (get_or o j 0)
      ∙ ap (λ m. m % 256) (sym (get_or-map (octet_read kind) o j 0 0 inside))
  | inr past ↦
      ap (λ m. m % 256)
      (get_or_past (map (octet_read kind) (low o)) j 0 (omega (arith, past, length-map (low o) (octet_read kind), length-map o (λ n. n % 256)))
      ∙ sym (get_or_past (map (octet_read kind) o) j 0 (omega (arith, past, length-map o (octet_read kind)))))
]

low_length : (o : List ℕ) → length (low o) ≡ length o
unfolding low
low_length o = length-map o (λ n. n % 256)

left_low : (kind : Crc32) (s : ℕ) (o : List ℕ) → left_behind kind s (low o) ≡ left_behind kind s o
unfolding left_behind check_from
left_low kind s o =
    let len : length (map (octet_read kind) (low o)) ≡ length (map (octet_read kind) o) =
    length-map (low o) (octet_read kind) ∙ low_length o ∙ sym (length-map o (octet_read kind)) in
    rw (len, field_same (map (octet_read kind) (low o)) (map (octet_read kind) o) (lists_same kind o) 0 (8 * length (map (octet_read kind) o))) refl

low_octets : (o : List ℕ) → AreOctets (low o)
unfolding low
low_octets o i inside =
    let within : i < length o = omega (arith, inside, length-map o (λ n. n % 256)) in
    rw (get_or-map (λ n. n % 256) o i 0 0 within) (omega arith)

low_twice : (o : List ℕ) → low (low o) ≡ low o
unfolding low
low_twice [] = refl
low_twice (n ∷ o) = ap₂ (λ m l. m ∷ l) (omega arith) (low_twice o)

-- ---- octets after others
pub left_on : (kind : Crc32) (s : ℕ) (a b : List ℕ) → s < 2 ^ 32 → left_behind kind (left_behind kind s a) b ≡ left_behind kind s (a ++ b)
unfolding low
left_on kind s a b fits =
    sym (left_low kind (left_behind kind s a) b)
    ∙ left_joined kind s a (low b) fits (low_octets b)
    ∙ sym (left_low kind s (a ++ low b))
    ∙ ap (left_behind kind s) (map-append (λ n. n % 256) a (low b) ∙ ap (λ l. low a ++ l) (low_twice b) ∙ sym (map-append (λ n. n % 256) a b))
    ∙ left_low kind s (a ++ b)

-- a piece from the end on
next_kept : (kind : Crc32) (end left : ℕ) (b : List ℕ)
    → kept_with (record { kind = kind; end = end; left = left }) (record { offset = end; bytes = b })
    ≡ record { kind = kind; end = end + length b; left = left_behind kind left b }
next_kept kind end left b =
    let few : min (length b) (end - end) ≡ 0 = omega arith in
    let behind : end - (end + 0) ≡ 0 = omega arith in
    let gap : end + 0 - end ≡ 0 = omega arith in
    let last : max end (end + length b) ≡ end + length b = omega arith in
    let laid : bit_xor left (moved_octets kind 0 (left_behind kind 0 [])) ≡ left =
    ap (bit_xor left) (moved_by_none kind (left_behind kind 0 []) ∙ none_left kind) ∙ xor_zero_r left in
    rw (few, behind, gap, last, laid, moved_by_none kind left) refl

-- a file that comes in order, in one piece or in several
pub first_kept : (kind : Crc32) (a : List ℕ)
    → kept_with (nothing_kept kind) (record { offset = 0; bytes = a })
    ≡ record { kind = kind; end = 0 + length a; left = left_behind kind (start32 kind) a }
first_kept kind a = next_kept kind 0 (start32 kind) a

pub none_kept : (kind : Crc32) → kept_with (nothing_kept kind) (record { offset = 0; bytes = [] }) ≡ nothing_kept kind
none_kept kind =
    first_kept kind []
    ∙ ap (λ (m : ℕ). record { kind = kind; end = 0; left = m }) (sym (none32 kind (start32 kind) (start_below kind)))

pub kept_on : (kind : Crc32) (a b : List ℕ)
    → kept_with (kept_with (nothing_kept kind) (record { offset = 0; bytes = a })) (record { offset = length a; bytes = b })
    ≡ kept_with (nothing_kept kind) (record { offset = 0; bytes = a ++ b })
kept_on kind a b =
    let at : 0 + length a ≡ length a = omega arith in
    let whole : length a + length b ≡ 0 + length (a ++ b) = omega (arith, length-append a b) in
    ap (λ k. kept_with k (record { offset = length a; bytes = b }))
    (first_kept kind a ∙ ap (λ (n : ℕ). record { kind = kind; end = n; left = left_behind kind (start32 kind) a }) at)
    ∙ next_kept kind (length a) (left_behind kind (start32 kind) a) b
    ∙ ap₂ (λ (n m : ℕ). record { kind = kind; end = n; left = m }) whole (left_on kind (start32 kind) a b (start_below kind))
    ∙ sym (first_kept kind (a ++ b))

pub whole_kept : (kind : Crc32) (file : List ℕ) → written32 kind (kept_with (nothing_kept kind) (record { offset = 0; bytes = file })).left ≡ crc32_of kind file
whole_kept kind file = ap (λ (k : FileCheck). written32 kind k.left) (first_kept kind file)

-- ---- pieces in any order
low_piece : Piece → Piece
low_piece p = record { offset = p.offset; bytes = low p.bytes }

take_low : (n : ℕ) (o : List ℕ) → take n (low o) ≡ low (take n o)
unfolding low
take_low n o = take-map (λ m. m % 256) n o

drop_low : (n : ℕ) (o : List ℕ) → drop n (low o) ≡ low (drop n o)
unfolding low
drop_low n o = drop-map (λ m. m % 256) n o

kept_low : (k : FileCheck) (p : Piece) → kept_with k (low_piece p) ≡ kept_with k p
unfolding low_piece
kept_low k p =
    let n : ℕ = min (length p.bytes) (k.end - p.offset) in
    let front : left_behind k.kind 0 (take n (low p.bytes)) ≡ left_behind k.kind 0 (take n p.bytes) =
    ap (left_behind k.kind 0) (take_low n p.bytes) ∙ left_low k.kind 0 (take n p.bytes) in
    let back : (s : ℕ) → left_behind k.kind s (drop n (low p.bytes)) ≡ left_behind k.kind s (drop n p.bytes) =
    λ s. ap (left_behind k.kind s) (drop_low n p.bytes) ∙ left_low k.kind s (drop n p.bytes) in
    rw (low_length p.bytes, front, back _) refl

all_kept_low : (k : FileCheck) (pieces : List Piece) → fold kept_with k (map low_piece pieces) ≡ fold kept_with k pieces
all_kept_low k [] = refl
all_kept_low k (p ∷ pieces) = ap (λ (x : FileCheck). fold kept_with x (map low_piece pieces)) (kept_low k p) ∙ all_kept_low (kept_with k p) pieces

count_low : (i : ℕ) (pieces : List Piece) → count_by (covers i) (map low_piece pieces) ≡ count_by (covers i) pieces
unfolding low_piece
count_low i [] = refl
count_low i (p ∷ pieces) =
    let here : mark (covers i (low_piece p)) ≡ mark (covers i p) = ap (λ n. mark (leb p.offset i && ltb i (p.offset + n))) (low_length p.bytes) in
    count_more i (low_piece p) (map low_piece pieces) ∙ ap₂ (λ m n. m + n) here (count_low i pieces) ∙ sym (count_more i p pieces)

part_low : (file : List ℕ) (p : Piece) → IsOf file p → IsOf (low file) (low_piece p)
unfolding low low_piece
part_low file p is = record {
  within = omega (arith, is.within, low_length p.bytes, low_length file);
  same =
      ap low is.same
      ∙ sym (take-map (λ m. m % 256) (length p.bytes) (drop p.offset file))
      ∙ ap (take (length p.bytes)) (sym (drop-map (λ m. m % 256) p.offset file))
      ∙ ap (λ n. take n (drop p.offset (low file))) (sym (low_length p.bytes));
}

parts_low : (file : List ℕ) (pieces : List Piece) → AllByRecursion (IsOf file) pieces → AllByRecursion (IsOf (low file)) (map low_piece pieces)
parts_low file [] parts = parts
parts_low file (p ∷ pieces) parts = (part_low file p parts.0, parts_low file pieces parts.1)

cuts_low : (file : List ℕ) (pieces : List Piece) → Cuts file pieces → Cuts (low file) (map low_piece pieces)
cuts_low file pieces cuts = record {
  parts = parts_low file pieces cuts.parts;
  once = λ n inside. count_low n pieces ∙ cuts.once n (omega (arith, inside, low_length file));
}

-- the law
pub any_gathered : (kind : Crc32) (file : List ℕ) (pieces : List Piece) → Cuts file pieces → written32 kind (kept_of kind pieces).left ≡ crc32_of kind file
any_gathered kind file pieces cuts =
    ap (λ (k : FileCheck). written32 kind k.left) (sym (all_kept_low (nothing_kept kind) pieces))
    ∙ gathered kind (low file) (map low_piece pieces) (low_octets file) (cuts_low file pieces cuts)
    ∙ ap (written32 kind) (left_low kind (start32 kind) file)
