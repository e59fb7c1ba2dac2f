-- What is left of octets: with one more octet, of some after others, and moved by zeros.
use Rattle.std.proofs.Common.{◌≡◌, ℕ, ◌+◌, ◌*◌, ◌^◌, ◌<◌, ◌≤◌, List, [], ◌++◌, length, map, get_or, take, refl, sym, ap, ◌∙◌, arith}
use Rattle.std.specs.Int.Bits.{bit_xor}
use Rattle.std.proofs.lemmas.List.{get_or-map, length-map, map-append, take-map}
use Rattle.crc.specs.Division.{moved}
use Rattle.crc.specs.Checks.{check_from}
use Rattle.crc.specs.FileChecks.{divisor32, octet_read, left_behind, moved_octets}
use Rattle.crc.specs.declared.thirty_two.Crc32.{Crc32}
use Rattle.crc.specs.declared.thirty_two.Crc32.TheVariants.{Proximity1, Castagnoli, Ieee}
use Rattle.crc.proofs.Divisions.{moved_below, moved_xor}
use Rattle.crc.proofs.Octets.{check_begun, check_none, check_more, check_below}
use Rattle.crc.proofs.Joined.{joined, AreOctets}
use Rattle.crc.proofs.Mirrors.{onto_below}
use Rattle.crc.proofs.Powers.{moved_zero, moved_add}

pub least32 : (kind : Crc32) → 2 ^ 32 ≤ divisor32 kind
least32 Proximity1 = omega arith
least32 Castagnoli = omega arith
least32 Ieee = omega arith

pub most32 : (kind : Crc32) → divisor32 kind < 2 ^ 33
most32 Proximity1 = omega arith
most32 Castagnoli = omega arith
most32 Ieee = omega arith

pub octet_below : (kind : Crc32) (b : ℕ) → b < 256 → octet_read kind b < 256
octet_below Proximity1 b h = h
octet_below Castagnoli b h = omega (arith, onto_below 8 b 0)
octet_below Ieee b h = omega (arith, onto_below 8 b 0)

pub none32 : (kind : Crc32) (s : ℕ) → s < 2 ^ 32 → s ≡ left_behind kind s []
unfolding left_behind
none32 kind s h = sym (check_none 24 (divisor32 kind) (least32 kind) (most32 kind) s h)

pub below32 : (kind : Crc32) (s : ℕ) (o : List ℕ) → left_behind kind s o < 2 ^ 32
unfolding left_behind
below32 kind s o = check_below 24 (divisor32 kind) (least32 kind) (most32 kind) s (map (octet_read kind) o)

-- with one more octet
pub more32 : (kind : Crc32) (s : ℕ) (o : List ℕ) (n b : ℕ) → n < length o → b ≡ octet_read kind (get_or o n 0) → get_or o n 0 < 256
    → moved 32 (divisor32 kind) 8 (bit_xor (left_behind kind s (take n o)) (b * 2 ^ 24)) ≡ left_behind kind s (take (n + 1) o)
unfolding left_behind
more32 kind s o n b h is small =
    let f = octet_read kind in
    let g = divisor32 kind in
    let all : List ℕ = map f o in
    let there : get_or all n 0 ≡ b = get_or-map f o n 0 0 h ∙ sym is in
    let below : b < 256 = rw is (octet_below kind (get_or o n 0) small) in
    let inside : n < length all = omega (arith, length-map o f) in
    ap (λ (l : List ℕ). moved 32 g 8 (bit_xor (check_from 32 g s l) (b * 2 ^ 24))) (sym (take-map f n o))
    ∙ sym (check_more 24 g (least32 kind) (most32 kind) s all n b inside there below)
    ∙ ap (check_from 32 g s) (take-map f (n + 1) o)

pub moved_by_none : (kind : Crc32) (n : ℕ) → moved_octets kind 0 n ≡ n
unfolding moved_octets moved
moved_by_none kind n = refl

pub moved_nothing : (kind : Crc32) (j : ℕ) → moved_octets kind j 0 ≡ 0
unfolding moved_octets
moved_nothing kind j = moved_zero 32 (divisor32 kind) (least32 kind) (most32 kind) (8 * j)

pub moved_twice : (kind : Crc32) (j k n : ℕ) → moved_octets kind j (moved_octets kind k n) ≡ moved_octets kind (j + k) n
unfolding moved_octets
moved_twice kind j k n =
    let sum : 8 * j + 8 * k ≡ 8 * (j + k) = omega arith in
    sym (moved_add 32 (divisor32 kind) (least32 kind) (most32 kind) (8 * j) (8 * k) n) ∙ ap (λ m. moved 32 (divisor32 kind) m n) sum

pub moved_sum : (kind : Crc32) (j a b : ℕ) → a < 2 ^ 32 → b < 2 ^ 32 → moved_octets kind j (bit_xor a b) ≡ bit_xor (moved_octets kind j a) (moved_octets kind j b)
unfolding moved_octets
moved_sum kind j a b ha hb = moved_xor 32 (divisor32 kind) (least32 kind) (most32 kind) (8 * j) a b ha hb

pub moved_fits : (kind : Crc32) (j n : ℕ) → n < 2 ^ 32 → moved_octets kind j n < 2 ^ 32
unfolding moved_octets
moved_fits kind j n h = moved_below 32 (divisor32 kind) (least32 kind) (most32 kind) (8 * j) n h

read_octets : (kind : Crc32) (o : List ℕ) → AreOctets o → AreOctets (map (octet_read kind) o)
read_octets kind o h i inside =
    let within : i < length o = omega (arith, length-map o (octet_read kind)) in
    rw (get_or-map (octet_read kind) o i 0 0 within) (octet_below kind (get_or o i 0) (h i within))

pub left_joined : (kind : Crc32) (s : ℕ) (a b : List ℕ) → s < 2 ^ 32 → AreOctets b → left_behind kind (left_behind kind s a) b ≡ left_behind kind s (a ++ b)
unfolding left_behind
left_joined kind s a b h bytes =
    joined 24 (divisor32 kind) (least32 kind) (most32 kind) s (map (octet_read kind) a) (map (octet_read kind) b) h (read_octets kind b bytes)
    ∙ ap (check_from 32 (divisor32 kind) s) (sym (map-append (octet_read kind) a b))

pub left_begun : (kind : Crc32) (s : ℕ) (o : List ℕ) → s < 2 ^ 32 → left_behind kind s o ≡ bit_xor (moved_octets kind (length o) s) (left_behind kind 0 o)
unfolding left_behind moved_octets
left_begun kind s o h =
    check_begun 24 (divisor32 kind) (least32 kind) (most32 kind) s (map (octet_read kind) o) h
    ∙ ap (λ n. bit_xor (moved 32 (divisor32 kind) (8 * n) s) (check_from 32 (divisor32 kind) 0 (map (octet_read kind) o))) (length-map o (octet_read kind))
