-- What is left, with its octets or its bits in reverse order.
use Rattle.std.proofs.Common.{◌≡◌, ℕ, zero, suc, ◌+◌, ◌*◌, ◌/◌, ◌%◌, ◌^◌, ◌<◌, ◌≤◌, refl, sym, ap, ap₂, ◌∙◌, arith, add-one}
use Rattle.std.specs.Int.{w32, reverse_bits_onto, swap_bytes}
use Rattle.std.specs.Int.Bits.{bit_xor}
use Rattle.std.proofs.Math.Nat.{mul_assoc, add-mul, mul-le-mul_right}
use Rattle.std.proofs.lemmas.Nat.{xor_block, xor_shr, xor_mod, shr-shr, shr_high}
use Rattle.std.proofs.lemmas.Grind.{pow_more}
use Rattle.crc.specs.declared.thirty_two.Crc32.{Crc32}
use Rattle.crc.specs.declared.thirty_two.Crc32.TheVariants.{Proximity1, Castagnoli, Ieee}
use Rattle.crc.specs.FileChecks.{octet_read}
use Rattle.crc.specs.Mirrors.{mirrored32}
use Rattle.crc.proofs.Xor.{xor_digit}

-- ---- bits the other way round
power : (k : ℕ) → 2 ^ suc k ≡ 2 * 2 ^ k
power k = ap (λ m. 2 ^ m) (sym (add-one k)) ∙ pow_more 2 k ∙ omega arith

-- after other bits
onto_after : (k n a : ℕ) → reverse_bits_onto k n a ≡ a * 2 ^ k + reverse_bits_onto k n 0
unfolding reverse_bits_onto
onto_after zero n a = omega arith
onto_after (suc k) n a =
    let d : ℕ = n % 2 in
    let some : (a * 2 + d) * 2 ^ k ≡ a * 2 * 2 ^ k + d * 2 ^ k = add-mul (a * 2) d (2 ^ k) in
    let none : (0 * 2 + d) * 2 ^ k ≡ d * 2 ^ k = ap (λ m. m * 2 ^ k) (let e : 0 * 2 + d ≡ d = omega arith in e) in
    let wide : a * 2 ^ suc k ≡ a * 2 * 2 ^ k = ap (λ m. a * m) (power k) ∙ sym (mul_assoc a 2 (2 ^ k)) in
    let one : reverse_bits_onto k (n / 2) (a * 2 + d) ≡ (a * 2 + d) * 2 ^ k + reverse_bits_onto k (n / 2) 0 = onto_after k (n / 2) (a * 2 + d) in
    let two : reverse_bits_onto k (n / 2) (0 * 2 + d) ≡ (0 * 2 + d) * 2 ^ k + reverse_bits_onto k (n / 2) 0 = onto_after k (n / 2) (0 * 2 + d) in
    omega (arith, some, none, wide, one, two)

onto_none : (k a : ℕ) → reverse_bits_onto k 0 a ≡ a * 2 ^ k
unfolding reverse_bits_onto
onto_none zero a = omega arith
onto_none (suc k) a =
    let d : a * 2 + 0 ≡ a * 2 = omega arith in
    ap (reverse_bits_onto k 0) d ∙ onto_none k (a * 2) ∙ mul_assoc a 2 (2 ^ k) ∙ ap (λ m. a * m) (sym (power k))

-- in two parts
onto_more : (j k n a : ℕ) → reverse_bits_onto (j + k) n a ≡ reverse_bits_onto k (n / 2 ^ j) (reverse_bits_onto j n a)
unfolding reverse_bits_onto
onto_more zero k n a =
    let none : 0 + k ≡ k = omega arith in
    let whole : n ≡ n / 1 = omega arith in
    ap₂ (λ i m. reverse_bits_onto i m a) none whole
onto_more (suc j) k n a =
    let more : suc j + k ≡ suc (j + k) = omega arith in
    let turn : 1 + j ≡ suc j = omega arith in
    ap (λ i. reverse_bits_onto i n a) more
    ∙ onto_more j k (n / 2) (a * 2 + n % 2)
    ∙ ap (λ m. reverse_bits_onto k m (reverse_bits_onto j (n / 2) (a * 2 + n % 2))) (shr-shr n 1 j ∙ ap (λ i. n / 2 ^ i) turn)

-- the lowest bits alone
onto_low : (k x y a : ℕ) → reverse_bits_onto k (x * 2 ^ k + y) a ≡ reverse_bits_onto k y a
unfolding reverse_bits_onto
onto_low zero x y a = refl
onto_low (suc k) x y a =
    let wide : x * 2 ^ suc k ≡ 2 * (x * 2 ^ k) = ap (λ m. x * m) (power k) ∙ sym (mul_assoc x 2 (2 ^ k)) ∙ ap (λ m. m * 2 ^ k) (let e : x * 2 ≡ 2 * x = omega arith in e) ∙ mul_assoc 2 x (2 ^ k) in
    let half : (x * 2 ^ suc k + y) / 2 ≡ x * 2 ^ k + y / 2 = omega (arith, wide) in
    let last : (x * 2 ^ suc k + y) % 2 ≡ y % 2 = omega (arith, wide) in
    ap₂ (λ m d. reverse_bits_onto k m (a * 2 + d)) half last ∙ onto_low k x (y / 2) (a * 2 + y % 2)

pub onto_below : (k n a : ℕ) → reverse_bits_onto k n a < (a + 1) * 2 ^ k
unfolding reverse_bits_onto
onto_below zero n a = omega arith
onto_below (suc k) n a =
    let ih : reverse_bits_onto k (n / 2) (a * 2 + n % 2) < (a * 2 + n % 2 + 1) * 2 ^ k = onto_below k (n / 2) (a * 2 + n % 2) in
    let more : (a * 2 + n % 2 + 1) * 2 ^ k ≤ (a + 1) * 2 * 2 ^ k = mul-le-mul_right (2 ^ k) (omega arith) in
    let whole : (a + 1) * 2 ^ suc k ≡ (a + 1) * 2 * 2 ^ k = ap (λ m. (a + 1) * m) (power k) ∙ sym (mul_assoc (a + 1) 2 (2 ^ k)) in
    omega (arith, ih, more, whole)

onto_xor : (k a b u v : ℕ) → reverse_bits_onto k (bit_xor a b) (bit_xor u v) ≡ bit_xor (reverse_bits_onto k a u) (reverse_bits_onto k b v)
unfolding reverse_bits_onto
onto_xor zero a b u v = refl
onto_xor (suc k) a b u v =
    let turn : (n d : ℕ) → n * 2 + d ≡ 2 * n + d = λ n d. omega arith in
    let next : bit_xor u v * 2 + bit_xor a b % 2 ≡ bit_xor (u * 2 + a % 2) (v * 2 + b % 2) =
    ap (λ d. bit_xor u v * 2 + d) (xor_mod a b 1) ∙ turn (bit_xor u v) (bit_xor (a % 2) (b % 2))
    ∙ sym (ap₂ bit_xor (turn u (a % 2)) (turn v (b % 2)) ∙ xor_digit u v (a % 2) (b % 2) (omega arith) (omega arith)) in
    ap₂ (reverse_bits_onto k) (xor_shr a b 1) next ∙ onto_xor k (a / 2) (b / 2) (u * 2 + a % 2) (v * 2 + b % 2)

-- reversed twice
onto_back : (k n : ℕ) → n < 2 ^ k → reverse_bits_onto k (reverse_bits_onto k n 0) 0 ≡ n
unfolding reverse_bits_onto
onto_back zero n h = omega arith
onto_back (suc k) n h =
    let m : ℕ = n / 2 in
    let d : ℕ = n % 2 in
    let r : ℕ = reverse_bits_onto k m 0 in
    let low : r < 2 ^ k = omega (arith, onto_below k m 0) in
    let z : ℕ = d * 2 ^ k + r in
    let is : reverse_bits_onto (suc k) n 0 ≡ z = ap (reverse_bits_onto k m) (let e : 0 * 2 + d ≡ d = omega arith in e) ∙ onto_after k m d in
    let more : suc k ≡ k + 1 = omega arith in
    let top : z / 2 ^ k ≡ d = shr_high d k r low in
    let ih : reverse_bits_onto k r 0 ≡ m = onto_back k m (omega (arith, power k)) in
    ap (λ x. reverse_bits_onto (suc k) x 0) is
    ∙ ap (λ i. reverse_bits_onto i z 0) more
    ∙ onto_more k 1 z 0
    ∙ ap₂ (reverse_bits_onto 1) top (onto_low k d r 0 ∙ ih)
    ∙ (let e : m * 2 + d % 2 ≡ n = omega arith in e)

onto_octet : (o : ℕ) → o < 256 → reverse_bits_onto 32 o 0 ≡ reverse_bits_onto 8 o 0 * 2 ^ 24
onto_octet o h =
    let none : o / 2 ^ 8 ≡ 0 = omega arith in
    onto_more 8 24 o 0 ∙ ap (λ m. reverse_bits_onto 24 m (reverse_bits_onto 8 o 0)) none ∙ onto_none 24 (reverse_bits_onto 8 o 0)

onto_shifted : (x : ℕ) → x < 2 ^ 24 → reverse_bits_onto 32 (x * 256) 0 * 256 ≡ reverse_bits_onto 32 x 0
onto_shifted x h =
    let none : x / 2 ^ 24 ≡ 0 = omega arith in
    let same : x * 256 / 2 ^ 8 ≡ x = omega arith in
    let plain : x * 256 ≡ x * 2 ^ 8 + 0 = omega arith in
    let front : reverse_bits_onto 8 (x * 256) 0 ≡ 0 = ap (λ m. reverse_bits_onto 8 m 0) plain ∙ onto_low 8 x 0 0 ∙ onto_none 8 0 in
    let one : reverse_bits_onto 32 (x * 256) 0 ≡ reverse_bits_onto 24 x 0 = onto_more 8 24 (x * 256) 0 ∙ ap₂ (reverse_bits_onto 24) same front in
    let two : reverse_bits_onto 32 x 0 ≡ reverse_bits_onto 24 x 0 * 2 ^ 8 = onto_more 24 8 x 0 ∙ ap (λ m. reverse_bits_onto 8 m (reverse_bits_onto 24 x 0)) none ∙ onto_none 8 (reverse_bits_onto 24 x 0) in
    ap (λ m. m * 256) one ∙ sym two

-- ---- octets the other way round
swap_is : (a b c d : ℕ) → a < 256 → b < 256 → c < 256 → d < 256 → swap_bytes w32 (((a * 256 + b) * 256 + c) * 256 + d) ≡ ((d * 256 + c) * 256 + b) * 256 + a
swap_is a b c d ha hb hc hd = omega arith

octets_are : (n : ℕ) → n < 2 ^ 32 → ((n / 2 ^ 24 * 256 + n / 2 ^ 16 % 256) * 256 + n / 2 ^ 8 % 256) * 256 + n % 256 ≡ n
octets_are n h = omega arith

swap_below : (n : ℕ) → swap_bytes w32 n < 2 ^ 32
swap_below n = omega arith

swap_back : (n : ℕ) → n < 2 ^ 32 → swap_bytes w32 (swap_bytes w32 n) ≡ n
swap_back n h =
    let a : ℕ = n / 2 ^ 24 in
    let b : ℕ = n / 2 ^ 16 % 256 in
    let c : ℕ = n / 2 ^ 8 % 256 in
    let d : ℕ = n % 256 in
    let ha : a < 256 = omega arith in
    let hb : b < 256 = omega arith in
    let hc : c < 256 = omega arith in
    let hd : d < 256 = omega arith in
    ap (λ m. swap_bytes w32 (swap_bytes w32 m)) (sym (octets_are n h))
    ∙ ap (swap_bytes w32) (swap_is a b c d ha hb hc hd)
    ∙ swap_is d c b a hd hc hb ha
    ∙ octets_are n h

swap_octet : (o : ℕ) → o < 256 → swap_bytes w32 o ≡ o * 2 ^ 24
swap_octet o h = omega arith

swap_shifted : (x : ℕ) → x < 2 ^ 24 → swap_bytes w32 (x * 256) * 256 ≡ swap_bytes w32 x
swap_shifted x h = omega arith

swap_parts : (n : ℕ) → swap_bytes w32 n ≡ ((n % 2 ^ 8 * 2 ^ 8 + n / 2 ^ 8 % 2 ^ 8) * 2 ^ 8 + n / 2 ^ 16 % 2 ^ 8) * 2 ^ 8 + n / 2 ^ 24 % 2 ^ 8
swap_parts n = omega arith

byte_xor : (a b k : ℕ) → bit_xor a b / 2 ^ k % 2 ^ 8 ≡ bit_xor (a / 2 ^ k % 2 ^ 8) (b / 2 ^ k % 2 ^ 8)
byte_xor a b k = ap (λ m. m % 2 ^ 8) (xor_shr a b k) ∙ xor_mod (a / 2 ^ k) (b / 2 ^ k) 8

swap_xor : (a b : ℕ) → swap_bytes w32 (bit_xor a b) ≡ bit_xor (swap_bytes w32 a) (swap_bytes w32 b)
swap_xor a b =
    let x : ℕ → ℕ = λ k. a / 2 ^ k % 2 ^ 8 in
    let y : ℕ → ℕ = λ k. b / 2 ^ k % 2 ^ 8 in
    let hx : (k : ℕ) → x k < 2 ^ 8 = λ k. omega arith in
    let hy : (k : ℕ) → y k < 2 ^ 8 = λ k. omega arith in
    let two : bit_xor (a % 2 ^ 8 * 2 ^ 8 + x 8) (b % 2 ^ 8 * 2 ^ 8 + y 8) ≡ bit_xor (a % 2 ^ 8) (b % 2 ^ 8) * 2 ^ 8 + bit_xor (x 8) (y 8) =
    xor_block 8 (a % 2 ^ 8) (b % 2 ^ 8) (x 8) (y 8) (hx 8) (hy 8) in
    let three = xor_block 8 (a % 2 ^ 8 * 2 ^ 8 + x 8) (b % 2 ^ 8 * 2 ^ 8 + y 8) (x 16) (y 16) (hx 16) (hy 16) in
    let four = xor_block 8 ((a % 2 ^ 8 * 2 ^ 8 + x 8) * 2 ^ 8 + x 16) ((b % 2 ^ 8 * 2 ^ 8 + y 8) * 2 ^ 8 + y 16) (x 24) (y 24) (hx 24) (hy 24) in
    swap_parts (bit_xor a b)
    ∙ ap₂ (λ m n. ((m * 2 ^ 8 + n) * 2 ^ 8 + bit_xor a b / 2 ^ 16 % 2 ^ 8) * 2 ^ 8 + bit_xor a b / 2 ^ 24 % 2 ^ 8) (xor_mod a b 8) (byte_xor a b 8)
    ∙ ap₂ (λ m n. ((bit_xor (a % 2 ^ 8) (b % 2 ^ 8) * 2 ^ 8 + bit_xor (x 8) (y 8)) * 2 ^ 8 + m) * 2 ^ 8 + n) (byte_xor a b 16) (byte_xor a b 24)
    ∙ ap (λ m. (m * 2 ^ 8 + bit_xor (x 16) (y 16)) * 2 ^ 8 + bit_xor (x 24) (y 24)) (sym two)
    ∙ ap (λ m. m * 2 ^ 8 + bit_xor (x 24) (y 24)) (sym three)
    ∙ sym four
    ∙ sym (ap₂ bit_xor (swap_parts a) (swap_parts b))

-- ---- of each check
pub mirror_xor : (kind : Crc32) (a b : ℕ) → mirrored32 kind (bit_xor a b) ≡ bit_xor (mirrored32 kind a) (mirrored32 kind b)
mirror_xor Proximity1 a b = swap_xor a b
mirror_xor Castagnoli a b = onto_xor 32 a b 0 0
mirror_xor Ieee a b = onto_xor 32 a b 0 0

pub mirror_below : (kind : Crc32) (n : ℕ) → mirrored32 kind n < 2 ^ 32
mirror_below Proximity1 n = swap_below n
mirror_below Castagnoli n = omega (arith, onto_below 32 n 0)
mirror_below Ieee n = omega (arith, onto_below 32 n 0)

pub mirror_back : (kind : Crc32) (n : ℕ) → n < 2 ^ 32 → mirrored32 kind (mirrored32 kind n) ≡ n
mirror_back Proximity1 n h = swap_back n h
mirror_back Castagnoli n h = onto_back 32 n h
mirror_back Ieee n h = onto_back 32 n h

-- an octet comes to the highest powers
pub mirror_octet : (kind : Crc32) (o : ℕ) → o < 256 → mirrored32 kind o ≡ octet_read kind o * 2 ^ 24
mirror_octet Proximity1 o h = swap_octet o h
mirror_octet Castagnoli o h = onto_octet o h
mirror_octet Ieee o h = onto_octet o h

-- an octet of zeros comes to the highest powers, and goes from them
pub mirror_shifted : (kind : Crc32) (x : ℕ) → x < 2 ^ 24 → mirrored32 kind (x * 256) * 256 ≡ mirrored32 kind x
mirror_shifted Proximity1 x h = swap_shifted x h
mirror_shifted Castagnoli x h = onto_shifted x h
mirror_shifted Ieee x h = onto_shifted x h
