-- Exported: laws of fields, and of numbers in octets.
use Rattle.std.proofs.Common.{◌≡◌, ℕ, zero, suc, ◌+◌, ◌-◌, ◌*◌, ◌/◌, ◌%◌, ◌^◌, ◌<◌, ◌≤◌, List, [], ◌∷◌, ◌++◌, length, get_or, take, drop, refl, sym, ◌∙◌, add-one, zero-add, arith, length-drop}
use Rattle.std.proofs.lemmas.List.{get_or_append_left, get_or-append-add, length_push, get_or-drop, get_or_push, take_more}
use Rattle.std.proofs.lemmas.Grind.{pow_more}
use Rattle.std.proofs.lemmas.Nat.{div_below, mod-pow-add, shr-shr}
use Rattle.cfd_bits.specs.Field.{bit, field, octets}
use Rattle.cfd_bits.proofs.Steps.{field_more, field_none}

-- octets are below 256
abbrev pub IsBytes : List ℕ → Type 0
IsBytes bytes = (i : ℕ) → get_or bytes i 0 < 256

pub length-octets : (count n : ℕ) → length (octets count n) ≡ count
unfolding octets
length-octets zero n = refl
length-octets (suc count) n = length_push (octets count (n / 256)) (n % 256) ∙ rw (length-octets count (n / 256)) (omega arith)

-- a field of a front is the same field of the whole
pub field-append_left : (a b : List ℕ) (at w : ℕ) → at + w ≤ 8 * length a → field (a ++ b) at w ≡ field a at w
unfolding field bit
field-append_left a b at zero h = refl
field-append_left a b at (suc w) h =
    let one : get_or (a ++ b) ((at + w) / 8) 0 ≡ get_or a ((at + w) / 8) 0 = get_or_append_left a b 0 ((at + w) / 8) (omega arith) in
    rw (field-append_left a b at w (omega arith), one) refl

-- a field after a front
pub field-append_right : (a b : List ℕ) (at w : ℕ) → field (a ++ b) (8 * length a + at) w ≡ field b at w
unfolding field bit
field-append_right a b at zero = refl
field-append_right a b at (suc w) =
    let place : (8 * length a + at + w) / 8 ≡ length a + (at + w) / 8 = omega arith in
    let low : (8 * length a + at + w) % 8 ≡ (at + w) % 8 = omega arith in
    rw (field-append_right a b at w, place, low, get_or-append-add a b ((at + w) / 8) 0) refl

-- a field after the first octets
pub field-drop : (n : ℕ) (a : List ℕ) (at w : ℕ) → field (drop n a) at w ≡ field a (8 * n + at) w
unfolding field bit
field-drop n a at zero = refl
field-drop n a at (suc w) =
    let place : (8 * n + at + w) / 8 ≡ n + (at + w) / 8 = omega arith in
    let low : (8 * n + at + w) % 8 ≡ (at + w) % 8 = omega arith in
    rw (field-drop n a at w, place, low, get_or-drop n a ((at + w) / 8) 0) refl

bits_of : (b : ℕ) → b < 256 → 2 * (2 * (2 * (2 * (2 * (2 * (2 * (2 * 0 + b / 128 % 2) + b / 64 % 2) + b / 32 % 2) + b / 16 % 2) + b / 8 % 2) + b / 4 % 2) + b / 2 % 2) + b % 2 ≡ b
bits_of b h = omega arith

-- one more bit of the octet b, which stands at i + k
next_bit : (o : List ℕ) (at i k j b m : ℕ) → at ≡ 8 * i → j < 8 → get_or o (i + k) 0 ≡ b → m ≡ 8 * k + j + 1 → field o at m ≡ 2 * field o at (8 * k + j) + b / 2 ^ (7 - j) % 2
next_bit o at i k j b m a h e n =
    let place : (at + (8 * k + j)) / 8 ≡ i + k = omega arith in
    let low : (at + (8 * k + j)) % 8 ≡ j = omega arith in
    rw (n, field_more o at (8 * k + j), place, low, e) refl

-- one more octet
pub field_octet : (o : List ℕ) (at i k b m : ℕ) → at ≡ 8 * i → get_or o (i + k) 0 ≡ b → b < 256 → m ≡ 8 * (k + 1) → field o at m ≡ 256 * field o at (8 * k) + b
field_octet o at i k b m a e h n =
    let f1 = next_bit o at i k 0 b (8 * k + 1) a (omega arith) e (omega arith) in
    let f2 = next_bit o at i k 1 b (8 * k + 2) a (omega arith) e (omega arith) in
    let f3 = next_bit o at i k 2 b (8 * k + 3) a (omega arith) e (omega arith) in
    let f4 = next_bit o at i k 3 b (8 * k + 4) a (omega arith) e (omega arith) in
    let f5 = next_bit o at i k 4 b (8 * k + 5) a (omega arith) e (omega arith) in
    let f6 = next_bit o at i k 5 b (8 * k + 6) a (omega arith) e (omega arith) in
    let f7 = next_bit o at i k 6 b (8 * k + 7) a (omega arith) e (omega arith) in
    let f8 = next_bit o at i k 7 b m a (omega arith) e (omega arith) in
    let zero_more : 8 * k + 0 ≡ 8 * k = omega arith in
    let bits = bits_of b h in
    let f1' : field o at (8 * k + 1) ≡ 2 * field o at (8 * k) + b / 128 % 2 = rw zero_more at f1 in
    omega (arith, f1', f2, f3, f4, f5, f6, f7, f8, bits)

-- the octets of a number spell it
pub field-octets : (count n : ℕ) → n < 256 ^ count → field (octets count n) 0 (8 * count) ≡ n
unfolding octets
field-octets zero n h = omega (arith, field_none (octets zero n) 0)
field-octets (suc count) n h =
    let p : 256 ^ (count + 1) ≡ 256 ^ count * 256 = pow_more 256 count in
    let h' : n < 256 ^ count * 256 = rw (← p, add-one) h in
    let small : n / 256 < 256 ^ count = div_below n 256 (256 ^ count) (omega arith) h' in
    let o = octets count (n / 256) ++ n % 256 ∷ [] in
    let len = length-octets count (n / 256) in
    let last : get_or o (0 + count) 0 ≡ n % 256 = rw zero-add (get_or_push (octets count (n / 256)) (n % 256) 0 count len) in
    let front : field o 0 (8 * count) ≡ field (octets count (n / 256)) 0 (8 * count) = field-append_left (octets count (n / 256)) (n % 256 ∷ []) 0 (8 * count) (omega arith) in
    let ih = field-octets count (n / 256) small in
    let whole = field_octet o 0 0 count (n % 256) (8 * suc count) refl last (omega arith) (omega arith) in
    omega (arith, whole, front, ih)

-- a number's octets, between others
pub field_between : (a b : List ℕ) (count n at w : ℕ) → n < 256 ^ count → at ≡ 8 * length a → w ≡ 8 * count → field (a ++ (octets count n ++ b)) at w ≡ n
field_between a b count n at w h e f =
    let len = length-octets count n in
    let k : at ≡ 8 * length a + 0 = omega arith in
    rw (k, f, field-append_right a (octets count n ++ b) 0 (8 * count), field-append_left (octets count n) b 0 (8 * count) (omega arith)) (field-octets count n h)

-- the lowest of some bits of a number
lowest : (b s w : ℕ) → b / 2 ^ s % 2 ^ suc w ≡ 2 * (b / 2 ^ suc s % 2 ^ w) + b / 2 ^ s % 2
lowest b s w =
    let one : w + 1 ≡ suc w = omega arith in
    let two : s + 1 ≡ suc s = omega arith in
    let split = mod-pow-add (b / 2 ^ s) w 1 in
    let half = shr-shr b s 1 in
    rw (← one, ← two, split, half) (omega arith)

-- a field that lies in one octet
pub field_in_octet : (o : List ℕ) (at w i j b : ℕ) → at ≡ 8 * i + j → j + w ≤ 8 → get_or o i 0 ≡ b → field o at w ≡ b / 2 ^ (8 - j - w) % 2 ^ w
unfolding field bit
field_in_octet o at zero i j b a h e = omega arith
field_in_octet o at (suc w) i j b a h e =
    let place : (at + w) / 8 ≡ i = omega arith in
    let low : (at + w) % 8 ≡ j + w = omega arith in
    let k : 8 - j - w ≡ suc (8 - j - suc w) = omega arith in
    let m : 7 - (j + w) ≡ 8 - j - suc w = omega arith in
    let ih : field o at w ≡ b / 2 ^ suc (8 - j - suc w) % 2 ^ w = rw (← k) (field_in_octet o at w i j b a (omega arith) e) in
    rw (place, low, e, ih, m) (sym (lowest b (8 - j - suc w) w))

pub IsBytes-drop : (n : ℕ) (bytes : List ℕ) → IsBytes bytes → IsBytes (drop n bytes)
IsBytes-drop n bytes h i = rw get_or-drop (h (n + i))

-- the octets of the number that octets spell are those octets
pub octets-field : (o : List ℕ) (at i k : ℕ) → IsBytes o → at ≡ 8 * i → i + k ≤ length o → octets k (field o at (8 * k)) ≡ take k (drop i o)
unfolding octets
octets-field o at i zero b a h = refl
octets-field o at i (suc k) b a h =
    let x : ℕ = get_or o (i + k) 0 in
    let below : x < 256 = b (i + k) in
    let f : field o at (8 * suc k) ≡ 256 * field o at (8 * k) + x = field_octet o at i k x (8 * suc k) a refl below (omega arith) in
    let high : (256 * field o at (8 * k) + x) / 256 ≡ field o at (8 * k) = omega arith in
    let low : (256 * field o at (8 * k) + x) % 256 ≡ x = omega arith in
    let ih = octets-field o at i k b a (omega arith) in
    let one : take (k + 1) (drop i o) ≡ take k (drop i o) ++ get_or (drop i o) k 0 ∷ [] = take_more (drop i o) k 0 (omega (arith, length-drop i o)) in
    let there : get_or (drop i o) k 0 ≡ x = get_or-drop i o k 0 in
    let next : k + 1 ≡ suc k = omega arith in
    let last : take (suc k) (drop i o) ≡ take k (drop i o) ++ x ∷ [] = rw (← next, one, there) refl in
    rw (f, high, low, ih, last) refl
