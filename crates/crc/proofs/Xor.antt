-- Exclusive or, digit by digit and in any order.
use Rattle.std.proofs.Common.{◌≡◌, ℕ, ◌+◌, ◌*◌, ◌^◌, ◌<◌, sym, ap, ap₂, ◌∙◌, arith}
use Rattle.std.specs.Int.Bits.{bit_xor}
use Rattle.std.proofs.lemmas.Nat.{xor_comm, xor_block, pow_pos}
use lib.Bits.{xor_assoc}

-- two sums of two, term by term
pub xor_four : (a b c d : ℕ) → bit_xor (bit_xor a b) (bit_xor c d) ≡ bit_xor (bit_xor a c) (bit_xor b d)
xor_four a b c d =
    xor_assoc a b (bit_xor c d)
    ∙ ap (bit_xor a) (sym (xor_assoc b c d) ∙ ap (λ n. bit_xor n d) (xor_comm b c) ∙ xor_assoc c b d)
    ∙ sym (xor_assoc a c (bit_xor b d))

pub xor_swap : (a b c : ℕ) → bit_xor (bit_xor a b) c ≡ bit_xor (bit_xor a c) b
xor_swap a b c = xor_assoc a b c ∙ ap (bit_xor a) (xor_comm b c) ∙ sym (xor_assoc a c b)

-- both times a power of two
pub xor_shift : (a b k : ℕ) → bit_xor (a * 2 ^ k) (b * 2 ^ k) ≡ bit_xor a b * 2 ^ k
xor_shift a b k =
    let none : (n : ℕ) → n * 2 ^ k ≡ n * 2 ^ k + 0 = λ n. omega arith in
    ap₂ bit_xor (none a) (none b) ∙ xor_block k a b 0 0 (pow_pos k) (pow_pos k) ∙ sym (none (bit_xor a b))

-- one more digit
pub xor_digit : (a b x y : ℕ) → x < 2 → y < 2 → bit_xor (2 * a + x) (2 * b + y) ≡ 2 * bit_xor a b + bit_xor x y
xor_digit a b x y hx hy =
    let turn : (n : ℕ) → 2 * n ≡ n * 2 ^ 1 = λ n. omega arith in
    ap₂ (λ p q. bit_xor (p + x) (q + y)) (turn a) (turn b) ∙ xor_block 1 a b x y hx hy ∙ ap (λ n. n + bit_xor x y) (sym (turn (bit_xor a b)))

pub double_xor : (a b : ℕ) → 2 * bit_xor a b ≡ bit_xor (2 * a) (2 * b)
double_xor a b =
    let turn : (n : ℕ) → 2 * n ≡ n * 2 ^ 1 = λ n. omega arith in
    turn (bit_xor a b) ∙ sym (xor_shift a b 1) ∙ ap₂ bit_xor (sym (turn a)) (sym (turn b))
