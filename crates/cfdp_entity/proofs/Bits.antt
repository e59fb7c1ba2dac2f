-- One bit of a word.
use Rattle.std.proofs.Common.{◌≡◌, ℕ, ◌+◌, ◌-◌, ◌/◌, ◌%◌, ◌^◌, ◌≤◌, ap, ◌∙◌, arith}
use Rattle.std.specs.Int.{bit_at}
use Rattle.std.proofs.lemmas.Nat.{shr-shr}

-- a bit of a word that was shifted
pub shifted : (n j i : ℕ) → bit_at (n / 2 ^ j) i ≡ bit_at n (j + i)
shifted n j i = ap (λ x. x % 2) (shr-shr n j i)

pub shifted-back : (n j i : ℕ) → j ≤ i → bit_at (n / 2 ^ j) (i - j) ≡ bit_at n i
shifted-back n j i on = shifted n j (i - j) ∙ ap (bit_at n) (omega arith)
