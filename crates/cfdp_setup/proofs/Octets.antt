-- Numbers that fit so many octets.
use Rattle.std.proofs.Common.{◌≡◌, ℕ, ◌*◌, ◌/◌, ◌^◌, ◌<◌, arith}
use Rattle.std.specs.Prelude.{◌↔◌}
use Rattle.std.proofs.lemmas.Nat.{pow_pos}
use Rattle.std.proofs.Math.Nat.{div-lt_iff_lt-mul}

pub fits_below : (v n : ℕ) → (v / 2 ^ (8 * n) ≡ 0) ↔ (v < 2 ^ (8 * n))
fits_below v n =
    let d : ℕ = 2 ^ (8 * n) in
    let both : (v / d < 1) ↔ (v < 1 * d) = div-lt_iff_lt-mul (pow_pos (8 * n)) in
    let one : v / d ≡ 0 → v < d = λ e. let l : v / d < 1 = omega (arith, e) in omega (arith, both.0 l) in
    let two : v < d → v / d ≡ 0 = λ l. let m : v < 1 * d = omega arith in omega (arith, both.1 m) in
    (one, two)
