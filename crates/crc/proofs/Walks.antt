-- The powers of x, below the 16,384th, are no 1 modulo the divisor of the check.
use Rattle.std.proofs.Common.{◌≡◌, ℕ, zero, suc, ◌+◌, ◌-◌, ◌*◌, ◌<◌, ◌≤◌, ◌==◌, Bool, true, false, if◌then◌else◌, refl, sym, ap, ◌∙◌, arith}
use Rattle.crc.specs.Division.{reduced, moved}
use Rattle.crc.specs.Checks.{divisor16}

-- a step, which ends at 0 if it would come to 1
abbrev kept : ℕ → ℕ
kept n = if n == 1 then 0 else n

-- so many steps
unfoldable walk : ℕ → ℕ → ℕ
walk zero r = r
walk (suc count) r = kept (reduced 16 divisor16 (2 * walk count r))

walk-more : (a b r : ℕ) → walk (a + b) r ≡ walk b (walk a r)
unfolding walk
walk-more a zero r = let e : a + 0 ≡ a = omega arith in ap (λ n. walk n r) e
walk-more a (suc b) r =
    let e : a + suc b ≡ suc (a + b) = omega arith in
    ap (λ n. walk n r) e ∙ ap (λ n. kept (reduced 16 divisor16 (2 * n))) (walk-more a b r)

leg1 : walk 2048 1 ≡ 64848
unfolding walk
leg1 = refl

leg2 : walk 2048 64848 ≡ 43678
unfolding walk
leg2 = refl

leg3 : walk 2048 43678 ≡ 9917
unfolding walk
leg3 = refl

leg4 : walk 2048 9917 ≡ 34844
unfolding walk
leg4 = refl

leg5 : walk 2048 34844 ≡ 8684
unfolding walk
leg5 = refl

leg6 : walk 2048 8684 ≡ 56096
unfolding walk
leg6 = refl

leg7 : walk 2048 56096 ≡ 9331
unfolding walk
leg7 = refl

leg8 : walk 2048 9331 ≡ 17496
unfolding walk
leg8 = refl

leg : (a b r s t : ℕ) → walk a r ≡ s → walk b s ≡ t → walk (a + b) r ≡ t
leg a b r s t one two = walk-more a b r ∙ ap (walk b) one ∙ two

whole : walk 16384 1 ≡ 17496
whole =
    leg 14336 2048 1 9331 17496
    (leg 12288 2048 1 56096 9331
    (leg 10240 2048 1 8684 56096
    (leg 8192 2048 1 34844 8684
    (leg 6144 2048 1 9917 34844
    (leg 4096 2048 1 43678 9917
    (leg 2048 2048 1 64848 43678 leg1 leg2) leg3) leg4) leg5) leg6) leg7) leg8

kept_zero : (n : ℕ) → n ≡ 0 → kept (reduced 16 divisor16 (2 * n)) ≡ 0
kept_zero n e = ap (λ m. kept (reduced 16 divisor16 (2 * m))) e

-- a walk that ended goes on so
walk_ends : (a b r : ℕ) → walk a r ≡ 0 → walk (a + b) r ≡ 0
unfolding walk
walk_ends a zero r e = let n : a + 0 ≡ a = omega arith in ap (λ m. walk m r) n ∙ e
walk_ends a (suc b) r e =
    let n : a + suc b ≡ suc (a + b) = omega arith in
    ap (λ m. walk m r) n ∙ kept_zero (walk (a + b) r) (walk_ends a b r e)

-- if none of the powers up to this one is 1
goes_on : (d : ℕ) → d < 16384 → walk d 1 ≡ 0 → ⊥
goes_on d h e =
    let n : d + (16384 - d) ≡ 16384 = omega arith in
    let ends : walk 16384 1 ≡ 0 = sym (ap (λ m. walk m 1) n) ∙ walk_ends d (16384 - d) 1 e in
    let wrong : 17496 ≡ 0 = sym whole ∙ ends in
    absurd (omega (arith, wrong))

kept_is : (n : ℕ) → (kept n ≡ 0 → ⊥) → kept n ≡ n
kept_is n not_zero = by (n == 1) refl where
  by : (b : Bool) → (n == 1) ≡ b → kept n ≡ n
  by true e = absurd (not_zero (ap (λ b. if b then 0 else n) e))
  by false e = ap (λ b. if b then 0 else n) e

walks : (d : ℕ) → d < 16384 → walk d 1 ≡ moved 16 divisor16 d 1
unfolding walk moved
walks zero h = refl
walks (suc d) h =
    kept_is (reduced 16 divisor16 (2 * walk d 1)) (goes_on (suc d) h)
    ∙ ap (λ n. reduced 16 divisor16 (2 * n)) (walks d (omega arith))

kept_one : (n : ℕ) → kept n ≡ 1 → ⊥
kept_one n e = by (n == 1) refl where
  by : (b : Bool) → (n == 1) ≡ b → ⊥
  by true t =
      let wrong : 0 ≡ 1 = sym (ap (λ b. if b then 0 else n) t) ∙ e in
      absurd (omega (arith, wrong))
  by false f =
      let same : n ≡ 1 = sym (ap (λ b. if b then 0 else n) f) ∙ e in
      let t : true ≡ false = sym (ap (λ m. m == 1) same) ∙ f in
      absurd (cc)

-- No power of x from the first to the 16,383rd leaves 1.
pub no_power_is_one : (d : ℕ) → 1 ≤ d → d < 16384 → moved 16 divisor16 d 1 ≡ 1 → ⊥
unfolding walk
no_power_is_one zero some h e = absurd (omega arith)
no_power_is_one (suc d) some h e = kept_one (reduced 16 divisor16 (2 * walk d 1)) (walks (suc d) h ∙ e)
