-- A field written octet by octet, from its last bits to its first.
use Rattle.std.proofs.Common.{◌≡◌, ℕ, ◌+◌, ◌-◌, ◌*◌, ◌/◌, ◌%◌, ◌^◌, ◌<◌, ◌≤◌, ◌⊎◌, List, length, get_or, set, sym, ap, ◌∙◌, arith, inl, inr}
use Rattle.std.proofs.lemmas.Nat.{shr-shr, mod-pow-add, pow_pos, mod_below}
use Rattle.cfd_bits.specs.Field.{field, SameOutside}
use Rattle.cfd_bits.proofs.BitFields.{field-split, field-same}
use Rattle.cfd_bits.proofs.Octet.{changed, set-outside, set-field}

-- The bits from `end` on are the value's, what is left of it goes before them, and all else is as
-- it was.
pub record IsWritten (at width value : ℕ) (old : List ℕ) (end left : ℕ) (new : List ℕ) : Type 0 where
  pub low : at ≤ end
  pub high : end ≤ at + width
  pub left_is : left ≡ value / 2 ^ (at + width - end)
  pub written : field new end (at + width - end) ≡ value % 2 ^ (at + width - end)
  pub others : SameOutside end (at + width - end) old new

pub written_more : (at width value : ℕ) (old : List ℕ) (end left : ℕ) (new : List ℕ) (p start here j : ℕ) → IsWritten at width value old end left new → at + width ≤ 8 * length new →
    at ≤ start → start ≡ 8 * p + j → start + here ≡ end → j + here ≤ 8 → 0 < here →
    IsWritten at width value old start (left / 2 ^ here) (set new p (changed (get_or new p 0) j here (left % 2 ^ here)))
written_more at width value old end left new p start here j w room low place part few some =
    let hi : end ≤ at + width = w.high in
    let rest : ℕ = at + width - end in
    let v : ℕ = left % 2 ^ here in
    let now : List ℕ = set new p (changed (get_or new p 0) j here v) in
    let small : v < 2 ^ here = mod_below left (2 ^ here) (pow_pos here) in
    let inside : p < length new = omega arith in
    let wide : at + width - start ≡ here + rest = omega arith in
    let turned : rest + here ≡ at + width - start = omega arith in
    let outside : SameOutside (8 * p + j) here new now = set-outside new p j here v small few inside in
    let here_is : field now start here ≡ v = ap (λ n. field now n here) place ∙ set-field new p j here v small few inside in
    let behind : field now (start + here) rest ≡ field new end rest =
    ap (λ n. field now n rest) part ∙ field-same now new end rest (λ i least most. outside i (inr (omega arith))) in
    let v_is : v ≡ value / 2 ^ rest % 2 ^ here = ap (λ n. n % 2 ^ here) w.left_is in
    record {
      low = low;
      high = omega arith;
      left_is = ap (λ n. n / 2 ^ here) w.left_is ∙ shr-shr value rest here ∙ ap (λ n. value / 2 ^ n) turned;
      written = ap (λ n. field now start n) wide ∙ field-split now start here rest
          ∙ ap (λ n. n * 2 ^ rest + field now (start + here) rest) (here_is ∙ v_is)
          ∙ ap (λ n. value / 2 ^ rest % 2 ^ here * 2 ^ rest + n) (behind ∙ w.written)
          ∙ sym (mod-pow-add value here rest)
          ∙ ap (λ n. value % 2 ^ n) (sym wide);
      others = λ i away.
          let apart : (i < 8 * p + j) ⊎ (8 * p + j + here ≤ i) = elim away [ inl before ↦ inl (omega arith) | inr after ↦ inr (omega arith) ] in
          let apart' : (i < end) ⊎ (end + rest ≤ i) = elim away [ inl before ↦ inl (omega arith) | inr after ↦ inr (omega arith) ] in
          outside i apart ∙ w.others i apart';
    }
