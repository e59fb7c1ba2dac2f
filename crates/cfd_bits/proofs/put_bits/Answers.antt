use Rattle.std.proofs.Common.{◌≡◌, ℕ, ◌+◌, ◌-◌, ◌*◌, ◌/◌, ◌%◌, ◌^◌, ◌<◌, ◌≤◌, List, get_or, set, refl, sym, ap, ◌∙◌, arith, inl, inr, subst}
use Rattle.std.proofs.Math.Nat.{div-one, mod-one}
use Rattle.std.proofs.lemmas.Nat.{one_shl}
use Rattle.cfd_bits.specs.Field.{SameOutside}
use Rattle.cfd_bits.proofs.Steps.{field_none}
use Rattle.cfd_bits.proofs.BitFields.{field-apart}
use Rattle.cfd_bits.proofs.Octet.{changed}
use Rattle.cfd_bits.proofs.Writing.{IsWritten, written_more}
use Rattle.cfd_bits.proofs.put_bits.Goals as goal

pub loop-end-init : goal.loop-end-init
loop-end-init c =
    let none : c.args.at_bit + c.args.width - (c.args.at_bit + c.args.width) ≡ 0 = omega arith in
    record {
      low = omega arith;
      high = omega arith;
      left_is = rw none (sym (div-one c.args.value));
      written = rw none (field_none c.args.bytes.now (c.args.at_bit + c.args.width) ∙ sym (mod-one c.args.value));
      others = λ i away. refl;
    }

pub loop-end-preserved : goal.loop-end-preserved
loop-end-preserved c =
    let o : List ℕ = c.loop-end.bytes in
    let p : ℕ = (c.loop-end.end - 1) / 8 in
    let start : ℕ = c.max-start.result in
    let here : ℕ = c.loop-end.end - start in
    let j : ℕ = start - 8 * p in
    let high : c.loop-end.end ≤ c.args.at_bit + c.args.width = c.loop-end.invariant.high in
    let least : c.args.at_bit ≤ start = omega (arith, c.max-start.ensures) in
    let first : 8 * p ≤ start = omega (arith, c.max-start.ensures) in
    let before : start < c.loop-end.end = omega (arith, c.max-start.ensures) in
    let whole : 1 * 2 ^ here % 2 ^ 64 ≡ 2 ^ here = one_shl here 64 (omega arith) in
    let is : c.with_bits.result ≡ changed (get_or o p 0) j here (c.loop-end.left % 2 ^ here) =
    c.with_bits.ensures ∙ ap (λ n. changed (get_or o p 0) j here (c.loop-end.left % n)) whole in
    let step : IsWritten c.args.at_bit c.args.width c.args.value c.args.bytes.now start (c.loop-end.left / 2 ^ here) (set o p (changed (get_or o p 0) j here (c.loop-end.left % 2 ^ here))) =
    written_more c.args.at_bit c.args.width c.args.value c.args.bytes.now c.loop-end.end c.loop-end.left o p start here j c.loop-end.invariant (omega arith) least (omega arith) (omega arith)
    (omega arith) (omega arith) in
    subst (λ (b : ℕ). IsWritten c.args.at_bit c.args.width c.args.value c.args.bytes.now start (c.loop-end.left / 2 ^ here) (set o p b)) (sym is) step

-- all else is as it was
others : (c : goal.After-loop-end) → SameOutside c.args.at_bit c.args.width c.args.bytes.now c.loop-end.bytes
others c i away =
    let low : c.args.at_bit ≤ c.loop-end.end = c.loop-end.invariant.low in
    c.loop-end.invariant.others i (elim away [ inl before ↦ inl (omega arith) | inr behind ↦ inr (omega arith) ])

pub returns-clause-before : goal.returns-clause-before
returns-clause-before c i v before = field-apart c.args.at_bit c.args.width c.args.bytes.now c.loop-end.bytes i v (others c) (inl before)

pub returns-clause-behind : goal.returns-clause-behind
returns-clause-behind c i v behind = field-apart c.args.at_bit c.args.width c.args.bytes.now c.loop-end.bytes i v (others c) (inr behind)
