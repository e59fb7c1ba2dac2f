use Rattle.std.proofs.Common.{◌≡◌, ℕ, ◌+◌, ◌-◌, ◌*◌, ◌/◌, ◌%◌, ◌^◌, ◌<◌, List, get_or, refl, ap, ◌∙◌, arith}
use Rattle.cfd_bits.specs.Field.{field}
use Rattle.cfd_bits.proofs.BitFields.{field-below}
use Rattle.cfd_bits.proofs.Reading.{field_fits, front_octet, front_field, octet_more, shifted_in}
use Rattle.cfd_bits.proofs.get.Goals as goal

pub returns-then-width-in_first-clause-value : goal.returns-then-width-in_first-clause-value
returns-then-width-in_first-clause-value c = front_field c.args.bytes.now c.args.at_bit c.args.width c.from.result c.from.ensures c.if-width-in_first.true

pub returns-then-width-in_first-clause-below : goal.returns-then-width-in_first-clause-below
returns-then-width-in_first-clause-below c =
    omega (arith, front_field c.args.bytes.now c.args.at_bit c.args.width c.from.result c.from.ensures c.if-width-in_first.true, field-below c.args.bytes.now c.args.at_bit c.args.width)

pub loop-place-init : goal.loop-place-init
loop-place-init c =
    let there : 8 - c.args.at_bit % 8 ≡ 8 * (c.args.at_bit / 8 + 1) - c.args.at_bit = omega arith in
    front_octet c.args.bytes.now c.args.at_bit c.from.result c.from.ensures ∙ ap (λ n. field c.args.bytes.now c.args.at_bit n) there

pub overflow_mul-value : goal.overflow_mul-value
overflow_mul-value c =
    let o : List ℕ = c.args.bytes.now in
    let n : ℕ = 8 * c.loop-place.place - c.args.at_bit in
    let more : field o c.args.at_bit (n + 8) ≡ 256 * field o c.args.at_bit n + get_or o c.loop-place.place 0 =
    octet_more o c.args.at_bit n c.loop-place.place (get_or o c.loop-place.place 0) (n + 8) (omega arith) refl (omega (arith, c.type_inv.bytes c.loop-place.place)) (omega arith) in
    omega (arith, more, field_fits o c.args.at_bit (n + 8) (omega arith), c.loop-place.invariant)

pub overflow_add-value : goal.overflow_add-value
overflow_add-value c =
    let o : List ℕ = c.args.bytes.now in
    let n : ℕ = 8 * c.loop-place.place - c.args.at_bit in
    let b : c.from-in-loop-place.result < 256 = omega (arith, c.from-in-loop-place.ensures, c.type_inv.bytes c.loop-place.place) in
    let more : field o c.args.at_bit (n + 8) ≡ 256 * field o c.args.at_bit n + c.from-in-loop-place.result =
    octet_more o c.args.at_bit n c.loop-place.place c.from-in-loop-place.result (n + 8) (omega arith) c.from-in-loop-place.ensures b (omega arith) in
    omega (arith, more, field_fits o c.args.at_bit (n + 8) (omega arith), c.loop-place.invariant)

pub loop-place-preserved : goal.loop-place-preserved
loop-place-preserved c =
    let o : List ℕ = c.args.bytes.now in
    let n : ℕ = 8 * c.loop-place.place - c.args.at_bit in
    let b : c.from-in-loop-place.result < 256 = omega (arith, c.from-in-loop-place.ensures, c.type_inv.bytes c.loop-place.place) in
    let more : field o c.args.at_bit (8 * (c.loop-place.place + 1) - c.args.at_bit) ≡ 256 * field o c.args.at_bit n + c.from-in-loop-place.result =
    octet_more o c.args.at_bit n c.loop-place.place c.from-in-loop-place.result (8 * (c.loop-place.place + 1) - c.args.at_bit) (omega arith) c.from-in-loop-place.ensures b (omega arith) in
    omega (arith, more, c.loop-place.invariant)

-- what is returned after the last whole octet
whole : (c : goal.After-from-2) → c.loop-place.value * 2 ^ ((c.args.at_bit + c.args.width) % 8) % 2 ^ 64 + c.from-2.result ≡ field c.args.bytes.now c.args.at_bit c.args.width
whole c =
    let o : List ℕ = c.args.bytes.now in
    let last : ℕ = (c.args.at_bit + c.args.width) / 8 in
    let place : c.loop-place.place ≡ last = omega arith in
    let n : ℕ = 8 * last - c.args.at_bit in
    let r : ℕ = (c.args.at_bit + c.args.width) % 8 in
    let is : c.loop-place.value ≡ field o c.args.at_bit n = c.loop-place.invariant ∙ ap (λ k. field o c.args.at_bit (8 * k - c.args.at_bit)) place in
    ap (λ k. c.loop-place.value * 2 ^ r % 2 ^ 64 + k) c.from-2.ensures
    ∙ shifted_in o c.args.at_bit n last r (get_or o last 0) c.args.width c.loop-place.value is (omega arith) refl (omega (arith, c.type_inv.bytes last)) (omega arith) (omega arith) c.requires.narrow

pub overflow_add-result : goal.overflow_add-result
overflow_add-result c = omega (arith, whole c, field_fits c.args.bytes.now c.args.at_bit c.args.width c.requires.narrow)

pub returns-clause-value : goal.returns-clause-value
returns-clause-value c = whole c

pub returns-clause-below : goal.returns-clause-below
returns-clause-below c = omega (arith, whole c, field-below c.args.bytes.now c.args.at_bit c.args.width)

pub returns-then-in_last-eq0-clause-below : goal.returns-then-in_last-eq0-clause-below
returns-then-in_last-eq0-clause-below c =
    let place : 8 * c.loop-place.place - c.args.at_bit ≡ c.args.width = omega arith in
    let is : c.loop-place.value ≡ field c.args.bytes.now c.args.at_bit c.args.width = c.loop-place.invariant ∙ ap (λ k. field c.args.bytes.now c.args.at_bit k) place in
    omega (arith, is, field-below c.args.bytes.now c.args.at_bit c.args.width)
