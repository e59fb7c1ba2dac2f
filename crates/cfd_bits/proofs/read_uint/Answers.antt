use Rattle.std.proofs.Common.{◌≡◌, ℕ, ◌+◌, ◌*◌, ◌<◌, List, get_or, refl, sym, ap, ◌∙◌, arith}
use Rattle.cfd_bits.specs.Field.{field}
use Rattle.cfd_bits.proofs.Steps.{field_none}
use Rattle.cfd_bits.proofs.BitFields.{field-below_octets}
use Rattle.cfd_bits.proofs.Reading.{field_fits, octet_more}
use Rattle.cfd_bits.proofs.read_uint.Goals as goal

pub loop-i-init : goal.loop-i-init
loop-i-init c = sym (field_none c.args.bytes.now 0)

-- one more octet
more : (o : List ℕ) (i v : ℕ) → v ≡ field o 0 (8 * i) → get_or o i 0 < 256 → 256 * v + get_or o i 0 ≡ field o 0 (8 * (i + 1))
more o i v is b =
    let e : field o 0 (8 * (i + 1)) ≡ 256 * field o 0 (8 * i) + get_or o i 0 = octet_more o 0 (8 * i) i (get_or o i 0) (8 * (i + 1)) (omega arith) refl b (omega arith) in
    omega (arith, e, is)

pub overflow_mul-value : goal.overflow_mul-value
overflow_mul-value c = omega (
  arith,
  more c.args.bytes.now c.loop-i.i c.loop-i.value c.loop-i.invariant (omega (arith, c.type_inv.bytes c.loop-i.i)),
  field_fits c.args.bytes.now 0 (8 * (c.loop-i.i + 1)) (omega arith),
)

pub overflow_add-value : goal.overflow_add-value
overflow_add-value c = omega (
  arith,
  c.from.ensures,
  more c.args.bytes.now c.loop-i.i c.loop-i.value c.loop-i.invariant (omega (arith, c.type_inv.bytes c.loop-i.i)),
  field_fits c.args.bytes.now 0 (8 * (c.loop-i.i + 1)) (omega arith),
)

pub loop-i-preserved : goal.loop-i-preserved
loop-i-preserved c = ap (λ k. 256 * c.loop-i.value + k) c.from.ensures ∙ more c.args.bytes.now c.loop-i.i c.loop-i.value c.loop-i.invariant (omega (arith, c.type_inv.bytes c.loop-i.i))

pub returns-clause-below : goal.returns-clause-below
returns-clause-below c =
    let end : c.loop-i.i ≡ c.args.count = omega arith in
    let is : c.loop-i.value ≡ field c.args.bytes.now 0 (8 * c.args.count) = c.loop-i.invariant ∙ ap (λ k. field c.args.bytes.now 0 (8 * k)) end in
    omega (arith, is, field-below_octets c.args.bytes.now 0 c.args.count)
