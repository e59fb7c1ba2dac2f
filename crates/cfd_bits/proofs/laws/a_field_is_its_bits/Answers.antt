use Rattle.std.proofs.Common.{ℕ, subst, sym}
use Rattle.cfd_bits.specs.Field.{HasBits}
use Rattle.cfd_bits.proofs.BitFields.{field-only, has_bits}
use Rattle.cfd_bits.proofs.laws.a_field_is_its_bits.Goals as goal

pub returns : goal.returns
returns c text at width n =
    (λ h. field-only text at width n h.below h.digits, λ e. subst (λ (m : ℕ). HasBits m text at width) (sym e) (has_bits text at width))
