use Rattle.std.proofs.Common.{◌≡◌, ap, arith, length, rules}
use Rattle.std.proofs.lemmas.Grind.{common_steps}
use Rattle.cfdp_settings_file.proofs.WordLemmas.{both-other}
use Rattle.cfdp_settings_file.proofs.words.both.Goals as goal
use Rattle.cfdp_settings_file.proofs.words.both.Goals.{in_default-via-then-as_slice-lt2, in_default-via-else-as_slice-lt2+else-this-lt3}

pub returns-in_default : goal.returns-in_default
returns-in_default c =
    let same : length c.as_slice.result.now ≡ length c.in_ok-as_array.field-0.now.items = ap length c.as_slice.ensures.value in
    let other : length c.in_ok-as_array.field-0.now.items ≡ 2 → ⊥ = elim c.in_default.branch [
      | in_default-via-then-as_slice-lt2 w ↦ first_of (search rules, grind (arith, common_steps))
      | in_default-via-else-as_slice-lt2+else-this-lt3 w ↦ first_of (search rules, grind (arith, common_steps))
    ] in
    rw (← c.in_ok-as_array.ensures) (both-other c.in_ok-as_array.field-0.now.items other)
