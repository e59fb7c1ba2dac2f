-- The faults of a frame whose check is no longer right.
use Rattle.std.proofs.Common.{◌≡◌, ℕ, ◌+◌, ◌≤◌, ◌&&◌, nat_le, Bool, true, false, not, if◌then◌else◌, Option, Some, None, List, length, refl, ap, ◌∙◌, arith}
use Rattle.std.proofs.lemmas.Bool.{leb-true}
use Rattle.crc.specs.Damage.{IsDamaged}
use Rattle.crc.proofs.Ends as ends
use Rattle.aos_frame.specs.declared.fields.FrameFields.{FrameFields}
use Rattle.aos_frame.specs.declared.opening.FieldsFault.{FieldsFault}
use Rattle.aos_frame.specs.declared.opening.FieldsFault.TheVariants.{Short, Damaged}
use Rattle.aos_frame.specs.LinkFields.{extra, fields_fault, is_intact}

-- ---- the faults by their tests
abbrev fault : (long guarded whole : Bool) → Option FieldsFault
fault long guarded whole =
    if not long then Some Short
    else if guarded && not whole then Some Damaged
    else None

sound_of : (long guarded whole : Bool) → fault long guarded whole ≡ None → (long ≡ true) × (guarded ≡ true → whole ≡ true)
sound_of true true true e = (refl, λ h. refl)
sound_of true true false e = absurd cc
sound_of true false true e = (refl, λ h. refl)
sound_of true false false e = (refl, λ h. absurd cc)
sound_of false guarded whole e = absurd cc

damaged_of : (long guarded whole : Bool) → long ≡ true → guarded ≡ true → whole ≡ false → fault long guarded whole ≡ Some Damaged
damaged_of true true false a b c = refl
damaged_of true true true a b c = absurd cc
damaged_of true false whole a b c = absurd cc
damaged_of false guarded whole a b c = absurd cc

pub damage_is_seen : (fields : FrameFields) (sent came : List ℕ) → fields.error_control ≡ true → fields_fault fields sent ≡ None → length sent ≤ 2048 → IsDamaged sent came → fields_fault fields came ≡ Some Damaged
damage_is_seen fields sent came guarded sound few (len, are) =
    let long = nat_le (6 + extra fields) (length sent) in
    let was = sound_of long fields.error_control (is_intact sent) sound in
    let enough : 6 + extra fields ≤ length sent = leb-true (6 + extra fields) (length sent) was.0 in
    let one : is_intact sent ≡ true = was.1 guarded in
    let as_long : nat_le (6 + extra fields) (length came) ≡ true = ap (nat_le (6 + extra fields)) len ∙ was.0 in
    let differs : is_intact came ≡ false = ends.damage_is_seen sent came (omega (arith, enough)) few one (len, are) in
    damaged_of (nat_le (6 + extra fields) (length came)) fields.error_control (is_intact came) as_long guarded differs
