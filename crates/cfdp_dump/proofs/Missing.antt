-- How many frames are missing, by what the monitor says.
use Rattle.std.proofs.Common.{◌≡◌, ◌∙◌, ℕ, zero, suc, Bool, Option, Some, None, sym, ap, refl, subst}
use Rattle.std.specs.Option.{IfSome}
use Rattle.aos_frame.specs.Counts.{AreMissing, compared, continuity}
use Rattle.aos_frame.specs.declared.count.Continuity.{Continuity}
use Rattle.aos_frame.specs.declared.count.Continuity.TheVariants.{Follows, Gap}
use Rattle.aos_frame.specs.declared.count.SeenCount.{SeenCount}
use Rattle.cfdp_dump.specs.Carrying.{IsMissing}

-- the number that is reported
abbrev pub told : Continuity → ℕ
told Follows = 0
told (Gap missing) = missing

told-continuity : (n : ℕ) → told (continuity n) ≡ n
told-continuity zero = refl
told-continuity (suc n) = refl

pub is_missing : (last : Option SeenCount) (this : SeenCount) (k : Continuity) → (last ≡ None → k ≡ Follows)
    → IfSome last (λ l. (n : ℕ) → AreMissing (compared l.cycle this.cycle) l.count this.count n → k ≡ continuity n)
    → ((l t : Bool) (before count : ℕ) → (n : ℕ) × AreMissing (compared l t) before count n) → IsMissing last this (told k)
is_missing None this k first all some = ap told (first refl)
is_missing (Some l) this k first all some =
    let one = some l.cycle this.cycle l.count this.count in
    let P : ℕ → Type 0 = λ m. AreMissing (compared l.cycle this.cycle) l.count this.count m in
    subst P (sym (ap told (all one.0 one.1) ∙ told-continuity one.0)) one.1
