-- What is no pair.
use Rattle.std.proofs.Common.{◌≡◌, List, [], ◌∷◌, None, refl, length}
use Rattle.toml.specs.View.{items_view}
use Rattle.toml.specs.declared.value.Value.{Value}
use Rattle.cfdp_settings_file.specs.Words.{both}

-- values, if there aren't two
pub both-other : (vs : List Value) → (length vs ≡ 2 → ⊥) → None ≡ both (items_view vs)
both-other [] other = refl
both-other (a ∷ []) other = refl
both-other (a ∷ b ∷ []) other = absurd (other refl)
both-other (a ∷ b ∷ c ∷ vs) other = refl
