-- What a text spells, one item more.
use Rattle.std.proofs.Common.{◌≡◌, ◌<◌, ℕ, List, [], ◌∷◌, ◌++◌, length, refl, subst, sym}
use Rattle.captures.specs.Captures.{HasTaken, SpellsTo}
use Rattle.captures.specs.Packets.{CaptureState, ItemText}

pub spells-none : (st : CaptureState) (text : List ℕ) → SpellsTo st [] text st text
spells-none st text = (refl, refl)

pub spells-more : (st : CaptureState) (items : List ItemText) (text : List ℕ) (mid : CaptureState) (between : List ℕ) (item : ItemText) (last : CaptureState) (rest : List ℕ)
    → SpellsTo st items text mid between → 0 < length between → HasTaken mid between item last rest → SpellsTo st (items ++ item ∷ []) text last rest
spells-more st [] text mid between item last rest before some one =
    let P : CaptureState → List ℕ → Type 0 = λ s t. (0 < length t) × HasTaken s t item last rest in
    let here = subst (λ s. P s text) before.0 (subst (λ t. P mid t) before.1 (some, one)) in
    (here.0, (last, rest, here.1, (refl, refl)))
spells-more st (i ∷ items) text mid between item last rest before some one =
    (before.0, (before.1.0, before.1.1, before.1.2, spells-more before.1.0 items before.1.1 mid between item last rest before.1.3 some one))
