-- The first flag that is set.
use Rattle.std.proofs.Common.{◌≡◌, ℕ, ◌+◌, ◌-◌, ◌<◌, ◌≤◌, drop, length-drop, Bool, true, false, List, length, get_or, position, Some, None, refl, sym, ap, ◌∙◌, arith}
use Rattle.std.specs.List.{position_or_len}
use Rattle.std.specs.Option.{option_map}
use Rattle.std.proofs.lemmas.List.{get_or-drop}
use Rattle.std.proofs.lemmas.List.Sums.{position_or_len_is}
use Rattle.std.proofs.lemmas.Bool.{lt-ltb, le-ltb}

pub first-found : (flags : List Bool) (i : ℕ) → i < length flags → ((k : ℕ) → k < i → get_or flags k false ≡ false) → get_or flags i false ≡ true → position (λ b. b) flags ≡ Some i
first-found flags i low before here =
    let is : position_or_len (λ b. b) flags ≡ i = position_or_len_is (λ b. b) flags i false (omega arith) before (λ _. here) in
    rw is (rw (lt-ltb i (length flags) low) refl)

pub first-none : (flags : List Bool) → ((k : ℕ) → k < length flags → get_or flags k false ≡ false) → position (λ b. b) flags ≡ None
first-none flags none =
    let is : position_or_len (λ b. b) flags ≡ length flags = position_or_len_is (λ b. b) flags (length flags) false (omega arith) none (λ l. absurd (omega arith)) in
    rw is (rw (le-ltb (length flags) (length flags) (omega arith)) refl)

module _ (flags : List Bool) (from place : ℕ) (on : from ≤ place) (none : (k : ℕ) → from ≤ k → k < place → get_or flags k false ≡ false) where
  pub found-from : place < length flags → get_or flags place false ≡ true → Some place ≡ option_map (λ i. from + i) (position (λ b. b) (drop from flags))
  found-from low here =
      let len = length-drop from flags in
      let back : from + (place - from) ≡ place = omega arith in
      let first : position (λ b. b) (drop from flags) ≡ Some (place - from) = first-found (drop from flags) (place - from) (omega (arith, len))
      (λ k l. get_or-drop from flags k false ∙ none (from + k) (omega arith) (omega arith)) (get_or-drop from flags (place - from) false ∙ ap (λ i. get_or flags i false) back ∙ here) in
      sym (ap (option_map (λ i. from + i)) first ∙ ap Some back)

  pub none-from : length flags ≤ place → None ≡ option_map (λ i. from + i) (position (λ b. b) (drop from flags))
  none-from high =
      let len = length-drop from flags in
      let first : position (λ b. b) (drop from flags) ≡ None = first-none (drop from flags) (λ k l. get_or-drop from flags k false ∙ none (from + k) (omega arith) (omega (arith, len, l))) in
      sym (ap (option_map (λ i. from + i)) first)
