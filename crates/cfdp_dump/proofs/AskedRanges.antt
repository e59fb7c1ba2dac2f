-- Going over a list from its front, one element at a time.
use Rattle.std.proofs.Common.{◌≡◌, ◌<◌, ◌+◌, ℕ, List, [], ◌∷◌, ◌++◌, length, take, drop, get_or, sym, ap, ◌∙◌, Option, None, Some, IfSome, IfNone, MatchOption, arith}
use Rattle.std.specs.List.{flat_map}
use Rattle.std.proofs.lemmas.List.{take_more, drop_more, flat_map_more}

-- what is after the first of what is left
pub rest_behind : {X : Type 0} (xs : List X) (i : ℕ) (x : X) (rest : List X) → i < length xs → drop i xs ≡ x ∷ rest → drop (i + 1) xs ≡ rest
rest_behind xs i x rest within left = ap (drop 1) (sym (drop_more xs i x within) ∙ left)

-- the first of what is left comes next
first_left : {X : Type 0} (xs : List X) (i : ℕ) (x : X) (rest : List X) → i < length xs → drop i xs ≡ x ∷ rest → get_or xs i x ≡ x
first_left xs i x rest within left = ap (λ l. get_or l 0 x) (sym (drop_more xs i x within) ∙ left)

-- the text so far with that of the next one
pub text_with_next : {X : Type 0} (f : X → List ℕ) (xs : List X) (i : ℕ) (x : X) (rest : List X) → i < length xs → drop i xs ≡ x ∷ rest
    → flat_map f (take i xs) ++ f x ≡ flat_map f (take (i + 1) xs)
text_with_next f xs i x rest within left =
    flat_map_more f [] (take i xs) x ∙ ap (λ y. flat_map f (take i xs ++ y ∷ [])) (sym (first_left xs i x rest within left)) ∙ ap (flat_map f) (sym (take_more xs i x within))

-- something is left
pub some_left : {X : Type 0} (xs : List X) (i : ℕ) → i < length xs → drop i xs ≡ [] → ⊥
some_left [] i within none = omega (arith, within)
some_left (x ∷ xs) i within none = let e = ap length (sym (drop_more (x ∷ xs) i x within) ∙ none) in omega (arith, e)

-- what comes next, from what is left
pub next_known : (next : Option (ℕ × ℕ × List (ℕ × ℕ))) (left rest : List (ℕ × ℕ)) → left ≡ rest
    → IfSome next (λ x. rest ≡ (x.0, x.1) ∷ x.2) → IfNone next (rest ≡ []) → MatchOption next (left ≡ []) (λ x. left ≡ (x.0, x.1) ∷ x.2)
next_known None left rest same some none = same ∙ none
next_known (Some x) left rest same some none = same ∙ some
