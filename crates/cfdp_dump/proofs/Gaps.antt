-- What stands before a gap in a text.
use Rattle.std.proofs.Common.{◌≡◌, ◌<◌, ◌≤◌, ◌+◌, ◌-◌, ℕ, nat_eq, true, false, List, [], ◌∷◌, ◌++◌, length, take, drop, refl, sym, ◌∙◌, ap, subst, arith, append-nil, slice_index}
use Rattle.std.specs.List.{starts_with}
use Rattle.std.proofs.lemmas.List.{append_assoc, drop_all, drop_more, length-drop, take_all, take_more}
use Rattle.cfdp_dump.specs.Dump.Rows.{up_to}

gap-here : (gap text : List ℕ) → starts_with nat_eq text gap ≡ true → up_to gap text ≡ []
unfolding up_to
gap-here gap [] here = refl
gap-here gap (octet ∷ rest) here = rw here refl

gap-behind : (gap : List ℕ) (octet : ℕ) (rest : List ℕ) → starts_with nat_eq (octet ∷ rest) gap ≡ false → up_to gap (octet ∷ rest) ≡ octet ∷ up_to gap rest
unfolding up_to
gap-behind gap octet rest other = rw other refl

-- what is after so many octets, as a slice of the text
whole : (text : List ℕ) (n : ℕ) → take (length text - n) (drop n text) ≡ drop n text
whole text n = let all : length (drop n text) ≡ length text - n = length-drop n text in take_all (length text - n) (drop n text) (omega (arith, all))

-- one is found after so many octets
pub up_to-found : (gap text : List ℕ) (n : ℕ) → up_to gap text ≡ take n text ++ up_to gap (drop n text)
    → starts_with nat_eq (take (length text - n) (drop n text)) gap ≡ true → take n text ≡ up_to gap text
up_to-found gap text n so there =
    let here = subst (λ l. starts_with nat_eq l gap ≡ true) (whole text n) there in
    sym (so ∙ ap (λ l. take n text ++ l) (gap-here gap (drop n text) here) ∙ append-nil (take n text))

-- none is there
pub up_to-more : (gap text : List ℕ) (n : ℕ) → n < length text → up_to gap text ≡ take n text ++ up_to gap (drop n text)
    → starts_with nat_eq (take (length text - n) (drop n text)) gap ≡ false → up_to gap text ≡ take (n + 1) text ++ up_to gap (drop (n + 1) text)
up_to-more gap text n below so there =
    let other = subst (λ l. starts_with nat_eq l gap ≡ false) (whole text n) there in
    let x : ℕ = slice_index text n in
    let cut = drop_more text n 0 below in
    let step = ap (up_to gap) cut ∙ gap-behind gap x (drop (n + 1) text) (subst (λ l. starts_with nat_eq l gap ≡ false) cut other) in
    so ∙ ap (λ l. take n text ++ l) step ∙ sym (append_assoc (take n text) (x ∷ []) (up_to gap (drop (n + 1) text)))
    ∙ ap (λ l. l ++ up_to gap (drop (n + 1) text)) (sym (take_more text n 0 below))

-- none is in the text
up_to-nothing : (gap : List ℕ) → up_to gap [] ≡ []
unfolding up_to
up_to-nothing gap = refl

pub up_to-end : (gap text : List ℕ) (n : ℕ) → length text ≤ n → up_to gap text ≡ take n text ++ up_to gap (drop n text) → text ≡ up_to gap text
up_to-end gap text n all so =
    sym (so ∙ ap (λ l. take n text ++ l) (ap (up_to gap) (drop_all n text all) ∙ up_to-nothing gap) ∙ append-nil (take n text) ∙ take_all n text all)
