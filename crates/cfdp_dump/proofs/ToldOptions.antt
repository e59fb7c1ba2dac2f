-- The options of a PDU, shown one by one.
use Rattle.std.proofs.Common.{◌≡◌, ℕ, List, [], ◌∷◌, ◌++◌, Option, Some, MatchOption, sym, ap, subst, ◌∙◌, append_assoc, Bor}
use Rattle.std.specs.List.{flat_map}
use Rattle.cfdp_directives.specs.Pdu.Tlv.{Tlv}

-- an option, as an iterator shows it
abbrev pub shown : ℕ × Bor (List ℕ) → Tlv
shown x = record { kind = x.0; value = x.1.now }

-- the one that it gives was the first of those left
pub option-left : (s t : List Tlv) (r : Option (ℕ × Bor (List ℕ))) (x : ℕ × Bor (List ℕ)) → r ≡ Some x
    → MatchOption r ((s ≡ []) × (t ≡ [])) (λ y. s ≡ shown y ∷ t) → s ≡ shown x ∷ t
option-left s t r x e h = subst (λ o. MatchOption o ((s ≡ []) × (t ≡ [])) (λ y. s ≡ shown y ∷ t)) e h

-- its words join those before
pub option-told : (f : Tlv → List ℕ) (all left rest : List Tlv) (words : List ℕ) (t : Tlv) → flat_map f all ≡ words ++ flat_map f left → left ≡ t ∷ rest
    → flat_map f all ≡ (words ++ f t) ++ flat_map f rest
option-told f all left rest words t parts is =
    parts ∙ ap (λ l. words ++ flat_map f l) is ∙ sym (append_assoc words (f t) (flat_map f rest))
