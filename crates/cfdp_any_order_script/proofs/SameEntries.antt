-- Entries that are all copies.
use Rattle.std.proofs.Common.{◌≡◌, ℕ, List, [], ◌∷◌, map, refl, ap, ap₂}
use Rattle.std.specs.List.{AllZip}
use Rattle.std.specs.FinMap.{from_entries}
use Rattle.std.specs.Prelude.{Vec, vec_len}
use Rattle.cfdp_store.specs.Files.{files_of}

-- octets that were copied one by one
same_octets : (xs ys : List ℕ) → AllZip (λ (x y : ℕ). y ≡ x) xs ys → ys ≡ xs
same_octets [] [] all = refl
same_octets [] (y ∷ ys) all = absurd all
same_octets (x ∷ xs) [] all = absurd all
same_octets (x ∷ xs) (y ∷ ys) all = ap₂ (λ (h : ℕ) (t : List ℕ). h ∷ t) all.0 (same_octets xs ys all.1)

abbrev pair : List ℕ → List ℕ → List ℕ × List ℕ
pair a b = (a, b)

module _ {Y Z : Type 0} where
  abbrev IsCopy : (Vec ℕ Y × Vec ℕ Z) → (Vec ℕ Y × Vec ℕ Z) → Type 0
  IsCopy p q = (AllZip (λ (x y : ℕ). y ≡ x) p.0.items q.0.items × (vec_len q.0 ≡ vec_len p.0)) × (AllZip (λ (x y : ℕ). y ≡ x) p.1.items q.1.items × (vec_len q.1 ≡ vec_len p.1))

  abbrev part_of : Vec ℕ Y × Vec ℕ Z → List ℕ × List ℕ
  part_of e = (e.0.items, e.1.items)

  same_parts : (es fs : List (Vec ℕ Y × Vec ℕ Z)) → AllZip IsCopy es fs → map part_of fs ≡ map part_of es
  same_parts [] [] all = refl
  same_parts [] (f ∷ fs) all = absurd all
  same_parts (e ∷ es) [] all = absurd all
  same_parts (e ∷ es) (f ∷ fs) all =
      ap₂ (λ (h : List ℕ × List ℕ) (t : List (List ℕ × List ℕ)). h ∷ t)
      (ap₂ pair (same_octets e.0.items f.0.items all.0.0.0) (same_octets e.1.items f.1.items all.0.1.0))
      (same_parts es fs all.1)

  -- they list the same files
  pub same_files : (es fs : List (Vec ℕ Y × Vec ℕ Z)) → AllZip IsCopy es fs → files_of fs ≡ files_of es
  same_files es fs all = ap from_entries (same_parts es fs all)
