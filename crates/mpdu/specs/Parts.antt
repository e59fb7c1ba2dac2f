-- Parts of lists, and marks.
use Rattle.std.specs.Prelude.{◌≡◌, ℕ, Bool, true, List, [], ◌∷◌, ◌++◌, ◌⊎◌}
use Rattle.mpdu.specs.Stream.{survivors}

-- The first list is the second if some of it is left out.
abbrev pub IsPartOf : {A : Type 0} → List A → List A → Type 0
IsPartOf xs [] = xs ≡ []
IsPartOf [] (y ∷ ys) = Unit {0}
IsPartOf (x ∷ xs) (y ∷ ys) = ((x ≡ y) × IsPartOf xs ys) ⊎ IsPartOf (x ∷ xs) ys

-- as many marks, and true only if the others are
abbrev pub AreAmong : List Bool → List Bool → Type 0
AreAmong [] [] = Unit {0}
AreAmong [] (m ∷ marks) = ⊥
AreAmong (b ∷ few) [] = ⊥
AreAmong (b ∷ few) (m ∷ marks) = (b ≡ true → m ≡ true) × AreAmong few marks

-- One more zone was delivered, and completes all of these packets at least.
pub record CompletesMore (z : ℕ) (marks : List Bool) (ps added : List (List ℕ)) : Type 0 where
  pub more : List (List ℕ)
  pub completed : survivors z (marks ++ true ∷ []) 0 ps ≡ survivors z marks 0 ps ++ more
  pub part : IsPartOf added more
