-- A capture of a station that goes on.
use Rattle.std.proofs.Common.{ℕ, List, [], ◌∷◌, ◌++◌, Option, subst}
use Rattle.std.proofs.KnownBytes.{Appends-trans}
use Rattle.std.proofs.lemmas.List.{flat_map_more}
use Rattle.std.specs.Io.KnownBytes.{Appends}
use Rattle.std.specs.List.{flat_map}

-- after the records of some stands that of one more
pub one_more : {X : Type 0} (f : X → List ℕ) (xs : List X) (x : X) (a b c : Option (List ℕ)) → Appends a b (flat_map f xs) → Appends b c (f x)
    → Appends a c (flat_map f (xs ++ x ∷ []))
one_more f xs x a b c before one = subst (Appends a c) (flat_map_more f [] xs x) (Appends-trans a b c (flat_map f xs) (f x) before one)
