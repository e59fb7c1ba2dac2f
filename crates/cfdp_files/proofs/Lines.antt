-- The lines of a file of reserved numbers.
use Rattle.std.proofs.Common.{◌≡◌, ◌++◌, ◌∷◌, ◌∙◌, [], List, ℕ, Bool, false, Option, Some, append_assoc, append-nil, ap, sym, refl, inl, inr, codes, decimal, nat_eq}
use Rattle.std.specs.Prelude.{unwrap_or}
use Rattle.std.proofs.lemmas.Bool.{true≢false}
use Rattle.std.specs.Cmp.Lexicographic.{pointwise, bytes_decides}
use Rattle.cfdp_files.specs.declared.reserving.Reserved.{Reserved}
use Rattle.cfdp_files.specs.StateText.{Says, first_text, lines_text}

-- a file begins with the lines
pub front_is : (text : List ℕ) (r : Reserved) → Says text r → (rest : List ℕ) × (text ≡ lines_text r ++ rest)
front_is text r (inl whole) = (_, whole)
front_is text r (inr older) = ([], older.0 ∙ sym (append-nil (lines_text r)))

-- a comparison that fails is one of two texts
pub unequal : (text other : List ℕ) (b : Bool) → b ≡ pointwise nat_eq text other → b ≡ false → text ≡ other → ⊥
unequal text other b is fails same = true≢false (sym ((bytes_decides text other).1 same) ∙ sym is ∙ fails)

pub some_same : (a b : Reserved) → Some a ≡ Some b → a ≡ b
some_same a b same = ap (λ (o : Option Reserved). unwrap_or o a) same

-- the first line of a station whose peer's frames are secured
pub secured_first : (n : ℕ) (rest : List ℕ) → first_text (Some n) ++ rest
    ≡ codes "cfdp_node station 2\naccepted " ++ (decimal n ++ (10 ∷ rest))
secured_first n rest = rw (append_assoc (decimal n) (codes "\n") rest) refl
