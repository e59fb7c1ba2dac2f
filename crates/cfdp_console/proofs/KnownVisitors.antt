-- Visitors come and go.
use Rattle.std.specs.Prelude.{◌≡◌, ◌<◌, ◌⊎◌, ◌++◌, ℕ, Bool, true, false, cond, List, [], ◌∷◌, length, slice_index_or, suc, zero}
use Rattle.std.specs.List.{Contains, remove}
use Rattle.std.proofs.Common.{arith, inl, inr, subst, sym}
use Rattle.std.proofs.lemmas.List.Elements.{Contains-append_cases, Contains-append_right}
use Rattle.cfdp_console.specs.Serving.{AreKnownOrNew, IsNew}
use Rattle.std.specs.declared.io.traits.Read.{Ghosts as Read}
use Rattle.std.specs.declared.io.traits.Write.{Ghosts as Write}
use Rattle.cfdp_console.specs.declared.visitor.Visitor.{Visitor}

only : {X : Type 0} (x v : X) → (k : ℕ) → k < length (x ∷ []) → slice_index_or (x ∷ []) k v ≡ v
    → x ≡ v
only x v zero within is = is
only x v (suc k) within is = absurd (omega arith)

module _ {S : Type 0} {R : Read S} {W : Write S} where
  pub known_all : (xs : List (Visitor S R W)) → AreKnownOrNew xs xs
  known_all xs = λ v there. inl there

  -- the first one goes
  pub known_rest : (xs : List (Visitor S R W)) → AreKnownOrNew xs (remove xs 0)
  known_rest [] = λ v there. inl there
  known_rest (x ∷ xs) = λ v there. inl (Contains-append_right (x ∷ []) xs v there)

  new_only : (xs : List (Visitor S R W)) (x v : Visitor S R W) → IsNew x → Contains xs v ⊎ Contains (x ∷ []) v
      → Contains xs v ⊎ IsNew v
  new_only xs x v new (inl there) = inl there
  new_only xs x v new (inr (k, within, is)) =
      inr (subst (λ (y : Visitor S R W). IsNew y) (only x v k within is) new)

  -- one comes
  pub known_push : (xs : List (Visitor S R W)) (x : Visitor S R W) → IsNew x → AreKnownOrNew xs (xs ++ x ∷ [])
  known_push xs x new = λ v there. new_only xs x v new (Contains-append_cases xs (x ∷ []) v there)

  pub known_pushed : (xs ys : List (Visitor S R W)) (x : Visitor S R W) (b : Bool) → IsNew x
      → ys ≡ cond b (xs ++ x ∷ []) xs → AreKnownOrNew xs ys
  known_pushed xs ys x true new is =
      subst (λ (zs : List (Visitor S R W)). AreKnownOrNew xs zs) (sym is) (known_push xs x new)
  known_pushed xs ys x false new is =
      subst (λ (zs : List (Visitor S R W)). AreKnownOrNew xs zs) (sym is) (known_all xs)
