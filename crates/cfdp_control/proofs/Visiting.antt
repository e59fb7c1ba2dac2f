-- Visitors come and go.
use Rattle.std.specs.Prelude.{◌⊎◌, List}
use Rattle.std.specs.List.{Contains}
use Rattle.std.proofs.Common.{inl, inr}
use Rattle.std.specs.declared.io.traits.Read.{Ghosts as Read}
use Rattle.std.specs.declared.io.traits.Write.{Ghosts as Write}
use Rattle.cfdp_console.specs.Serving.{AreKnownOrNew, IsNew}
use Rattle.cfdp_console.specs.declared.visitor.Visitor.{Visitor}

module _ {S : Type 0} {R : Read S} {W : Write S} where
  known_or_new : (a : List (Visitor S R W)) (b : List (Visitor S R W)) (v : Visitor S R W)
      → AreKnownOrNew a b → Contains b v ⊎ IsNew v → Contains a v ⊎ IsNew v
  known_or_new a b v ab (inl there) = ab v there
  known_or_new a b v ab (inr new) = inr new

  pub known-known : (a b c : List (Visitor S R W)) → AreKnownOrNew a b → AreKnownOrNew b c
      → AreKnownOrNew a c
  known-known a b c ab bc = λ v there. known_or_new a b v ab (bc v there)

  pub known_all : (a : List (Visitor S R W)) → AreKnownOrNew a a
  known_all a = λ v there. inl there
