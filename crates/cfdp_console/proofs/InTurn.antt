-- Visitors that are attended to in turn.
use Rattle.std.specs.Prelude.{◌≡◌, ◌+◌, ◌≤◌, ℕ, List, [], ◌∷◌, Option, Some, None, length, slice_get, slice_set, suc, zero}
use Rattle.std.proofs.Common.{◌∙◌, add-one, ap, arith, inl, inr, refl, subst, sym}
use Rattle.cfdp_console.specs.declared.asking.Ask.{Ask}
use Rattle.cfdp_console.specs.declared.guard.Guard.{Guard}
use Rattle.cfdp_console.specs.Serving.{Attends, AttendsAt, AttendsInTurn, asked_by}
use Rattle.std.specs.declared.io.traits.Read.{Ghosts as Read}
use Rattle.std.specs.declared.io.traits.Write.{Ghosts as Write}
use Rattle.cfdp_console.specs.declared.visitor.Visitor.{Visitor}

nothing_asked : (number : ℕ) (asked : Option Ask) → None ≡ asked_by number asked
    → asked ≡ None
nothing_asked number None same = refl
nothing_asked number (Some it) same = absurd cc

pub asks_some : (m o : ℕ) (it : Ask) (asked : Option Ask) → m ≡ o → asked ≡ Some it
    → asked_by m (Some it) ≡ asked_by o asked
asks_some m o it asked same was = ap (λ (k : ℕ). asked_by k (Some it)) same
    ∙ ap (λ (a : Option Ask). asked_by o a) (sym was)

module _ {S : Type 0} {R : Read S} {W : Write S} (guard : Guard) where
  -- So many visitors were attended to, and asked nothing. Those after them are as they were.
  abbrev pub Reached : ℕ → List (Visitor S R W) → List (Visitor S R W) → Type 0
  Reached zero olds news = news ≡ olds
  Reached (suc n) [] news = ⊥
  Reached (suc n) (old ∷ olds) [] = ⊥
  Reached (suc n) (old ∷ olds) (new ∷ news) = Attends guard old new None × Reached n olds news

  first_is : (v old : Visitor S R W) → Some v ≡ Some old → v ≡ old
  first_is v old same = cc

  head_is : (v o : Visitor S R W) (news olds : List (Visitor S R W)) → v ∷ news ≡ o ∷ olds → v ≡ o
  head_is v o news olds same = cc

  tail_is : (v o : Visitor S R W) (news olds : List (Visitor S R W)) → v ∷ news ≡ o ∷ olds → news ≡ olds
  tail_is v o news olds same = cc

  -- whoever is at the first index was there before
  first_was : (v o old : Visitor S R W) (news olds : List (Visitor S R W)) → v ∷ news ≡ o ∷ olds
      → Some v ≡ Some old → old ≡ o
  first_was v o old news olds same at = cc

  pub one_more : (n : ℕ) (olds news : List (Visitor S R W)) (old new : Visitor S R W) → Reached n olds news
      → slice_get news n ≡ Some old → Attends guard old new None
      → Reached (suc n) olds (slice_set news n new)
  one_more zero [] [] old new reached at attends = absurd cc
  one_more zero (o ∷ olds) [] old new reached at attends = absurd cc
  one_more zero [] (v ∷ news) old new reached at attends = absurd cc
  one_more zero (o ∷ olds) (v ∷ news) old new reached at attends =
      (subst (λ (x : Visitor S R W). Attends guard x new None) (first_was v o old news olds reached at) attends, tail_is v o news olds reached)
  one_more (suc n) [] news old new reached at attends = absurd reached
  one_more (suc n) (o ∷ olds) [] old new reached at attends = absurd reached
  one_more (suc n) (o ∷ olds) (v ∷ news) old new reached at attends =
      (reached.0, one_more n olds news old new reached.1 at attends)

  pub asks_at : (n : ℕ) (olds news : List (Visitor S R W)) (old new : Visitor S R W) (it : Ask)
      → Reached n olds news → slice_get news n ≡ Some old → Attends guard old new (Some it)
      → AttendsInTurn guard olds (slice_set news n new) (Some (old.number, it))
  asks_at zero [] [] old new it reached at attends = absurd cc
  asks_at zero (o ∷ olds) [] old new it reached at attends = absurd cc
  asks_at zero [] (v ∷ news) old new it reached at attends = absurd cc
  asks_at zero (o ∷ olds) (v ∷ news) old new it reached at attends =
      let was = first_was v o old news olds reached at in
      inr (it, subst (λ (x : Visitor S R W). Attends guard x new (Some it)) was attends, tail_is v o news olds reached, ap (λ (x : Visitor S R W). Some (x.number, it)) was)
  asks_at (suc n) [] news old new it reached at attends = absurd reached
  asks_at (suc n) (o ∷ olds) [] old new it reached at attends = absurd reached
  asks_at (suc n) (o ∷ olds) (v ∷ news) old new it reached at attends =
      inl (reached.0, asks_at n olds news old new it reached.1 at attends)

  pub nobody_asks : (n : ℕ) (olds news : List (Visitor S R W)) → Reached n olds news
      → length news ≤ n → AttendsInTurn guard olds news None
  nobody_asks zero [] [] reached all = refl
  nobody_asks zero (o ∷ olds) [] reached all = absurd cc
  nobody_asks zero olds (v ∷ news) reached all = absurd (omega arith)
  nobody_asks (suc n) [] news reached all = absurd reached
  nobody_asks (suc n) (o ∷ olds) [] reached all = absurd reached
  nobody_asks (suc n) (o ∷ olds) (v ∷ news) reached all =
      inl (reached.0, nobody_asks n olds news reached.1 (omega arith))

  -- the visitor at the next index asks nothing
  pub reached_more : (n : ℕ) (olds news newer : List (Visitor S R W)) → Reached n olds news
      → AttendsAt guard news newer n None → Reached (n + 1) olds newer
  reached_more n olds news newer reached at =
      let none : at.asked ≡ None = nothing_asked at.old.number at.asked at.asks in
      rw add-one (subst (λ (xs : List (Visitor S R W)). Reached (suc n) olds xs) (sym at.is)
      (one_more n olds news at.old at.new reached at.was
      (subst (λ (a : Option Ask). Attends guard at.old at.new a) none at.attends)))

  some_asked : (n : ℕ) (olds news newer : List (Visitor S R W)) (old new : Visitor S R W)
      (asked : Option Ask) (given : ℕ × Ask) → Reached n olds news → slice_get news n ≡ Some old
      → newer ≡ slice_set news n new → Attends guard old new asked
      → Some given ≡ asked_by old.number asked
      → AttendsInTurn guard olds newer (Some given)
  some_asked n olds news newer old new None given reached was is attends asks = absurd cc
  some_asked n olds news newer old new (Some it) given reached was is attends asks =
      subst (λ (xs : List (Visitor S R W)). AttendsInTurn guard olds xs (Some given)) (sym is)
      (subst (λ (g : Option (ℕ × Ask)). AttendsInTurn guard olds (slice_set news n new) g)
      (sym asks) (asks_at n olds news old new it reached was attends))

  -- the visitor at the next index asks something
  pub reached_asks : (n : ℕ) (olds news newer : List (Visitor S R W)) (given : ℕ × Ask)
      → Reached n olds news → AttendsAt guard news newer n (Some given)
      → AttendsInTurn guard olds newer (Some given)
  reached_asks n olds news newer given reached at = some_asked n olds news newer at.old at.new
      at.asked given reached at.was at.is at.attends at.asks
