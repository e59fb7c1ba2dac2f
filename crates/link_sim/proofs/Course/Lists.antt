-- What a list of PDUs says once one of them was taken out of it, or one was added at its end.
use Rattle.std.proofs.Common.{◌≡◌, ◌⊎◌, inl, inr, Bool, true, false, List, [], ◌∷◌, ◌++◌, sym, ◌∙◌}
use Rattle.std.proofs.lemmas.List.Folds.{list_any-append}
use Rattle.std.proofs.lemmas.Bool.{false≢true, or_cases, or_left, or_right}
use Rattle.cfdp_directives.specs.Pdu.Content.{Content}
use Rattle.link_sim.specs.Exchange.{one_says, AllTrue}

module _ (test : Content → Bool) where
  pub waits-comes : (before after : List Content) (v : Content) → one_says test (before ++ v ∷ after) ≡ true → (test v ≡ true) ⊎ (one_says test (before ++ after) ≡ true)
  waits-comes before after v h = elim (or_cases (one_says test before) (one_says test (v ∷ after)) (sym (list_any-append test before (v ∷ after)) ∙ h)) [
    | inl b ↦ inr (list_any-append test before after ∙ or_left (one_says test before) _ b)
    | inr va ↦ elim (or_cases (test v) (one_says test after) va) [
      | inl here ↦ inl here
      | inr a ↦ inr (list_any-append test before after ∙ or_right (one_says test before) _ a)
    ]
  ]

  pub waits-stays : (before after : List Content) (v : Content) → one_says test (before ++ after) ≡ true → one_says test (before ++ v ∷ after) ≡ true
  waits-stays before after v h = list_any-append test before (v ∷ after) ∙ elim (or_cases (one_says test before) (one_says test after) (sym (list_any-append test before after) ∙ h)) [
    | inl b ↦ or_left (one_says test before) _ b
    | inr a ↦ or_right (one_says test before) _ (or_right (test v) _ a)
  ]

  pub waits-here : (before after : List Content) (v : Content) → test v ≡ true → one_says test (before ++ v ∷ after) ≡ true
  waits-here before after v h = list_any-append test before (v ∷ after) ∙ or_right (one_says test before) _ (or_left (test v) _ h)

  pub waits-sent : (pdus : List Content) (v : Content) → one_says test pdus ≡ true → one_says test (pdus ++ v ∷ []) ≡ true
  waits-sent pdus v h = list_any-append test pdus (v ∷ []) ∙ or_left (one_says test pdus) _ h

  pub waits-new : (pdus : List Content) (v : Content) → test v ≡ true → one_says test (pdus ++ v ∷ []) ≡ true
  waits-new pdus v h = waits-here pdus [] v h

  pub waits-which : (pdus : List Content) (v : Content) → one_says test (pdus ++ v ∷ []) ≡ true → (one_says test pdus ≡ true) ⊎ (test v ≡ true)
  waits-which pdus v h = elim (or_cases (one_says test pdus) (one_says test (v ∷ [])) (sym (list_any-append test pdus (v ∷ [])) ∙ h)) [
    | inl b ↦ inl b
    | inr va ↦ elim (or_cases (test v) false va) [ inl here ↦ inr here | inr none ↦ absurd (false≢true none) ]
  ]

  -- the same of more PDUs at the end
  pub waits-old : (pdus more : List Content) → one_says test pdus ≡ true → one_says test (pdus ++ more) ≡ true
  waits-old pdus more h = list_any-append test pdus more ∙ or_left (one_says test pdus) _ h

  pub waits-more : (pdus more : List Content) → one_says test more ≡ true → one_says test (pdus ++ more) ≡ true
  waits-more pdus more h = list_any-append test pdus more ∙ or_right (one_says test pdus) _ h

  pub waits-one-of : (pdus more : List Content) → one_says test (pdus ++ more) ≡ true → (one_says test pdus ≡ true) ⊎ (one_says test more ≡ true)
  waits-one-of pdus more h = or_cases (one_says test pdus) (one_says test more) (sym (list_any-append test pdus more) ∙ h)

-- what is true of all is true of the one that is taken out, and of the others
module _ (Is : Content → Type 0) where
  pub true-parts : (before after : List Content) (v : Content) → AllTrue Is (before ++ v ∷ after) → Is v × AllTrue Is (before ++ after)
  true-parts [] after v h = h
  true-parts (b ∷ before) after v h = let rest = true-parts before after v h.1 in (rest.0, (h.0, rest.1))

  pub true-sent : (pdus : List Content) (v : Content) → AllTrue Is pdus → Is v → AllTrue Is (pdus ++ v ∷ [])
  true-sent [] v h t = (t, tt)
  true-sent (p ∷ pdus) v h t = (h.0, true-sent pdus v h.1 t)
