-- What is asked for of the pairs of a NAK, one after another.
use Rattle.std.proofs.Common.{◌≡◌, ℕ, List, [], ◌∷◌, ◌++◌, length, take, Option, Some, MatchOption, refl, sym, ap, subst, ◌∙◌, append_assoc}
use Rattle.std.proofs.Math.Seq.{take-append_seam}
use Rattle.cfdp_sender.specs.declared.phase.SenderPhase.TheVariants.{Sending}
use Rattle.cfdp_sender.specs.State.{SenderState}
use Rattle.cfdp_sender.specs.Steps.{asks, asks_all}
use Rattle.cfdp_sender.specs.Does.{AsksSome}

pub asks_all-more : (ps : List (ℕ × ℕ)) (p : ℕ × ℕ) (x : SenderState) → asks p (asks_all ps x) ≡ asks_all (ps ++ p ∷ []) x
asks_all-more [] p x = refl
asks_all-more (q ∷ ps) p x = asks_all-more ps p (asks q x)

pub asks-some : (pairs done left : List (ℕ × ℕ)) (old new : SenderState) → old.phase ≡ Sending
    → pairs ≡ done ++ left → new ≡ asks_all done old → AsksSome pairs old new
asks-some pairs done left old new sending parts asked = record {
  sending = sending;
  count = length done;
  asked = asked ∙ ap (λ ps. asks_all ps old)
      (sym (take-append_seam done left) ∙ ap (take (length done)) (sym parts));
}

-- the pair that an iterator gave was the first of those left
pub first-left : (s t : List (ℕ × ℕ)) (r : Option (ℕ × ℕ)) (p : ℕ × ℕ) → r ≡ Some p
    → MatchOption r ((s ≡ []) × (t ≡ [])) (λ q. s ≡ q ∷ t) → s ≡ p ∷ t
first-left s t r p e h = subst (λ o. MatchOption o ((s ≡ []) × (t ≡ [])) (λ q. s ≡ q ∷ t)) e h

-- one pair more was asked for
pub asked-next : (pairs done left next : List (ℕ × ℕ)) (p : ℕ × ℕ) (old x new : SenderState) → x ≡ asks_all done old
    → pairs ≡ done ++ left → left ≡ p ∷ next → new ≡ asks p x
    → (new ≡ asks_all (done ++ p ∷ []) old) × (pairs ≡ done ++ p ∷ [] ++ next)
asked-next pairs done left next p old x new asked parts first is = (
  is ∙ ap (asks p) asked ∙ asks_all-more done p old,
  parts ∙ ap (λ ps. done ++ ps) first ∙ sym (append_assoc done (p ∷ []) next),
)
