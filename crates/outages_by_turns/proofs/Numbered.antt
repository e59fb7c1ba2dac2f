-- Turns that are numbered from 1 on, as a list; and lists of turns that are split.
use Rattle.std.proofs.Common.{◌≡◌, ℕ, zero, suc, ◌+◌, List, [], ◌∷◌, ◌++◌, refl, sym, ap, subst, ◌∙◌}
use Rattle.cfdp_header.specs.declared.value.TransactionId.{TransactionId}
use Rattle.cfdp_port.specs.Calls.{WireCall}
use Rattle.cfdp_port.specs.Pair.{PairState, TakesTurn, Turns}
use Rattle.ports_in_order.specs.InOrder.{PassInOrder, Passage, PassesInOrder, nothing_passed}
use Rattle.outages_by_turns.specs.Turns.{AreTurns, Turn, numbered, then_pair}

then-last : {W : Type 0} (turns : List (Turn W)) (old : PairState W) (t : Turn W) → then_pair old (turns ++ t ∷ []) ≡ t.after
then-last [] old t = refl
then-last (x ∷ turns) old t = then-last turns x.after t

pub then-both : {W : Type 0} (xs ys : List (Turn W)) (old : PairState W) → then_pair old (xs ++ ys) ≡ then_pair (then_pair old xs) ys
then-both [] ys old = refl
then-both (x ∷ xs) ys old = then-both xs ys x.after

module _ {W : Type 0} (Steps : W → WireCall → W → Type 0) where
  -- one turn more
  one-more : (turns : List (Turn W)) (old : PairState W) (before mid after : Passage) → AreTurns Steps turns old before mid → (t : Turn W) (turn : TakesTurn Steps t.now (then_pair old turns) t.after) →
      PassesInOrder Steps t.now (then_pair old turns) t.after turn mid after → AreTurns Steps (turns ++ t ∷ []) old before after
  one-more [] old before mid after same t turn pass = (turn, after, subst (λ (p : Passage). PassesInOrder Steps t.now old t.after turn p after) same pass, refl)
  one-more (x ∷ turns) old before mid after (first, passed, passes, more) t turn pass = (first, passed, passes, one-more turns x.after passed mid after more t turn pass)

  -- those that came first, and the rest
  pub apart : (xs ys : List (Turn W)) (old : PairState W) (before after : Passage) → AreTurns Steps (xs ++ ys) old before after →
      (mid : Passage) × AreTurns Steps xs old before mid × AreTurns Steps ys (then_pair old xs) mid after
  apart [] ys old before after are = (before, refl, are)
  apart (x ∷ xs) ys old before after (turn, passed, pass, more) =
      let r = apart xs ys x.after passed after more in
      (r.0, (turn, passed, pass, r.1), r.2)

  pub are-turns : (id : TransactionId) (count : ℕ) (old new : PairState W) (turns : Turns Steps id count old new) (passed : Passage) → PassInOrder Steps id count old new turns passed →
      (new ≡ then_pair old (numbered Steps id count old new turns)) × AreTurns Steps (numbered Steps id count old new turns) old nothing_passed passed
  are-turns id zero old new same passed none = (same, none)
  are-turns id (suc count) old new (mid, before, unclosed, turn) passed (earlier, pass, now) =
      let list : List (Turn W) = numbered Steps id count old mid before in
      let first = are-turns id count old mid before earlier pass in
      let last : Turn W = record { now = count + 1; after = new } in
      let moved : (t : TakesTurn Steps (count + 1) (then_pair old list) new) × PassesInOrder Steps (count + 1) (then_pair old list) new t earlier passed =
      subst (λ (m : PairState W). (t : TakesTurn Steps (count + 1) m new) × PassesInOrder Steps (count + 1) m new t earlier passed) first.0 (turn, now) in
      (sym (then-last list old last), one-more list old nothing_passed earlier passed first.1 last moved.0 moved.1)
