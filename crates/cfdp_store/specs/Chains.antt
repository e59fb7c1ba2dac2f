-- Calls of a store one after another, and the failures that they leave.
use Rattle.std.specs.Prelude.{◌≡◌, ℕ, List, [], ◌∷◌, is_ok}
use Rattle.cfdp_store.specs.Calls.{Answer, InboxCall, Begin, Write, Publish, Discard}
use Rattle.cfdp_store.specs.Stores.{failures_after}

module _ {S C : Type 0} (Steps : S → C → S → Type 0) where
  -- These calls led from one state of a store to another, in this order, and no other was made.
  abbrev pub Calls : S → List C → S → Type 0
  Calls old [] new = new ≡ old
  Calls old (call ∷ calls) new = (mid : S) × Steps old call mid × Calls mid calls new

-- what an inbox answered
abbrev pub inbox_answer : InboxCall → Answer
inbox_answer (Begin id answer) = answer
inbox_answer (Write id offset octets answer) = answer
inbox_answer (Publish id name size answer) = answer
inbox_answer (Discard id answer) = answer

-- a count of failures after these calls of an inbox: one more for each that failed
abbrev pub failures_over : List InboxCall → ℕ → ℕ
failures_over [] count = count
failures_over (call ∷ calls) count =
    failures_over calls (failures_after count (is_ok (inbox_answer call)))

-- These calls raised one count of failures to another.
abbrev pub Raises : List InboxCall → (before after : ℕ) → Type 0
Raises calls before after = after ≡ failures_over calls before

module _ {S : Type 0} (Steps : S → InboxCall → S → Type 0) (failures : S → ℕ) where
  -- These calls of an inbox were made, and no other, and each that failed was counted.
  abbrev pub Makes : List InboxCall → (old new : S) → Type 0
  Makes calls old new = Calls Steps old calls new × Raises calls (failures old) (failures new)
