use Rattle.std.proofs.Common.{◌≡◌, ◌∙◌, Option, Some, None, is_none, is_some, true, inr, sym}
use Rattle.std.proofs.lemmas.Bool.{false≢true}
use Rattle.cfdp_console.proofs.ledger.Ledger.ends.Goals as goal

clash : {A X : Type 0} (o : Option A) → is_some o ≡ true → is_none o ≡ true → X
clash None some none = absurd (false≢true some)
clash (Some x) some none = absurd (false≢true none)

pub returns-then-not-contains_key-clause-new : goal.returns-then-not-contains_key-clause-new
returns-then-not-contains_key-clause-new c others = clash c.closed_one.result (sym c.is_some.ensures ∙ c.if-is_some.true) (c.closed_one.ensures.none.1 others)

pub returns-clause-once : goal.returns-clause-once
returns-clause-once c = inr record { counted = c.saturating_add-self.ensures; known = c.match-shift_remove.known; kept = c.keep.ensures }
