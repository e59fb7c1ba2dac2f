-- What a caller reads of a journal.
use Rattle.std.specs.Prelude.{◌≡◌, ◌≤◌, ℕ, List, [], ◌∷◌}
use Rattle.cfdp_directives.specs.declared.user.indication.Indication.{Indication}
use Rattle.cfdp_c.specs.Codes.{ok, nothing}
use Rattle.cfdp_c.specs.Told.{bit, told_of}
use Rattle.cfdp_c.specs.declared.held.Resumption.{Resumption}
use Rattle.cfdp_c.specs.declared.indications.CfdpIndication.{CfdpIndication}
use Rattle.cfdp_c.specs.declared.journaling.CfdpJournal.{CfdpJournal}

-- What became of an earlier run's transactions was told, and how the journal fares: one of 4 ways.
pub record TellsJournal (r : Resumption) (out : CfdpJournal) : Type 0 where
  pub resumed : out.resumed ≡ r.resumed
  pub lost : out.lost ≡ r.lost
  pub damaged : out.was_damaged ≡ bit r.was_damaged
  pub state : out.state ≤ 3

-- The first of these ends was told, if there is one, and the others are left.
abbrev pub TellsUnheard : (before : List Indication) → (answer : ℕ)
    → (out_before out_now : CfdpIndication) → (now : List Indication) → Type 0
TellsUnheard [] answer out_before out_now now =
    (answer ≡ nothing) × (out_now ≡ out_before) × (now ≡ [])
TellsUnheard (i ∷ is) answer out_before out_now now =
    (answer ≡ ok) × (out_now ≡ told_of i) × (now ≡ is)
