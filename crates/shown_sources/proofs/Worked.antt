-- Worked instances: which octets of its file a PDU carries.
use Rattle.std.proofs.Common.{◌≡◌, ℕ, List, [], ◌∷◌, Some, None, refl}
use Rattle.cfdp_sender.specs.declared.due.SenderDue.TheVariants.{AskedData, Metadata, NewData}
use Rattle.shown_sources.specs.Shown.{carried_by}

file : List ℕ
file = 1 ∷ 2 ∷ 3 ∷ 4 ∷ 5 ∷ 6 ∷ []

new_data : carried_by file (Some (NewData 2 5)) ≡ 3 ∷ 4 ∷ 5 ∷ []
unfolding file
new_data = refl

asked_data : carried_by file (Some (AskedData 0 2)) ≡ 1 ∷ 2 ∷ []
unfolding file
asked_data = refl

a_directive : carried_by file (Some Metadata) ≡ []
a_directive = refl

nothing_due : carried_by file None ≡ []
nothing_due = refl
