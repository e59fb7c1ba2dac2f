use Rattle.std.proofs.Common.{◌≡◌, ◌∙◌, IsTrue, inl, inr, refl, subst, sym, ⊎_elim}
use Rattle.std.specs.List.{Contains}
use Rattle.cfdp_service.specs.Clerk.{ClerkState}
use Rattle.cfdp_service.specs.declared.clerk.OpenFile.{OpenFile}
use Rattle.cfdp_service.proofs.clerk.Clerk.takes_back.Goals as goal
use Rattle.cfdp_service.proofs.clerk.Clerk.takes_back.Goals.{then-are_alike, else-are_alike}

-- What the spool is asked opens no file.
was_open : (g : _) → (c : goal.After-opened g) → (file : OpenFile)
    → Contains c.if-are_alike.self.files file → Contains c.args.self.now.files file
was_open g c file was = subst (λ (s : ClerkState _). Contains s.files file) c.self.view_is
    (elim c.if-are_alike.branch [
      | then-are_alike w ↦ subst (λ (s : ClerkState _). Contains s.files file) w.self-is was
      | else-are_alike w ↦ subst (λ (s : ClerkState _). Contains s.files file) w.self-is was
    ])

keeps_its_name : (g : _) → (c : goal.After-opened g) → IsTrue c.if-are_alike.is_file
    → c.args.names.source.items ≡ c.args.names.destination.items
keeps_its_name g c is = elim c.if-are_alike.branch [
  | then-are_alike w ↦ w.if-are_alike.ensures.0 refl
  | else-are_alike w ↦
      w.if-are_alike.ensures.0 (subst IsTrue (w.is_file-is ∙ w.if-are_alike.false) is)
]

pub returns-clause-files : goal.returns-clause-files
returns-clause-files g c = λ file has.
    ⊎_elim (λ was. inl (was_open g c file was))
    (λ now. inr (now.1, sym (keeps_its_name g c now.0) ∙ now.1, now.2))
    (c.opened.ensures.files file has)
