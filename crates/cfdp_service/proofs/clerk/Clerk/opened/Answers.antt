use Rattle.std.proofs.Common.{ap, inl, inr, subst, sym, ⊎_elim}
use Rattle.std.specs.List.{Contains}
use Rattle.std.specs.Prelude.{is_ok}
use Rattle.cfdp_service.specs.Clerk.{ClerkState}
use Rattle.cfdp_service.specs.declared.clerk.OpenFile.{OpenFile}
use Rattle.cfdp_service.proofs.ClerkLemmas.{added}
use Rattle.cfdp_service.proofs.clerk.Clerk.opened.Goals as goal

pub returns-then-is_file-clause-files : goal.returns-then-is_file-clause-files
returns-then-is_file-clause-files g c = λ file has.
    ⊎_elim (λ was. inl (subst (λ (s : ClerkState _). Contains s.files file) c.self.view_is was))
    (λ now. inr (c.if-is_file.true, ap (λ (f : OpenFile). f.name.items) now, ap (λ (f : OpenFile). f.id) (sym now)))
    (added (is_ok c.push.result) c.self.inside.files.items c.push.new.self.items _ file c.push.ensures.items has)

pub returns-clause-files : goal.returns-clause-files
returns-clause-files g c = λ file has. inl (subst (λ (s : ClerkState _). Contains s.files file) c.self.view_is has)
