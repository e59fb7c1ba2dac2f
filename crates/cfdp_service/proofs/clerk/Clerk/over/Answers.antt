use Rattle.std.proofs.Common.{◌++◌, ◌∷◌, ◌∙◌, [], ap, inl, inr, subst, ⊎_elim}
use Rattle.std.specs.List.{Contains}
use Rattle.cfdp_service.specs.Clerk.{ClerkState}
use Rattle.cfdp_service.proofs.clerk.Clerk.over.Goals as goal

pub returns-in-Some-clause-none : goal.returns-in-Some-clause-none
returns-in-Some-clause-none g c = λ file has.
    subst (λ (s : ClerkState _). Contains s.files file) c.self.view_is (c.take_file.ensures.none file (subst (λ l. Contains l file) c.leaves.ensures.files has))

pub returns-in-Some-clause-sent : goal.returns-in-Some-clause-sent
returns-in-Some-clause-sent g c =
    let sent = g.S.Spool.sent in
    let found = c.in-Some.ensures.found in
    let before = ap sent c.take_file.ensures.spool ∙ ap (λ (s : ClerkState _). sent s.spool) c.self.view_is in
    ⊎_elim (λ keeps. inl (keeps ∙ before))
    (λ over. inr (
      over.0,
      (
        c.in-Some.file,
        subst (λ (s : ClerkState _). Contains s.files c.in-Some.file) c.self.view_is found.0,
        found.1,
        over.1 ∙ ap (λ l. l ++ (c.in-Some.file.name.items ∷ [])) before,
      ),
    )) c.leaves.ensures.sent

pub returns-in-Some-clause-failed : goal.returns-in-Some-clause-failed
returns-in-Some-clause-failed g c =
    let failed = g.S.Spool.failed in
    let found = c.in-Some.ensures.found in
    let before = ap failed c.take_file.ensures.spool ∙ ap (λ (s : ClerkState _). failed s.spool) c.self.view_is in
    ⊎_elim (λ keeps. inl (keeps ∙ before))
    (λ over. inr (
      over.0,
      (
        c.in-Some.file,
        subst (λ (s : ClerkState _). Contains s.files c.in-Some.file) c.self.view_is found.0,
        found.1,
        over.1 ∙ ap (λ l. l ++ (c.in-Some.file.name.items ∷ [])) before,
      ),
    )) c.leaves.ensures.failed

pub returns-in_default-clause-none : goal.returns-in_default-clause-none
returns-in_default-clause-none g c = λ file has.
    subst (λ (s : ClerkState _). Contains s.files file) c.self.view_is (c.take_file.ensures.none file has)
