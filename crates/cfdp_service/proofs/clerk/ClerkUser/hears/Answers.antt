use Rattle.std.proofs.Common.{None, ap, false, refl, subst, sym}
use Rattle.cfdp_directives.specs.declared.user.indication.Indication.{Indication}
use Rattle.cfdp_service.specs.Clerk.{ClerkState, EndsBy}
use Rattle.cfdp_service.proofs.ClerkLemmas.{hears-over}
use Rattle.cfdp_service.proofs.clerk.ClerkUser.hears.Goals as goal

pub returns-in-Finished : goal.returns-in-Finished
returns-in-Finished g c =
    hears-over g.S.Spool.sent g.S.Spool.failed c.args.self.now _ c.over.new.self c.args.indication.now c.in-Finished.id c.is_completion-is_complete.result
    (subst (λ (i : Indication). EndsBy c.in-Finished.id i) (sym c.in-Finished.is) refl)
    (ap (λ (s : ClerkState _). record s { asked = None }) c.self.view_is)
    c.over.ensures.own c.over.ensures.asked c.over.ensures.none c.over.ensures.sent c.over.ensures.failed c.is_completion-is_complete.ensures.complete
    c.is_completion-is_complete.ensures.all

pub returns-in-Abandoned : goal.returns-in-Abandoned
returns-in-Abandoned g c =
    hears-over g.S.Spool.sent g.S.Spool.failed c.args.self.now _ c.over-in-Abandoned.new.self c.args.indication.now c.in-Abandoned.id false
    (subst (λ (i : Indication). EndsBy c.in-Abandoned.id i) (sym c.in-Abandoned.is) refl)
    (ap (λ (s : ClerkState _). record s { asked = None }) c.self.view_is)
    c.over-in-Abandoned.ensures.own c.over-in-Abandoned.ensures.asked c.over-in-Abandoned.ensures.none c.over-in-Abandoned.ensures.sent
    c.over-in-Abandoned.ensures.failed (λ so. cc) (λ told. cc)
