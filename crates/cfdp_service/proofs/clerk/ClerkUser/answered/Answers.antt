use Rattle.std.proofs.Common.{None, Option, ◌∙◌, ap, refl, sym}
use Rattle.cfdp_service.specs.Clerk.{ClerkState, asked_file}
use Rattle.cfdp_service.specs.declared.clerk.AskedPut.{AskedPut}
use Rattle.cfdp_service.proofs.ClerkLemmas.{answered-file, answered-none, fails-none, fails-refused}
use Rattle.cfdp_service.proofs.clerk.ClerkUser.answered.Goals as goal
use Rattle.cfdp_service.proofs.clerk.ClerkUser.answered.Goals.{in-Some-1, in-None-1}

pub returns-in-Ok : goal.returns-in-Ok
returns-in-Ok g c =
    let taken = ap (λ (a : Option AskedPut). record { own = c.self.inside.own; asked = asked_file a; files = c.self.inside.files.items; spool = c.self.inside.spool }) c.take.ensures.after in
    answered-file g.S.Spool.sent g.S.Spool.failed c.args.self.now _ c.opened.new.self c.self.inside.asked c.in-Some-Put.put c.in-Some-Put.answer c.args.reply c.in-Ok.id
    (taken ∙ ap (λ (s : ClerkState _). record s { asked = None }) c.self.view_is)
    (ap (λ (s : ClerkState _). s.asked) (sym c.self.view_is))
    (sym c.take.ensures.value ∙ c.in-Some-Put.is-0) c.in-Some-Put.is-1 c.in-Ok.is
    c.opened.ensures.own c.opened.ensures.asked c.opened.ensures.sent c.opened.ensures.failed c.opened.ensures.files

pub returns-in-Err : goal.returns-in-Err
returns-in-Err g c =
    let taken = ap (λ (a : Option AskedPut). record { own = c.self.inside.own; asked = asked_file a; files = c.self.inside.files.items; spool = c.self.inside.spool }) c.take.ensures.after in
    answered-none g.S.Spool.sent g.S.Spool.failed c.args.self.now _ c.refused.new.self c.args.reply
    (taken ∙ ap (λ (s : ClerkState _). record s { asked = None }) c.self.view_is)
    c.refused.ensures.own c.refused.ensures.asked c.refused.ensures.files c.refused.ensures.sent
    (fails-refused g.S.Spool.sent g.S.Spool.failed c.args.self.now _ c.refused.new.self c.self.inside.asked c.in-Some-Put.put c.in-Some-Put.answer c.args.reply c.in-Err.by
    (taken ∙ ap (λ (s : ClerkState _). record s { asked = None }) c.self.view_is)
    (ap (λ (s : ClerkState _). s.asked) (sym c.self.view_is))
    (sym c.take.ensures.value ∙ c.in-Some-Put.is-0) c.in-Some-Put.is-1 c.in-Err.is c.refused.ensures.failed)

pub returns-in_default : goal.returns-in_default
returns-in_default g c =
    let taken = ap (λ (a : Option AskedPut). record { own = c.self.inside.own; asked = asked_file a; files = c.self.inside.files.items; spool = c.self.inside.spool }) c.take.ensures.after in
    elim c.match-this.branch [
      | in-Some-1 w ↦ answered-none g.S.Spool.sent g.S.Spool.failed c.args.self.now c.match-this.self c.match-this.self c.args.reply
          (w.self-is ∙ taken ∙ ap (λ (s : ClerkState _). record s { asked = None }) c.self.view_is) refl refl refl refl
          (fails-none g.S.Spool.sent g.S.Spool.failed c.args.self.now c.match-this.self c.match-this.self c.args.reply
          (w.self-is ∙ taken ∙ ap (λ (s : ClerkState _). record s { asked = None }) c.self.view_is) refl)
      | in-None-1 w ↦ answered-none g.S.Spool.sent g.S.Spool.failed c.args.self.now c.match-this.self c.match-this.self c.args.reply
          (w.self-is ∙ taken ∙ ap (λ (s : ClerkState _). record s { asked = None }) c.self.view_is) refl refl refl refl
          (fails-none g.S.Spool.sent g.S.Spool.failed c.args.self.now c.match-this.self c.match-this.self c.args.reply
          (w.self-is ∙ taken ∙ ap (λ (s : ClerkState _). record s { asked = None }) c.self.view_is) refl)
    ]
