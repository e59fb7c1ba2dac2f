use Rattle.std.proofs.Common.{◌∙◌, Option, ap, arith, length, refl, sym}
use Rattle.std.proofs.lemmas.Option.{slice_get_read}
use Rattle.cfdp_console.specs.declared.asking.Ask.{Ask}
use Rattle.cfdp_console.specs.Serving.{asked_by}
use Rattle.cfdp_console.proofs.InTurn.{asks_some}
use Rattle.cfdp_console.proofs.visitors.Visitors.next_at.Goals as goal

pub returns-in_err-ask-clause-attends : goal.returns-in_err-ask-clause-attends
returns-in_err-ask-clause-attends g c =
    let old = c.index_mut-visitor.result.now in
    record {
      old = old;
      new = c.attend.new.self;
      asked = c.attend.result;
      was = slice_get_read c.args.self.now.all.items (length c.args.self.now.all.items) c.args.place
          old refl (omega (arith, c.args.self.now.all.ok.0)) c.index_mut-visitor.ensures.value;
      is = refl;
      attends = c.attend.ensures;
      asks = c.from_residual.ensures
          ∙ sym (ap (λ (a : Option Ask). asked_by old.number a) c.in_err-ask.was);
    }

pub returns-clause-attends : goal.returns-clause-attends
returns-clause-attends g c =
    let old = c.index_mut-visitor.result.now in
    record {
      old = old;
      new = c.attend.new.self;
      asked = c.attend.result;
      was = slice_get_read c.args.self.now.all.items (length c.args.self.now.all.items) c.args.place
          old refl (omega (arith, c.args.self.now.all.ok.0)) c.index_mut-visitor.ensures.value;
      is = refl;
      attends = c.attend.ensures;
      asks = asks_some c.number.result old.number c.in_ok-ask.ask c.attend.result
          (c.number.ensures ∙ c.attend.ensures.number) c.in_ok-ask.was;
    }
