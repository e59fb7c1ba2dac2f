use Rattle.std.proofs.Common.{◌∙◌, List, ℕ, inl, inr, refl, subst, sym}
use Rattle.cfdp_console.specs.Came.{HasHeard}
use Rattle.cfdp_console.proofs.Attending.{came_all, heard_kept, heard_read}
use Rattle.cfdp_console.proofs.visitor.Visitor.hears.Goals as goal

pub invariant_of-self-clause-all_heard : goal.invariant_of-self-clause-all_heard
invariant_of-self-clause-all_heard g c = heard_kept c.args.self.now.caller c.breaks_off.new.self
    c.args.self.now.came c.breaks_off.ensures c.args.self.now.all_heard

pub invariant_of-self-in-Ok-clause-all_heard : goal.invariant_of-self-in-Ok-clause-all_heard
invariant_of-self-in-Ok-clause-all_heard g c = heard_read c.args.self.now.caller
    c.hear.new.caller c.args.self.now.came c.read_noted.new.came c.read_noted.new.octets _
    c.in-Ok.len c.args.self.now.all_heard c.requires c.hear.ensures.read c.in-Ok.ensures.bound
    c.in-Ok.ensures.noted

pub invariant_of-self-in-Err-1 : goal.invariant_of-self-in-Err-1
invariant_of-self-in-Err-1 g c = record {
  within = c.args.self.now.within;
  all_heard = subst (λ (came : List ℕ). HasHeard c.args.self.now.caller came)
      (sym c.in-Err.ensures.err) c.args.self.now.all_heard;
}

pub returns-then-room-eq0 : goal.returns-then-room-eq0
returns-then-room-eq0 g c = record {
  number = refl;
  heard = inl c.breaks_off.ensures.requests;
  came = tt;
  read = inl refl;
}

pub returns-in-Ok : goal.returns-in-Ok
returns-in-Ok g c = record {
  number = refl;
  heard = c.hear.ensures.heard;
  came = came_all c.args.guard.now c.args.self.now.caller c.hear.new.caller c.hear.result
      c.read_noted.new.came c.hear.ensures.heard (heard_read c.args.self.now.caller
      c.hear.new.caller c.args.self.now.came c.read_noted.new.came c.read_noted.new.octets _
      c.in-Ok.len c.args.self.now.all_heard c.requires c.hear.ensures.read c.in-Ok.ensures.bound
      c.in-Ok.ensures.noted);
  read = inr (c.args.self.now.stream, _, c.in-Ok.ensures.noted, c.in-Ok.ensures.read);
}

pub returns-in-Err : goal.returns-in-Err
returns-in-Err g c = record {
  number = c.fails.ensures.number;
  heard = inl c.fails.ensures.kept.requests;
  came = tt;
  read = inl (c.fails.ensures.came ∙ c.in-Err.ensures.err);
}
