use Rattle.std.proofs.Common.{◌∙◌, inl, refl}
use Rattle.cfdp_console.proofs.Attending.{came_all, not_gone}
use Rattle.cfdp_console.proofs.visitor.Visitor.goes_on.Goals as goal

pub invariant_of-self-clause-all_heard : goal.invariant_of-self-clause-all_heard
invariant_of-self-clause-all_heard g c = λ there. c.goes_on.ensures.read
    ∙ c.args.self.now.all_heard (not_gone c.is_gone.result c.args.self.now.caller
    c.is_gone.ensures c.if-is_gone.false)

pub returns-then-is_gone : goal.returns-then-is_gone
returns-then-is_gone g c = record {
  number = c.leaves.ensures.number;
  heard = inl c.leaves.ensures.kept.requests;
  came = tt;
  read = inl c.leaves.ensures.came;
}

pub returns-then-is_anew : goal.returns-then-is_anew
returns-then-is_anew g c = record {
  number = refl;
  heard = c.goes_on.ensures.heard;
  came = came_all c.args.guard.now c.args.self.now.caller c.goes_on.new.self c.goes_on.result
      c.args.self.now.came c.goes_on.ensures.heard (λ there. c.goes_on.ensures.read
      ∙ c.args.self.now.all_heard (not_gone c.is_gone.result c.args.self.now.caller
      c.is_gone.ensures c.if-is_gone.false));
  read = inl refl;
}

pub returns-then-wants_octets : goal.returns-then-wants_octets
returns-then-wants_octets g c = c.hears.ensures

pub returns-else-wants_octets : goal.returns-else-wants_octets
returns-else-wants_octets g c = record {
  number = refl;
  heard = inl refl;
  came = tt;
  read = inl refl;
}
