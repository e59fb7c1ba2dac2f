use Rattle.std.proofs.Common.{◌∙◌, arith, rules, sym}
use Rattle.std.proofs.lemmas.Fn.{filter_same}
use Rattle.cfdp_console.proofs.InTurn.{nobody_asks, reached_asks, reached_more}
use Rattle.cfdp_console.proofs.visitors.Visitors.next_ask.Goals as goal

pub loop-place-init : goal.loop-place-init
loop-place-init g c = record {
  count = sym c.len-place-end.ensures;
  reached = filter_same _ _ _ (λ x b f' k. search rules) _ _ c.retain.ensures.filtered;
}

pub loop-place-preserved : goal.loop-place-preserved
loop-place-preserved g c = record {
  count = c.next_at.ensures.len ∙ c.loop-place.invariant.count;
  reached = reached_more c.args.guard.now c.loop-place.place _ c.loop-place.self.all.items
      c.next_at.new.self.all.items c.loop-place.invariant.reached c.in_default.ensures.attends;
}

pub returns-in-Some : goal.returns-in-Some
returns-in-Some g c = reached_asks c.args.guard.now c.loop-place.place _
    c.loop-place.self.all.items c.next_at.new.self.all.items c.in-Some.asked
    c.loop-place.invariant.reached c.in-Some.ensures.attends

pub returns : goal.returns
returns g c = nobody_asks c.args.guard.now c.loop-place.place _ c.loop-place.self.all.items
    c.loop-place.invariant.reached (omega (arith, c.loop-place.self.all.ok.0))
