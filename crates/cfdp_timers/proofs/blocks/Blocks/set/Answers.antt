-- Before the write the index had the deadline that was read.
use Rattle.std.proofs.Common.{◌≡◌, None, set, get_or, sym, ap, subst, ◌∙◌, rules, arith}
use Rattle.std.proofs.lemmas.List.{set-set, set-get_or}
use Rattle.std.proofs.lemmas.Grind.{common_steps}
use Rattle.cfdp_timers.specs.Entries.{AreFirsts}
use Rattle.cfdp_timers.proofs.blocks.Blocks.set.Goals as goal

pub put-requires-clause-are : goal.put-requires-clause-are
put-requires-clause-are c =
    let each = c.self.inside.each.items in
    let place = c.args.place in
    let wrote : c.deref.result.now ≡ set each place c.args.deadline = first_of (search rules, grind (arith, common_steps)) in
    let old : c.index-old.result.now ≡ get_or each place None = first_of (search rules, grind (arith, common_steps)) in
    let before : set c.deref.result.now place c.index-old.result.now ≡ each =
    ap (λ es. set es place c.index-old.result.now) wrote ∙ set-set each place c.args.deadline c.index-old.result.now ∙ ap (set each place) old ∙ set-get_or each place None in
    let firsts : c.deref_mut.result.now ≡ c.self.inside.firsts.items = c.deref_mut.ensures.value in
    subst (λ es. AreFirsts 64 es c.deref_mut.result.now) (sym before) (subst (λ fs. AreFirsts 64 each fs) (sym firsts) c.self.invariant)
