use Rattle.std.proofs.Common.{◌≡◌, ℕ, ◌<◌, true, sym, ap, subst, ◌∙◌, arith}
use Rattle.std.specs.FinSet as set
use Rattle.cfdp_extents.specs.Offsets.{range}
use Rattle.cfdp_extents.specs.Forgotten.{NumberSet, greatest_number, with_greatest}
use Rattle.cfdp_extents.proofs.JoinedNumbers.{union-none, union-other, below-range}
use Rattle.cfdp_extents.proofs.numbers.Numbers.insert_range.Goals as goal

pub invariant_of-self : goal.invariant_of-self
invariant_of-self c =
    let fits = c.ranges.end.fits in
    subst (λ (s : NumberSet). (k : ℕ) → set.contains s k ≡ true → k < greatest_number) (sym c.in_ok-insert.ensures.ok)
    (below-range c.self.inside.ranges c.args.start c.args.end (omega (arith, fits)) c.self.invariant)

pub returns-in_ok-insert-clause-ok : goal.returns-in_ok-insert-clause-ok
returns-in_ok-insert-clause-ok c =
    ap (with_greatest c.self.inside.greatest) c.in_ok-insert.ensures.ok
    ∙ union-other c.self.inside.greatest c.self.inside.ranges (range c.args.start c.args.end)
    ∙ ap (λ (s : NumberSet). set.union s (range c.args.start c.args.end)) c.self.view_is

pub returns-else-start-end-clause-ok : goal.returns-else-start-end-clause-ok
returns-else-start-end-clause-ok c = union-none c.args.self.now c.args.start c.args.end c.if-start-end.false
